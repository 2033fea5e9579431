-- `code::node_numbers` meets its contract: each element is its index. Assumes nothing.
use Rattle.std.proofs.Common.{◌≡◌, ◌∙◌, ◌<◌, sym, ap, length, take, arith, rules}
use lib.Seq.{ext_get_or}
use Rattle.lists.specs.Lists.{range}
use Rattle.lists.proofs.Tables.{range_length, range_own, take_range}
use Rattle.shape.specs.Shape.{most_nodes}
use Rattle.code.proofs.node_numbers.Goals as goal

pub returns : goal.returns
returns c =
    let l = c.loop-i in
    let n : length l.x-items ≡ most_nodes = search rules in
    let whole = ext_get_or 0 l.x-items (range 0 most_nodes) (n ∙ sym (range_length 0 most_nodes))
    (λ j h. let w : j < most_nodes = omega arith in l.invariant j (omega arith) ∙ sym (range_own most_nodes j w)) in
    (n, λ k h. ap (take k) whole ∙ take_range 0 k most_nodes h)
