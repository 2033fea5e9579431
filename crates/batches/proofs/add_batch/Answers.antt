-- `batches::add_batch` meets its contract: what the folded sums leave is the sums. Assumes nothing.
use mathlib.Core.Path.{ap, ◌∙◌}
use lib.ListN.{length}
use Rattle.lists.specs.Lists.{tabulate}
use Rattle.lists.proofs.Tables.{tabulate_ext}
use Rattle.code.specs.Code.{narrow}
use Rattle.batches.specs.Batches.{added_in, remainder}
use Rattle.batches.proofs.add_batch.Goals as goal

pub returns : goal.returns
unfolding remainder
returns c =
    let f = c.fold_batch in
    let a = c.args in
    c.reduce.ensures ∙ ap (λ z. tabulate z (remainder narrow.modulus f.new.sums)) (f.auto.sums ∙ c.requires.2)
    ∙ tabulate_ext (length a.members.now) (remainder narrow.modulus f.new.sums) (added_in narrow a.members.now a.turn a.symbols.now) (λ x h. f.ensures.each x h)
