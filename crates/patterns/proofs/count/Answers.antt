-- `patterns::count` meets its contract. Assumes nothing.
use Rattle.std.proofs.Common.{◌≡◌, ◌*◌, ◌^◌, ◌≤◌, ◌<◌, ◌∙◌, Bool, sym, ap, false, length-take, take, get_or, get_or-take, arith}
use lib.Pow.{pow_mono}
use Rattle.shape.specs.Shape.{most_nodes}
use Rattle.patterns.specs.Patterns.{patterns}
use Rattle.patterns.proofs.Patterns.{patterns_none, patterns_skip, patterns_more, patterns_le}
use Rattle.patterns.proofs.count.Goals as goal
use Rattle.patterns.proofs.count.Goals.{In-loop-listed}

-- the flag that an iteration reads
here : (c : In-loop-listed) → get_or (take c.args.n c.args.marked) c.loop-listed.listed-index false ≡ get_or c.args.marked c.loop-listed.listed-index false
here c = let l : c.loop-listed.listed-index < c.args.n = omega (arith, length-take {A = Bool}) in get_or-take c.args.n c.args.marked c.loop-listed.listed-index false l

pub loop-listed-init : goal.loop-listed-init
loop-listed-init c = sym (patterns_none _)

pub loop-listed-preserved-then-listed : goal.loop-listed-preserved-then-listed
loop-listed-preserved-then-listed c =
    let l = c.loop-listed in
    let flag = here (goal.at.loop-listed-preserved-then-listed c).In-loop-listed in
    l.invariant ∙ sym (patterns_skip _ l.listed-index (sym flag ∙ c.if-listed.true))

pub overflow_mul-out : goal.overflow_mul-out
overflow_mul-out c =
    let l = c.loop-listed in
    let h : l.listed-index ≤ most_nodes = omega (arith, length-take {A = Bool}) in
    let g : l.out ≤ 2 ^ l.listed-index = rw l.invariant (patterns_le _ l.listed-index) in
    omega (arith, g, pow_mono h)

pub loop-listed-preserved : goal.loop-listed-preserved
loop-listed-preserved c =
    let l = c.loop-listed in
    let flag = here (goal.at.loop-listed-preserved c).In-loop-listed in
    ap (λ z. 2 * z) l.invariant ∙ sym (patterns_more _ l.listed-index (sym flag ∙ c.if-listed.false))

pub returns : goal.returns
returns c =
    let l = c.loop-listed in
    let n : l.listed-index ≡ c.args.n = omega (arith, length-take {A = Bool}) in
    l.invariant ∙ ap (patterns c.args.marked) n
