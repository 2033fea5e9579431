-- `restoring::restore_all` meets its contract. Assumes nothing.
use mathlib.Core.Path.{sym, ap, ◌∙◌}
use Prim.Native.Nat.{◌*◌}
use native.Mathlib.Omega.{arith}
use lib.ListN.{length}
use Rattle.shape.specs.Shape.{size}
use Rattle.shape.proofs.Accepted.{shape_accepted}
use Rattle.code.proofs.Accepted.{Restorable, restore_accepted}
use Rattle.restoring.proofs.Placing.{placed_fillable, filled_restored}
use Rattle.restoring.proofs.restore_all.Goals as goal
use Rattle.restoring.proofs.restore_all.Goals.{Start}

-- what is known of the input
able : (c : Start) → let a = c.args in Restorable a.s a.list.now a.symbols.now (length a.nodes.now)
able c = restore_accepted _ _ _ _ c.requires

pub size-requires : goal.size-requires
size-requires c =
    (able (goal.at.size-requires c).Start).shape

pub place_nodes-requires : goal.place_nodes-requires
place_nodes-requires c =
    let w = able (goal.at.place_nodes-requires c).Start in
    let e = c.size.ensures in
    (w.given.nodes, rw e (w.long ∙ ap (λ k. k * size c.args.s) (sym w.given.count)), rw e w.whole)

pub fill-requires : goal.fill-requires
fill-requires c =
    let w = able (goal.at.fill-requires c).Start in
    let put = rw c.size.ensures at c.place_nodes.ensures in (
      w.shape,
      placed_fillable _ _ _ w.given (shape_accepted _ w.shape).n_high w.long _ (put.long ∙ w.whole) (λ j p h l. put.there j p (omega (arith, w.given.count)) l),
    )

pub shape_of-nodes : goal.shape_of-nodes
shape_of-nodes c =
    c.fill.ensures.long ∙ c.place_nodes.ensures.long

pub returns : goal.returns
returns c =
    let w = able (goal.at.returns c).Start in
    let put = rw c.size.ensures at c.place_nodes.ensures in
    filled_restored _ _ _ w.given (shape_accepted _ w.shape).n_high w.long _ (put.long ∙ w.whole) (λ j p h l. put.there j p (omega (arith, w.given.count)) l) _
    c.fill.ensures
