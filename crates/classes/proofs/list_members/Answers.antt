-- `classes::list_members` meets its contract: the members below a stand in front, and the next a is written behind them; where there is one
-- class, every a is one. Assumes nothing.
use mathlib.Core.Path.{◌≡◌, refl, sym, ◌∙◌}
use mathlib.Core.Bool.{Bool, true, false, cond}
use mathlib.Core.List.{List}
use Prim.Native.Nat.{ℕ, ◌≤◌, ◌<◌, ◌^◌}
use native.Mathlib.Omega.{arith}
use borrow.Author.Rules.{rules}
use borrow.Author.Tests.{eqb-true}
use mir.Val.{bool_byte}
use lib.Dec.{eqb}
use Rattle.classes.specs.Classes.{top, class_of, in_class}
use lib.ListN.{length}
use Rattle.lists.proofs.Tests.{both}
use Rattle.shape.specs.Shape.{most_nodes}
use Rattle.classes.proofs.Layouts.{bounded}
use Rattle.classes.proofs.Members.{members_few, listing_none, listing_more, listing_end, all_listed}
use Rattle.classes.proofs.list_members.Goals as goal
use Rattle.classes.proofs.list_members.Goals.{In-loop-a, Then-g-c}

-- there is one class
alone : (c : Then-g-c) → let a = c.args in (a.c ≡ 0) × (top a.dead.now ≡ 0)
alone c =
    let b = both _ _ c.if-g-c.true in
    (eqb-true _ _ b.1, sym c.requires.0.top_is ∙ eqb-true _ _ b.0)

pub list_all-requires : goal.list_all-requires
list_all-requires c = let p = c.requires in (p.1, (bounded p.0).places_high)

pub returns-then-g-c : goal.returns-then-g-c
returns-then-g-c c =
    let w = alone (goal.at.returns-then-g-c c).Then-g-c in
    rw w.0 (all_listed _ w.1 _ _ (rw c.requires.0.places_is at c.list_all.ensures))

pub loop-a-init : goal.loop-a-init
loop-a-init c = (search rules, listing_none _ _ _)

byte : (t : Bool) → bool_byte t ≡ cond t 1 0
byte true = refl
byte false = refl

one : (t : Bool) → cond t 1 0 ≤ 1
one true = omega arith
one false = omega arith

counted : (dead : List ℕ) (d a class : ℕ) → class ≡ class_of dead a → ◌≡◌ {A = ℕ} (cond (eqb class d) 1 0) (cond (in_class dead d a) 1 0)
unfolding in_class
counted dead d a class e = rw e

-- no more are written than numbers were looked at
inside : (c : In-loop-a) → (c.loop-a.a < 2 ^ most_nodes) × (c.loop-a.x < length c.loop-a.out)
inside c =
    let b = bounded c.requires.0 in
    let L = c.loop-a.invariant.1 in
    let f = members_few c.args.dead.now c.args.c c.loop-a.a in
    (omega (arith, b.places_high), omega (arith, c.requires.1, L.count, L.long, f))

pub overflow_cast-out : goal.overflow_cast-out
overflow_cast-out c = omega (arith, (inside c).0)

pub bounds-out-x : goal.bounds-out-x
bounds-out-x c = (inside c).1

pub loop-a-preserved : goal.loop-a-preserved
loop-a-preserved c =
    let l = c.loop-a in
    (search rules, listing_more _ _ _ _ _ _ _ l.invariant.1 (inside (goal.at.loop-a-preserved c).In-loop-a).1 (byte (eqb c.class_of.result c.args.c) ∙ counted _ _ _ _ c.class_of.ensures))

pub returns : goal.returns
returns c =
    let l = c.loop-a in
    let e : l.a ≡ 2 ^ c.args.g.shape.n = omega (arith, c.requires.0.places_is) in
    listing_end _ _ _ _ _ _ (rw e at l.invariant.1)
