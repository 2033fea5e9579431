-- `stretches::position` meets its contract: a member of a list stands at its position. Assumes nothing.
use mathlib.Core.Path.{◌≡◌, refl, sym, ap, ◌∙◌}
use mathlib.Core.Bool.{cond}
use mathlib.Core.List.{List}
use Prim.Native.Nat.{ℕ}
use native.Mathlib.Omega.{arith}
use borrow.Author.Rules.{rules}
use borrow.Author.Tests.{tests, lt-ltb}
use lib.Dec.{eqb}
use lib.ListN.{get_or}
use Rattle.std.specs.List.{position_or_len}
use Rattle.std.specs.Option.{unwrap_or}
use Rattle.std.proofs.Common.{Some, None}
use Rattle.std.proofs.lemmas.Iterator.{YieldsList-from_slice}
use Rattle.std.proofs.lemmas.Iterator.Search.{position_from_yields_List}
use Rattle.std.proofs.lemmas.List.Recursion.{is_position_or_len}
use Rattle.lists.specs.Lists.{position}
use Rattle.lists.proofs.Members.{at_position}
use Rattle.stretches.proofs.position.Goals as goal

-- the position by a test
by_test : (x : ℕ) (xs : List ℕ) → position x xs ≡ position_or_len (eqb x) xs
unfolding position
by_test x xs = is_position_or_len (position x) (eqb x) refl (λ y ys. ap (cond (eqb x y) 0) (omega arith)) xs

pub returns : goal.returns
returns c =
    let a = c.args in
    let l = (at_position a.list.now a.x c.requires).0 in
    let e = by_test a.x a.list.now in
    let found = position_from_yields_List (eqb a.x) _ _ _ c.position.ensures.ran (YieldsList-from_slice a.list.now cc) (λ x b q k. search (rules, tests)) in
    let r : c.unwrap_or.result ≡ position a.x a.list.now =
    c.unwrap_or.ensures ∙ ap (λ o. unwrap_or o 0) (found ∙ ap (λ t. cond t (Some (position_or_len (eqb a.x) a.list.now)) None) (lt-ltb _ _ (rw e at l))) ∙ sym e in
    (rw r l, ap (λ i. get_or a.list.now i 0) r ∙ (at_position _ _ c.requires).1)
