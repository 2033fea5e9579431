-- The first data symbol above a bound: k * N exactly if none is, otherwise the first of those that are.
use mathlib.Core.Path.{◌≡◌, ap}
use mathlib.Core.Logic.{◌≢◌, ◌↔◌}
use mathlib.Core.Bool.{Bool}
use mathlib.Core.List.{List}
use Prim.Native.Nat.{ℕ, ◌*◌, ◌/◌, ◌%◌, ◌≤◌, ◌<◌}
use borrow.Author.Tests.{ltb-true, ltb-false, lt-ltb}
use lib.ListN.{get_or}
use Rattle.lists.specs.Lists.{below}
use Rattle.lists.proofs.Failures.{failure_upto, failure_none_iff, failure_first}
use Rattle.lists.proofs.Places.{place_of}
use Rattle.shape.specs.declared.Shape.{Shape}
use Rattle.shape.specs.Shape.{size}
use Rattle.code.specs.Archive.{symbol, high, first_high, LowData}

-- data symbol e, of the nodes one behind the other
pub data_symbol : (s : Shape) (nodes : List ℕ) (e : ℕ) → e < s.k * size s → symbol s nodes (e / size s) (e % size s) ≡ get_or nodes e 0
unfolding symbol
data_symbol s nodes e h = ap (λ x. get_or nodes x 0) (place_of s.k (size s) e h).whole

module _ (values : ℕ) (s : Shape) (nodes : List ℕ) where
  abbrev fits : ℕ → ℕ → Bool
  fits i place = below values (symbol s nodes i place)

  pub high_upto : first_high values s nodes ≤ s.k * size s
  unfolding first_high high
  high_upto = failure_upto fits s.k (size s)

  -- k * N exactly if no data symbol is above the bound
  pub high_none_iff : (first_high values s nodes ≡ s.k * size s) ↔ LowData values s nodes
  unfolding first_high high below
  high_none_iff =
      let iff = failure_none_iff fits s.k (size s) in
      (λ e. record { low = λ i place h l. ltb-true _ values (iff.0 e i place h l) }, λ w. iff.1 (λ i place h l. lt-ltb _ values (w.low i place h l)))

  -- otherwise it is above the bound, and none before it is
  pub high_first : first_high values s nodes ≢ s.k * size s
      → (values ≤ symbol s nodes (first_high values s nodes / size s) (first_high values s nodes % size s))
      × ((e : ℕ) → e < first_high values s nodes → symbol s nodes (e / size s) (e % size s) < values)
  unfolding first_high high below
  high_first d = let w = failure_first fits s.k (size s) d in (ltb-false _ values w.0, λ e l. ltb-true _ values (w.1 e l))
