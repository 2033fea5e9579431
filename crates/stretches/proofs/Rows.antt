-- A run of wanted bytes on one node, at a, a + 1, .. of a layer: its symbols may be worked out from the k columns there.
use mathlib.Core.Path.{◌≡◌, ap, ◌∙◌}
use mathlib.Core.List.{List}
use Prim.Native.Nat.{ℕ, ◌+◌, ◌*◌, ◌/◌, ◌%◌, ◌^◌, ◌≤◌, ◌<◌}
use native.Mathlib.Nat.{mod-lt, mul-le-mul_right}
use native.Mathlib.Omega.{arith}
use lib.Arith.{mod-mul}
use lib.ListN.{get_or}
use Rattle.shape.specs.declared.Shape.{Shape}
use Rattle.shape.specs.Shape.{size}
use Rattle.shape.proofs.Accepted.{shape_accepted}
use Rattle.code.specs.Code.{narrow}
use Rattle.code.specs.Archive.{symbol}
use Rattle.tables.specs.Tables.{Table}
use Rattle.opening.specs.Steps.{Factors}
use Rattle.opening.proofs.Places.{table_factors}
use Rattle.stretches.specs.Steps.{Wanted, Uncut, Whole, Legible}
use Rattle.stretches.proofs.Wanted.{wanted_touches}
use Rattle.stretches.proofs.Runs.{leaves_on, uncut_whole, wanted_on}
use Rattle.stretches.proofs.Alone.{small, small_readable}

module _ (s : Shape) (list symbols st : List ℕ) (w : Legible s list symbols st) (a run : ℕ) (u : Uncut st (2 ^ s.n) a (a + run))
    (b : ℕ) (wanted : Wanted st b) (leaves : b % 2 ^ s.n ≡ a) where
  layer : ℕ
  layer = b / 2 ^ s.n % s.layers

  layer_low : layer < s.layers
  unfolding layer
  layer_low = mod-lt (b / 2 ^ s.n) (shape_accepted s w.shape).layers_low

  place_is : b % size s ≡ layer * 2 ^ s.n + a
  unfolding layer size
  place_is = mod-mul b (shape_accepted s w.shape).layers_low (omega (arith, u.on, u.upto)) ∙ ap (λ z. b / 2 ^ s.n % s.layers * 2 ^ s.n + z) leaves

  pub run_fits : b % size s + run ≤ size s
  unfolding size
  run_fits = omega (arith, place_is, u.upto, mul-le-mul_right (2 ^ s.n) (let z : layer + 1 ≤ s.layers = omega (arith, layer_low) in z))

  pub run_whole : Whole st b run
  run_whole = uncut_whole st (2 ^ s.n) a (a + run) u b run leaves (omega arith)

  pub run_low : (j t : ℕ) → j < s.k → t < run → get_or symbols (j * size s + b % size s + t) 0 < narrow.modulus
  unfolding symbol
  run_low j t h l =
      let e : (b + t) % size s ≡ b % size s + t = leaves_on (size s) b t (omega (arith, run_fits)) in
      let z : j * size s + b % size s + t ≡ j * size s + (b % size s + t) = omega arith in
      rw z (w.small j (b % size s + t) h (omega (arith, run_fits)) (rw (← e) (wanted_touches st s (b + t) (wanted_on st b run run_whole t l wanted))))

  pub run_factors : (table : List ℕ) → Table s.n a run list s.k table → Factors s list table (b % size s) run
  run_factors table v =
      rw place_is (table_factors s list (small s list symbols w.shape w.up w.count) (small_readable s list symbols w.shape w.up w.count) a run layer table u.upto v)
