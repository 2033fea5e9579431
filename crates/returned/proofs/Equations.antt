-- The numbers of equations and of data symbols are small and apart, and what a check answers with is of its shape.
use mathlib.Core.Path.{◌≡◌, sym, ap, ◌∙◌}
use mathlib.Core.Bool.{false}
use mathlib.Core.List.{List}
use Prim.Native.Nat.{ℕ, ◌+◌, ◌-◌, ◌*◌, ◌^◌, ◌≤◌, ◌<◌}
use native.Mathlib.Nat.{mul-le-mul}
use native.Mathlib.Omega.{arith}
use lib.Arith.{digits_lt}
use Rattle.shape.specs.declared.Shape.{Shape}
use Rattle.shape.specs.Shape.{most_nodes, size}
use Rattle.shape.specs.Refusals.{answer_number, shape_bad}
use Rattle.shape.proofs.Accepted.{Shaped, passed, shape_accepted, most_size}
use Rattle.std.specs.Prelude.{Ok, Some}
use Rattle.checking.specs.declared.Fault.TheVariants.{Unmet, HighData}
use Rattle.code.specs.Refusals.{check_refusal}
use Rattle.checking.specs.Promises.{Checked, equation_number, symbol_number, Checks}
use Rattle.returned.specs.Promises.{behind_equations}

-- equation t at (layer, a) is one of the shape's
pub record Within (s : Shape) (layer a t : ℕ) : Type 0 where
  pub shaped : Shaped s
  pub place : layer * 2 ^ s.n + a < most_size
  pub number : equation_number s layer a t < most_size * most_nodes

pub within : (s : Shape) (layer a t : ℕ) → shape_bad s ≡ false → layer < s.layers → a < 2 ^ s.n → t < s.n - s.k → Within s layer a t
unfolding equation_number size
within s layer a t e l h below =
    let shaped = shape_accepted s e in
    let place : layer * 2 ^ s.n + a < most_size = omega (arith, digits_lt l h, shaped.size_high) in
    record {
      shaped = shaped;
      place = place;
      number = omega (arith, digits_lt {q = layer * 2 ^ s.n + a} place below, shaped.n_high);
    }

-- a node's symbol at a place, behind the equations
pub record Behind (s : Shape) (node place : ℕ) : Type 0 where
  pub shaped : Shaped s
  pub symbol : symbol_number s node place < most_nodes * most_size
  pub number : behind_equations s node place < most_nodes * most_size + most_nodes * most_size

pub behind : (s : Shape) (node place : ℕ) → shape_bad s ≡ false → node < s.k → place < size s → Behind s node place
unfolding behind_equations symbol_number
behind s node place e h l =
    let shaped = shape_accepted s e in
    let most = mul-le-mul {n₁ = s.k} {m₁ = size s} {n₂ = most_nodes} {m₂ = most_size} (omega (arith, shaped.k_high, shaped.n_high)) shaped.size_high in
    let rest = mul-le-mul {n₁ = s.n - s.k} {m₁ = size s} {n₂ = most_nodes} {m₂ = most_size} (omega (arith, shaped.n_high)) shaped.size_high in
    let symbol : node * size s + place < most_nodes * most_size = omega (arith, digits_lt h l, most) in
    record { shaped = shaped; symbol = symbol; number = omega (arith, symbol, rest) }

-- the number alone tells which of both is meant: those of equations are below r × N, and those of symbols are not
pub numbers_apart : (s : Shape) (layer a t node place : ℕ) → layer < s.layers → a < 2 ^ s.n → t < s.n - s.k
    → (equation_number s layer a t < (s.n - s.k) * size s) × ((s.n - s.k) * size s ≤ behind_equations s node place)
unfolding equation_number behind_equations size
numbers_apart s layer a t node place l h below = (omega (arith, digits_lt {q = layer * 2 ^ s.n + a} (digits_lt l h) below), omega arith)

-- what a check was given that found a data symbol above 255
pub high_shape : (s : Shape) (nodes : List ℕ) (answer : Checked) (node place : ℕ) → Checks s nodes answer → answer ≡ Ok (Some (HighData node place))
    → (shape_bad s ≡ false) × (node < s.k) × (place < size s)
unfolding check_refusal
high_shape s nodes answer node place p e =
    let f = (p.high node place e).1 in
    ((passed (shape_bad s) 0 _ (sym p.number ∙ ap answer_number e)).0, f.node_below, f.place_below)

-- what a check that found an unmet equation was given
pub unmet_shape : (s : Shape) (nodes : List ℕ) (answer : Checked) (layer a t : ℕ) → Checks s nodes answer → answer ≡ Ok (Some (Unmet layer a t))
    → (shape_bad s ≡ false) × (layer < s.layers) × (a < 2 ^ s.n) × (t < s.n - s.k)
unfolding check_refusal
unmet_shape s nodes answer layer a t p e =
    let u = p.unmet layer a t e in
    ((passed (shape_bad s) 0 _ (sym p.number ∙ ap answer_number e)).0, u.layer_below, u.a_below, u.t_below)
