-- What a layout's numbers are bounded by, and the places they count.
use mathlib.Core.Path.{◌≡◌, ap, ap₂}
use mathlib.Core.List.{List}
use Prim.Native.Nat.{ℕ, ◌+◌, ◌*◌, ◌^◌, ◌≤◌, ◌<◌}
use native.Mathlib.Nat.{div-add-mod', mul-le-mul_left, mul-le-mul, mul_comm, div-le_self, le_trans}
use native.Mathlib.Omega.{arith}
use lib.Arith.{digits_lt}
use lib.ListN.{length}
use lib.Pow.{pow_pos}
use Rattle.shape.specs.Shape.{most_nodes, most_layers, size}
use Rattle.shape.proofs.Accepted.{Shaped, shape_accepted, most_size}
use Rattle.classes.specs.declared.Layout.{Layout}
use Rattle.classes.specs.Classes.{batch, top, node, place_of, message_size}
use Rattle.classes.specs.Layout.{Ready}
use Rattle.classes.proofs.Sizes.{batch_whole, batch_pos}
use Rattle.classes.proofs.Dead.{Dead, node_below}

pub record Bounds (dead : List ℕ) (g : Layout) : Type 0 where
  pub n_low : 3 ≤ g.shape.n
  pub n_high : g.shape.n ≤ most_nodes
  pub batch_low : 0 < g.batch
  pub batch_high : g.batch ≤ most_nodes
  pub top_high : g.top < most_nodes
  pub dead_high : length dead < most_nodes
  pub places_low : 0 < g.places
  pub places_high : g.places ≤ 2 ^ most_nodes
  pub layers_are : g.batches * g.batch ≡ g.shape.layers
  pub layers_high : g.shape.layers ≤ most_layers
  pub size_is : g.batches * g.batch * g.places ≡ size g.shape
  pub size_high : size g.shape ≤ most_size

pub ready_dead : {dead : List ℕ} {g : Layout} → Ready dead g → Dead g.shape dead
ready_dead R = record { rises = R.rises; whole = R.whole }

pub bounded : {dead : List ℕ} {g : Layout} → Ready dead g → Bounds dead g
unfolding size
bounded {dead} {g} R =
    let s : Shaped g.shape = shape_accepted g.shape R.shaped in
    let w = batch_whole dead in
    let p = batch_pos dead in
    let t : top dead + 1 ≤ batch dead * (top dead + 1) = many (batch dead) (top dead + 1) p in
    let b : batch dead ≤ batch dead * (top dead + 1) = many' (batch dead) (top dead) in
    let l : g.batches * g.batch ≡ g.shape.layers = rw (R.batches_is, R.batch_is) (omega (arith, div-add-mod' g.shape.layers (batch dead), R.whole)) in
    record {
      n_low = s.n_low;
      n_high = s.n_high;
      batch_low = rw R.batch_is p;
      batch_high = omega (arith, R.batch_is, R.few, s.n_high);
      top_high = omega (arith, R.top_is, R.few, s.n_high);
      dead_high = omega (arith, R.few, s.n_high);
      places_low = rw R.places_is (pow_pos g.shape.n);
      places_high = rw R.places_is s.places_high;
      layers_are = l;
      layers_high = s.layers_high;
      size_is = rw l (ap (λ z. g.shape.layers * z) R.places_is);
      size_high = s.size_high;
    }
  where
    many : (x y : ℕ) → 0 < x → y ≤ x * y
    many x y h = omega (arith, mul-le-mul {n₁ = 1} {m₁ = y} {n₂ = x} {m₂ = y} (omega arith) (omega arith))

    many' : (x y : ℕ) → x ≤ x * (y + 1)
    many' x y = omega (arith, mul-le-mul {n₁ = x} {m₁ = 1} {n₂ = x} {m₂ = y + 1} (omega arith) (omega arith))

-- layer w of batch b is one of the layers
pub layer_lt : {dead : List ℕ} {g : Layout} → Ready dead g → (w b : ℕ) → w < g.batch → b < g.batches → g.batch * b + w < g.shape.layers
layer_lt {dead} {g} R w b h k = omega (arith, mul-le-mul_left g.batch k, mul_comm g.batch g.batches, (bounded R).layers_are)

-- the place of layer w of batch b, at a, in the numbers of a layout
pub placed : {dead : List ℕ} {g : Layout} → Ready dead g → (w b a : ℕ) → w < g.batch → b < g.batches → a < g.places
    → ((g.batch * b + w) * g.places + a < size g.shape) × ((g.batch * b + w) * g.places + a ≡ place_of g.shape dead w b a)
unfolding place_of
placed {dead} {g} R w b a h k l =
    let row : g.batch * b + w < g.batches * g.batch = rw (bounded R).layers_are (layer_lt R w b h k) in
    (rw (← (bounded R).size_is) (digits_lt row l), ap₂ (λ x y. (x * b + w) * y + a) R.batch_is R.places_is)

-- the node of a rank
pub node_high : {dead : List ℕ} {g : Layout} → Ready dead g → (u : ℕ) → u < length dead → (node dead u < g.shape.n) × (node dead u < most_nodes)
node_high R u h = let l = node_below (ready_dead R) u h in (l, omega (arith, (bounded R).n_high))

pub share_high : {dead : List ℕ} {g : Layout} → Ready dead g → message_size g.shape dead ≤ most_size
unfolding message_size
share_high {dead} {g} R = le_trans (div-le_self (size g.shape) (length dead + 1)) (bounded R).size_high
