-- Symbols stored at their places, one row after the other.
use mathlib.Core.Path.{◌≡◌, refl, sym, ap, ◌∙◌}
use mathlib.Core.Logic.{◌≢◌, ◌⊎◌, inl, inr}
use mathlib.Core.List.{List}
use Prim.Native.Nat.{ℕ, ◌+◌, ◌-◌, ◌*◌, ◌<◌, ◌≤◌}
use native.Mathlib.Decide.{ℕ_discrete}
use native.Mathlib.Omega.{arith}
use lib.ListN.{length, get_or, set, length-set}
use lib.Seq.{get_or-set_same, get_or-set_other}
use Rattle.lists.specs.Lists.{element}
use Rattle.lists.proofs.Tests.{below_or_not}
use Rattle.rows.specs.Rows.{Stored}
use Rattle.filling.specs.Filling.{InRun, InLayers, Below}
use Rattle.filling.proofs.Runs.{layers_split, layers_before, layers_here, runs_split}
use Rattle.solving.specs.Solving.{Spread, Put}

-- ---- a row, an element at a time

module _ (base : ℕ) (at : List ℕ) (f : ℕ → ℕ) (before : List ℕ) where
  -- no place that was stored at is stored at again
  pub spread_more : (t : ℕ) (now : List ℕ) (v : ℕ) → Spread t base at f before now → base + element at t < length before → v ≡ f t
      → ((i : ℕ) → i < t → element at i ≢ element at t) → Spread (t + 1) base at f before (set now (base + element at t) v)
  spread_more t now v w room e apart = record {
    long = length-set now (base + element at t) v ∙ w.long;
    hit = λ i h. go i h (ℕ_discrete i t);
    rest = λ z h. get_or-set_other now (base + element at t) z v 0 (λ q. h t (omega arith) (sym q)) ∙ w.rest z (λ i l. h i (omega arith));
  }
    where
      go : (i : ℕ) → i < t + 1 → Dec (i ≡ t) → get_or (set now (base + element at t) v) (base + element at i) 0 ≡ f i
      go i h (yes d) = rw d (get_or-set_same now (base + element at t) v 0 (rw w.long room) ∙ e)
      go i h (no d) =
          let l : i < t = omega arith in
          get_or-set_other now (base + element at t) (base + element at i) v 0 (λ q. apart i l (omega arith)) ∙ w.hit i l

-- ---- symbols of any kind

module _ (Kind : ℕ → Type 0) (size : ℕ) (place value : ℕ → ℕ → ℕ) where
  -- nothing yet
  pub put_none : (Done : ℕ → ℕ → Type 0) (before : List ℕ) → ((e x : ℕ) → Kind e → x < size → Done e x → ⊥) → Put Kind size place value Done before before
  put_none Done before never = record { long = refl; each = λ e x k h d. absurd (never e x k h d); rest = λ z h. refl }

  -- the same symbols
  pub put_same : (Done All : ℕ → ℕ → Type 0) (other : ℕ → ℕ → ℕ) (before after : List ℕ) → ((e x : ℕ) → Kind e → x < size → All e x → Done e x)
      → ((e x : ℕ) → Kind e → x < size → Done e x → All e x) → ((e x : ℕ) → Kind e → x < size → Done e x → value e x ≡ other e x)
      → Put Kind size place value Done before after → Put Kind size place other All before after
  put_same Done All other before after f g v w = record {
    long = w.long;
    each = λ e x k h d. w.each e x k h (f e x k h d) ∙ v e x k h (f e x k h d);
    rest = λ z h. w.rest z (λ e x k l d. h e x k l (g e x k l d));
  }

  -- symbols more
  module _ (apart : (e x d y : ℕ) → Kind e → Kind d → x < size → y < size → place e x ≡ place d y → (e ≡ d) × (x ≡ y)) where
    pub put_more : (Done More All : ℕ → ℕ → Type 0) (before now after : List ℕ) → Put Kind size place value Done before now → Put Kind size place value More now after
        → ((e x : ℕ) → Kind e → x < size → All e x → More e x ⊎ (Done e x × (More e x → ⊥)))
        → ((e x : ℕ) → Kind e → x < size → Done e x → All e x) → ((e x : ℕ) → Kind e → x < size → More e x → All e x) → Put Kind size place value All before after
    put_more Done More All before now after w v split in₁ in₂ = record {
      long = v.long ∙ w.long;
      each = λ e x k h d. go e x k h (split e x k h d);
      rest = λ z h. v.rest z (λ e x k l d. h e x k l (in₂ e x k l d)) ∙ w.rest z (λ e x k l d. h e x k l (in₁ e x k l d));
    }
      where
        go : (e x : ℕ) → Kind e → x < size → More e x ⊎ (Done e x × (More e x → ⊥)) → get_or after (place e x) 0 ≡ value e x
        go e x k h (inl m) = v.each e x k h m
        go e x k h (inr d) = v.rest (place e x) (λ f y l g m q. d.1 (moved f y m (apart f y e x l k g h q))) ∙ w.each e x k h d.0
          where
            moved : (f y : ℕ) → More f y → (f ≡ e) × (y ≡ x) → More e x
            moved f y m q = rw (← q.0, ← q.1) m

    -- kinds that go by themselves: those of the sums of a run in one batch more, and of one run more
    pub put_batch : (first run b whole : ℕ) (before now after : List ℕ) → first + run ≤ whole
        → Put Kind size place value (λ e x. InLayers whole first run b x) before now → Put Kind size place value (λ e x. InRun (b * whole + first) run x) now after
        → Put Kind size place value (λ e x. InLayers whole first run (b + 1) x) before after
    put_batch first run b whole before now after h w v =
        put_more (λ e x. InLayers whole first run b x) (λ e x. InRun (b * whole + first) run x) (λ e x. InLayers whole first run (b + 1) x) before now after w v
        (λ e x k l. layers_split whole first run h b x) (λ e x k l. layers_before whole first run h b x) (λ e x k l. layers_here whole first run h b x)

    pub put_run : (first run batches whole : ℕ) (before now after : List ℕ) → size ≡ batches * whole → Put Kind size place value (λ e x. Below whole first x) before now
        → Put Kind size place value (λ e x. InLayers whole first run batches x) now after → Put Kind size place value (λ e x. Below whole (first + run) x) before after
    put_run first run batches whole before now after q w v =
        put_more (λ e x. Below whole first x) (λ e x. InLayers whole first run batches x) (λ e x. Below whole (first + run) x) before now after w v
        (λ e x k l d. runs_split whole batches first run x (rw (← q) l) d) (λ e x k l d. omega (arith, d)) (λ e x k l d. omega (arith, d.1))

  -- a row of one kind
  module _ (e first run : ℕ) (kind : Kind e) (room : first + run ≤ size) (before after : List ℕ) where
    pub put_row : length after ≡ length before → ((t : ℕ) → t < run → get_or after (place e (first + t)) 0 ≡ value e (first + t))
        → ((z : ℕ) → ((t : ℕ) → t < run → place e (first + t) ≢ z) → get_or after z 0 ≡ get_or before z 0) → Put Kind size place value (λ d x. (d ≡ e) × InRun first run x) before after
    put_row long hit rest = record {
      long = long;
      each = λ d x l h m. there d x m;
      rest = λ z h. rest z (λ t l q. h e (first + t) kind (omega arith) (refl, (omega arith, omega arith)) q);
    }
      where
        there : (d x : ℕ) → (d ≡ e) × InRun first run x → get_or after (place d x) 0 ≡ value d x
        there d x m =
            let t = x - first in
            let l : t < run = omega (arith, m.1) in
            let z : first + t ≡ x = omega (arith, m.1) in
            rw (m.0, ← z) (hit t l)

    -- stored each at its place
    pub put_spread : (base : ℕ) (at : List ℕ) (f : ℕ → ℕ) → Spread run base at f before after → ((t : ℕ) → t < run → base + element at t ≡ place e (first + t))
        → ((t : ℕ) → t < run → f t ≡ value e (first + t)) → Put Kind size place value (λ d x. (d ≡ e) × InRun first run x) before after
    put_spread base at f w is v =
        put_row w.long (λ t l. ap (λ y. get_or after y 0) (sym (is t l)) ∙ w.hit t l ∙ v t l) (λ z h. w.rest z (λ t l q. h t l (sym (is t l) ∙ q)))

    -- or one behind the other
    pub put_stored : (at : ℕ) (f : ℕ → ℕ) → Stored at run f before after → ((t : ℕ) → t < run → at + t ≡ place e (first + t))
        → ((t : ℕ) → t < run → f t ≡ value e (first + t)) → Put Kind size place value (λ d x. (d ≡ e) × InRun first run x) before after
    put_stored at f w is v =
        put_row w.long (λ t l. ap (λ y. get_or after y 0) (sym (is t l)) ∙ w.there t l ∙ v t l) (λ z h. beside z h (below_or_not z at) (below_or_not z (at + run)))
      where
        beside : (z : ℕ) → ((t : ℕ) → t < run → place e (first + t) ≢ z) → (z < at) ⊎ (at ≤ z) → (z < at + run) ⊎ (at + run ≤ z) → get_or after z 0 ≡ get_or before z 0
        beside z h (inl l) m = w.ahead z l
        beside z h (inr l) (inr m) = w.behind z m
        beside z h (inr l) (inl m) = absurd (h (z - at) (omega arith) (sym (is (z - at) (omega arith)) ∙ omega arith))
