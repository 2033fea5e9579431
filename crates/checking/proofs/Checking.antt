-- The equations: what the search has passed, what it answers, and what the answer tells.
use mathlib.Core.Path.{◌≡◌, sym, ap, ap₂, ◌∙◌}
use mathlib.Core.Logic.{◌≢◌, ◌↔◌, ◌⊎◌, inl, inr}
use mathlib.Core.Bool.{true, false}
use mathlib.Core.List.{List}
use Prim.Native.Nat.{ℕ, ◌+◌, ◌-◌, ◌*◌, ◌/◌, ◌%◌, ◌^◌, ◌<◌, ◌≤◌}
use native.Mathlib.Omega.{arith}
use borrow.Author.Count.{below_more}
use borrow.Author.Tests.{eq-eqb, ne_eqb}
use lib.Arith.{digits_lt, digits_div, digits_mod}
use Rattle.lists.proofs.Tests.{below_or_not, cond_equal, cond_unequal}
use Rattle.lists.proofs.Firsts.{first_none, first_found_lem}
use Rattle.lists.proofs.Places.{Place, place_of}
use Rattle.shape.specs.declared.Shape.{Shape}
use Rattle.shape.specs.Shape.{size}
use Rattle.std.specs.Prelude.{Some, None}
use Rattle.checking.specs.declared.Fault.TheVariants.{Unmet}
use Rattle.code.specs.Code.{narrow}
use Rattle.code.specs.Archive.{equation, unmet, first_unmet}
use Rattle.checking.specs.Promises.{checked_by, equation_number, FirstUnmet}
use Rattle.checking.specs.Steps.{MetTo}
use Rattle.code.proofs.Unmet.{unmet_upto, unmet_first}
use Rattle.checking.proofs.Answers.{fault_found, before_end, sound_at_end}

module _ (s : Shape) (nodes : List ℕ) where
  abbrev r : ℕ
  r = s.n - s.k

  -- the equations below number e are met
  abbrev pub MetBelow : ℕ → Type 0
  MetBelow e = (x : ℕ) → x < e → unmet narrow s nodes x ≡ false

  met_at : (place t : ℕ) → t < s.n - s.k → equation narrow s nodes place t ≡ 0 → unmet narrow s nodes (place * (s.n - s.k) + t) ≡ false
  unfolding unmet
  met_at place t h e = simp (digits_div place h, digits_mod place h, eq-eqb _ 0 e)

  -- one equation more
  pub met_more : (place t : ℕ) → t < s.n - s.k → MetBelow (place * (s.n - s.k) + t) → equation narrow s nodes place t ≡ 0
      → MetBelow (place * (s.n - s.k) + (t + 1))
  met_more place t h before e x l = below_more _ _ before (met_at place t h e) x (omega arith)

  -- those at the a below `to`, which are met in every layer
  pub met_skip : (layer to : ℕ) → layer < s.layers → MetTo s nodes to → MetBelow (layer * 2 ^ s.n * (s.n - s.k)) → MetBelow ((layer * 2 ^ s.n + to) * (s.n - s.k))
  unfolding size
  met_skip layer to h w before x l = go (place_of (layer * 2 ^ s.n + to) r x l) (below_or_not (x / r) (layer * 2 ^ s.n))
    where
      go : Place (layer * 2 ^ s.n + to) (s.n - s.k) x → (x / (s.n - s.k) < layer * 2 ^ s.n) ⊎ (layer * 2 ^ s.n ≤ x / (s.n - s.k)) → unmet narrow s nodes x ≡ false
      go p (inl g) = before x (rw (← p.whole) (digits_lt g p.place))
      go p (inr g) =
          let a = x / r - layer * 2 ^ s.n in
          let e : x / r ≡ layer * 2 ^ s.n + a = omega arith in
          let b : a < to = omega (arith, p.row) in
          let d : a < 2 ^ s.n = omega (arith, w.high) in
          let m : x / r % 2 ^ s.n < to = rw (ap (λ k. k % 2 ^ s.n) e ∙ digits_mod layer d) b in
          ap (unmet narrow s nodes) (sym p.whole) ∙ met_at (x / r) (x % r) p.place (w.met (x / r) (x % r) (rw e (digits_lt h d)) m p.place)

  unmet_at : (place t : ℕ) → t < s.n - s.k → equation narrow s nodes place t ≢ 0 → unmet narrow s nodes (place * (s.n - s.k) + t) ≡ true
  unfolding unmet
  unmet_at place t h e = simp (digits_div place h, digits_mod place h, ne_eqb _ 0 e)

  -- the search came to the end
  pub sound_when : MetBelow (size s * (s.n - s.k)) → None ≡ checked_by s (first_unmet narrow s nodes)
  unfolding first_unmet checked_by
  sound_when h = sym (cond_equal _ _ _ (size s * r) (first_none (unmet narrow s nodes) 0 (size s * r) (λ i _ l. h i (omega arith)) ∙ omega arith))

  -- the number of an equation names it
  checked_at : (layer a t : ℕ) → layer < s.layers → a < 2 ^ s.n → t < s.n - s.k
      → checked_by s ((layer * 2 ^ s.n + a) * (s.n - s.k) + t) ≡ Some (Unmet layer a t)
  unfolding checked_by size
  checked_at layer a t hl ha ht =
      cond_unequal _ _ _ (s.layers * 2 ^ s.n * r) (λ e. omega (arith, digits_lt {q = layer * 2 ^ s.n + a} (digits_lt hl ha) ht))
      ∙ simp (digits_div (layer * 2 ^ s.n + a) ht, digits_mod (layer * 2 ^ s.n + a) ht, digits_div layer ha, digits_mod layer ha)

  -- it came to an equation that is not met
  pub unmet_when : (layer a t : ℕ) → layer < s.layers → a < 2 ^ s.n → t < s.n - s.k → MetBelow ((layer * 2 ^ s.n + a) * (s.n - s.k) + t)
      → equation narrow s nodes (layer * 2 ^ s.n + a) t ≢ 0 → Some (Unmet layer a t) ≡ checked_by s (first_unmet narrow s nodes)
  unfolding first_unmet size
  unmet_when layer a t hl ha ht before here =
      sym (checked_at layer a t hl ha ht)
      ∙ ap (checked_by s)
      (sym (first_found_lem (unmet narrow s nodes) 0 (s.layers * 2 ^ s.n * r) ((layer * 2 ^ s.n + a) * r + t) (omega arith)
      (omega (arith, digits_lt {q = layer * 2 ^ s.n + a} (digits_lt hl ha) ht)) (λ j _ l. before j l) (unmet_at (layer * 2 ^ s.n + a) t ht here)))

  -- ---- what the answer tells

  -- it is sound exactly if no equation is unmet
  pub sound_none_iff : (checked_by s (first_unmet narrow s nodes) ≡ None) ↔ (first_unmet narrow s nodes ≡ size s * (s.n - s.k))
  unfolding checked_by
  sound_none_iff = sound_at_end _ _ _ (fault_found _)

  -- an equation that is named is the first that is not met
  pub unmet_tells : (layer a t : ℕ) → checked_by s (first_unmet narrow s nodes) ≡ Some (Unmet layer a t) → FirstUnmet s nodes layer a t
  unfolding checked_by equation_number size
  unmet_tells layer a t e =
      let w = before_end _ _ _ (Some (Unmet layer a t)) (fault_found _) e in
      named w.0 w.1 (place_of (size s) r (first_unmet narrow s nodes) (omega (arith, w.0, unmet_upto narrow s nodes)))
    where
      named : first_unmet narrow s nodes ≢ size s * r → Some (Unmet (first_unmet narrow s nodes / r / 2 ^ s.n) (first_unmet narrow s nodes / r % 2 ^ s.n) (first_unmet narrow s nodes % r)) ≡ Some (Unmet layer a t)
          → Place (s.layers * 2 ^ s.n) r (first_unmet narrow s nodes) → FirstUnmet s nodes layer a t
      named d same p =
          let q = place_of s.layers (2 ^ s.n) (first_unmet narrow s nodes / r) p.row in
          let l : first_unmet narrow s nodes / r / 2 ^ s.n ≡ layer = cc in
          let b : first_unmet narrow s nodes / r % 2 ^ s.n ≡ a = cc in
          let u : first_unmet narrow s nodes % r ≡ t = cc in
          let place : first_unmet narrow s nodes / r ≡ layer * 2 ^ s.n + a = sym q.whole ∙ ap₂ (λ x y. x * 2 ^ s.n + y) l b in
          let whole : first_unmet narrow s nodes ≡ (layer * 2 ^ s.n + a) * r + t = sym p.whole ∙ ap₂ (λ x y. x * r + y) place u in
          let w = unmet_first narrow s nodes d in
          record {
            layer_below = rw l at q.row;
            a_below = rw b at q.place;
            t_below = rw u at p.place;
            here = λ z. w.0 (ap₂ (equation narrow s nodes) place u ∙ z);
            before = λ x y v hb hv less.
                sym (ap₂ (equation narrow s nodes) (digits_div (x * 2 ^ s.n + y) hv) (digits_mod (x * 2 ^ s.n + y) hv))
                ∙ w.1 ((x * 2 ^ s.n + y) * r + v) (omega arith);
          }
