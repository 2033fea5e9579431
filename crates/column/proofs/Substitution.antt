-- Back substitution: one value more, the last unknown first.
use mathlib.Core.Path.{◌≡◌, sym, ap, ap₂, ◌∙◌}
use mathlib.Core.Logic.{◌≢◌}
use mathlib.Core.List.{List}
use Prim.Native.Nat.{ℕ, suc, ◌+◌, ◌-◌, ◌*◌, ◌%◌, ◌≤◌, ◌<◌}
use native.Mathlib.Nat.{add-zero}
use native.Mathlib.Decide.{ℕ_discrete}
use native.Mathlib.Omega.{arith}
use lib.ListN.{length, set}
use lib.Seq.{get_or-set_same, get_or-set_other}
use Rattle.lists.specs.Lists.{element}
use Rattle.lists.specs.Sums.{sum}
use Rattle.lists.proofs.Sums.{sum_ext, sum_first}
use Rattle.field.specs.Residues.{Prime, minus}
use Rattle.field.proofs.Ring.{ring}
use Rattle.field.proofs.Residues.{Residue, val_res, res_add, res_mul, res_mod, one_is}
use Rattle.field.proofs.Fields.{pos, R}
use Rattle.field.proofs.Bridge.{r as residue, minus_is}
use Rattle.column.specs.Solving.{cell, row_of, term, Meets}

module _ (q : ℕ) (prime : Prime q) where
  open R q prime use {𝟙, ◌⊕◌, ◌⊖◌, ◌⊗◌}

  infixl 65 ◌⊕◌
  infixl 65 ◌⊖◌
  infixl 70 ◌⊗◌
  abbrev o : 0 < q
  o = pos q prime

  abbrev res' : ℕ → Residue q
  res' = residue q prime

  -- the same residue
  pub mod_of_res : (a b : ℕ) → residue q prime a ≡ residue q prime b → a % q ≡ b % q
  mod_of_res a b e = sym (val_res q o a) ∙ ap (λ u. u.val) e ∙ val_res q o b

  pub res_of_mod : (a b : ℕ) → a % q ≡ b % q → residue q prime a ≡ residue q prime b
  res_of_mod a b e = sym (res_mod q o a) ∙ ap res' e ∙ res_mod q o b

  -- v is b less s, divided by p: then p times v, and s, are b
  pub divided_back : (p inv v left s b : ℕ) → left ≡ minus q b (s % q) → v ≡ (left * inv) % q → (p * inv) % q ≡ 1 → (p * v + s) % q ≡ b % q
  divided_back p inv v left s b e d one =
      mod_of_res _ _
      (res_add q o _ _ ∙ ap (λ u. u ⊕ res' s) (res_mul q o p v ∙ ap (λ u. res' p ⊗ u) value)
      ∙ around (res' p) (res' inv) (res' b) (res' s) (sym (res_mul q o p inv) ∙ sym (res_mod q o (p * inv)) ∙ ap res' one ∙ sym (one_is q o)))
    where
      value : res' v ≡ (res' b ⊖ res' s) ⊗ res' inv
      value =
          ap res' d ∙ res_mod q o _ ∙ res_mul q o left inv
          ∙ ap (λ u. u ⊗ res' inv) (ap res' e ∙ minus_is q prime b (s % q) ∙ ap (λ u. res' b ⊖ u) (res_mod q o s))

      around : (a i c z : Residue q) → a ⊗ i ≡ 𝟙 → a ⊗ ((c ⊖ z) ⊗ i) ⊕ z ≡ c
      around a i c z h = sort ∙ ap (λ u. u ⊗ (c ⊖ z) ⊕ z) h ∙ end
        where
          sort : a ⊗ ((c ⊖ z) ⊗ i) ⊕ z ≡ a ⊗ i ⊗ (c ⊖ z) ⊕ z
          sort = simp ring

          end : 𝟙 ⊗ (c ⊖ z) ⊕ z ≡ c
          end = simp ring

-- the values met the equations from i + 1 on; with v stored at i they meet those from i on
module _ (q r : ℕ) (triangle : List (List ℕ)) (right values : List ℕ) (i v : ℕ) (within : i < length values) (below : i < r)
    (later : (l : ℕ) → i + 1 ≤ l → l < r → Meets q r triangle right values l) (low : v < q)
    (here : (cell triangle i i * v + sum (r - i - 1) (term (row_of triangle i) values (i + 1))) % q ≡ element right i % q) where
  others : (j : ℕ) → j ≢ i → element (set values i v) j ≡ element values j
  others j d = get_or-set_other values i j v 0 d

  same : element (set values i v) i ≡ v
  same = get_or-set_same values i v 0 within

  first : sum (r - i) (term (row_of triangle i) (set values i v) i) ≡ cell triangle i i * v + sum (r - i - 1) (term (row_of triangle i) values (i + 1))
  unfolding term
  first =
      ap (λ n. sum n (term (row_of triangle i) (set values i v) i)) (let e : r - i ≡ suc (r - i - 1) = omega arith in e)
      ∙ sum_first (r - i - 1) (term (row_of triangle i) (set values i v) i)
      ∙ ap₂ ◌+◌
      (ap (λ k. cell triangle i k * element (set values i v) k) (add-zero i) ∙ ap (λ x. cell triangle i i * x) same)
      (sum_ext (r - i - 1) _ _ (λ d l.
      ap (λ k. cell triangle i k * element (set values i v) k) (let e : i + suc d ≡ i + 1 + d = omega arith in e)
      ∙ ap (λ x. cell triangle i (i + 1 + d) * x) (others (i + 1 + d) (λ e. omega arith))))

  pub value_more : (l : ℕ) → i ≤ l → l < r → Meets q r triangle right (set values i v) l
  unfolding term
  value_more l h k = go (ℕ_discrete l i)
    where
      go : Dec (l ≡ i) → Meets q r triangle right (set values i v) l
      go (yes e) = rw e (record { small = rw same low; met = ap (λ x. x % q) first ∙ here })
      go (no d) =
          let w = later l (omega arith) k in
          record {
            small = rw (others l d) w.small;
            met =
                ap (λ x. x % q) (sum_ext (r - l) _ _ (λ s z. ap (λ x. cell triangle l (l + s) * x) (others (l + s) (λ e. omega arith))))
                ∙ w.met;
          }
