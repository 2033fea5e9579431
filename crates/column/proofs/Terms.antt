-- The terms of a parity equation: each times its point is the term of the next.
use mathlib.Core.Path.{◌≡◌, sym, ap, ◌∙◌}
use mathlib.Core.List.{List, ◌++◌}
use Prim.Native.Nat.{ℕ, ◌+◌, ◌*◌, ◌%◌, ◌^◌, ◌≤◌, ◌<◌}
use native.Mathlib.Nat.{pow-suc, mod-mod}
use native.Mathlib.Numerals.{add-one}
use native.Mathlib.Omega.{arith}
use lib.ListN.{length, get_or, take, drop, length-append, length-drop}
use lib.Seq.{get_or-take, take_at, length-take-le}
use Rattle.lists.specs.Lists.{element}
use Rattle.lists.specs.Sums.{sum}
use Rattle.lists.proofs.Sums.{sum_ext, sum_mod}
use Rattle.field.proofs.Residues.{mod_mul_mod}
use Rattle.column.specs.Column.{parity}
use Rattle.column.specs.Solving.{Advanced}

turned : (a b c : ℕ) → a * b * c ≡ a * c * b
turned a b c = omega arith

module _ (q : ℕ) (points column : List ℕ) where
  pub terms_more : (t i x y : ℕ) → x % q ≡ (element points i ^ t * element column i) % q → y ≡ (x * element points i) % q
      → y % q ≡ (element points i ^ (t + 1) * element column i) % q
  terms_more t i x y e d =
      ap (λ z. z % q) d ∙ mod-mod _ q ∙ sym (mod_mul_mod x (element points i) q) ∙ ap (λ z. (z * element points i) % q) e
      ∙ mod_mul_mod (element points i ^ t * element column i) (element points i) q
      ∙ ap (λ z. z % q) (turned (element points i ^ t) (element column i) (element points i) ∙ sym (ap (λ p. p * element column i) (rw (add-one t) (pow-suc (element points i) t))))

  pub terms_total : (t : ℕ) (terms : List ℕ) → ((i : ℕ) → i < length points → element terms i % q ≡ (element points i ^ t * element column i) % q)
      → sum (length points) (element terms) % q ≡ parity q points column t
  unfolding parity
  terms_total t terms h = sum_mod q (length points) _ _ h

  -- the terms that were lent come back in front of the rest of their array
  module _ (terms last : List ℕ) (total : ℕ) (few : length points ≤ length terms) (w : Advanced q points (take (length points) terms) last total) where
    lent : length last ≡ length points
    lent = w.long ∙ length-take-le _ _ few

    pub terms_long : length (last ++ drop (length points) terms) ≡ length terms
    terms_long = simp (length-append, length-drop, lent) (omega arith)

    pub terms_next : (i : ℕ) → i < length points → element (last ++ drop (length points) terms) i ≡ (element terms i * element points i) % q
    terms_next i h =
        sym (get_or-take (length points) (last ++ drop (length points) terms) i 0 h) ∙ ap (λ l. get_or l i 0) (take_at last (drop (length points) terms) (length points) lent)
        ∙ w.next i h ∙ ap (λ x. (x * element points i) % q) (get_or-take (length points) terms i 0 h)

    pub terms_added : total ≡ sum (length points) (element terms) % q
    terms_added = w.added ∙ ap (λ x. x % q) (sum_ext (length points) _ _ (λ i l. get_or-take (length points) terms i 0 l))
