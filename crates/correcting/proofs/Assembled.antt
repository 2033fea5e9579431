-- The byte's own symbol changed, then one of each check node, by the numbers of one solve: that is the correction.
use mathlib.Core.Path.{◌≡◌, refl, sym, ap, ◌∙◌}
use mathlib.Core.Logic.{◌≢◌}
use mathlib.Core.List.{List}
use Prim.Native.Nat.{ℕ, ◌+◌, ◌*◌, ◌/◌, ◌%◌, ◌≤◌, ◌<◌}
use native.Mathlib.Decide.{ℕ_discrete, dec_lt}
use native.Mathlib.Nat.{add-mod-mod, mul-le-mul}
use native.Mathlib.Omega.{arith}
use lib.Arith.{digits_div, digits_mod}
use lib.IntN.{ℤ}
use lib.ListN.{length, get_or, set, length-set}
use lib.Seq.{ext_get_or, get_or-set_same, get_or-set_other}
use Rattle.lists.specs.Lists.{element}
use Rattle.lists.proofs.Places.{Place, place_of}
use Rattle.shape.specs.declared.Shape.{Shape}
use Rattle.shape.specs.Shape.{size}
use Rattle.shape.proofs.Accepted.{shape_accepted}
use Rattle.code.specs.Code.{GoodCode, narrow}
use Rattle.code.specs.Archive.{symbol}
use Rattle.code.proofs.Accepted.{narrow_accepted}
use Rattle.correcting.specs.Signed.{to_residue}
use Rattle.correcting.specs.Correcting.{change_factor, corrected}
use Rattle.correcting.specs.Steps.{Correctable, Changes, Changed}
use Rattle.correcting.proofs.Factors.{factor_other}
use Rattle.correcting.proofs.Corrected.{place_small, corrected_length, corrected_there, corrected_kept, corrected_elsewhere}

module _ (s : Shape) (nodes : List ℕ) (b : ℕ) (z : ℤ) (w : Correctable narrow s nodes b z) (by : List ℕ) (each : Changes s (b / size s) (b % size s) (to_residue narrow.modulus z) by) where
  abbrev q : ℕ
  q = narrow.modulus

  abbrev N : ℕ
  N = size s

  abbrev d : ℕ
  d = to_residue narrow.modulus z

  abbrev F : ℕ → ℕ
  F = change_factor narrow s (b / size s) (b % size s)

  fits : s.k ≤ s.n
  fits = omega (arith, (shape_accepted s w.shape).k_high)

  good : GoodCode narrow s.n
  good = narrow_accepted s w.shape

  spot : Place s.k (size s) b
  spot = place_of s.k N b w.within

  pub byte_inside : b < length nodes
  byte_inside = omega (arith, w.long, w.within, mul-le-mul {n₁ = s.k} {m₁ = N} {n₂ = s.n} {m₂ = N} fits (omega arith))

  -- what a node's symbol at the place is then, if it changes by its number
  changed_there : (i : ℕ) → i < s.n → (symbol s nodes i (b % size s) + element by i) % q ≡ symbol s (corrected narrow s nodes b z) i (b % size s)
  changed_there i h =
      ap (λ u. (symbol s nodes i (b % N) + u) % q) (each.each i h) ∙ add-mod-mod (symbol s nodes i (b % N)) (d * F i) q
      ∙ sym (corrected_there narrow s nodes b z i (b % N) h spot.place refl)

  -- the byte's own symbol changed
  abbrev first : List ℕ
  first = set nodes b ((get_or nodes b 0 + element by (b / size s)) % narrow.modulus)

  first_other : (e : ℕ) → e ≢ b → get_or first e 0 ≡ get_or nodes e 0
  first_other e n = get_or-set_other nodes b e _ 0 n

  module _ (after : List ℕ) (checks : Changed s.k s.n (size s) (b % size s) by first after) where
    -- a symbol that stands in no check node at the place
    kept : (i place : ℕ) → place < size s → (place ≡ b % size s → i < s.k) → symbol s after i place ≡ symbol s first i place
    unfolding symbol
    kept i place l low =
        checks.other (i * N + place)
        (λ j h m e.
        let same : i ≡ j = sym (digits_div i l) ∙ ap (λ u. u / N) e ∙ digits_div j spot.place in
        omega (arith, low (sym (digits_mod i l) ∙ ap (λ u. u % N) e ∙ digits_mod j spot.place)))

    elsewhere : (i place : ℕ) → i < s.n → place < size s → place ≢ b % size s → symbol s after i place ≡ symbol s (corrected narrow s nodes b z) i place
    unfolding symbol
    elsewhere i place h l n =
        kept i place l (λ e. absurd (n e)) ∙ first_other (i * N + place) (λ e. n (sym (digits_mod i l) ∙ ap (λ u. u % N) e))
        ∙ sym (corrected_elsewhere narrow s nodes b z i place h l n)

    apart : (i : ℕ) → i ≢ b / size s → i * size s + b % size s ≢ b
    apart i n e = n (sym (digits_div i spot.place) ∙ ap (λ u. u / N) e)

    here : (i : ℕ) → i < s.n → Dec (i < s.k) → Dec (i ≡ b / size s) → symbol s after i (b % size s) ≡ symbol s (corrected narrow s nodes b z) i (b % size s)
    unfolding symbol
    here i h (yes l) (yes e) =
        kept i (b % N) spot.place (λ _. l)
        ∙ ap (λ u. get_or first u 0) (ap (λ u. u * N + b % N) e ∙ spot.whole) ∙ get_or-set_same nodes b _ 0 byte_inside
        ∙ ap (λ u. (get_or nodes u 0 + element by (b / N)) % q) (sym spot.whole) ∙ changed_there (b / N) (omega (arith, spot.row, fits))
        ∙ ap (λ u. symbol s (corrected narrow s nodes b z) u (b % N)) (sym e)
    here i h (yes l) (no n) =
        kept i (b % N) spot.place (λ _. l) ∙ first_other (i * N + b % N) (apart i n)
        ∙ sym (corrected_kept narrow s nodes b z i (b % N) h spot.place refl
        (ap (λ u. d * u) (factor_other narrow s good fits (b / N) (b % N) i l n) ∙ omega arith) (place_small narrow s nodes (b % N) w.small i h))
    here i h (no l) _ =
        checks.there i (omega arith) h
        ∙ ap (λ u. (u + element by i) % q) (first_other (i * N + b % N) (apart i (λ e. omega (arith, spot.row)))) ∙ changed_there i h

    pub changed_corrected : after ≡ corrected narrow s nodes b z
    unfolding symbol
    changed_corrected =
        ext_get_or 0 after (corrected narrow s nodes b z) (long ∙ sym (corrected_length narrow s nodes b z))
        (λ e h. one e (place_of s.n N e (omega (arith, long))))
      where
        long : length after ≡ s.n * N
        long = checks.long ∙ length-set nodes b _ ∙ w.long

        at : (i place : ℕ) → i < s.n → place < N → Dec (place ≡ b % N) → symbol s after i place ≡ symbol s (corrected narrow s nodes b z) i place
        at i place h l (yes e) = rw e (here i h (dec_lt i s.k) (ℕ_discrete i (b / N)))
        at i place h l (no n) = elsewhere i place h l n

        one : (e : ℕ) → Place s.n N e → get_or after e 0 ≡ get_or (corrected narrow s nodes b z) e 0
        one e p =
            ap (λ u. get_or after u 0) (sym p.whole) ∙ at (e / N) (e % N) p.row p.place (ℕ_discrete (e % N) (b % N))
            ∙ ap (λ u. get_or (corrected narrow s nodes b z) u 0) p.whole
