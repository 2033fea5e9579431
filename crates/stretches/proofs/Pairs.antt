-- A loop over the pairs of numbers of a list of stretches: `chunks_exact(2)` gives the start and the length of one stretch after the other.
use mathlib.Core.Path.{◌≡◌, sym, ap, subst, ◌∙◌}
use mathlib.Core.List.{List, [], ◌∷◌, ◌++◌}
use Prim.Native.Nat.{ℕ, suc, ◌+◌, ◌*◌, ◌<◌}
use native.Mathlib.Omega.{arith}
use lib.ListN.{length, get_or, length-append, get_or-append}
use lib.Seq.{get_or-append-add}
use denote.Ref.{Bor}
use Rattle.std.proofs.lemmas.List.{length_push}
use Rattle.std.specs.declared.slice.ChunksExact.{ChunksExact}
use Rattle.std.specs.declared.option.Option.{Option}
use Rattle.std.specs.declared.option.Option.TheVariants.{None, Some}
use Rattle.std.specs.Iterator.{Yields}
use Rattle.std.specs.Slice.Iter.{chunks_exact_rest, chunks_exact_size, chunks_exact_steps}
use Rattle.stretches.specs.Stretches.{stretch_count, stretch_start, stretch_length}

abbrev Steps : ChunksExact ℕ → Option (Bor (List ℕ)) → ChunksExact ℕ → Type 0
Steps = chunks_exact_steps {A = ℕ}

-- what is left where some pairs have come
record Left (n : ℕ) (all rest : List ℕ) : Type 0 where
  fits : 2 * n + length rest ≡ length all
  at : (i : ℕ) → get_or all (2 * n + i) 0 ≡ get_or rest i 0

left : (ps : List (Bor (List ℕ))) (s t : ChunksExact ℕ) → chunks_exact_size s ≡ 2 → Yields Steps s ps t → (chunks_exact_size t ≡ 2) × Left (length ps) (chunks_exact_rest s) (chunks_exact_rest t)
left [] s t two y =
    let e : chunks_exact_rest s ≡ chunks_exact_rest t = ap chunks_exact_rest y in
    (ap chunks_exact_size (sym y) ∙ two, record { fits = omega (arith, ap length e); at = λ i. ap (λ k. get_or (chunks_exact_rest s) k 0) (let z : 2 * length {A = Bor (List ℕ)} [] + i ≡ i = omega arith in z) ∙ ap (λ z. get_or z i 0) e })
left (p ∷ ps) s t two y =
    let one = y.1 in
    let w = left ps y.0 t (one.0 ∙ two) y.2 in
    let e = one.1.0 in
    let l : length p.now ≡ 2 = one.1.1 ∙ two in (
      w.0,
      record {
        fits = omega (arith, ap length e, length-append p.now (chunks_exact_rest y.0), w.1.fits);
        at = λ i.
            let z : 2 * suc (length ps) + i ≡ length p.now + (2 * length ps + i) = omega arith in
            ap (λ k. get_or (chunks_exact_rest s) k 0) z ∙ ap (λ x. get_or x (length p.now + (2 * length ps + i)) 0) e
            ∙ get_or-append-add p.now (chunks_exact_rest y.0) (2 * length ps + i) 0 ∙ w.1.at i;
      },
    )

-- p is the stretch of number m of a list
abbrev pub IsStretch : List ℕ → ℕ → List ℕ → Type 0
IsStretch st m p = (m < stretch_count st) × (stretch_start st m ≡ get_or p 0 0) × (stretch_length st m ≡ get_or p 1 0)

-- The facts of an iteration of such a loop, after the pairs that came before: st is the list, s the iterator at the start.
module _ (st : List ℕ) (s t u : ChunksExact ℕ) (r : Option (Bor (List ℕ))) (ps : List (Bor (List ℕ))) (all : chunks_exact_rest s ≡ st) (two : chunks_exact_size s ≡ 2) (y : Yields Steps s ps t) where
  -- this iteration's pair is the stretch of its number
  pub pair_turn : (p : Bor (List ℕ)) → r ≡ Some p → Steps t r u → IsStretch st (length ps) p.now
  unfolding stretch_count stretch_start stretch_length
  pair_turn p e h =
      let w = left ps s t two y in
      let k = subst (λ o. Steps t o u) e h in
      let l : length p.now ≡ 2 = k.1.1 ∙ w.0 in
      let at : (i : ℕ) → i < 2 → get_or st (2 * length ps + i) 0 ≡ get_or p.now i 0 =
      λ i b. ap (λ z. get_or z (2 * length ps + i) 0) (sym all) ∙ w.1.at i ∙ ap (λ z. get_or z i 0) k.1.0
      ∙ get_or-append p.now (chunks_exact_rest u) 0 i (omega arith) in (
        omega (arith, ap length all, w.1.fits, ap length k.1.0, length-append p.now (chunks_exact_rest u)),
        ap (λ z. get_or st z 0) (let z : 2 * length ps ≡ 2 * length ps + 0 = omega arith in z) ∙ at 0 (omega arith),
        at 1 (omega arith),
      )

  -- at the end all stretches have come
  pub pair_end : r ≡ None → Steps t r u → length ps ≡ stretch_count st
  unfolding stretch_count
  pair_end e h =
      let w = left ps s t two y in
      let k = subst (λ o. Steps t o u) e h in
      omega (arith, ap length all, w.0, w.1.fits, k.1.0)

-- what holds of one pair more
pub pairs_more : (P : ℕ → Type 0) (ps : List (Bor (List ℕ))) (p : Bor (List ℕ)) → P (length ps + 1) → P (length (ps ++ (p ∷ [])))
pairs_more P ps p = subst P (sym (length_push ps p))
