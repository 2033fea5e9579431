-- The sums of products, a source row at a time.
use mathlib.Core.Path.{◌≡◌, refl, sym, ap, ◌∙◌}
use mathlib.Core.List.{List}
use Prim.Native.Nat.{ℕ, zero, suc, ◌+◌, ◌*◌, ◌<◌, ◌≤◌}
use native.Mathlib.Nat.{mul-le-mul}
use native.Mathlib.Numerals.{add-one}
use native.Mathlib.Omega.{arith}
use lib.ListN.{length, get_or, replicate, length-replicate, get_or-replicate}
use Rattle.lists.specs.Sums.{sum}
use Rattle.lists.proofs.Sums.{sum_suc}
use Rattle.rows.specs.Rows.{most_places, Stored, added}
use Rattle.filling.specs.Filling.{term, Summable, Summed}

module _ (run each place : ℕ) (rows table : List ℕ) (first : ℕ) (symbols : List ℕ) (w : Summable run each place rows table first symbols) where
  pub summed_none : Summed run each place rows table first symbols 0 (replicate most_places 0)
  summed_none = record {
    long = length-replicate {A = ℕ} most_places 0;
    each_sum = λ t h. get_or-replicate {A = ℕ} most_places t 0 0 (omega (arith, w.few)) ∙ (unfold sum in refl);
  }

  term_low : (t j : ℕ) → t < run → j < length rows → term table first rows each place symbols t j ≤ 65536
  unfolding term
  term_low t j h l =
      let a : get_or table ((first + j) * most_places + t) 0 ≤ 256 = omega (arith, w.low.at ((first + j) * most_places + t)) in
      let b : get_or symbols (get_or rows j 0 * each + place + t) 0 ≤ 256 = omega (arith, w.small j t l h) in
      omega (arith, mul-le-mul a b)

  sum_low : (t m : ℕ) → t < run → m ≤ length rows → sum m (term table first rows each place symbols t) ≤ m * 65536
  sum_low t zero h l = unfold sum in omega arith
  sum_low t (suc m) h l =
      omega (arith, sum_suc m (term table first rows each place symbols t), term_low t m h (omega arith), sum_low t m h (omega arith))

  module _ (j : ℕ) (within : j < length rows) (sums : List ℕ) (so_far : Summed run each place rows table first symbols j sums) where
    pub sum_fits : (t : ℕ) → t < run → added table ((first + j) * most_places) symbols (get_or rows j 0 * each + place) sums t < 4294967296
    unfolding added
    sum_fits t h =
        let z : get_or table ((first + j) * most_places + t) 0 * get_or symbols (get_or rows j 0 * each + place + t) 0 ≤ 65536 = unfold term in term_low t j h within in
        omega (arith, z, so_far.each_sum t h, sum_low t j h (omega arith), w.short)

    pub summed_more : (after : List ℕ) → Stored 0 run (added table ((first + j) * most_places) symbols (get_or rows j 0 * each + place) sums) sums after
        → Summed run each place rows table first symbols (j + 1) after
    unfolding added
    summed_more after put = record {
      long = put.long ∙ so_far.long;
      each_sum = λ t h.
          ap (λ k. get_or after k 0) (let z : t ≡ 0 + t = omega arith in z) ∙ put.there t h
          ∙ ap (λ k. k + get_or table ((first + j) * most_places + t) 0 * get_or symbols (get_or rows j 0 * each + place + t) 0) (so_far.each_sum t h)
          ∙ (unfold term in sym (rw (add-one j) (sum_suc j (term table first rows each place symbols t))));
    }
