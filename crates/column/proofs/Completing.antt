-- What the parts of `missing` and `complete` give together: the values at the other entries, and the whole column.
use mathlib.Core.Path.{◌≡◌, refl, sym, ap, ◌∙◌}
use mathlib.Core.Bool.{true}
use mathlib.Core.List.{List}
use Prim.Native.Nat.{ℕ, ◌-◌, ◌*◌, ◌%◌, ◌^◌, ◌<◌}
use native.Mathlib.Omega.{arith}
use lib.ListN.{length, get_or, take, length-map}
use Rattle.lists.specs.Lists.{element, others, rising}
use Rattle.lists.specs.Sums.{sum}
use Rattle.lists.proofs.Tables.{map_at}
use Rattle.lists.proofs.Sums.{sum_ext}
use Rattle.lists.proofs.Members.{rises_rising, member_of}
use Rattle.lists.proofs.Others.{others_rise, others_length, others_apart}
use Rattle.field.specs.Residues.{minus}
use Rattle.field.proofs.Bridge.{minus_mod, solution_ext}
use Rattle.column.specs.Column.{parity, listed_sum, unknowns, missing, completed}
use Rattle.column.specs.Solving.{cell, power_of, Vandermonde, Solves, Known, Missing, Scattered}
use Rattle.column.proofs.Solvable.{solvable}
use Rattle.column.proofs.Column.{completed_by}

module _ (q : ℕ) (ps list values : List ℕ) (w : Known q ps list values) where
  abbrev rest : List ℕ
  rest = others (length ps) list

  -- as many as there are equations
  pub rest_length : length (others (length ps) list) ≡ length ps - length list
  rest_length = omega (arith, others_length (length ps) list w.up)

  module _ (r : ℕ) (r_is : r ≡ length (others (length ps) list)) (known want right out : List ℕ) (wanted : List (List ℕ))
      (known_long : length known ≡ length list)
      (known_are : (j : ℕ) → j < length list → element known j ≡ element ps (element list j))
      (right_is : (t : ℕ) → t < r → element right t ≡ minus q 0 (parity q known values t))
      (want_are : (j : ℕ) → j < r → element want j ≡ element ps (element (others (length ps) list) j))
      (wanted_are : (j t : ℕ) → j < r → t < r → cell wanted j t ≡ power_of q (element want j) t)
      (solves : Solves q r wanted right out) where
    abbrev xs : List ℕ
    xs = unknowns ps list

    count : length xs ≡ r
    count = length-map rest _ ∙ sym r_is

    equations : Vandermonde q xs wanted
    equations = record {
      power = λ j t h k.
          wanted_are j t (omega (arith, count)) (omega (arith, count))
          ∙ ap (λ x. power_of q x t) (want_are j (omega (arith, count)) ∙ sym (map_at (λ i. get_or ps i 0) rest j 0 0 (omega (arith, count))));
    }

    -- the known part of equation t
    part : (t : ℕ) → parity q known values t ≡ listed_sum ps list (element values) t % q
    unfolding parity listed_sum
    part t =
        ap (λ n. sum n (λ j. element known j ^ t * element values j) % q) known_long
        ∙ ap (λ x. x % q) (sum_ext (length list) _ _ (λ j l. ap (λ x. x ^ t * element values j) (known_are j l)))

    pub missing_by : Missing q ps list values out
    missing_by = record {
      long = solves.long;
      found =
          ap (λ n. take n out) (sym rest_length ∙ sym r_is ∙ sym count)
          ∙ (solvable q w.prime ps w.apart list w.up).solved wanted right out equations (rw count solves)
          ∙ solution_ext q xs _ _ (λ t l. right_is t (omega (arith, count)) ∙ ap (minus q 0) (part t) ∙ minus_mod q 0 _)
          ∙ (unfold missing in refl);
    }

  -- the other entries rise
  pub rest_rising : rising 0 (length ps) (others (length ps) list) ≡ true
  rest_rising = rises_rising 0 (length ps) rest (others_rise (length ps) list w.up)

  pub whole_by : (before column after found : List ℕ) → length before ≡ length ps → Scattered list values before column
      → Scattered (others (length ps) list) found column after → found ≡ missing q ps list (element values) → after ≡ completed q ps list (element values)
  whole_by before column after found long first second same =
      completed_by q w.prime ps w.apart list w.up (element values) after (second.long ∙ first.long ∙ long)
      (λ j h. second.unlisted (element list j) (others_apart (length ps) list w.up (element list j) (member_of list j h)) ∙ first.listed j h)
      (λ j h. second.listed j h ∙ ap (λ f. element f j) same)
