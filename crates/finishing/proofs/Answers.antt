-- What is worked out at a sum, and where it is stored.
use mathlib.Core.Path.{◌≡◌, refl, sym, ap, ◌∙◌}
use mathlib.Core.Logic.{◌≢◌}
use mathlib.Core.Bool.{Bool, true, false}
use mathlib.Core.List.{List, [], ◌∷◌, map}
use Prim.Native.Nat.{ℕ, suc, ◌+◌, ◌*◌, ◌/◌, ◌%◌, ◌≤◌, ◌<◌}
use native.Mathlib.Decide.{ℕ_discrete}
use native.Mathlib.Numerals.{add-one}
use native.Mathlib.Omega.{arith}
use lib.Arith.{digits_div, digits_mod}
use lib.ListN.{length, get_or, set, take, replicate, length-set, length-map}
use lib.Seq.{get_or-set_same, get_or-set_other}
use Rattle.lists.specs.Lists.{element, member, position, others, rising}
use Rattle.lists.proofs.Tables.{map_at}
use Rattle.lists.proofs.Members.{Rises, at_position, rising_rises, rises_rising, rising_more}
use Rattle.lists.proofs.Others.{others_member}
use Rattle.field.specs.Residues.{solution}
use Rattle.field.proofs.Bridge.{solution_ext, solution_small}
use Rattle.column.specs.Column.{Points}
use Rattle.column.specs.Solving.{most_entries, cell, power_of, Vandermonde, Solves, Scattered}
use Rattle.column.proofs.Solved.{points_picked}
use Rattle.shape.specs.declared.Shape.{Shape}
use Rattle.shape.specs.Shape.{most_nodes}
use Rattle.code.specs.Code.{narrow, more_points, GoodCode}
use Rattle.code.proofs.NodePoints.{good_fewer, more_length, more_good}
use Rattle.code.proofs.Narrow.{narrow_good}
use Rattle.rows.proofs.Rows.{low_replicate}
use Rattle.classes.specs.Classes.{node, spot_at}
use Rattle.classes.specs.Steps.{other_rank}
use Rattle.arrival.specs.Sums.{equations, kept_at, unknowns_at, finished_at}
use Rattle.finishing.specs.Steps.{Asked, asked, lacking, Answered, SentAt, PairAt}

-- ---- the own symbols

pub pair_put : (i n x : ℕ) (column before : List ℕ) → x * 2 + 1 < length before
    → PairAt i n x column before (set (set before (x * 2) (element column i)) (x * 2 + 1) (element column n))
pair_put i n x column before h = record {
  long = length-set once (x * 2 + 1) (element column n) ∙ length-set before (x * 2) (element column i);
  first = get_or-set_other once (x * 2 + 1) (x * 2) (element column n) 0 (λ e. omega arith) ∙ get_or-set_same before (x * 2) (element column i) 0 (omega arith);
  second = get_or-set_same once (x * 2 + 1) (element column n) 0 (omega (arith, length-set before (x * 2) (element column i)));
  other = λ y d. (beside y (y * 2) (λ e. omega arith) (λ e. d (omega arith)), beside y (y * 2 + 1) (λ e. d (omega arith)) (λ e. omega arith));
}
  where
    once : List ℕ
    once = set before (x * 2) (element column i)

    beside : (y z : ℕ) → z ≢ x * 2 + 1 → z ≢ x * 2 → get_or (set (set before (x * 2) (element column i)) (x * 2 + 1) (element column n)) z 0 ≡ get_or before z 0
    beside y z a b = get_or-set_other (set before (x * 2) (element column i)) (x * 2 + 1) z (element column n) 0 a ∙ get_or-set_other before (x * 2) z (element column i) 0 b

-- ---- the others'

module _ (dead : List ℕ) (u share x : ℕ) (column before : List ℕ) where
  pub sent_none : SentAt dead u share x 0 column before before
  sent_none = record { long = refl; sent = λ j h. absurd (omega arith); other = λ j y h d. refl }

  pub sent_more : (j : ℕ) (now : List ℕ) (v : ℕ) → SentAt dead u share x j column before now → x < share → j * share + x < length before → v ≡ element column (node dead (other_rank u j))
      → SentAt dead u share x (j + 1) column before (set now (j * share + x) v)
  sent_more j now v w l room e = record {
    long = length-set now (j * share + x) v ∙ w.long;
    sent = λ i h. go i h (ℕ_discrete i j);
    other = λ i y h d. get_or-set_other now (j * share + x) (i * share + y) v 0 (λ q. d (place i y h q)) ∙ w.other i y h d;
  }
    where
      place : (i y : ℕ) → y < share → i * share + y ≡ j * share + x → y ≡ x
      place i y h q = sym (digits_mod i h) ∙ ap (λ z. z % share) q ∙ digits_mod j l

      go : (i : ℕ) → i < j + 1 → Dec (i ≡ j) → get_or (set now (j * share + x) v) (i * share + x) 0 ≡ element column (node dead (other_rank u i))
      go i h (yes q) = rw q (get_or-set_same now (j * share + x) v 0 (omega (arith, w.long)) ∙ e)
      go i h (no q) = get_or-set_other now (j * share + x) (i * share + x) v 0 (λ z. q (sym (digits_div i l) ∙ ap (λ k. k / share) z ∙ digits_div j l)) ∙ w.sent i (omega arith)

-- ---- a column, from the kept equations

module _ (n a i : ℕ) (unknown : List ℕ) (at : ℕ) (sums : List ℕ) (A : Asked n i unknown at (length sums)) where
  abbrev ps : List ℕ
  ps = more_points narrow n a i

  abbrev r : ℕ
  r = length unknown

  good : GoodCode narrow n
  good = good_fewer narrow most_nodes n A.few narrow_good

  -- the points of the unknowns differ
  points : Points narrow.modulus (asked n a i unknown)
  points =
      points_picked narrow.modulus ps (more_good narrow n good a i A.node_below) 0 unknown
      (rising_rises 0 (length ps) unknown (rw (more_length narrow n a i, ← add-one n) A.up))

  module _ (want right values : List ℕ) (powers : List (List ℕ))
      (want_are : (j : ℕ) → j < length unknown → element want j ≡ get_or (more_points narrow n a i) (element unknown j) 0)
      (powers_are : (j t : ℕ) → j < length unknown → t < length unknown → cell powers j t ≡ power_of narrow.modulus (element want j) t)
      (right_is : (t : ℕ) → t < length unknown → element right t ≡ lacking sums at t)
      (solves : Solves narrow.modulus (length unknown) powers right values) where
    found : take (length unknown) values ≡ solution narrow.modulus (asked n a i unknown) (lacking sums at)
    found =
        solves.solved (asked n a i unknown) count good.prime points equal
        ∙ solution_ext narrow.modulus (asked n a i unknown) _ _ (λ t l. right_is t (omega (arith, count)))
      where
        count : length (asked n a i unknown) ≡ length unknown
        count = length-map unknown (λ e. get_or ps e 0)

        equal : Vandermonde narrow.modulus (asked n a i unknown) powers
        equal = record {
          power = λ j t h k.
              powers_are j t (omega (arith, count)) (omega (arith, count))
              ∙ ap (λ x. power_of narrow.modulus x t)
              (want_are j (omega (arith, count)) ∙ sym (map_at (λ e. get_or ps e 0) unknown j 0 0 (omega (arith, count))));
        }

    pub answered : (column : List ℕ) → Scattered unknown (take (length unknown) values) (replicate most_entries 0) column → Answered n a i unknown at sums column
    answered column w = record { long = w.long; low = record { at = low }; each = each }
      where
        each : (j : ℕ) → j < length unknown → element column (element unknown j) ≡ get_or (solution narrow.modulus (asked n a i unknown) (lacking sums at)) j 0
        each j h = w.listed j h ∙ ap (λ f. element f j) found

        go : (e : ℕ) (b : Bool) → member e unknown ≡ b → element column e < narrow.modulus
        go e true m =
            let p = at_position unknown e m in
            rw (ap (element column) (sym p.1) ∙ each (position e unknown) p.0) (solution_small narrow.modulus good.prime (asked n a i unknown) (lacking sums at) _)
        go e false m = rw (w.unlisted e m) ((low_replicate narrow.modulus most_entries 0 (omega arith)).at e)

        low : (e : ℕ) → element column e < narrow.modulus
        low e = go e (member e unknown) refl

-- the unknowns of a first step
module _ (s : Shape) (dead helpers : List ℕ) (u : ℕ) (up : rising 0 s.n helpers ≡ true) (sums : List ℕ) (x : ℕ) (column : List ℕ)
    (W : Answered s.n (spot_at s dead u x).a (node dead u) (others (s.n + 1) helpers) (x * equations s) sums column) where
  pub entry_finished : (e : ℕ) → e < s.n + 1 → member e helpers ≡ false → element column e ≡ finished_at narrow s dead helpers u sums e x
  unfolding finished_at unknowns_at kept_at
  entry_finished e l m =
      let p = at_position (others (s.n + 1) helpers) e (others_member (s.n + 1) helpers (rw (add-one s.n) (rising_more s.n helpers up)) e l m) in
      ap (element column) (sym p.1) ∙ W.each (position e (others (s.n + 1) helpers)) p.0
      ∙ ap (λ k. get_or (solution narrow.modulus (map (λ z. get_or (more_points narrow s.n (spot_at s dead u x).a (node dead u)) z 0) (others k helpers)) (lacking sums (x * equations s)))
      (position e (others (s.n + 1) helpers)) 0)
      (add-one s.n ∙ sym (more_length narrow s.n (spot_at s dead u x).a (node dead u)))

-- a list that rises below a bound rises below a larger one
rises_wide : (m n a : ℕ) (xs : List ℕ) → m ≤ n → Rises a m xs → Rises a n xs
rises_wide m n a [] h w = tt
rises_wide m n a (x ∷ xs) h w = (w.0, omega (arith, w.1), rises_wide m n (suc x) xs h w.2)

pub rising_wide : (m n : ℕ) (list : List ℕ) → m ≤ n → rising 0 m list ≡ true → rising 0 n list ≡ true
rising_wide m n list h e = rises_rising 0 n list (rises_wide m n 0 list h (rising_rises 0 m list e))
