-- Each data symbol is the sum of the k symbols at its place times multipliers that n, the list and a fix, and no other multipliers serve.
use mathlib.Core.Path.{◌≡◌, refl, sym, ap, ◌∙◌}
use mathlib.Core.Bool.{Bool, true, false}
use mathlib.Core.List.{List}
use Prim.Native.Nat.{ℕ, ◌+◌, ◌*◌, ◌/◌, ◌%◌, ◌^◌, ◌≤◌, ◌<◌}
use native.Mathlib.Decide.{ℕ_discrete}
use native.Mathlib.Nat.{mod-lt, mod-eq_of_lt}
use native.Mathlib.Omega.{arith}
use lib.Arith.{digits_lt, digits_div}
use lib.ListN.{length, get_or}
use Rattle.lists.specs.Lists.{tabulate, member, position, rising}
use Rattle.lists.specs.Sums.{sum}
use Rattle.lists.proofs.Tests.{cond_true, cond_false}
use Rattle.lists.proofs.Tables.{tabulate_length, tabulate_at}
use Rattle.lists.proofs.Members.{at_position}
use Rattle.lists.proofs.Others.{rising_fits}
use Rattle.lists.proofs.Sums.{sum_ext}
use Rattle.field.proofs.Fields.{pos}
use Rattle.rows.proofs.Rows.{low_each}
use Rattle.column.specs.Column.{completed, Completion}
use Rattle.column.proofs.Column.{completed_is}
use Rattle.shape.specs.declared.Shape.{Shape}
use Rattle.shape.specs.Shape.{size}
use Rattle.code.specs.Code.{Code, points, GoodCode}
use Rattle.code.specs.Archive.{symbol, place_points, restored_column}
use Rattle.code.proofs.NodePoints.{points_length, points_good}
use Rattle.code.proofs.Restored.{Given}
use Rattle.code.proofs.Opened.{opened_column}
use Rattle.multipliers.specs.Multipliers.{multiplier, unit}
use Rattle.multipliers.proofs.Units.{unit_same, unit_other, unit_small, unit_picks}
use Rattle.multipliers.proofs.Multipliers.{missing_sum}
use Rattle.factors.specs.Factors.{factor, weighed, Opener}

module _ (c : Code) (s : Shape) (list : List ℕ) (good : GoodCode c s.n) (up : rising 0 s.n list ≡ true) (count : length list ≡ s.k) where
  abbrev q : ℕ
  q = c.modulus

  abbrev N : ℕ
  N = size s

  o : 0 < q
  o = pos c.modulus good.prime

  -- ---- node i's entry of a column, by the factors

  module _ (a : ℕ) (i : ℕ) (within : i < s.n) where
    ps_length : length (points c s.n a) ≡ s.n
    ps_length = points_length c s.n a

    ps_up : rising 0 (length (points c s.n a)) list ≡ true
    ps_up = rw ps_length up

    pub factor_listed : member i list ≡ true → (j : ℕ) → factor c s.n list a i j ≡ unit (position i list) j
    unfolding factor
    factor_listed m j = cond_true _ _ (member i list) m

    pub factor_missing : member i list ≡ false → (j : ℕ) → factor c s.n list a i j ≡ multiplier q (points c s.n a) list i j
    unfolding factor
    factor_missing m j = cond_false _ _ (member i list) m

    pub factor_small : (j : ℕ) → factor c s.n list a i j < c.modulus
    factor_small j = go (member i list) refl
      where
        go : (b : Bool) → member i list ≡ b → factor c s.n list a i j < q
        go true m = rw (factor_listed m j) (unit_small q (position i list) j good.prime.big)
        go false m = rw (factor_missing m j) (unfold multiplier in mod-lt _ o)

    pub entry_sum : (values : ℕ → ℕ) → ((j : ℕ) → j < length list → values j < c.modulus)
        → get_or (completed q (points c s.n a) list values) i 0 ≡ sum (length list) (λ j. factor c s.n list a i j * values j) % q
    entry_sum values small = go (member i list) refl
      where
        is : Completion q (points c s.n a) list values (completed q (points c s.n a) list values)
        is = completed_is q good.prime (points c s.n a) (points_good c s.n good a) list ps_up values small

        swap : (x y : ℕ) → x * y ≡ y * x
        swap x y = omega arith

        go : (b : Bool) → member i list ≡ b → get_or (completed q (points c s.n a) list values) i 0 ≡ sum (length list) (λ j. factor c s.n list a i j * values j) % q
        go true m =
            let p = at_position list i m in
            ap (λ z. get_or (completed q (points c s.n a) list values) z 0) (sym p.1)
            ∙ is.listed (position i list) p.0
            ∙ sym (mod-eq_of_lt (small (position i list) p.0))
            ∙ ap (λ z. z % q)
            (sym (unit_picks (length list) (position i list) values p.0)
            ∙ sum_ext (length list) _ _ (λ j _. swap (values j) (unit (position i list) j) ∙ ap (λ z. z * values j) (sym (factor_listed m j))))
        go false m =
            missing_sum q good.prime (points c s.n a) (points_good c s.n good a) list ps_up i (omega (arith, ps_length)) m values small
            ∙ ap (λ z. z % q) (sum_ext (length list) _ _ (λ j _. ap (λ z. z * values j) (sym (factor_missing m j))))

  -- ---- the data symbols

  module _ (i place : ℕ) (h : i < s.k) (l : place < size s) where
    abbrev a : ℕ
    a = place % 2 ^ s.n

    fits : s.k ≤ s.n
    fits = omega (arith, rising_fits s.n list up, count)

    given : (symbols : List ℕ) → ((e : ℕ) → e < length symbols → get_or symbols e 0 < c.modulus) → Given c s list symbols
    given symbols small = record { code = good; nodes = up; count = count; small = small }

    -- "each data symbol there is the sum of those k symbols times multipliers that n, k, the list and a alone fix"
    pub opened_sum : Opener c s list i place (factor c s.n list (place % 2 ^ s.n) i)
    unfolding weighed symbol restored_column place_points
    opened_sum = record {
      gives = λ symbols long small.
          opened_column c s list symbols (given symbols small) i place h l
          ∙ entry_sum a i (omega (arith, fits)) (λ j. get_or symbols (j * N + place) 0) (λ j _. (low_each q symbols o small).at (j * N + place))
          ∙ ap (λ z. sum z (λ j. factor c s.n list a i j * get_or symbols (j * N + place) 0) % q) count;
    }

    -- the symbols that are 1 at one listed node's place and 0 elsewhere
    module _ (e : ℕ) (k : e < s.k) where
      single : List ℕ
      single = tabulate (s.k * N) (unit (e * N + place))

      single_at : (j : ℕ) → j < s.k → symbol s single j place ≡ unit e j
      unfolding single symbol
      single_at j m = tabulate_at (s.k * N) (unit (e * N + place)) (j * N + place) 0 (digits_lt m l) ∙ go (ℕ_discrete j e)
        where
          go : Dec (j ≡ e) → unit (e * N + place) (j * N + place) ≡ unit e j
          go (yes d) = ap (λ z. unit (e * N + place) (z * N + place)) d ∙ unit_same (e * N + place) ∙ sym (ap (unit e) d ∙ unit_same e)
          go (no d) =
              unit_other (e * N + place) (j * N + place) (λ z. d (sym (digits_div j l) ∙ ap (λ y. y / N) z ∙ digits_div e l)) ∙ sym (unit_other e j d)

      weighs : (f : ℕ → ℕ) → weighed c s single f place ≡ f e % q
      unfolding weighed
      weighs f =
          ap (λ z. z % q) (sum_ext s.k _ _ (λ j m. ap (λ z. f j * z) (single_at j m)) ∙ unit_picks s.k e f k)

      single_small : (x : ℕ) → x < length single → get_or single x 0 < q
      unfolding single
      single_small x m =
          rw (tabulate_at (s.k * N) (unit (e * N + place)) x 0 (rw (tabulate_length (s.k * N) (unit (e * N + place))) at m))
          (unit_small q (e * N + place) x good.prime.big)

      single_length : length single ≡ s.k * N
      unfolding single
      single_length = tabulate_length (s.k * N) (unit (e * N + place))

    -- "and no other multipliers do so for all symbols"
    pub opened_only : (f : ℕ → ℕ) → Opener c s list i place f → (j : ℕ) → j < s.k → f j % c.modulus ≡ factor c s.n list (place % 2 ^ s.n) i j
    opened_only f w j k =
        sym (weighs j k f)
        ∙ sym (w.gives (single j k) (single_length j k) (single_small j k))
        ∙ opened_sum.gives (single j k) (single_length j k) (single_small j k)
        ∙ weighs j k (factor c s.n list a i)
        ∙ mod-eq_of_lt (factor_small a i (omega (arith, fits)) j)
