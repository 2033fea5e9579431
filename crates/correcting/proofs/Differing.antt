-- Which symbols differ after a correction: none where the change is 0, else the byte's own and one in each check node.
use mathlib.Core.Path.{◌≡◌, refl, sym, ap, ◌∙◌}
use mathlib.Core.Logic.{◌≢◌}
use mathlib.Core.Bool.{Bool, true, false, cond, not}
use mathlib.Core.List.{List, []}
use Prim.Native.Nat.{ℕ, zero, suc, ◌+◌, ◌-◌, ◌*◌, ◌/◌, ◌%◌, ◌≤◌, ◌<◌}
use native.Mathlib.Decide.{ℕ_discrete, dec_lt}
use native.Mathlib.Nat.{mod-eq_of_lt, mul-le-mul}
use native.Mathlib.Omega.{arith}
use borrow.Author.Tests.{eq-eqb, ne_eqb}
use lib.Arith.{digits_lt, digits_div, digits_mod}
use lib.Dec.{eqb}
use lib.IntN.{ℤ, nat_abs}
use lib.ListN.{length, get_or}
use Rattle.lists.specs.Lists.{tabulate, member, position}
use Rattle.lists.proofs.Tests.{cond_equal, cond_unequal}
use Rattle.lists.proofs.Tables.{tabulate_length, tabulate_at}
use Rattle.lists.proofs.Members.{Rises, member_head, member_tail, member_of, member_none, at_position, tabulate_rises}
use Rattle.lists.proofs.Picked.{picked_only}
use Rattle.lists.proofs.Places.{Place, place_of}
use Rattle.field.proofs.Bridge.{product_moves}
use Rattle.field.proofs.Fields.{pos}
use Rattle.shape.specs.declared.Shape.{Shape}
use Rattle.shape.specs.Shape.{size, byte_values}
use Rattle.code.specs.Code.{Code, GoodCode}
use Rattle.code.specs.Archive.{symbol}
use Rattle.correcting.specs.Signed.{to_residue, change_bad, moved}
use Rattle.correcting.specs.Correcting.{change_factor, corrected, touched, differing}
use Rattle.correcting.proofs.Signed.{Change, change_accepted, residue_small, residue_moves, residue_zero, zero_residue}
use Rattle.correcting.proofs.Factors.{factor_own, factor_other, factor_nonzero, factor_low}
use Rattle.correcting.proofs.Corrected.{corrected_there, corrected_kept, corrected_elsewhere}

-- ---- the places that may differ

module _ (s : Shape) (b : ℕ) (fits : s.k ≤ s.n) (within : b < s.k * size s) where
  abbrev r : ℕ
  r = s.n - s.k

  -- where the j-th check node holds the byte's place
  abbrev check : ℕ → ℕ
  check j = (s.k + j) * size s + b % size s

  at : Place s.k (size s) b
  at = place_of s.k (size s) b within

  check_low : (j : ℕ) → j < s.n - s.k → check j < s.n * size s
  check_low j h = digits_lt (let f : s.k + j < s.n = omega arith in f) at.place

  touched_rises : Rises 0 (s.n * size s) (touched s b)
  unfolding touched
  touched_rises = (
    omega arith,
    omega (arith, mul-le-mul {n₁ = s.k} {m₁ = size s} {n₂ = s.n} {m₂ = size s} fits (omega arith)),
    tabulate_rises (suc b) (s.n * size s) r check
        (omega (arith, mul-le-mul {n₁ = s.k} {m₁ = size s} {n₂ = s.k + 0} {m₂ = size s} (omega arith) (omega arith)))
        check_low
        (λ j. let f : (s.k + suc j) * size s ≡ (s.k + j) * size s + size s = omega arith in omega (arith, f, at.place)),
  )

  pub touched_length : length (touched s b) ≡ s.n - s.k + 1
  unfolding touched
  touched_length = ap suc (tabulate_length r check) ∙ omega arith

  -- "one a node": the byte's own node, and each check node
  pub touched_own : get_or (touched s b) 0 0 / size s ≡ b / size s
  unfolding touched
  touched_own = refl

  pub touched_check : (j : ℕ) → j < s.n - s.k → get_or (touched s b) (suc j) 0 / size s ≡ s.k + j
  unfolding touched
  touched_check j h = ap (λ u. u / size s) (tabulate_at r check j 0 h) ∙ digits_div (s.k + j) at.place

  touched_not : (e : ℕ) → e ≢ b → ((j : ℕ) → j < s.n - s.k → e ≢ check j) → member e (touched s b) ≡ false
  unfolding touched
  touched_not e d n = member_tail e b (tabulate r check) d ∙ go (member e (tabulate r check)) refl
    where
      go : (t : Bool) → member e (tabulate r check) ≡ t → t ≡ false
      go false m = refl
      go true m =
          let v = at_position (tabulate r check) e m in
          let l : position e (tabulate r check) < r = omega (arith, v.0, tabulate_length r check) in
          absurd (n (position e (tabulate r check)) l (sym v.1 ∙ tabulate_at r check _ 0 l))

  -- place p of node i
  touched_elsewhere : (i p : ℕ) → p < size s → p ≢ b % size s → member (i * size s + p) (touched s b) ≡ false
  touched_elsewhere i p l d =
      touched_not (i * size s + p) (λ e. d (sym (digits_mod i l) ∙ ap (λ u. u % size s) e))
      (λ j h e. d (sym (digits_mod i l) ∙ ap (λ u. u % size s) e ∙ digits_mod (s.k + j) at.place))

  touched_other : (i : ℕ) → i < s.k → i ≢ b / size s → member (i * size s + b % size s) (touched s b) ≡ false
  touched_other i h d =
      touched_not (i * size s + b % size s) (λ e. d (sym (digits_div i at.place) ∙ ap (λ u. u / size s) e))
      (λ j l e. omega (arith, sym (digits_div i at.place) ∙ ap (λ u. u / size s) e ∙ digits_div (s.k + j) at.place))

  touched_here : (i : ℕ) → i ≡ b / size s → member (i * size s + b % size s) (touched s b) ≡ true
  unfolding touched
  touched_here i e = member_head _ b (tabulate r check) (ap (λ u. u * size s + b % size s) e ∙ at.whole)

  touched_checks : (i : ℕ) → s.k ≤ i → i < s.n → member (i * size s + b % size s) (touched s b) ≡ true
  unfolding touched
  touched_checks i h l =
      ap (λ u. member u (touched s b)) (sym (tabulate_at r check (i - s.k) 0 (omega arith) ∙ ap (λ u. u * size s + b % size s) (let f : s.k + (i - s.k) ≡ i = omega arith in f)))
      ∙ member_of (touched s b) (suc (i - s.k)) (omega (arith, touched_length))

-- ---- those that do

module _ (c : Code) (s : Shape) (good : GoodCode c s.n) (fits : s.k ≤ s.n) (wide : byte_values ≤ c.modulus) (nodes : List ℕ) (long : length nodes ≡ s.n * size s) (b : ℕ)
    (z : ℤ) (within : b < s.k * size s) (small : (i : ℕ) → i < s.n → symbol s nodes i (b % size s) < c.modulus) (fine : change_bad (get_or nodes b 0) z ≡ false) where
  abbrev q : ℕ
  q = c.modulus

  abbrev N : ℕ
  N = size s

  abbrev d : ℕ
  d = to_residue c.modulus z

  abbrev F : ℕ → ℕ
  F = change_factor c s (b / size s) (b % size s)

  abbrev after : List ℕ
  after = corrected c s nodes b z

  spot : Place s.k (size s) b
  spot = place_of s.k N b within

  known : Change (get_or nodes b 0) z
  known = change_accepted (get_or nodes b 0) z fine

  there : (i : ℕ) → i < s.n → symbol s after i (b % size s) ≡ (symbol s nodes i (b % size s) + d * F i) % q
  there i h = corrected_there c s nodes b z i (b % N) h spot.place refl

  -- the byte's own symbol: the data symbol plus the change
  pub corrected_own : symbol s (corrected c s nodes b z) (b / size s) (b % size s) ≡ moved (symbol s nodes (b / size s) (b % size s)) z
  unfolding symbol
  corrected_own =
      there (b / N) (omega (arith, spot.row))
      ∙ ap (λ u. (get_or nodes (b / N * N + b % N) 0 + d * u) % q) (factor_own c s good fits (b / N) (b % N) spot.row)
      ∙ ap (λ u. u % q) (let f : get_or nodes (b / N * N + b % N) 0 + d * 1 ≡ get_or nodes (b / N * N + b % N) 0 + d = omega arith in f)
      ∙ ap (λ u. (get_or nodes u 0 + d) % q) spot.whole
      ∙ residue_moves q (get_or nodes b 0) z _ (pos q good.prime) known.is ∙ mod-eq_of_lt (omega (arith, known.low))
      ∙ ap (λ u. moved (get_or nodes u 0) z) (sym spot.whole)

  stays : (i : ℕ) → i < s.n → d * F i ≡ 0 → symbol s after i (b % size s) ≡ symbol s nodes i (b % size s)
  stays i h e = corrected_kept c s nodes b z i (b % N) h spot.place refl e (small i h)

  moves : nat_abs z ≢ 0 → (i : ℕ) → i < s.n → F i ≢ 0 → symbol s after i (b % size s) ≢ symbol s nodes i (b % size s)
  moves n i h f e =
      product_moves q good.prime (symbol s nodes i (b % N)) d (F i) (positive d (λ g. n (residue_zero q z wide known.range g))) (residue_small q z (pos q good.prime))
      (positive (F i) f) (factor_low c s good fits (b / N) (b % N) i h) (sym (there i h) ∙ e)
    where
      positive : (x : ℕ) → x ≢ 0 → 0 < x
      positive zero g = absurd (g refl)
      positive (suc x) g = omega arith

  abbrev differs : ℕ → Bool
  differs e = not (eqb (get_or nodes e 0) (get_or after e 0))

  same : (i p : ℕ) → symbol s after i p ≡ symbol s nodes i p → differs (i * size s + p) ≡ false
  unfolding symbol
  same i p e = ap not (eq-eqb _ _ (sym e))

  other : (i p : ℕ) → symbol s after i p ≢ symbol s nodes i p → differs (i * size s + p) ≡ true
  unfolding symbol
  other i p n = ap not (ne_eqb _ _ (λ e. n (sym e)))

  -- each place differs just where the list has it
  all_of : nat_abs z ≢ 0 → (e : ℕ) → e < length nodes → differs e ≡ member e (touched s b)
  all_of n e h = ap differs (sym p.whole) ∙ go (e / N) (e % N) p.row p.place (ℕ_discrete (e % N) (b % N)) ∙ ap (λ u. member u (touched s b)) p.whole
    where
      p : Place s.n N e
      p = place_of s.n N e (omega (arith, long))

      here : (i : ℕ) → i < s.n → Dec (i < s.k) → Dec (i ≡ b / N) → differs (i * N + b % N) ≡ member (i * N + b % N) (touched s b)
      here i l (yes k) (yes g) =
          other i (b % N) (moves n i l (λ f. omega (arith, sym f ∙ ap F g ∙ factor_own c s good fits (b / N) (b % N) spot.row))) ∙ sym (touched_here s b fits within i g)
      here i l (yes k) (no g) =
          same i (b % N) (stays i l (ap (λ u. d * u) (factor_other c s good fits (b / N) (b % N) i k g) ∙ omega arith)) ∙ sym (touched_other s b fits within i k g)
      here i l (no k) _ =
          other i (b % N) (moves n i l (factor_nonzero c s good fits (b / N) (b % N) spot.row i (omega arith) l)) ∙ sym (touched_checks s b fits within i (omega arith) l)

      go : (i place : ℕ) → i < s.n → place < N → Dec (place ≡ b % N) → differs (i * N + place) ≡ member (i * N + place) (touched s b)
      go i place l m (yes g) = rw g (here i l (dec_lt i s.k) (ℕ_discrete i (b / N)))
      go i place l m (no g) = same i place (corrected_elsewhere c s nodes b z i place l m g) ∙ sym (touched_elsewhere s b fits within i place m g)

  none_of : nat_abs z ≡ 0 → (e : ℕ) → e < length nodes → differs e ≡ member e []
  none_of n e h = ap differs (sym p.whole) ∙ same (e / N) (e % N) (go (e / N) (e % N) p.row p.place (ℕ_discrete (e % N) (b % N))) ∙ sym (member_none e)
    where
      p : Place s.n N e
      p = place_of s.n N e (omega (arith, long))

      go : (i place : ℕ) → i < s.n → place < N → Dec (place ≡ b % N) → symbol s after i place ≡ symbol s nodes i place
      go i place l m (yes g) = rw g (stays i l (ap (λ u. u * F i) (zero_residue q z (pos q good.prime) n) ∙ omega arith))
      go i place l m (no g) = corrected_elsewhere c s nodes b z i place l m g

  -- "at most r+1 symbols, one a node, differ: the byte's own and one in each check node"
  pub differing_is : differing nodes (corrected c s nodes b z) ≡ cond (eqb (nat_abs z) 0) [] (touched s b)
  unfolding differing
  differing_is = go (ℕ_discrete (nat_abs z) 0)
    where
      go : Dec (nat_abs z ≡ 0) → differing nodes after ≡ cond (eqb (nat_abs z) 0) [] (touched s b)
      go (yes n) = picked_only differs (length nodes) [] tt (none_of n) ∙ sym (cond_equal [] (touched s b) (nat_abs z) 0 n)
      go (no n) = picked_only differs (length nodes) (touched s b) (rw long (touched_rises s b fits within)) (all_of n) ∙ sym (cond_unequal [] (touched s b) (nat_abs z) 0 n)
