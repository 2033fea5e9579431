-- A number at a place of some bytes, group by group: what stands at the place, and what the groups in front of it make of the number there.
use mathlib.Core.Path.{◌≡◌, refl, sym, ap, ap₂, ◌∙◌}
use mathlib.Core.Bool.{◌&&◌, cond, and-false}
use mathlib.Core.Logic.{◌⊎◌, inl, inr}
use mathlib.Core.List.{List, []}
use Prim.Native.Nat.{ℕ, zero, suc, ◌+◌, ◌*◌, ◌-◌, ◌/◌, ◌%◌, ◌^◌, ◌≤◌, ◌<◌}
use native.Mathlib.Nat.{pow-suc, mul-le-mul_left, pow-le-pow_right}
use native.Mathlib.Decide.{ℕ_discrete}
use native.Mathlib.Omega.{arith}
use borrow.Author.Tests.{lt-ltb, eq-eqb, ne_eqb}
use lib.Dec.{ltb, eqb}
use lib.ListN.{length, get_or, drop, drop_of_length-le, length-drop}
use Rattle.lists.proofs.Tests.{below_or_not, cond_false}
use Rattle.lists.proofs.Scans.{drop_next}
use Rattle.shape.specs.Shape.{byte_values}
use Rattle.std.specs.Prelude.{Option, Some, None}
use Rattle.numbers.specs.declared.Number.{Number}
use Rattle.numbers.specs.Numbers.{read_to, most_groups, group_values, Found, value, malformed, grouped, read_number, placed, number_at}
use Rattle.numbers.proofs.Numbers.{read_one, read_more}

-- what a number is with `groups` groups of the value `low` in front; a form that is not the shortest ends in a group 0
unfoldable pub continued : ℕ → ℕ → Option Number → Option Number
continued groups low None = None
continued groups low (Some x) = cond (ltb 0 groups && eqb x.value 0) None (read_to (low + group_values ^ groups * x.value) x.next)

continued_none : (x : Option Number) → x ≡ continued 0 0 x
unfolding continued
continued_none None = refl
continued_none (Some x) = ap (λ w. read_to w x.next) (let e : x.value ≡ 0 + 1 * x.value = omega arith in e)

module _ (groups low : ℕ) where
  continued_bad : continued groups low None ≡ None
  unfolding continued
  continued_bad = refl

  continued_zero : (v next : ℕ) → 0 < groups → v ≡ 0 → continued groups low (read_to v next) ≡ None
  unfolding continued
  continued_zero v next h z = rw (lt-ltb 0 groups h, eq-eqb v 0 z)

  continued_read : (v next : ℕ) → 0 < v → continued groups low (read_to v next) ≡ read_to (low + group_values ^ groups * v) next
  unfolding continued
  continued_read v next h = rw (ne_eqb v 0 (omega arith), and-false (ltb 0 groups))

worth_next : (groups : ℕ) → group_values ^ (groups + 1) ≡ group_values ^ groups * group_values
worth_next groups = ap (λ g. group_values ^ g) (let e : groups + 1 ≡ suc groups = omega arith in e) ∙ pow-suc group_values groups

-- one group more in front
continued_more : (groups low l long : ℕ) (f : Found)
    → continued groups low (placed long (grouped l f)) ≡ continued (groups + 1) (low + group_values ^ groups * l) (placed long f)
unfolding placed grouped
continued_more groups low l long malformed = continued_bad groups low ∙ sym (continued_bad _ _)
continued_more groups low l long (value v rest) = go (ℕ_discrete v 0)
  where
    next : ℕ
    next = long - length rest

    go : Dec (v ≡ 0)
        → continued groups low (placed long (cond (eqb v 0) malformed (value (l + group_values * v) rest))) ≡ continued (groups + 1) (low + group_values ^ groups * l) (read_to v next)
    go (yes z) = rw (eq-eqb v 0 z) (continued_bad groups low ∙ sym (continued_zero _ _ v next (omega arith) z))
    go (no z) =
        rw (ne_eqb v 0 z)
        (continued_read groups low (l + group_values * v) next (omega (arith, z))
        ∙ ap (λ w. read_to w next) (rw (worth_next groups) (omega arith))
        ∙ sym (continued_read (groups + 1) (low + group_values ^ groups * l) v next (omega (arith, z))))

pub read_none : (groups : ℕ) → read_number groups [] ≡ malformed
unfolding read_number
read_none zero = refl
read_none (suc groups) = refl

-- at a place: no byte, a last group, another
pub at_cut : (groups : ℕ) (bytes : List ℕ) (at : ℕ) → length bytes ≤ at → number_at groups bytes at ≡ None
unfolding number_at placed
at_cut groups bytes at h = rw (drop_of_length-le bytes h, read_none groups)

module _ (groups : ℕ) (bytes : List ℕ) (at : ℕ) (inside : at < length bytes) where
  at_one : get_or bytes at 0 < group_values → number_at (suc groups) bytes at ≡ read_to (get_or bytes at 0) (at + 1)
  unfolding number_at placed
  at_one h =
      rw (drop_next bytes at 0 inside, read_one groups (get_or bytes at 0) (drop (at + 1) bytes) h, length-drop (at + 1) bytes)
      (ap (read_to (get_or bytes at 0)) (let e : length bytes - (length bytes - (at + 1)) ≡ at + 1 = omega arith in e))

  at_more : (read low : ℕ) → group_values ≤ get_or bytes at 0
      → continued read low (number_at (suc groups) bytes at) ≡ continued (read + 1) (low + group_values ^ read * (get_or bytes at 0 - group_values)) (number_at groups bytes (at + 1))
  unfolding number_at
  at_more read low h =
      rw (drop_next bytes at 0 inside, read_more groups (get_or bytes at 0) (drop (at + 1) bytes) h)
      (continued_more read low (get_or bytes at 0 - group_values) (length bytes) (read_number groups (drop (at + 1) bytes)))

-- where reading stands in the number at a place: `groups` groups were read, of the value `low`; the next stands at `place` and is worth `worth`
pub record Reading (bytes : List ℕ) (at low worth place groups : ℕ) : Type 0 where
  pub few : groups ≤ most_groups
  pub power : worth ≡ group_values ^ groups
  pub small : low < worth
  pub whole : number_at most_groups bytes at ≡ continued groups low (number_at (most_groups - groups) bytes place)

pub reading_first : (bytes : List ℕ) (at : ℕ) → Reading bytes at 0 1 at 0
reading_first bytes at = record { few = omega arith; power = refl; small = omega arith; whole = continued_none (number_at most_groups bytes at) }

module _ {bytes : List ℕ} {at low worth place groups : ℕ} (r : Reading bytes at low worth place groups) where
  -- with any byte for a group, the number is small
  pub reading_fits : (b : ℕ) → b < byte_values → low + worth * b < group_values ^ most_groups * byte_values
  reading_fits b h =
      omega (
        arith,
        r.power,
        r.small,
        pow-le-pow_right {n = group_values} (omega arith) {i = groups} {j = most_groups} r.few,
        mul-le-mul_left {m = b} {n = byte_values - 1} worth (omega arith),
      )

  -- no number: too many groups, or cut short
  pub reading_long : most_groups ≤ groups → None ≡ number_at most_groups bytes at
  reading_long h = let none : most_groups - groups ≡ 0 = omega arith in sym (r.whole ∙ rw none (unfold number_at read_number placed continued in refl))

  pub reading_cut : length bytes ≤ place → None ≡ number_at most_groups bytes at
  reading_cut h = sym (r.whole ∙ ap (continued groups low) (at_cut (most_groups - groups) bytes place h) ∙ continued_bad groups low)

  module _ (inside : place < length bytes) (more : groups < most_groups) (b : ℕ) (here : b ≡ get_or bytes place 0) where
    same : number_at most_groups bytes at ≡ continued groups low (number_at (suc (most_groups - (groups + 1))) bytes place)
    same =
        let left : most_groups - groups ≡ suc (most_groups - (groups + 1)) = omega arith in
        r.whole ∙ ap (λ g. continued groups low (number_at g bytes place)) left

    -- the last group, and another
    pub reading_last : b < group_values
        → cond (ltb 0 groups && eqb b 0) None (read_to (low + worth * b) (place + 1)) ≡ number_at most_groups bytes at
    unfolding continued
    reading_last h = sym (same ∙ ap (continued groups low) (at_one _ bytes place inside (omega arith)) ∙ rw (← here, ← r.power))

    pub reading_next : group_values ≤ b → b < byte_values → Reading bytes at (low + worth * (b - group_values)) (worth * group_values) (place + 1) (groups + 1)
    reading_next h small = record {
      few = omega arith;
      power = ap (λ w. w * group_values) r.power ∙ sym (worth_next groups);
      small = omega (arith, r.small, mul-le-mul_left {m = b - group_values} {n = group_values - 1} worth (omega arith));
      whole = same ∙ at_more _ bytes place inside groups low (omega arith) ∙ rw (← here, ← r.power);
    }

-- a number of one group, or of two: `more` is 1 where there are two
pub read_two : (bytes : List ℕ) (at b c more high : ℕ) → at + 1 < length bytes → b ≡ get_or bytes at 0 → c ≡ get_or bytes (at + 1) 0 → b < byte_values
    → more ≡ b / group_values → high ≡ more * c → more ≤ high → high < group_values
    → read_to (b % group_values + group_values * high) (at + 1 + more) ≡ number_at most_groups bytes at
read_two bytes at b c more high inside here there small m h low lead = go (below_or_not b group_values)
  where
    first : Reading bytes at 0 1 at 0
    first = reading_first bytes at

    go : (b < group_values) ⊎ (group_values ≤ b) → read_to (b % group_values + group_values * high) (at + 1 + more) ≡ number_at most_groups bytes at
    go (inl l) =
        let none : more ≡ 0 = omega arith in
        let e : high ≡ 0 * c = h ∙ ap (λ x. x * c) none in
        ap₂ read_to (omega arith) (omega arith) ∙ reading_last first (omega arith) (omega arith) b here l
    go (inr l) =
        let one : more ≡ 1 = omega arith in
        let e : high ≡ 1 * c = h ∙ ap (λ x. x * c) one in
        let second = reading_next first (omega arith) (omega arith) b here l small in
        ap₂ read_to (omega arith) (omega arith) ∙ sym (cond_false _ _ _ (ne_eqb c 0 (omega arith)))
        ∙ reading_last second inside (omega arith) c there (omega arith)
