-- A loop that reads numbers into a slice: which are read, and at which place the others stand.
use mathlib.Core.Path.{◌≡◌, refl, ◌∙◌}
use mathlib.Core.List.{List}
use Prim.Native.Nat.{ℕ, suc, ◌+◌, ◌-◌, ◌≤◌, ◌<◌}
use native.Mathlib.Numerals.{add-one}
use native.Mathlib.Nat.{sub-zero}
use native.Mathlib.Omega.{arith}
use lib.ListN.{length, set, take, drop, length-set}
use lib.Seq.{take-suc-set, take_all}
use Rattle.std.specs.Prelude.{Some, None}
use Rattle.numbers.specs.Numbers.{most_groups, read_to, then_numbers, number_at, read_numbers, numbers_by}
use Rattle.numbers.proofs.Places.{number_bad, number_read}
use Rattle.card.proofs.Reading.{ahead, ahead_none, ahead_one, ahead_broken, ahead_values}
use Rattle.plan.specs.Promises.{numbers_of}

-- the first i numbers from a place on are read into a slice, and the next is at `at`
pub record Reading (bytes : List ℕ) (start : ℕ) (old now : List ℕ) (i at : ℕ) : Type 0 where
  pub long : length now ≡ length old
  pub whole : read_numbers (length old) (drop start bytes) ≡ ahead (take i now) (read_numbers (length old - i) (drop at bytes))

pub reading_none : (bytes : List ℕ) (start : ℕ) (old : List ℕ) → Reading bytes start old old 0 start
reading_none bytes start old = record { long = refl; whole = rw (sub-zero (length old)) (ahead_none _) }

module _ {bytes : List ℕ} {start : ℕ} {old now : List ℕ} {i at : ℕ} (w : Reading bytes start old now i at) where
  one_more : i < length now → length old - i ≡ suc (length old - (i + 1))
  one_more h = omega (arith, w.long)

  pub reading_bad : i < length now → number_at most_groups bytes at ≡ None → read_numbers (length old) (drop start bytes) ≡ numbers_of bytes now None
  unfolding numbers_by then_numbers numbers_of
  reading_bad h e = w.whole ∙ rw (one_more h, number_bad most_groups bytes at e) (ahead_broken (take i now))

  pub reading_next : {v next : ℕ} → i < length now → number_at most_groups bytes at ≡ read_to v next → Reading bytes start old (set now i v) (i + 1) next
  unfolding numbers_by then_numbers
  reading_next {v} {next} h e = record {
    long = length-set now i v ∙ w.long;
    whole =
        w.whole
        ∙ rw (one_more h, number_read most_groups bytes at v next e, add-one i, take-suc-set now i v h)
        (ahead_one (take i now) v (read_numbers (length old - suc i) (drop next bytes)));
  }

  pub reading_end : length now ≤ i → read_numbers (length old) (drop start bytes) ≡ numbers_of bytes now (Some at)
  unfolding numbers_by numbers_of
  reading_end h = w.whole ∙ rw ((let e : length old - i ≡ 0 = omega (arith, w.long) in e), take_all i now h) (ahead_values now (drop at bytes))
