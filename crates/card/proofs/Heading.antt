-- The header read by places: five numbers that stand anywhere, and the numbers in front of a card, whose first says how many there are.
use mathlib.Core.Path.{◌≡◌, refl, sym, ap, ◌∙◌}
use mathlib.Core.Logic.{◌≢◌}
use mathlib.Core.List.{List, [], ◌∷◌, ◌++◌}
use Prim.Native.Nat.{ℕ, zero, suc, ◌+◌, ◌≤◌}
use native.Mathlib.Omega.{arith}
use lib.ListN.{length, get_or, drop}
use lib.Seq.{get_or-append_seam}
use Rattle.std.specs.Prelude.{None}
use Rattle.card.specs.declared.Header.{Header}
use Rattle.numbers.specs.Numbers.{most_groups, read_to, Found, value, malformed, read_number, Numbers, values, broken, and_then, then_numbers, number_at, read_numbers, numbers_by}
use Rattle.card.specs.Cards.{plain_count, hearing_lead, long_count, header_with, header_of, front_by, front_of, plain_of, fronted}
use Rattle.numbers.proofs.Numbers.{numbers_count}
use Rattle.numbers.proofs.Places.{number_bad, number_read}
use Rattle.card.proofs.Fronts.{header_plain, header_long, least_plain, least_long, led_leads, front_none, front_another, front_lead, another_leads, five}
use Rattle.card.proofs.Reading.{fronted_same, ahead, ahead_broken, ahead_append, Begun, begun, begun_next, begun_bad, begun_end, behind, numbers_behind}

-- ---- five numbers that stand anywhere

module _ {all : Numbers} {bytes : List ℕ} {at : ℕ} where
  pub plain_bad : {left : ℕ} (b : Begun all bytes (suc left) at) → number_at most_groups bytes at ≡ None → None ≡ plain_of (length bytes) all
  unfolding plain_of
  plain_bad b e = sym (ap (plain_of (length bytes)) (begun_bad b e))

  pub plain_end : (b : Begun all bytes 0 at) → fronted (header_with 0 b.numbers) 0 at ≡ plain_of (length bytes) all
  unfolding plain_of
  plain_end b = sym (ap (plain_of (length bytes)) (begun_end b) ∙ ap (fronted (header_with 0 b.numbers) 0) (behind bytes at b.inside))

-- numbers that are read in two parts
unfoldable joined : Numbers → ℕ → Numbers
joined broken more = broken
joined (values xs rest) more = ahead xs (read_numbers more rest)

joined_then : (v : ℕ) (n : Numbers) (more : ℕ) → and_then v (joined n more) ≡ joined (and_then v n) more
unfolding joined and_then ahead
joined_then v broken more = refl
joined_then v (values xs rest) more = refl

numbers_parts : (count more all : ℕ) (bytes : List ℕ) → all ≡ count + more → read_numbers all bytes ≡ joined (read_numbers count bytes) more
unfolding numbers_by then_numbers joined ahead
numbers_parts zero more all bytes e = ap (λ n. read_numbers n bytes) (let d : all ≡ more = omega arith in d)
numbers_parts (suc count) more zero bytes e = absurd (omega arith)
numbers_parts (suc count) more (suc all) bytes e = go (read_number most_groups bytes) (λ r. numbers_parts count more all r (omega arith))
  where
    go : (f : Found) → ((r : List ℕ) → read_numbers all r ≡ joined (read_numbers count r) more)
        → then_numbers f (read_numbers all) ≡ joined (then_numbers f (read_numbers count)) more
    go malformed ih = refl
    go (value v r) ih = ap (and_then v) (ih r) ∙ joined_then v (read_numbers count r) more

-- ---- the numbers in front of a card

-- the header of a leading 1, five numbers and a hearing number
led_header : (xs : List ℕ) (hearing : ℕ) → length xs ≡ plain_count → header_of (hearing_lead ∷ (xs ++ hearing ∷ [])) ≡ header_with hearing xs
led_header xs hearing long = header_long _ (led_leads (xs ++ hearing ∷ [])) ∙ ap (λ g. header_with g (xs ++ hearing ∷ [])) seam ∙ front
  where
    seam : get_or (hearing_lead ∷ (xs ++ hearing ∷ [])) 6 0 ≡ hearing
    seam = ap (λ i. get_or (xs ++ hearing ∷ []) i 0) (sym long) ∙ get_or-append_seam xs hearing [] 0

    front : header_with hearing (xs ++ hearing ∷ []) ≡ header_with hearing xs
    front = unfold header_with in rw (five xs (omega arith)).same refl

module _ (bytes : List ℕ) where
  pub front_bad : front_by most_groups bytes ≡ broken → None ≡ front_of (length bytes) (front_by most_groups bytes)
  unfolding front_of
  front_bad e = rw e refl

  pub front_nothing : number_at most_groups bytes 0 ≡ None → front_by most_groups bytes ≡ broken
  front_nothing e = front_none most_groups bytes (number_bad most_groups bytes 0 e)

  pub front_plain : (v next : ℕ) → number_at most_groups bytes 0 ≡ read_to v next → v ≢ hearing_lead
      → plain_of (length bytes) (read_numbers plain_count (drop 0 bytes)) ≡ front_of (length bytes) (front_by most_groups bytes)
  unfolding plain_of front_of
  front_plain v next e d = go (read_numbers plain_count bytes) refl ∙ sym (ap (front_of (length bytes)) (front_another most_groups bytes v (drop next bytes) read d))
    where
      read : read_number most_groups bytes ≡ value v (drop next bytes)
      read = number_read most_groups bytes 0 v next e

      go : (n : Numbers) → read_numbers plain_count bytes ≡ n → plain_of (length bytes) n ≡ front_of (length bytes) n
      go broken q = refl
      go (values xs rest) q =
          let t = another_leads most_groups bytes v (drop next bytes) xs rest read d q in
          rw (header_plain xs t, least_plain xs t) refl

  -- a leading 1: six numbers are left
  module _ (start : ℕ) (e : number_at most_groups bytes 0 ≡ read_to hearing_lead start) where
    led : Begun (front_by most_groups bytes) bytes 6 start
    led =
        let b = begun_next (begun bytes long_count 0 (omega arith)) e in
        record { numbers = b.numbers; whole = front_lead most_groups bytes (drop start bytes) (number_read most_groups bytes 0 hearing_lead start e) ∙ b.whole; inside = b.inside }

    pub led_bad : plain_of (length bytes) (read_numbers plain_count (drop start bytes)) ≡ None → front_by most_groups bytes ≡ broken
    unfolding plain_of joined
    led_bad q =
        led.whole ∙ ap (ahead led.numbers) (numbers_parts plain_count 1 6 (drop start bytes) (omega arith) ∙ ap (λ n. joined n 1) (go (read_numbers plain_count (drop start bytes)) q))
        ∙ ahead_broken led.numbers
      where
        go : (n : Numbers) → plain_of (length bytes) n ≡ None → n ≡ broken
        go broken q = refl
        go (values xs rest) q = absurd (let z : ◌≡◌ {A = ℕ} 0 1 = cc in omega arith)

    -- five more were read: the hearing number is left
    pub record Led (plain : Header) (at : ℕ) : Type 0 where
      pub numbers : List ℕ
      pub plain_is : plain ≡ header_with 0 numbers
      pub long : length numbers ≡ plain_count
      pub whole : front_by most_groups bytes ≡ ahead (hearing_lead ∷ numbers) (read_numbers 1 (drop at bytes))
      pub inside : at ≤ length bytes

    pub led_read : (plain : Header) (none at : ℕ) → plain_of (length bytes) (read_numbers plain_count (drop start bytes)) ≡ fronted plain none at → Led plain at
    unfolding plain_of joined ahead led
    led_read plain none at q = go (read_numbers plain_count (drop start bytes)) refl q
      where
        go : (n : Numbers) → read_numbers plain_count (drop start bytes) ≡ n → plain_of (length bytes) n ≡ fronted plain none at → Led plain at
        go broken d q = absurd (let z : ◌≡◌ {A = ℕ} 0 1 = cc in omega arith)
        go (values xs rest) d q =
            let same = fronted_same q in
            let place = same.2 in
            let tail : rest ≡ drop at bytes = numbers_behind plain_count bytes start xs rest d ∙ ap (λ k. drop k bytes) place in
            record {
              numbers = xs;
              plain_is = sym same.0;
              long = numbers_count most_groups plain_count (drop start bytes) xs rest d;
              whole =
                  led.whole ∙ ap (ahead led.numbers) (numbers_parts plain_count 1 6 (drop start bytes) (omega arith) ∙ ap (λ n. joined n 1) d)
                  ∙ ahead_append led.numbers xs (read_numbers 1 rest) ∙ ap (λ l. ahead (hearing_lead ∷ xs) (read_numbers 1 l)) tail;
              inside = omega arith;
            }

    -- and that is read
    module _ (plain : Header) (at : ℕ) (w : Led plain at) where
      last : Begun (front_by most_groups bytes) bytes 1 at
      last = record { numbers = hearing_lead ∷ w.numbers; whole = w.whole; inside = w.inside }

      pub last_bad : number_at most_groups bytes at ≡ None → front_by most_groups bytes ≡ broken
      last_bad q = begun_bad last q

      pub last_read : (hearing next : ℕ) → number_at most_groups bytes at ≡ read_to hearing next
          → fronted (record { shape = plain.shape; node = plain.node; len = plain.len; hearing = hearing }) 1 next ≡ front_of (length bytes) (front_by most_groups bytes)
      unfolding front_of header_with last
      last_read hearing next q =
          let b = begun_next last q in
          let xs = w.numbers in
          let header = ap (λ p. fronted (record { shape = p.shape; node = p.node; len = p.len; hearing = hearing }) 1 next) w.plain_is in
          header ∙ sym (ap (front_of (length bytes)) (begun_end b)
          ∙ rw (behind bytes next b.inside, led_header xs hearing w.long, least_long _ (led_leads (xs ++ hearing ∷ []))) refl)
