-- What is promised of opening stretches: where it is turned back, where it does its work, and what follows in the request's words.
use mathlib.Core.Path.{◌≡◌, refl, sym, ap, ap₂, ◌∙◌}
use mathlib.Core.Logic.{◌⊎◌, inl, inr, ◌↔◌, ◌≢◌}
use mathlib.Core.Bool.{Bool, true, false, not, ◌||◌, true≢false}
use mathlib.Core.List.{List, [], ◌∷◌}
use Prim.Native.Nat.{ℕ, zero, suc, ◌+◌, ◌-◌, ◌*◌, ◌%◌, ◌^◌, ◌≤◌, ◌<◌}
use native.Mathlib.Nat.{mod-lt, mul-le-mul_left}
use native.Mathlib.Omega.{arith}
use borrow.Author.Tests.{ltb-false, eqb-true, not-false}
use lib.Arith.{digits_lt}
use lib.Dec.{ltb}
use lib.ListN.{length, get_or, take, drop, length-drop}
use lib.Seq.{ext_get_or, get_or-take, get_or-drop, length-take-le}
use Rattle.lists.specs.Lists.{rising}
use Rattle.lists.proofs.Tests.{neither, true_or_false}
use Rattle.shape.specs.declared.Shape.{Shape}
use Rattle.shape.specs.declared.Refusal.{Refusal}
use Rattle.std.specs.Prelude.{Result, Ok, Err}
use Rattle.shape.specs.Shape.{size, byte_values}
use Rattle.shape.specs.Refusals.{refuse, shape_bad, nodes_bad, wrong_length, symbol_bad, number_of, afterwards, answer_number, answer_values}
use Rattle.shape.proofs.Accepted.{passed, shape_accepted, nodes_accepted, symbols_low}
use Rattle.shape.proofs.Answers.{number_positive, afterwards_done, afterwards_refused}
use Rattle.code.specs.Code.{narrow}
use Rattle.code.specs.Archive.{symbol, data_of, is_transcript}
use Rattle.code.specs.Refusals.{open_input_refusal, data_refusal, open_refusal}
use Rattle.code.specs.Promises.{Opens}
use Rattle.code.proofs.Accepted.{Openable, open_accepted, open_passed}
use Rattle.code.proofs.Opened.{split_iff, opened_length}
use Rattle.stretches.specs.Stretches.{stretch_count, stretch_start, stretch_length, bytes_before, bytes_wanted, joined, touched, column_list, symbols_read}
use Rattle.stretches.specs.Refusals.{stretches_bad, past_end, touched_bad, wanted_bad, stretches_size_refusal, stretches_data_refusal, stretches_refusal}
use Rattle.stretches.specs.Promises.{StandsAt, SameTouched, Gives, OpensStretches}
use Rattle.stretches.specs.Steps.{Bounded, byte_at, Legible}
use Rattle.stretches.proofs.Wanted.{wanted_whole, comes_out, out_wanted, before_grows, joined_length, joined_at, wanted_touches, touched_wanted}
use Rattle.stretches.proofs.Touching.{columns_rising, columns_few}
use Rattle.stretches.proofs.Judging.{shape_small, stretches_accepted, past_none, wanted_bounded, AllLow, touched_low, low_touched, touched_high}
use Rattle.stretches.proofs.Alone.{data_alone}

-- ---- what is judged before a symbol is looked at

-- what is known where it passes
pub record Sized (s : Shape) (list : List ℕ) (held len : ℕ) (st : List ℕ) (room entries : ℕ) : Type 0 where
  pub shape : shape_bad s ≡ false
  pub count : length list ≡ s.k
  pub up : rising 0 s.n list ≡ true
  pub long : held ≡ s.k * size s
  pub fits : len ≤ s.k * size s
  pub few : Bounded st len
  pub bounded : Bounded st (s.k * size s)
  pub whole : room ≡ bytes_wanted st
  pub columns : entries ≡ size s
  pub then : (rest : ℕ) → stretches_size_refusal s list held len st room entries rest ≡ rest

module _ (s : Shape) (list : List ℕ) (held len : ℕ) (st : List ℕ) (room entries : ℕ) where
  pub sizes_accepted : stretches_size_refusal s list held len st room entries 0 ≡ 0 → Sized s list held len st room entries
  unfolding stretches_size_refusal wrong_length
  sizes_accepted e =
      let one = passed (shape_bad s) 0 _ e in
      let two = passed (nodes_bad s.n s.k list) 1 _ one.1 in
      let four = passed (wrong_length held (s.k * size s) || ltb (s.k * size s) len || stretches_bad st room || wrong_length entries (size s)) 3 _ two.1 in
      let nine = passed (past_end st len) 8 0 four.1 in
      let d = neither (wrong_length held (s.k * size s) || ltb (s.k * size s) len || stretches_bad st room) (wrong_length entries (size s)) four.0 in
      let c = neither (wrong_length held (s.k * size s) || ltb (s.k * size s) len) (stretches_bad st room) d.0 in
      let b = neither (wrong_length held (s.k * size s)) (ltb (s.k * size s) len) c.0 in
      let listed = nodes_accepted s.n s.k list two.0 in
      let few = stretches_accepted st room c.1 in
      let ends = past_none st len nine.0 in
      let l : len ≤ s.k * size s = ltb-false _ _ b.1 in
      record {
        shape = one.0;
        count = listed.0;
        up = listed.1;
        long = eqb-true _ _ (not-false _ b.0);
        fits = l;
        few = record { few = few.0; ends = ends };
        bounded = record { few = few.0; ends = λ m h. omega (arith, ends m h) };
        whole = few.1;
        columns = eqb-true _ _ (not-false _ d.1);
        then = λ rest. rw (one.0, two.0, four.0, nine.0);
      }

  -- what comes later has a part only where it passes
  sizes_same : (x y : ℕ) → (stretches_size_refusal s list held len st room entries 0 ≡ 0 → x ≡ y)
      → stretches_size_refusal s list held len st room entries x ≡ stretches_size_refusal s list held len st room entries y
  unfolding stretches_size_refusal
  sizes_same x y =
      go (shape_bad s) (nodes_bad s.n s.k list) (wrong_length held (s.k * size s) || ltb (s.k * size s) len || stretches_bad st room || wrong_length entries (size s)) (past_end st len)
    where
      go : (a b c d : Bool) → (refuse a 1 (refuse b 2 (refuse c 4 (refuse d 9 0))) ≡ 0 → x ≡ y)
          → refuse a 1 (refuse b 2 (refuse c 4 (refuse d 9 x))) ≡ refuse a 1 (refuse b 2 (refuse c 4 (refuse d 9 y)))
      go true b c d h = refl
      go false true c d h = refl
      go false false true d h = refl
      go false false false true h = refl
      go false false false false h = h refl

  pub sizes_turned : (rest : ℕ) → stretches_size_refusal s list held len st room entries 0 ≢ 0
      → stretches_size_refusal s list held len st room entries rest ≡ stretches_size_refusal s list held len st room entries 0
  sizes_turned rest h = sizes_same rest 0 (λ e. absurd (h e))

  sizes_passed : (rest : ℕ) → stretches_size_refusal s list held len st room entries rest ≡ 0 → Sized s list held len st room entries
  unfolding stretches_size_refusal
  sizes_passed rest e =
      let one = passed (shape_bad s) 0 _ e in
      let two = passed (nodes_bad s.n s.k list) 1 _ one.1 in
      let four = passed (wrong_length held (s.k * size s) || ltb (s.k * size s) len || stretches_bad st room || wrong_length entries (size s)) 3 _ two.1 in
      let nine = passed (past_end st len) 8 rest four.1 in
      sizes_accepted (rw (one.0, two.0, four.0, nine.0))

refusal_passed : (s : Shape) (list symbols : List ℕ) (len : ℕ) (st : List ℕ) (room entries : ℕ) → stretches_refusal narrow s list symbols len st room entries ≡ 0
    → Sized s list (length symbols) len st room entries
unfolding stretches_refusal
refusal_passed s list symbols len st room entries e = sizes_passed s list (length symbols) len st room entries _ e

-- what 5 and 7 then say
module _ (s : Shape) (list symbols : List ℕ) (len : ℕ) (st : List ℕ) (room entries : ℕ) (w : Sized s list (length symbols) len st room entries) where
  pub sized_legible : touched_bad narrow s symbols st ≡ false → Legible s list symbols st
  sized_legible e = record { shape = w.shape; up = w.up; count = w.count; long = w.long; bounded = w.bounded; small = low_touched narrow s symbols st e }

  refusal_is : (five seven : Bool) → touched_bad narrow s symbols st ≡ five → wanted_bad narrow s list symbols st ≡ seven
      → stretches_refusal narrow s list symbols len st room entries ≡ refuse five 5 (refuse seven 7 0)
  unfolding stretches_refusal stretches_data_refusal
  refusal_is five seven e f = w.then _ ∙ ap₂ (λ x y. refuse x 5 (refuse y 7 0)) e f

  pub refused_five : touched_bad narrow s symbols st ≡ true → 5 ≡ stretches_refusal narrow s list symbols len st room entries
  refused_five e = sym (refusal_is true _ e refl)

  pub refused_seven : touched_bad narrow s symbols st ≡ false → wanted_bad narrow s list symbols st ≡ true → 7 ≡ stretches_refusal narrow s list symbols len st room entries
  refused_seven e f = sym (refusal_is false true e f)

  pub refused_none : touched_bad narrow s symbols st ≡ false → wanted_bad narrow s list symbols st ≡ false → stretches_refusal narrow s list symbols len st room entries ≡ 0
  refused_none e f = refusal_is false false e f

-- a buffer is what it was, or what both make of it
afterwards_same : (number : ℕ) (before x y : List ℕ) → (number ≡ 0 → x ≡ y) → afterwards number before x ≡ afterwards number before y
unfolding afterwards
afterwards_same zero before x y h = h refl
afterwards_same (suc number) before x y h = refl

-- ---- what the call gives

module _ (s : Shape) (list symbols : List ℕ) (len : ℕ) (st before columns : List ℕ) where
  abbrev number : ℕ
  number = stretches_refusal narrow s list symbols len st (length before) (length columns)

  gives_refused : (cause : Refusal) → number_of cause ≡ stretches_refusal narrow s list symbols len st (length before) (length columns)
      → Gives s list symbols len st before before columns columns (Err cause)
  gives_refused cause e = record {
    number = e;
    bytes = sym (afterwards_refused before _ cause number e);
    list_after = sym (afterwards_refused columns _ cause number e);
    count = sym (afterwards_refused [] _ cause number e);
  }

  gives_done : (after columns_after : List ℕ) → stretches_refusal narrow s list symbols len st (length before) (length columns) ≡ 0
      → after ≡ joined st (data_of narrow s list symbols) → columns_after ≡ column_list s st
      → Gives s list symbols len st before after columns columns_after (Ok (symbols_read s st))
  gives_done after columns_after e f g = record {
    number = sym e;
    bytes = f ∙ sym (afterwards_done before _ number e);
    list_after = g ∙ sym (afterwards_done columns _ number e);
    count = sym (afterwards_done [] _ number e);
  }

-- ---- other columns have no part in it

module _ (s : Shape) (list symbols other st : List ℕ) (same : SameTouched s st symbols other) where
  low_same : AllLow narrow s symbols st → AllLow narrow s other st
  low_same low j column h l t = rw (same.same j column h l t) (low j column h l t)

  same_low : AllLow narrow s other st → AllLow narrow s symbols st
  same_low low j column h l t = rw (← same.same j column h l t) (low j column h l t)

  touched_same : touched_bad narrow s other st ≡ touched_bad narrow s symbols st
  touched_same = go (true_or_false (touched_bad narrow s symbols st))
    where
      go : (touched_bad narrow s symbols st ≡ true) ⊎ (touched_bad narrow s symbols st ≡ false) → touched_bad narrow s other st ≡ touched_bad narrow s symbols st
      go (inl e) = touched_high narrow s other st (λ low. true≢false (sym e ∙ touched_low narrow s symbols st (same_low low))) ∙ sym e
      go (inr e) = touched_low narrow s other st (low_same (low_touched narrow s symbols st e)) ∙ sym e

  module _ (count : length list ≡ s.k) (shape : shape_bad s ≡ false) (bounded : Bounded st (s.k * size s)) where
    joined_same : joined st (data_of narrow s list other) ≡ joined st (data_of narrow s list symbols)
    joined_same =
        ext_get_or 0 _ _ (joined_length st (data_of narrow s list other) ∙ sym (joined_length st (data_of narrow s list symbols))) (λ e h.
        let l : e < bytes_wanted st = rw (joined_length st (data_of narrow s list other)) at h in
        let w = out_wanted st e l in
        let b = byte_at st e in
        joined_at st (data_of narrow s list other) e l
        ∙ data_alone narrow s list symbols other count b (omega (arith, (shape_accepted s shape).k_high)) (wanted_bounded st (s.k * size s) bounded b w)
        (λ j g. same.same j (b % size s) g (mod-lt b (shape_accepted s shape).size_low) (wanted_touches st s b w))
        ∙ sym (joined_at st (data_of narrow s list symbols) e l))

    data_same : stretches_data_refusal narrow s list other st ≡ stretches_data_refusal narrow s list symbols st
    unfolding stretches_data_refusal wanted_bad
    data_same = ap₂ (λ x y. refuse x 5 (refuse (symbol_bad byte_values y) 7 0)) touched_same joined_same

  refusal_same : (len room entries : ℕ) → stretches_refusal narrow s list other len st room entries ≡ stretches_refusal narrow s list symbols len st room entries
  unfolding stretches_refusal
  refusal_same len room entries =
      ap (λ z. stretches_size_refusal s list z len st room entries (stretches_data_refusal narrow s list other st)) same.long
      ∙ sizes_same s list (length symbols) len st room entries _ _ (λ e.
      let w = sizes_accepted s list (length symbols) len st room entries e in data_same w.count w.shape w.bounded)

  gives_same : (len : ℕ) (before after columns columns_after : List ℕ) (answer : Result ℕ Refusal) → Gives s list symbols len st before after columns columns_after answer
      → Gives s list other len st before after columns columns_after answer
  gives_same len before after columns columns_after answer g = record {
    number = g.number ∙ sym e;
    bytes = g.bytes ∙ afterwards_same _ before _ _ made ∙ ap (λ z. afterwards z before (joined st (data_of narrow s list other))) (sym e);
    list_after = g.list_after ∙ ap (λ z. afterwards z columns (column_list s st)) (sym e);
    count = g.count ∙ ap (λ z. afterwards z [] (symbols_read s st ∷ [])) (sym e);
  }
    where
      e : stretches_refusal narrow s list other len st (length before) (length columns) ≡ stretches_refusal narrow s list symbols len st (length before) (length columns)
      e = refusal_same len (length before) (length columns)

      made : stretches_refusal narrow s list symbols len st (length before) (length columns) ≡ 0 → joined st (data_of narrow s list symbols) ≡ joined st (data_of narrow s list other)
      made z =
          let w = refusal_passed s list symbols len st (length before) (length columns) z in
          sym (joined_same w.count w.shape w.bounded)

-- ---- where `open` opens

module _ (s : Shape) (list symbols : List ℕ) (len : ℕ) (st before columns room transcript : List ℕ) (o : Opens s list symbols len room transcript (Ok tt))
    (w : Sized s list (length symbols) len st (length before) (length columns)) where
  abbrev symbols_of : List ℕ
  symbols_of = data_of narrow s list symbols

  input : (open_input_refusal narrow s list symbols len (length room) 0 ≡ 0) × (data_refusal narrow s list symbols len ≡ 0)
  unfolding open_refusal
  input = open_passed s list symbols len (length room) _ (sym o.number)

  able : Openable s list symbols len (length room)
  able = open_accepted s list symbols len (length room) input.0

  low : (b : ℕ) → b < len → get_or (data_of narrow s list symbols) b 0 < byte_values
  unfolding data_refusal
  low =
      ((split_iff len symbols_of (omega (arith, opened_length narrow s list symbols able.given, w.fits))).0
      (not-false _ (passed (not (is_transcript len symbols_of)) 6 0 input.1).0)).low

  within : (e : ℕ) → e < bytes_wanted st → byte_at st e < len
  within e h = wanted_bounded st len w.few (byte_at st e) (out_wanted st e h)

  none_touched : touched_bad narrow s symbols st ≡ false
  none_touched = touched_low narrow s symbols st (λ j column h l _. (unfold symbol in able.given.small (j * size s + column) (rw able.long (digits_lt h l))))

  none_wanted : wanted_bad narrow s list symbols st ≡ false
  unfolding wanted_bad
  none_wanted = symbols_low byte_values (joined st symbols_of) (λ e h.
      let l : e < bytes_wanted st = rw (joined_length st symbols_of) at h in
      rw (joined_at st symbols_of e l) (low (byte_at st e) (within e l)))

  accepted : stretches_refusal narrow s list symbols len st (length before) (length columns) ≡ 0
  accepted = refused_none s list symbols len st (length before) (length columns) w none_touched none_wanted

  transcript_is : transcript ≡ take len (data_of narrow s list symbols)
  transcript_is = o.transcript ∙ afterwards_done room _ _ (sym o.number)

  transcript_length : length transcript ≡ len
  transcript_length = ap length transcript_is ∙ length-take-le len symbols_of (omega (arith, opened_length narrow s list symbols able.given, w.fits))

  joined_is : joined st (data_of narrow s list symbols) ≡ joined st transcript
  joined_is = ext_get_or 0 _ _ (joined_length st symbols_of ∙ sym (joined_length st transcript)) (λ e h.
      let l : e < bytes_wanted st = rw (joined_length st symbols_of) at h in
      joined_at st symbols_of e l ∙ sym (get_or-take len symbols_of (byte_at st e) 0 (within e l))
      ∙ ap (λ z. get_or z (byte_at st e) 0) (sym transcript_is) ∙ sym (joined_at st transcript e l))

  -- stretch m of what is joined is stretch m of the transcript
  stretch_is : (m : ℕ) → m < stretch_count st
      → take (stretch_length st m) (drop (bytes_before st m) (joined st transcript)) ≡ take (stretch_length st m) (drop (stretch_start st m) transcript)
  stretch_is m h =
      ext_get_or 0 _ _ (front ∙ sym back) (λ x l.
      let g : x < stretch_length st m = rw front at l in
      let c = comes_out st m x h g in
      get_or-take (stretch_length st m) (drop (bytes_before st m) (joined st transcript)) x 0 g ∙ get_or-drop (bytes_before st m) (joined st transcript) x 0
      ∙ joined_at st transcript (bytes_before st m + x) c.0 ∙ ap (λ z. get_or transcript z 0) c.1
      ∙ sym (get_or-take (stretch_length st m) (drop (stretch_start st m) transcript) x 0 g ∙ get_or-drop (stretch_start st m) transcript x 0))
    where
      whole : bytes_wanted st ≡ bytes_before st (stretch_count st)
      whole = wanted_whole st

      front : length (take (stretch_length st m) (drop (bytes_before st m) (joined st transcript))) ≡ stretch_length st m
      front =
          length-take-le (stretch_length st m) (drop (bytes_before st m) (joined st transcript))
          (omega (arith, length-drop (bytes_before st m) (joined st transcript), joined_length st transcript, before_grows st m (stretch_count st) h, whole))

      back : length (take (stretch_length st m) (drop (stretch_start st m) transcript)) ≡ stretch_length st m
      back = length-take-le (stretch_length st m) (drop (stretch_start st m) transcript) (omega (arith, length-drop (stretch_start st m) transcript, transcript_length, w.few.ends m h))

  stretches_opened : (after columns_after : List ℕ) (answer : Result ℕ Refusal) → Gives s list symbols len st before after columns columns_after answer
      → (answer ≡ Ok (symbols_read s st)) × (after ≡ joined st transcript)
      × ((m : ℕ) → m < stretch_count st → take (stretch_length st m) (drop (bytes_before st m) after) ≡ take (stretch_length st m) (drop (stretch_start st m) transcript))
  stretches_opened after columns_after answer g =
      let e = g.bytes ∙ afterwards_done before _ _ accepted ∙ joined_is in
      (told answer (g.number ∙ accepted) (g.count ∙ afterwards_done [] _ _ accepted), e, λ m h. ap (λ z. take (stretch_length st m) (drop (bytes_before st m) z)) e ∙ stretch_is m h)
    where
      told : (answer : Result ℕ Refusal) → answer_number answer ≡ 0 → answer_values answer ≡ symbols_read s st ∷ [] → answer ≡ Ok (symbols_read s st)
      told (Ok count) e f = ap Ok (ap (λ z. get_or z 0 0) f)
      told (Err cause) e f = absurd (omega (arith, e, number_positive cause))

-- ---- the promise

-- "touched exactly if a wanted byte's symbol stands at it"
touched_iff : (s : Shape) (st : List ℕ) (column : ℕ) → (touched s st column ≡ true) ↔ StandsAt s st column
touched_iff s st column = (to, from)
  where
    to : touched s st column ≡ true → StandsAt s st column
    to t =
        let (b, (m, h, (low, high)), e) = touched_wanted st s column t in
        let z : stretch_start st m + (b - stretch_start st m) ≡ b = omega arith in
        record { m = m; x = b - stretch_start st m; named = h; inside = omega arith; stands = ap (λ y. y % size s) z ∙ e }

    from : StandsAt s st column → touched s st column ≡ true
    from w = rw (← w.stands) (wanted_touches st s (stretch_start st w.m + w.x) (w.m, w.named, (omega arith, omega (arith, w.inside))))

module _ (s : Shape) (list symbols : List ℕ) (len : ℕ) (st before columns : List ℕ) where
  promised : (after columns_after : List ℕ) (answer : Result ℕ Refusal) → Gives s list symbols len st before after columns columns_after answer
      → OpensStretches s list symbols len st before after columns columns_after answer
  promised after columns_after answer g = record {
    gives = g;
    touch = touched_iff s st;
    once = columns_rising s st;
    opens = λ room transcript o e.
        stretches_opened s list symbols len st before columns room transcript o (sizes_accepted s list (length symbols) len st (length before) (length columns) e) after columns_after answer g;
    alone = λ other same. gives_same s list symbols other st same len before after columns columns_after answer g;
  }

  pub opens_refused : (cause : Refusal) → number_of cause ≡ stretches_refusal narrow s list symbols len st (length before) (length columns)
      → (after : List ℕ) → after ≡ before → OpensStretches s list symbols len st before after columns columns (Err cause)
  opens_refused cause e after kept = rw kept (promised before columns (Err cause) (gives_refused s list symbols len st before columns cause e))

  pub opens_done : (after columns_after : List ℕ) (read : ℕ) → stretches_refusal narrow s list symbols len st (length before) (length columns) ≡ 0
      → after ≡ joined st (data_of narrow s list symbols) → columns_after ≡ column_list s st → read ≡ symbols_read s st
      → OpensStretches s list symbols len st before after columns columns_after (Ok read)
  opens_done after columns_after read e f g h =
      rw h (promised after columns_after (Ok (symbols_read s st)) (gives_done s list symbols len st before columns after columns_after e f g))

-- the count of symbols is small
pub read_small : (s : Shape) (list symbols : List ℕ) (len : ℕ) (st before after columns columns_after : List ℕ) (answer : Result ℕ Refusal) (count : ℕ) → answer ≡ Ok count
    → OpensStretches s list symbols len st before after columns columns_after answer → count < 2 ^ 32
unfolding symbols_read
read_small s list symbols len st before after columns columns_after answer count e w =
    let none = sym w.gives.number ∙ ap answer_number e in
    let sized = refusal_passed s list symbols len st (length before) (length columns) none in
    let read = ap (λ z. get_or z 0 0) (sym (ap answer_values e) ∙ w.gives.count ∙ afterwards_done [] _ _ none) in
    omega (arith, read, mul-le-mul_left s.k (columns_few s st), (shape_small s sized.shape).bytes)

-- "Ok in other columns have no effect on the result": two calls whose symbols agree in the touched columns end alike in number, bytes, list and count
pub calls_alike : (s : Shape) (list symbols other : List ℕ) (len : ℕ) (st before after after_other columns columns_after columns_other : List ℕ) (answer answer_other : Result ℕ Refusal)
    → SameTouched s st symbols other → OpensStretches s list symbols len st before after columns columns_after answer
    → OpensStretches s list other len st before after_other columns columns_other answer_other
    → (answer_number answer ≡ answer_number answer_other) × (after ≡ after_other) × (columns_after ≡ columns_other) × (answer_values answer ≡ answer_values answer_other)
calls_alike s list symbols other len st before after after_other columns columns_after columns_other answer answer_other same w v =
    let g = w.alone other same in
    let h = v.gives in
    (g.number ∙ sym h.number, g.bytes ∙ sym h.bytes, g.list_after ∙ sym h.list_after, g.count ∙ sym h.count)
