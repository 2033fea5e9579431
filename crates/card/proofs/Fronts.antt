-- The numbers in front of a card, five or seven: the header that they make, and how many of them are read.
use mathlib.Core.Path.{◌≡◌, refl, sym, ap, ap₂, ◌∙◌}
use mathlib.Core.Logic.{◌⊎◌, inl, inr, ◌≢◌}
use mathlib.Core.Bool.{true, false, cond}
use mathlib.Core.List.{List, [], ◌∷◌, ◌++◌, flat_map, append_assoc}
use Prim.Native.Nat.{ℕ, suc, ◌-◌, ◌^◌, ◌≤◌, ◌<◌}
use native.Mathlib.Decide.{ℕ_discrete}
use native.Mathlib.Omega.{arith}
use borrow.Author.Tests.{eq-eqb, ne_eqb, eqb-true}
use lib.ListN.{length, get_or, take, drop, drop_of_length-le, take-append-drop}
use lib.Seq.{take_all}
use Rattle.lists.proofs.Scans.{drop_next}
use Rattle.lists.proofs.Tests.{below_or_not, true_or_false, cond_true, cond_false, cond_equal, cond_unequal}
use Rattle.card.specs.declared.Header.{Header}
use Rattle.numbers.specs.Numbers.{most_groups, group_values, numeral, Found, value, malformed, read_number, Numbers, values, broken, and_then, then_numbers, numbers_by}
use Rattle.card.specs.Cards.{plain_numbers, plain_count, header_fields, field_count, hearing_lead, long_count, header_numbers, header_with, leads, header_of, least_hearing, header_count, front_by}
use Rattle.numbers.proofs.Numbers.{Writable, read_numeral, read_numerals}
use Rattle.numbers.proofs.Wider.{number_wider, numbers_wider}
use Rattle.card.proofs.Judging.{Headed, capacity_high}

-- ---- the numbers of a header

module _ (h : Header) where
  pub numbers_plain : h.hearing ≡ 0 → header_numbers h ≡ plain_numbers h
  unfolding header_numbers
  numbers_plain e = cond_equal _ _ h.hearing 0 e

  pub numbers_long : 0 < h.hearing → header_numbers h ≡ hearing_lead ∷ header_fields h
  unfolding header_numbers
  numbers_long l = cond_unequal _ _ h.hearing 0 (λ e. omega arith)

  -- what holds of both forms
  pub by_form : (P : List ℕ → Type 0) → (h.hearing ≡ 0 → P (plain_numbers h)) → (0 < h.hearing → P (hearing_lead ∷ header_fields h)) → P (header_numbers h)
  by_form P plain long = go (below_or_not 0 h.hearing)
    where
      go : (0 < h.hearing) ⊎ (h.hearing ≤ 0) → P (header_numbers h)
      go (inl l) = rw (numbers_long l) (long l)
      go (inr l) = let e : h.hearing ≡ 0 = omega arith in rw (numbers_plain e) (plain e)

-- ---- the header of some numbers

module _ (xs : List ℕ) where
  pub header_plain : leads xs ≡ false → header_of xs ≡ header_with 0 xs
  unfolding header_of
  header_plain e = cond_false _ _ (leads xs) e

  pub header_long : leads xs ≡ true → header_of xs ≡ header_with (get_or xs 6 0) (drop 1 xs)
  unfolding header_of
  header_long e = cond_true _ _ (leads xs) e

  pub least_plain : leads xs ≡ false → least_hearing xs ≡ 0
  unfolding least_hearing
  least_plain e = cond_false _ _ (leads xs) e

  pub least_long : leads xs ≡ true → least_hearing xs ≡ 1
  unfolding least_hearing
  least_long e = cond_true _ _ (leads xs) e

pub led_leads : (xs : List ℕ) → leads (hearing_lead ∷ xs) ≡ true
unfolding leads
led_leads xs = eq-eqb hearing_lead hearing_lead refl

module _ (least : ℕ) (h : Header) (count : ℕ) (w : Headed least h count) where
  plain_leads : leads (plain_numbers h) ≡ false
  unfolding leads plain_numbers
  plain_leads = ne_eqb h.shape.n hearing_lead (λ e. omega (arith, w.shaped))

  -- a header's numbers make that header
  pub header_back : header_of (header_numbers h) ≡ h
  header_back = by_form h (λ xs. header_of xs ≡ h) (λ e. header_plain _ plain_leads ∙ plain e) (λ l. header_long _ (led_leads (header_fields h)) ∙ long)
    where
      plain : h.hearing ≡ 0 → header_with 0 (plain_numbers h) ≡ h
      plain e = ap (λ x. header_with x (plain_numbers h)) (sym e) ∙ unfold header_with plain_numbers in refl

      long : header_with (get_or (hearing_lead ∷ header_fields h) 6 0) (drop 1 (hearing_lead ∷ header_fields h)) ≡ h
      long = unfold header_with header_fields plain_numbers in refl

  pub least_back : least_hearing (header_numbers h) ≤ h.hearing
  least_back = by_form h (λ xs. least_hearing xs ≤ h.hearing) (λ e. omega (arith, least_plain _ plain_leads)) (λ l. omega (arith, least_long _ (led_leads (header_fields h))))

  -- they can be written
  plain_writable : Writable (plain_numbers h)
  unfolding plain_numbers
  plain_writable =
      let s = w.shaped in
      let c = capacity_high h.shape s in
      (omega arith, (omega arith, (omega arith, (omega arith, (omega arith, tt)))))

  long_writable : Writable (hearing_lead ∷ header_fields h)
  unfolding header_fields plain_numbers
  long_writable =
      let p = plain_writable in
      (omega arith, (p.0, (p.1.0, (p.1.1.0, (p.1.1.1.0, (p.1.1.1.1.0, (omega (arith, w.hearing_high), tt)))))))

  pub header_writable : Writable (header_numbers h)
  header_writable = by_form h Writable (λ e. plain_writable) (λ l. long_writable)

-- at least five numbers, one by one
pub record Five (xs : List ℕ) : Type 0 where
  pub n : ℕ
  pub k : ℕ
  pub layers : ℕ
  pub node : ℕ
  pub len : ℕ
  pub rest : List ℕ
  pub same : xs ≡ n ∷ k ∷ layers ∷ node ∷ len ∷ rest

pub five : (xs : List ℕ) → plain_count ≤ length xs → Five xs
five [] e = absurd (omega arith)
five (a ∷ []) e = absurd (omega arith)
five (a ∷ b ∷ []) e = absurd (omega arith)
five (a ∷ b ∷ c ∷ []) e = absurd (omega arith)
five (a ∷ b ∷ c ∷ d ∷ []) e = absurd (omega arith)
five (a ∷ b ∷ c ∷ d ∷ f ∷ xs) e = record { n = a; k = b; layers = c; node = d; len = f; rest = xs; same = refl }

-- they stand in the header that the numbers make
five_back : (hearing : ℕ) (xs : List ℕ) → plain_count ≤ length xs → plain_numbers (header_with hearing xs) ≡ take plain_count xs
unfolding plain_numbers header_with
five_back hearing xs e = rw (five xs e).same refl

plain_back : (xs : List ℕ) → length xs ≡ plain_count → plain_numbers (header_with 0 xs) ≡ xs
plain_back xs e = five_back 0 xs (omega arith) ∙ take_all plain_count xs (omega arith)

fields_back : (xs : List ℕ) → length xs ≡ field_count → header_fields (header_with (get_or xs plain_count 0) xs) ≡ xs
unfolding header_fields header_with
fields_back xs e =
    ap₂ ◌++◌ (five_back (get_or xs plain_count 0) xs (omega arith))
    (sym (drop_next xs plain_count 0 (omega arith) ∙ ap (λ t. get_or xs plain_count 0 ∷ t) (drop_of_length-le xs {i = field_count} (omega arith))))
    ∙ take-append-drop plain_count xs

-- numbers that make a header are that header's
pub numbers_back : (xs : List ℕ) → length xs ≡ cond (leads xs) long_count plain_count → least_hearing xs ≤ (header_of xs).hearing → header_numbers (header_of xs) ≡ xs
numbers_back [] e l = absurd (unfold leads in omega (arith, e))
numbers_back (x ∷ xs) e l = go (true_or_false (leads (x ∷ xs)))
  where
    go : (leads (x ∷ xs) ≡ true) ⊎ (leads (x ∷ xs) ≡ false) → header_numbers (header_of (x ∷ xs)) ≡ x ∷ xs
    go (inl t) =
        let long = e ∙ cond_true _ _ (leads (x ∷ xs)) t in
        let head = header_long (x ∷ xs) t in
        let heard : 0 < (header_of (x ∷ xs)).hearing = omega (arith, least_long (x ∷ xs) t) in
        numbers_long (header_of (x ∷ xs)) heard ∙ ap₂ ◌∷◌ (unfold leads in sym (eqb-true x hearing_lead t)) (ap header_fields head ∙ fields_back xs (omega arith))
    go (inr t) = rw (header_plain (x ∷ xs) t) (numbers_plain (header_with 0 (x ∷ xs)) (unfold header_with in refl) ∙ plain_back (x ∷ xs) (e ∙ cond_false _ _ (leads (x ∷ xs)) t))

-- ---- how many numbers are read

-- what stands first: no number, another number than 1, or 1
pub data First (groups : ℕ) (bytes : List ℕ) : Type 0 where
  no_number : read_number groups bytes ≡ malformed → First groups bytes
  another : (v : ℕ) (rest : List ℕ) → read_number groups bytes ≡ value v rest → v ≢ hearing_lead → First groups bytes
  lead : (rest : List ℕ) → read_number groups bytes ≡ value hearing_lead rest → First groups bytes

module _ (groups : ℕ) (bytes : List ℕ) where
  pub first : First groups bytes
  first = go (read_number groups bytes) refl
    where
      next : (v : ℕ) (rest : List ℕ) → read_number groups bytes ≡ value v rest → Dec (v ≡ hearing_lead) → First groups bytes
      next v rest e (yes d) = lead rest (rw (← d) e)
      next v rest e (no d) = another v rest e d

      go : (f : Found) → read_number groups bytes ≡ f → First groups bytes
      go malformed e = no_number e
      go (value v rest) e = next v rest e (ℕ_discrete v hearing_lead)

  pub numbers_none : read_number groups bytes ≡ malformed → (count : ℕ) → numbers_by groups (suc count) bytes ≡ broken
  unfolding numbers_by then_numbers
  numbers_none e count = rw e

  pub front_none : read_number groups bytes ≡ malformed → front_by groups bytes ≡ broken
  unfolding front_by header_count
  front_none e = rw (e, numbers_none e 4)

  pub front_another : (v : ℕ) (rest : List ℕ) → read_number groups bytes ≡ value v rest → v ≢ hearing_lead → front_by groups bytes ≡ numbers_by groups plain_count bytes
  unfolding front_by header_count
  front_another v rest e d = ap (λ n. numbers_by groups n bytes) (rw e (cond_unequal _ _ v hearing_lead d))

  pub front_lead : (rest : List ℕ) → read_number groups bytes ≡ value hearing_lead rest → front_by groups bytes ≡ numbers_by groups long_count bytes
  unfolding front_by header_count
  front_lead rest e = ap (λ n. numbers_by groups n bytes) (rw e (cond_equal long_count plain_count hearing_lead hearing_lead refl))

  -- the first of the numbers that are read is the number that stands first
  pub numbers_first : (count v : ℕ) (rest xs behind : List ℕ) → read_number groups bytes ≡ value v rest → numbers_by groups (suc count) bytes ≡ values xs behind
      → get_or xs 0 0 ≡ v
  unfolding numbers_by then_numbers
  numbers_first count v rest xs behind e d = go (numbers_by groups count rest) (rw e at d)
    where
      go : (n : Numbers) → and_then v n ≡ values xs behind → get_or xs 0 0 ≡ v
      go broken q = absurd (unfold and_then in let z : ◌≡◌ {A = ℕ} 0 1 = cc in omega arith)
      go (values vs r) q = let same : v ∷ vs ≡ xs = unfold and_then in cc in rw (← same) refl

  -- so it says which header the numbers make, and how many they are
  pub another_leads : (v : ℕ) (rest xs behind : List ℕ) → read_number groups bytes ≡ value v rest → v ≢ hearing_lead → numbers_by groups plain_count bytes ≡ values xs behind
      → leads xs ≡ false
  unfolding leads
  another_leads v rest xs behind e d q = rw (numbers_first 4 v rest xs behind e q) (ne_eqb v hearing_lead d)

  pub lead_leads : (rest xs behind : List ℕ) → read_number groups bytes ≡ value hearing_lead rest → (count : ℕ) → numbers_by groups (suc count) bytes ≡ values xs behind
      → leads xs ≡ true
  unfolding leads
  lead_leads rest xs behind e count q = rw (numbers_first count hearing_lead rest xs behind e q) (eq-eqb hearing_lead hearing_lead refl)

  pub front_count_lem : (xs behind : List ℕ) → front_by groups bytes ≡ values xs behind → numbers_by groups (cond (leads xs) long_count plain_count) bytes ≡ values xs behind
  front_count_lem xs behind q = go first
    where
      go : First groups bytes → numbers_by groups (cond (leads xs) long_count plain_count) bytes ≡ values xs behind
      go (no_number e) = absurd (let z : broken ≡ values xs behind = sym (front_none e) ∙ q in let z' : ◌≡◌ {A = ℕ} 0 1 = cc in omega arith)
      go (another v rest e d) =
          let five = sym (front_another v rest e d) ∙ q in
          rw (another_leads v rest xs behind e d five) five
      go (lead rest e) =
          let seven = sym (front_lead rest e) ∙ q in
          rw (lead_leads rest xs behind e 6 seven) seven

-- the first of some numbers, written one behind the other, is read
numeral_first : (x : ℕ) (xs rest : List ℕ) → x < group_values ^ most_groups
    → read_number most_groups (flat_map (numeral most_groups) (x ∷ xs) ++ rest) ≡ value x (flat_map (numeral most_groups) xs ++ rest)
unfolding flat_map
numeral_first x xs rest l =
    ap (read_number most_groups) (append_assoc (numeral most_groups x) (flat_map (numeral most_groups) xs) rest)
    ∙ read_numeral (most_groups - 1) x (flat_map (numeral most_groups) xs ++ rest) l

-- a header's numbers, written one behind the other, are read
pub front_numerals : (least : ℕ) (h : Header) (count : ℕ) → Headed least h count → (rest : List ℕ)
    → front_by most_groups (flat_map (numeral most_groups) (header_numbers h) ++ rest) ≡ values (header_numbers h) rest
front_numerals least h count w rest = by_form h (λ xs. front_by most_groups (flat_map (numeral most_groups) xs ++ rest) ≡ values xs rest) plain long
  where
    plain : h.hearing ≡ 0 → front_by most_groups (flat_map (numeral most_groups) (plain_numbers h) ++ rest) ≡ values (plain_numbers h) rest
    plain e =
        let fits = plain_writable least h count w in
        unfold plain_numbers in
        front_another most_groups _ h.shape.n _ (numeral_first h.shape.n _ rest fits.0) (λ d. omega (arith, w.shaped)) ∙ read_numerals _ rest fits

    long : 0 < h.hearing → front_by most_groups (flat_map (numeral most_groups) (hearing_lead ∷ header_fields h) ++ rest) ≡ values (hearing_lead ∷ header_fields h) rest
    long l =
        let fits = long_writable least h count w in
        unfold header_fields plain_numbers in
        front_lead most_groups _ _ (numeral_first hearing_lead _ rest fits.0) ∙ read_numerals _ rest fits

-- what is read of few groups, is read of more
pub front_wider : (groups more : ℕ) → groups ≤ more → (bytes xs rest : List ℕ) → front_by groups bytes ≡ values xs rest → front_by more bytes ≡ values xs rest
front_wider groups more l bytes xs behind q = go (first groups bytes)
  where
    go : First groups bytes → front_by more bytes ≡ values xs behind
    go (no_number e) = absurd (let z : broken ≡ values xs behind = sym (front_none groups bytes e) ∙ q in let z' : ◌≡◌ {A = ℕ} 0 1 = cc in omega arith)
    go (another v rest e d) =
        front_another more bytes v rest (number_wider groups more l bytes v rest e) d
        ∙ numbers_wider groups more l plain_count bytes xs behind (sym (front_another groups bytes v rest e d) ∙ q)
    go (lead rest e) =
        front_lead more bytes rest (number_wider groups more l bytes hearing_lead rest e)
        ∙ numbers_wider groups more l long_count bytes xs behind (sym (front_lead groups bytes rest e) ∙ q)
