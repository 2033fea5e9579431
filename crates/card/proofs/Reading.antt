-- Reading by places: the numbers of a header one after the other, and the symbols behind them, by what stands at the place.
use mathlib.Core.Path.{◌≡◌, refl, sym, ap, ◌∙◌}
use mathlib.Core.Logic.{◌⊎◌, inl, inr}
use mathlib.Core.Bool.{Bool, true, false, cond}
use mathlib.Core.List.{List, [], ◌∷◌, ◌++◌}
use Prim.Native.Nat.{ℕ, zero, suc, ◌+◌, ◌-◌, ◌≤◌, ◌<◌}
use native.Mathlib.Omega.{arith}
use borrow.Author.Tests.{lt-ltb, le-ltb}
use lib.Dec.{ltb}
use lib.ListN.{length, drop, drop_of_length-le, length-drop}
use lib.Seq.{drop-length}
use Rattle.lists.proofs.Tests.{below_or_not}
use Rattle.lists.proofs.Scans.{drop_next}
use Rattle.std.specs.Prelude.{Option, Some, None}
use Rattle.card.specs.declared.Front.{Front}
use Rattle.card.specs.declared.Header.{Header}
use Rattle.numbers.specs.Numbers.{most_groups, read_to, Found, value, malformed, read_number, Numbers, values, broken, and_then, then_numbers, number_at, read_numbers, numbers_by}
use Rattle.card.specs.Cards.{fronted, header_with, Symbols, bad, got, symbols_number, symbols_read, and_symbol, at_end, then_symbols, read_symbols, symbols_by}
use Rattle.numbers.proofs.Places.{number_bad, number_read, number_inside, read_behind}

-- ---- the header

-- some numbers in front of others
unfoldable pub ahead : List ℕ → Numbers → Numbers
ahead [] n = n
ahead (x ∷ xs) n = and_then x (ahead xs n)

pub ahead_one : (xs : List ℕ) (v : ℕ) (n : Numbers) → ahead xs (and_then v n) ≡ ahead (xs ++ v ∷ []) n
unfolding ahead
ahead_one [] v n = refl
ahead_one (x ∷ xs) v n = ap (and_then x) (ahead_one xs v n)

pub ahead_broken : (xs : List ℕ) → ahead xs broken ≡ broken
unfolding ahead and_then
ahead_broken [] = refl
ahead_broken (x ∷ xs) = ap (and_then x) (ahead_broken xs)

pub ahead_values : (xs rest : List ℕ) → ahead xs (values [] rest) ≡ values xs rest
unfolding ahead and_then
ahead_values [] rest = refl
ahead_values (x ∷ xs) rest = ap (and_then x) (ahead_values xs rest)

pub ahead_append : (xs ys : List ℕ) (n : Numbers) → ahead xs (ahead ys n) ≡ ahead (xs ++ ys) n
unfolding ahead
ahead_append [] ys n = refl
ahead_append (x ∷ xs) ys n = ap (and_then x) (ahead_append xs ys n)

-- of some numbers that are to be read the first were read, the next is at `at`, and `left` are left
pub record Begun (all : Numbers) (bytes : List ℕ) (left at : ℕ) : Type 0 where
  pub numbers : List ℕ
  pub whole : all ≡ ahead numbers (read_numbers left (drop at bytes))
  pub inside : at ≤ length bytes

pub ahead_none : (n : Numbers) → n ≡ ahead [] n
unfolding ahead
ahead_none n = refl

abbrev pub begun : (bytes : List ℕ) (count start : ℕ) → start ≤ length bytes → Begun (read_numbers count (drop start bytes)) bytes count start
begun bytes count start l = record { numbers = []; whole = ahead_none (read_numbers count (drop start bytes)); inside = l }

module _ {all : Numbers} {bytes : List ℕ} {left at : ℕ} (b : Begun all bytes (suc left) at) where
  pub begun_step : (v next : ℕ) → number_at most_groups bytes at ≡ read_to v next → read_numbers (suc left) (drop at bytes) ≡ and_then v (read_numbers left (drop next bytes))
  unfolding numbers_by then_numbers
  begun_step v next e = rw (number_read most_groups bytes at v next e)

  abbrev pub begun_next : {v next : ℕ} → number_at most_groups bytes at ≡ read_to v next → Begun all bytes left next
  begun_next {v} {next} e = record {
    numbers = b.numbers ++ v ∷ [];
    whole = b.whole ∙ ap (ahead b.numbers) (begun_step v next e) ∙ ahead_one b.numbers v (read_numbers left (drop next bytes));
    inside = number_inside most_groups bytes at v next e;
  }

  pub begun_bad : number_at most_groups bytes at ≡ None → all ≡ broken
  unfolding numbers_by then_numbers
  begun_bad e = b.whole ∙ ap (λ f. ahead b.numbers (then_numbers f (read_numbers left))) (number_bad most_groups bytes at e) ∙ ahead_broken b.numbers

pub begun_end : {all : Numbers} {bytes : List ℕ} {at : ℕ} (b : Begun all bytes 0 at) → all ≡ values b.numbers (drop at bytes)
unfolding numbers_by
begun_end {all} {bytes} {at} b = b.whole ∙ ahead_values b.numbers (drop at bytes)

pub behind : (bytes : List ℕ) (at : ℕ) → at ≤ length bytes → length bytes - length (drop at bytes) ≡ at
behind bytes at l = omega (arith, length-drop at bytes)

-- bytes from a place on, by how many there are
by_length : (bytes : List ℕ) (at : ℕ) → drop at bytes ≡ drop (length bytes - length (drop at bytes)) bytes
by_length bytes at = go (below_or_not at (length bytes))
  where
    go : (at < length bytes) ⊎ (length bytes ≤ at) → drop at bytes ≡ drop (length bytes - length (drop at bytes)) bytes
    go (inl h) = ap (λ k. drop k bytes) (let e : at ≡ length bytes - length (drop at bytes) = omega (arith, length-drop at bytes) in e)
    go (inr h) =
        drop_of_length-le bytes h ∙ sym (drop-length bytes)
        ∙ ap (λ k. drop k bytes) (let e : length bytes ≡ length bytes - length (drop at bytes) = omega (arith, length-drop at bytes) in e)

pub numbers_behind : (count : ℕ) (bytes : List ℕ) (at : ℕ) (vs rest : List ℕ) → read_numbers count (drop at bytes) ≡ values vs rest
    → rest ≡ drop (length bytes - length rest) bytes
unfolding numbers_by then_numbers
numbers_behind zero bytes at vs rest e = let same : drop at bytes ≡ rest = cc in rw (← same) (by_length bytes at)
numbers_behind (suc count) bytes at vs rest e = go (read_number most_groups (drop at bytes)) refl e (numbers_behind count bytes)
  where
    go : (f : Found) → read_number most_groups (drop at bytes) ≡ f → then_numbers f (read_numbers count) ≡ values vs rest
        → ((at : ℕ) (vs rest : List ℕ) → read_numbers count (drop at bytes) ≡ values vs rest → rest ≡ drop (length bytes - length rest) bytes)
        → rest ≡ drop (length bytes - length rest) bytes
    go malformed d q ih = absurd (let z : ◌≡◌ {A = ℕ} 0 1 = cc in omega arith)
    go (value v r) d q ih = next (read_numbers count r) refl q
      where
        next : (n : Numbers) → read_numbers count r ≡ n → and_then v n ≡ values vs rest → rest ≡ drop (length bytes - length rest) bytes
        next broken d' q = absurd (unfold and_then in let z : ◌≡◌ {A = ℕ} 0 1 = cc in omega arith)
        next (values us t) d' q =
            let same : t ≡ rest = unfold and_then in cc in
            rw (← same) (ih (length bytes - length r) us t (ap (read_numbers count) (sym (read_behind most_groups bytes at v r d)) ∙ d'))

-- what was read of a header
header_at : Option Front → Header
header_at None = header_with 0 []
header_at (Some f) = f.header

least_at : Option Front → ℕ
least_at None = 0
least_at (Some f) = f.least

next_at : Option Front → ℕ
next_at None = 0
next_at (Some f) = f.next

pub fronted_same : {h g : Header} {least next low behind : ℕ} → fronted h least next ≡ fronted g low behind → (h ≡ g) × (least ≡ low) × (next ≡ behind)
unfolding header_at least_at next_at
fronted_same e = (ap header_at e, ap least_at e, ap next_at e)

-- ---- the symbols

-- symbols were read
abbrev pub Good : Symbols → Type 0
Good s = s ≡ got (symbols_read s)

never : {number : ℕ} {xs : List ℕ} → bad number ≡ got xs → ⊥
never e = let z : ◌≡◌ {A = ℕ} 0 1 = cc in omega arith

pub number_and : (v : ℕ) (s : Symbols) → symbols_number (and_symbol v s) ≡ symbols_number s
unfolding symbols_number and_symbol
number_and v (bad number) = refl
number_and v (got xs) = refl

good_and : (v : ℕ) (s : Symbols) → Good (and_symbol v s) → Good s × (symbols_read (and_symbol v s) ≡ v ∷ symbols_read s)
unfolding symbols_read and_symbol
good_and v (bad number) e = absurd (never e)
good_and v (got xs) e = (refl, refl)

and_good : (v : ℕ) (s : Symbols) → Good s → Good (and_symbol v s)
unfolding symbols_read and_symbol
and_good v (bad number) e = absurd (never e)
and_good v (got xs) e = refl

-- what is not turned back was read
pub symbols_good : (modulus count : ℕ) (bytes : List ℕ) → symbols_number (read_symbols modulus count bytes) ≡ 0 → Good (read_symbols modulus count bytes)
unfolding symbols_by then_symbols
symbols_good modulus zero [] e = unfold at_end symbols_read in refl
symbols_good modulus zero (b ∷ bytes) e = absurd (unfold at_end symbols_number in omega (arith, e))
symbols_good modulus (suc count) bytes e = go (read_number most_groups bytes) e (symbols_good modulus count)
  where
    go : (f : Found) → symbols_number (then_symbols modulus f (read_symbols modulus count)) ≡ 0
        → ((bytes : List ℕ) → symbols_number (read_symbols modulus count bytes) ≡ 0 → Good (read_symbols modulus count bytes))
        → Good (then_symbols modulus f (read_symbols modulus count))
    go malformed e ih = absurd (unfold symbols_number in omega (arith, e))
    go (value v rest) e ih = next (ltb v modulus) e
      where
        next : (t : Bool) → symbols_number (cond t (and_symbol v (read_symbols modulus count rest)) (bad 5)) ≡ 0
            → Good (cond t (and_symbol v (read_symbols modulus count rest)) (bad 5))
        next true e = and_good v _ (ih rest (sym (number_and v (read_symbols modulus count rest)) ∙ e))
        next false e = absurd (unfold symbols_number in omega (arith, e))

end_read : (bytes : List ℕ) → symbols_read (at_end bytes) ≡ []
unfolding symbols_read at_end
end_read [] = refl
end_read (b ∷ bytes) = refl

-- where symbols were read from a number on: it is one of them
pub record Kept (modulus v : ℕ) (here there : Symbols) : Type 0 where
  pub small : v < modulus
  pub rest : Good there
  pub first : symbols_read here ≡ v ∷ symbols_read there

module _ (modulus : ℕ) (bytes : List ℕ) (at n i : ℕ) where
  one_more : i < n → n - i ≡ suc (n - (i + 1))
  one_more h = omega arith

  pub scan_bad : i < n → number_at most_groups bytes at ≡ None → read_symbols modulus (n - i) (drop at bytes) ≡ bad 6
  unfolding symbols_by then_symbols
  scan_bad h e = rw (one_more h, number_bad most_groups bytes at e)

  pub scan_left : n ≤ i → at < length bytes → read_symbols modulus (n - i) (drop at bytes) ≡ bad 6
  unfolding symbols_by at_end
  scan_left h l = rw ((let e : n - i ≡ 0 = omega arith in e), drop_next bytes at 0 l)

  pub scan_end : n ≤ i → length bytes ≤ at → read_symbols modulus (n - i) (drop at bytes) ≡ got []
  unfolding symbols_by at_end
  scan_end h l = rw ((let e : n - i ≡ 0 = omega arith in e), drop_of_length-le bytes l)

  module _ (v next : ℕ) (h : i < n) (e : number_at most_groups bytes at ≡ read_to v next) where
    pub scan_high : modulus ≤ v → read_symbols modulus (n - i) (drop at bytes) ≡ bad 5
    unfolding symbols_by then_symbols
    scan_high l = rw (one_more h, number_read most_groups bytes at v next e, le-ltb v modulus l)

    pub scan_next : v < modulus → read_symbols modulus (n - i) (drop at bytes) ≡ and_symbol v (read_symbols modulus (n - (i + 1)) (drop next bytes))
    unfolding symbols_by then_symbols
    scan_next l = rw (one_more h, number_read most_groups bytes at v next e, lt-ltb v modulus l)

    pub scan_kept : Good (read_symbols modulus (n - i) (drop at bytes))
        → Kept modulus v (read_symbols modulus (n - i) (drop at bytes)) (read_symbols modulus (n - (i + 1)) (drop next bytes))
    scan_kept g = go (below_or_not v modulus)
      where
        go : (v < modulus) ⊎ (modulus ≤ v) → Kept modulus v (read_symbols modulus (n - i) (drop at bytes)) (read_symbols modulus (n - (i + 1)) (drop next bytes))
        go (inl l) =
            let w = good_and v (read_symbols modulus (n - (i + 1)) (drop next bytes)) (rw (scan_next l) at g) in
            record { small = l; rest = w.0; first = ap symbols_read (scan_next l) ∙ w.1 }
        go (inr l) = absurd (never (sym (scan_high l) ∙ g))

  pub kept_never : i < n → number_at most_groups bytes at ≡ None → Good (read_symbols modulus (n - i) (drop at bytes)) → ⊥
  kept_never h e g = never (sym (scan_bad h e) ∙ g)

  pub kept_end : n ≤ i → symbols_read (read_symbols modulus (n - i) (drop at bytes)) ≡ []
  unfolding symbols_by
  kept_end h = rw (let e : n - i ≡ 0 = omega arith in e) (end_read (drop at bytes))
