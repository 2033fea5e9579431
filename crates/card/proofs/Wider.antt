-- What a reader of some groups unpacks, a reader of more groups unpacks alike.
use mathlib.Core.Path.{◌≡◌, refl, ap, ◌∙◌}
use mathlib.Core.Bool.{Bool, true, false, cond}
use mathlib.Core.List.{List}
use Prim.Native.Nat.{ℕ, zero, suc, ◌≤◌}
use native.Mathlib.Omega.{arith}
use lib.Dec.{ltb}
use Rattle.shape.specs.Shape.{size}
use Rattle.card.specs.declared.Header.{Header}
use Rattle.numbers.specs.Numbers.{Found, value, malformed, read_number, Numbers, values, broken}
use Rattle.card.specs.Cards.{header_of, least_hearing, front_by, header_refusal, Symbols, bad, got, and_symbol, then_symbols, symbols_by, refused, card, judged, header_by, unpacked_by}
use Rattle.numbers.proofs.Wider.{number_wider}
use Rattle.card.proofs.Fronts.{front_wider}

-- what is refused is no card
pub no_card : {number : ℕ} {header : Header} {xs : List ℕ} → refused number ≡ card header xs → ⊥
no_card e = let z : ◌≡◌ {A = ℕ} 0 1 = cc in omega arith

module _ (groups more : ℕ) (h : groups ≤ more) (modulus : ℕ) where
  no_symbols : {number : ℕ} {xs : List ℕ} → bad number ≡ got xs → ⊥
  no_symbols e = let z : ◌≡◌ {A = ℕ} 0 1 = cc in omega arith

  symbols_wider : (count : ℕ) (bytes xs : List ℕ) → symbols_by groups modulus count bytes ≡ got xs → symbols_by more modulus count bytes ≡ got xs
  unfolding symbols_by then_symbols and_symbol
  symbols_wider zero bytes xs e = e
  symbols_wider (suc count) bytes xs e = go (read_number groups bytes) refl e (symbols_wider count)
    where
      go : (f : Found) → read_number groups bytes ≡ f → then_symbols modulus f (symbols_by groups modulus count) ≡ got xs
          → ((bytes xs : List ℕ) → symbols_by groups modulus count bytes ≡ got xs → symbols_by more modulus count bytes ≡ got xs)
          → then_symbols modulus (read_number more bytes) (symbols_by more modulus count) ≡ got xs
      go malformed d q ih = absurd (no_symbols q)
      go (value v r) d q ih =
          ap (λ f. then_symbols modulus f (symbols_by more modulus count)) (number_wider groups more h bytes v r d)
          ∙ next (ltb v modulus) (symbols_by groups modulus count r) refl q
        where
          next : (t : Bool) (n : Symbols) → symbols_by groups modulus count r ≡ n → cond t (and_symbol v n) (bad 5) ≡ got xs
              → cond t (and_symbol v (symbols_by more modulus count r)) (bad 5) ≡ got xs
          next false n d' q = q
          next true (bad number) d' q = absurd (no_symbols q)
          next true (got ys) d' q = ap (and_symbol v) (ih r ys d') ∙ q

  -- the same header and symbols
  pub unpacked_wider : (bytes : List ℕ) (room : ℕ) (header : Header) (symbols : List ℕ) → unpacked_by groups modulus bytes room ≡ card header symbols
      → unpacked_by more modulus bytes room ≡ card header symbols
  unfolding unpacked_by header_by judged
  unpacked_wider bytes room header symbols e = go (front_by groups bytes) refl e
    where
      go : (n : Numbers) → front_by groups bytes ≡ n → header_by groups modulus room n ≡ card header symbols
          → header_by more modulus room (front_by more bytes) ≡ card header symbols
      go broken d q = absurd (no_card q)
      go (values xs rest) d q =
          ap (header_by more modulus room) (front_wider groups more h bytes xs rest d)
          ∙ next (header_refusal (least_hearing xs) (header_of xs) room 0) (symbols_by groups modulus (size (header_of xs).shape) rest) refl q
        where
          next : (number : ℕ) (found : Symbols) → symbols_by groups modulus (size (header_of xs).shape) rest ≡ found → judged (header_of xs) number found ≡ card header symbols
              → judged (header_of xs) number (symbols_by more modulus (size (header_of xs).shape) rest) ≡ card header symbols
          next (suc number) found d' q = q
          next zero (bad number) d' q = absurd (no_card q)
          next zero (got ys) d' q = ap (judged (header_of xs) 0) (symbols_wider (size (header_of xs).shape) rest ys d') ∙ q
