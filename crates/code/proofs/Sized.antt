-- Symbols that are a codeword's are below the modulus, so that cause 5 has no part in demand 2.
use mathlib.Core.Path.{◌≡◌, ap, ◌∙◌}
use mathlib.Core.Bool.{false, ◌||◌}
use mathlib.Core.List.{List}
use Prim.Native.Nat.{ℕ, ◌*◌, ◌/◌, ◌%◌, ◌≤◌, ◌<◌}
use native.Mathlib.Omega.{arith}
use borrow.Author.Tests.{ltb-false, eqb-true, not-false}
use lib.Arith.{digits_lt}
use lib.Dec.{ltb}
use lib.ListN.{length, get_or}
use Rattle.lists.proofs.Tests.{neither, at_all_below}
use Rattle.lists.proofs.Members.{rising_below}
use Rattle.lists.proofs.Places.{place_of}
use Rattle.shape.specs.declared.Shape.{Shape}
use Rattle.shape.specs.Shape.{size}
use Rattle.shape.specs.Refusals.{shape_bad, nodes_bad, wrong_length, symbol_bad}
use Rattle.shape.proofs.Accepted.{passed, nodes_accepted}
use Rattle.code.specs.Code.{narrow}
use Rattle.code.specs.Archive.{symbol, written, Codeword, Holds, Transcript}
use Rattle.code.specs.Refusals.{open_input_refusal, open_size_refusal}
use Rattle.code.proofs.Accepted.{bytes_writable}
use Rattle.code.proofs.Written.{Writable, written_codeword}

module _ (s : Shape) (list symbols : List ℕ) (len room : ℕ) (sized : open_size_refusal s list symbols len room ≡ 0) where
  -- the causes that do not hold
  judged : (shape_bad s ≡ false) × (nodes_bad s.n s.k list ≡ false) × ((wrong_length (length symbols) (s.k * size s) || ltb (s.k * size s) len || wrong_length room len) ≡ false)
  unfolding open_size_refusal
  judged =
      let one = passed (shape_bad s) 0 _ sized in
      let two = passed (nodes_bad s.n s.k list) 1 _ one.1 in
      (one.0, two.0, (passed (wrong_length (length symbols) (s.k * size s) || ltb (s.k * size s) len || wrong_length room len) 3 0 two.1).0)

  lengths : (length symbols ≡ s.k * size s) × (len ≤ s.k * size s)
  unfolding wrong_length
  lengths =
      let last = neither (wrong_length (length symbols) (s.k * size s) || ltb (s.k * size s) len) (wrong_length room len) judged.2 in
      let first = neither (wrong_length (length symbols) (s.k * size s)) (ltb (s.k * size s) len) last.0 in
      (eqb-true _ _ (not-false _ first.0), ltb-false _ _ first.1)

  module _ (w : List ℕ) (word : Codeword narrow s w) (holds : Holds s list symbols w) where
    each : (e : ℕ) → e < length symbols → get_or symbols e 0 < narrow.modulus
    unfolding symbol
    each e h =
        let p = place_of s.k (size s) e (omega (arith, lengths.0)) in
        let up = nodes_accepted s.n s.k list judged.1 in
        let same = holds.held (e / size s) (e % size s) p.row p.place in
        let low = rising_below s.n list up.1 (e / size s) (omega (arith, up.0, p.row)) in
        rw (← (same ∙ ap (λ k. get_or symbols k 0) p.whole)) (word.small _ (omega (arith, word.long, digits_lt low p.place)))

    -- the input passes
    pub held_input : open_input_refusal narrow s list symbols len room 0 ≡ 0
    unfolding open_input_refusal symbol_bad
    held_input = simp (judged.0, judged.1, judged.2, at_all_below narrow.modulus symbols each)

  -- and so it does where they are a written transcript's
  pub sized_input : Transcript narrow s list symbols len → open_input_refusal narrow s list symbols len room 0 ≡ 0
  sized_input t = held_input (written narrow s t.bytes) (written_codeword narrow s t.bytes able) t.holds
    where
      able : Writable narrow s t.bytes
      able = bytes_writable s t.bytes judged.0 (λ b h. t.low b (omega (arith, t.long))) (omega (arith, t.long, lengths.1))
