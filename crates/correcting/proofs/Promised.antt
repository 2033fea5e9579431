-- What is known where correcting is not turned back, and what follows: the whole promise, from the number and the nodes.
use mathlib.Core.Path.{◌≡◌, refl, sym, ap, subst, ◌∙◌}
use mathlib.Core.Bool.{Bool, true, false, not, cond, ◌||◌}
use mathlib.Core.List.{List, []}
use Prim.Native.Nat.{ℕ, ◌+◌, ◌-◌, ◌*◌, ◌/◌, ◌%◌, ◌≤◌, ◌<◌}
use native.Mathlib.Omega.{arith}
use borrow.Author.Tests.{ltb-true, ltb-false, eqb-true, not-false}
use lib.Dec.{ltb, eqb}
use lib.IntN.{ℤ, pos, ◌+ℤ◌, nat_abs}
use lib.ListN.{length, get_or}
use Rattle.lists.proofs.Tests.{neither}
use Rattle.lists.proofs.Places.{Place, place_of}
use Rattle.shape.specs.declared.Shape.{Shape}
use Rattle.std.specs.Prelude.{Ok}
use Rattle.shape.specs.Shape.{size, byte_values}
use Rattle.shape.specs.Refusals.{shape_bad, wrong_length, symbol_bad, answer_number, afterwards, Answer}
use Rattle.shape.proofs.Accepted.{shape_accepted, passed}
use Rattle.shape.proofs.Answers.{afterwards_done}
use Rattle.code.specs.Code.{Code, GoodCode, narrow}
use Rattle.code.specs.Archive.{symbol, column, written}
use Rattle.code.proofs.Accepted.{narrow_accepted}
use Rattle.code.proofs.Written.{Writable, low_writable}
use Rattle.correcting.specs.Signed.{change_bad}
use Rattle.correcting.specs.Correcting.{corrected, touched, differing, amended, correct_refusal}
use Rattle.correcting.specs.Steps.{Correctable}
use Rattle.correcting.specs.Promises.{Corrects}
use Rattle.correcting.proofs.Signed.{change_accepted}
use Rattle.correcting.proofs.Corrected.{place_small, corrected_there, corrected_elsewhere, written_bytes, corrected_written}
use Rattle.correcting.proofs.Differing.{corrected_own, differing_is, touched_length}

-- ---- what is known where the number is 0

pub record Accepted (c : Code) (s : Shape) (nodes : List ℕ) (len b : ℕ) (z : ℤ) : Type 0 where
  pub known : Correctable c s nodes b z
  pub room : len ≤ s.k * size s
  pub byte : b < len

pub correct_accepted : (c : Code) (s : Shape) (nodes : List ℕ) (len b : ℕ) (z : ℤ) → correct_refusal c s nodes len b z ≡ 0 → Accepted c s nodes len b z
unfolding correct_refusal wrong_length
correct_accepted c s nodes len b z e =
    let one = passed (shape_bad s) 0 _ e in
    let four = passed (wrong_length (length nodes) (s.n * size s) || ltb (s.k * size s) len) 3 _ one.1 in
    let lengths = neither (wrong_length (length nodes) (s.n * size s)) (ltb (s.k * size s) len) four.0 in
    let nine = passed (not (ltb b len)) 8 _ four.1 in
    let five = passed (symbol_bad c.modulus (column s nodes (b % size s))) 4 _ nine.1 in
    let twelve = passed (change_bad (get_or nodes b 0) z) 11 _ five.1 in
    let room = ltb-false (s.k * size s) len lengths.1 in
    let byte = ltb-true b len (not-false _ nine.0) in
    record {
      known = record {
        shape = one.0;
        long = eqb-true _ _ (not-false _ lengths.0);
        within = omega (arith, room, byte);
        small = five.0;
        change = twelve.0;
      };
      room = room;
      byte = byte;
    }

-- ---- what a correction then leaves

module _ (c : Code) (s : Shape) (good : GoodCode c s.n) (wide : byte_values ≤ c.modulus) (nodes : List ℕ) (len b : ℕ) (z : ℤ) (e : correct_refusal c s nodes len b z ≡ 0) where
  abbrev N : ℕ
  N = size s

  w : Accepted c s nodes len b z
  w = correct_accepted c s nodes len b z e

  fits : s.k ≤ s.n
  fits = omega (arith, (shape_accepted s w.known.shape).k_high)

  spot : Place s.k (size s) b
  spot = place_of s.k N b w.known.within

  small : (i : ℕ) → i < s.n → symbol s nodes i (b % size s) < c.modulus
  small = place_small c s nodes (b % N) w.known.small

  -- the byte's own symbol is the data symbol plus the change
  pub correct_own : pos (symbol s (corrected c s nodes b z) (b / size s) (b % size s)) ≡ pos (symbol s nodes (b / size s) (b % size s)) +ℤ z
  unfolding symbol
  correct_own =
      ap pos (corrected_own c s good fits wide nodes w.known.long b z w.known.within small w.known.change)
      ∙ sym (change_accepted (get_or nodes (b / N * N + b % N) 0) z (ap (λ u. change_bad (get_or nodes u 0) z) spot.whole ∙ w.known.change)).is

  -- "at most r+1 symbols, one a node, differ: the byte's own and one in each check node"
  pub correct_differing : differing nodes (corrected c s nodes b z) ≡ cond (eqb (nat_abs z) 0) [] (touched s b)
  correct_differing = differing_is c s good fits wide nodes w.known.long b z w.known.within small w.known.change

  pub correct_few : length (differing nodes (corrected c s nodes b z)) ≤ s.n - s.k + 1
  correct_few = rw correct_differing (go (eqb (nat_abs z) 0))
    where
      go : (none : Bool) → length (cond none [] (touched s b)) ≤ s.n - s.k + 1
      go true = omega arith
      go false = omega (arith, touched_length s b fits w.known.within)

-- "If the archive was written from a transcript of that length, the result equals writing the corrected transcript afresh"
pub correct_written : (c : Code) (s : Shape) (bytes : List ℕ) (b : ℕ) (z : ℤ) → GoodCode c s.n → byte_values ≤ c.modulus
    → ((e : ℕ) → e < length bytes → get_or bytes e 0 < byte_values) → correct_refusal c s (written c s bytes) (length bytes) b z ≡ 0
    → corrected c s (written c s bytes) b z ≡ written c s (amended bytes b z)
correct_written c s bytes b z good wide low e =
    corrected_written c s bytes able wide b z w.byte (subst (λ x. change_bad x z ≡ false) (written_bytes c s bytes able b w.known.within) w.known.change)
  where
    w : Accepted c s (written c s bytes) (length bytes) b z
    w = correct_accepted c s (written c s bytes) (length bytes) b z e

    able : Writable c s bytes
    able = low_writable byte_values c s bytes good (omega (arith, (shape_accepted s w.known.shape).k_high)) wide low w.room

-- ---- the promise

module _ (s : Shape) (len b : ℕ) (z : ℤ) (before after : List ℕ) (answer : Answer) (number : answer_number answer ≡ correct_refusal narrow s before len b z)
    (nodes : after ≡ afterwards (correct_refusal narrow s before len b z) before (corrected narrow s before b z)) where
  done : answer ≡ Ok tt → correct_refusal narrow s before len b z ≡ 0
  done d = sym number ∙ ap answer_number d

  left : answer ≡ Ok tt → after ≡ corrected narrow s before b z
  left d = nodes ∙ afterwards_done before (corrected narrow s before b z) _ (done d)

  good : answer ≡ Ok tt → GoodCode narrow s.n
  good d = narrow_accepted s (correct_accepted narrow s before len b z (done d)).known.shape

  place_low : answer ≡ Ok tt → b % size s < size s
  place_low d = (spot narrow s (good d) (omega arith) before len b z (done d)).place

  afresh : answer ≡ Ok tt → (bytes : List ℕ) → length bytes ≡ len → ((e : ℕ) → e < len → get_or bytes e 0 < byte_values)
      → before ≡ written narrow s bytes → after ≡ written narrow s (amended bytes b z)
  afresh d bytes l low is =
      left d ∙ ap (λ u. corrected narrow s u b z) is
      ∙ correct_written narrow s bytes b z (good d) (omega arith) (λ e h. low e (omega arith)) (rw (l, sym is) (done d))

  pub corrects : Corrects s len b z before after answer
  corrects = record {
    number = number;
    nodes = nodes;
    own = λ d. ap (λ u. pos (symbol s u (b / size s) (b % size s))) (left d) ∙ correct_own narrow s (good d) (omega arith) before len b z (done d);
    check = λ d i _ h. ap (λ u. symbol s u i (b % size s)) (left d) ∙ corrected_there narrow s before b z i (b % size s) h (place_low d) refl;
    only = λ d i place h l n. ap (λ u. symbol s u i place) (left d) ∙ corrected_elsewhere narrow s before b z i place h l n;
    afresh = afresh;
    few = λ d. rw (left d) (correct_few narrow s (good d) (omega arith) before len b z (done d));
    differ = λ d. ap (differing before) (left d) ∙ correct_differing narrow s (good d) (omega arith) before len b z (done d);
  }
