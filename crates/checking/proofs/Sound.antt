-- Document 02 §5 as theorems about the promises: what was written is sound; what is sound opens, from any k nodes; where the check names a
-- data symbol, opening gives 7.
use mathlib.Core.Path.{◌≡◌, refl, sym, ◌∙◌, subst}
use mathlib.Core.Logic.{◌≢◌}
use mathlib.Core.Bool.{true, false}
use mathlib.Core.List.{List}
use Prim.Native.Nat.{ℕ, ◌*◌, ◌≤◌}
use native.Mathlib.Omega.{arith}
use lib.ListN.{length}
use Rattle.lists.specs.Lists.{all, below}
use Rattle.lists.proofs.Tests.{all_below_at}
use Rattle.shape.specs.declared.Shape.{Shape}
use Rattle.std.specs.Prelude.{Ok, Some, None}
use Rattle.shape.specs.Shape.{size, byte_values}
use Rattle.shape.specs.Refusals.{answer_number, shape_bad, Answer}
use Rattle.shape.proofs.Answers.{afterwards_done}
use Rattle.code.specs.Code.{narrow}
use Rattle.code.specs.Archive.{written, Holds, LowData}
use Rattle.code.specs.Refusals.{write_refusal, open_size_refusal}
use Rattle.code.specs.Promises.{Writes, Opens}
use Rattle.code.proofs.Accepted.{bytes_writable, write_accepted, open_accepted, open_seven}
use Rattle.code.proofs.Sized.{held_input}
use Rattle.code.proofs.Transcripts.{written_low}
use Rattle.checking.specs.declared.Fault.TheVariants.{HighData}
use Rattle.checking.specs.Promises.{Checked, Checks}
use Rattle.checking.proofs.Meeting.{check_shape}

-- "Written transcripts are still all sound.": whatever their length
pub written_sound : (s : Shape) (bytes before after : List ℕ) (answer : Checked) → all (below byte_values) bytes ≡ true
    → Writes s bytes before after (Ok tt) → Checks s after answer → answer ≡ Ok None
written_sound s bytes before after answer small w p =
    let e : write_refusal s bytes (length before) ≡ 0 = sym w.number in
    let able = write_accepted s bytes (length before) e small in
    let same : after ≡ written narrow s bytes = w.nodes ∙ afterwards_done before _ _ e in
    (p.sound able.shape).1 (
      w.codeword refl,
      subst (LowData byte_values s) (sym same) (written_low byte_values narrow s bytes able.able (omega arith) (all_below_at byte_values bytes small)),
    )

module _ (s : Shape) (nodes : List ℕ) where
  shape_good_lem : (answer : Checked) → answer_number answer ≡ 0 → Checks s nodes answer → shape_bad s ≡ false
  shape_good_lem answer e p = check_shape s nodes (sym p.number ∙ e)

  -- where a data symbol is named, there are no bytes of which these nodes are written
  unwritten : (node place : ℕ) → Checks s nodes (Ok (Some (HighData node place))) → (bytes : List ℕ) → all (below byte_values) bytes ≡ true → length bytes ≤ s.k * size s
      → nodes ≢ written narrow s bytes
  unwritten node place p bytes small room same =
      let first = (p.high node place refl).1 in
      let each = all_below_at byte_values bytes small in
      let able = bytes_writable s bytes (shape_good_lem (Ok (Some (HighData node place))) refl p) each room in
      let low = subst (LowData byte_values s) (sym same) (written_low byte_values narrow s bytes able (omega arith) each) in
      omega (arith, first.here, low.low node place first.node_below first.place_below)

  module _ (list symbols : List ℕ) (held : Holds s list symbols nodes) where
    -- an office that is told that its drives are sound opens a transcript of k × N bytes from any k of them
    pub sound_opens : (before after : List ℕ) (answer : Answer) → Checks s nodes (Ok None)
        → open_size_refusal s list symbols (s.k * size s) (length before) ≡ 0 → Opens s list symbols (s.k * size s) before after answer → answer ≡ Ok tt
    sound_opens before after answer p sized o =
        let t = (p.transcript (shape_good_lem (Ok None) refl p)).0 refl in
        (o.opens sized).1 (record { bytes = t.bytes; long = t.long; low = t.low; holds = subst (Holds s list symbols) t.whole held })

    -- and where a data symbol is named, opening from any k of them gives 7, whatever the length
    pub high_seven : (len : ℕ) (before after : List ℕ) (answer : Answer) (node place : ℕ) → Checks s nodes (Ok (Some (HighData node place)))
        → open_size_refusal s list symbols len (length before) ≡ 0 → Opens s list symbols len before after answer → answer_number answer ≡ 7
    high_seven len before after answer node place p sized o =
        let word = (p.high node place refl).0 in
        let input = held_input s list symbols len (length before) sized nodes word held in
        let room = (open_accepted s list symbols len (length before) input).fits in
        o.number ∙ open_seven s list symbols len (length before) input nodes word held (λ bytes long small. unwritten node place p bytes small (omega (arith, long, room)))
