-- The judging of headers and of packing: what it yields in each case, and what is known where it yields 0.
use mathlib.Core.Path.{◌≡◌, ◌∙◌}
use mathlib.Core.Bool.{Bool, true, false, not}
use mathlib.Core.List.{List}
use Prim.Native.Nat.{ℕ, ◌*◌, ◌≤◌, ◌<◌}
use native.Mathlib.Nat.{mul-le-mul}
use native.Mathlib.Omega.{arith}
use borrow.Author.Tests.{ltb-true, ltb-false, lt-ltb, le-ltb, le-leb, eqb-true, eq-eqb, not-false}
use lib.Dec.{ltb, eqb}
use lib.ListN.{length}
use Rattle.lists.specs.Lists.{all, below}
use Rattle.shape.specs.declared.Refusal.{Refusal}
use Rattle.shape.specs.declared.Shape.{Shape}
use Rattle.shape.specs.Shape.{most_nodes, size, within}
use Rattle.shape.specs.Refusals.{number_of, refuse, shape_bad, wrong_length, symbol_bad}
use Rattle.shape.proofs.Accepted.{passed, within_true, Shaped, shape_accepted, most_size}
use Rattle.shape.proofs.Answers.{number_positive}
use Rattle.card.specs.declared.Header.{Header}
use Rattle.card.specs.Cards.{most_hearing, hearing_bad, header_refusal, card_room, pack_refusal}

-- ---- headers

-- "A transcript has 0 to k × N bytes"
pub capacity_high : (s : Shape) → Shaped s → s.k * size s ≤ most_nodes * most_size
capacity_high s g = mul-le-mul (let k : s.k ≤ most_nodes = omega arith in k) g.size_high

-- a header that is not turned back, with a hearing number of at least `least`, and `count` symbols beside it
pub record Headed (least : ℕ) (h : Header) (count : ℕ) : Type 0 where
  pub shape_good_lem : shape_bad h.shape ≡ false
  pub shaped : Shaped h.shape
  pub node_low : h.node < h.shape.n
  pub length_low : h.len ≤ h.shape.k * size h.shape
  pub hearing_low : least ≤ h.hearing
  pub hearing_high : h.hearing ≤ most_hearing
  pub long : count ≡ size h.shape

-- the same with another least hearing number, and as many symbols
abbrev pub headed_by : {least : ℕ} {h : Header} {count least' count' : ℕ} → Headed least h count → least' ≤ h.hearing → count' ≡ size h.shape → Headed least' h count'
headed_by w l e = record {
  shape_good_lem = w.shape_good_lem;
  shaped = w.shaped;
  node_low = w.node_low;
  length_low = w.length_low;
  hearing_low = l;
  hearing_high = w.hearing_high;
  long = e;
}

module _ (least : ℕ) (h : Header) (count rest : ℕ) where
  pub header_accepted : header_refusal least h count rest ≡ 0 → Headed least h count × (rest ≡ 0)
  unfolding header_refusal hearing_bad wrong_length
  header_accepted e =
      let one = passed (shape_bad h.shape) 0 _ e in
      let two = passed (not (ltb h.node h.shape.n)) 1 _ one.1 in
      let six = passed (ltb (h.shape.k * size h.shape) h.len) 5 _ two.1 in
      let heard = passed (not (within least most_hearing h.hearing)) 5 _ six.1 in
      let four = passed (not (eqb count (size h.shape))) 3 rest heard.1 in
      let range = within_true least most_hearing h.hearing (not-false _ heard.0) in (
        record {
          shape_good_lem = one.0;
          shaped = shape_accepted h.shape one.0;
          node_low = ltb-true _ _ (not-false _ two.0);
          length_low = ltb-false _ _ six.0;
          hearing_low = range.0;
          hearing_high = range.1;
          long = eqb-true _ _ (not-false _ four.0);
        },
        four.1,
      )

  pub head_shape : shape_bad h.shape ≡ true → header_refusal least h count rest ≡ 1
  unfolding header_refusal
  head_shape e = rw e

  module _ (good : shape_bad h.shape ≡ false) where
    pub head_node : h.shape.n ≤ h.node → header_refusal least h count rest ≡ 2
    unfolding header_refusal
    head_node l = rw (good, le-ltb h.node h.shape.n l)

    module _ (low : h.node < h.shape.n) where
      pub head_length : h.shape.k * size h.shape < h.len → header_refusal least h count rest ≡ 6
      unfolding header_refusal
      head_length l = rw (good, lt-ltb h.node h.shape.n low, lt-ltb (h.shape.k * size h.shape) h.len l)

      module _ (short : h.len ≤ h.shape.k * size h.shape) where
        pub head_hearing : hearing_bad least h.hearing ≡ true → header_refusal least h count rest ≡ 6
        unfolding header_refusal
        head_hearing e = rw (good, lt-ltb h.node h.shape.n low, le-ltb (h.shape.k * size h.shape) h.len short, e)

        module _ (heard : hearing_bad least h.hearing ≡ false) where
          pub head_count : wrong_length count (size h.shape) ≡ true → header_refusal least h count rest ≡ 4
          unfolding header_refusal
          head_count e = rw (good, lt-ltb h.node h.shape.n low, le-ltb (h.shape.k * size h.shape) h.len short, heard, e)

          pub head_good : wrong_length count (size h.shape) ≡ false → header_refusal least h count rest ≡ rest
          unfolding header_refusal
          head_good e = rw (good, lt-ltb h.node h.shape.n low, le-ltb (h.shape.k * size h.shape) h.len short, heard, e)

  -- what is judged behind such a header
  pub header_passes : Headed least h count → header_refusal least h count rest ≡ rest
  unfolding hearing_bad within wrong_length
  header_passes w =
      head_good w.shape_good_lem w.node_low w.length_low
      (rw (le-leb least h.hearing w.hearing_low, le-leb h.hearing most_hearing w.hearing_high))
      (rw (eq-eqb count (size h.shape) w.long))

  -- a cause of the header does not depend on what is judged behind it
  pub header_turns : (cause : Refusal) → number_of cause ≡ header_refusal least h count 0 → number_of cause ≡ header_refusal least h count rest
  unfolding header_refusal
  header_turns cause e =
      go (shape_bad h.shape) (not (ltb h.node h.shape.n)) (ltb (h.shape.k * size h.shape) h.len) (hearing_bad least h.hearing) (wrong_length count (size h.shape)) e
    where
      go : (one two six heard four : Bool) → number_of cause ≡ refuse one 1 (refuse two 2 (refuse six 6 (refuse heard 6 (refuse four 4 0))))
          → number_of cause ≡ refuse one 1 (refuse two 2 (refuse six 6 (refuse heard 6 (refuse four 4 rest))))
      go true two six heard four e = e
      go false true six heard four e = e
      go false false true heard four e = e
      go false false false true four e = e
      go false false false false true e = e
      go false false false false false e = absurd (omega (arith, number_positive cause))

-- ---- packing

module _ (modulus : ℕ) (h : Header) (symbols : List ℕ) (room : ℕ) where
  pub pack_turns : (cause : Refusal) → number_of cause ≡ header_refusal 0 h (length symbols) 0 → number_of cause ≡ pack_refusal modulus h symbols room
  unfolding pack_refusal
  pack_turns cause e = header_turns 0 h (length symbols) _ cause e

  module _ (good : header_refusal 0 h (length symbols) 0 ≡ 0) where
    headed : Headed 0 h (length symbols)
    headed = (header_accepted 0 h (length symbols) 0 good).0

    pub pack_sizes : wrong_length room (card_room h.shape) ≡ true → pack_refusal modulus h symbols room ≡ 4
    unfolding pack_refusal
    pack_sizes e = header_passes 0 h (length symbols) _ headed ∙ rw e

    module _ (fits : wrong_length room (card_room h.shape) ≡ false) where
      pub pack_symbols : symbol_bad modulus symbols ≡ true → pack_refusal modulus h symbols room ≡ 5
      unfolding pack_refusal
      pack_symbols e = header_passes 0 h (length symbols) _ headed ∙ rw (fits, e)

      pub pack_good : symbol_bad modulus symbols ≡ false → pack_refusal modulus h symbols room ≡ 0
      unfolding pack_refusal
      pack_good e = header_passes 0 h (length symbols) _ headed ∙ rw (fits, e)

  -- a header, symbols and a buffer that packing takes
  pub record Packable : Type 0 where
    pub headed : Headed 0 h (length symbols)
    pub roomy : room ≡ card_room h.shape
    pub small : all (below modulus) symbols ≡ true

  pub pack_accepted : pack_refusal modulus h symbols room ≡ 0 → Packable
  unfolding pack_refusal wrong_length symbol_bad
  pack_accepted e =
      let head = header_accepted 0 h (length symbols) _ e in
      let fit = passed (wrong_length room (card_room h.shape)) 3 _ head.1 in
      record {
        headed = head.0;
        roomy = eqb-true _ _ (not-false _ fit.0);
        small = not-false _ (passed (symbol_bad modulus symbols) 4 0 fit.1).0;
      }
