-- No text is longer than plan_room.
use mathlib.Core.Path.{◌≡◌, refl, ap, ◌∙◌}
use mathlib.Core.Logic.{◌⊎◌, inl, inr}
use mathlib.Core.Bool.{Bool, true, false, not}
use mathlib.Core.List.{List, [], ◌∷◌, ◌++◌, flat_map, append_assoc}
use Prim.Native.Nat.{ℕ, zero, suc, ◌+◌, ◌*◌, ◌-◌, ◌^◌, ◌≤◌, ◌<◌}
use native.Mathlib.Nat.{mul-le-mul, mul-le-mul_right, mul-div-le, suc-mul}
use native.Mathlib.Omega.{arith}
use lib.ListN.{length, get_or, take, drop, length-append, get_or-eq_default}
use Rattle.lists.specs.Lists.{rising}
use Rattle.lists.proofs.Tests.{below_or_not}
use Rattle.lists.proofs.Members.{rising_below}
use Rattle.lists.proofs.Writing.{Writing, writing_all, writing_room}
use Rattle.shape.specs.declared.Shape.{Shape}
use Rattle.shape.specs.declared.Refusal.{Refusal}
use Rattle.shape.specs.declared.Refusal.TheVariants.{BadShape, BadNodes, PartBatch, WrongLength, BadSymbol, Malformed, NoTranscript, PastEnd, NoLayers, BadChange, BadOrder}
use Rattle.shape.specs.Shape.{most_nodes, size, within}
use Rattle.shape.specs.Refusals.{number_of, refuse, shape_bad, repair_bad, layers_bad}
use Rattle.shape.proofs.Accepted.{passed, Shaped, shape_accepted, Repairable, repair_accepted, most_size}
use Rattle.classes.specs.Classes.{batch, node, message_size}
use Rattle.numbers.specs.Numbers.{Numbers, values, broken, read_numbers}
use Rattle.transfers.specs.Plan.{helper_transfer, dead_transfer, transfers, no_transfer, line, transfer_line, total, plan_text, text_or, lists_number, with_nodes, with_lists, shape_number, with_shape, with_front, left_over, front_count, printed, most_transfers, message_digits, total_digits, line_room, total_room, plan_room}
use Rattle.transfers.specs.Promises.{Few, Plannable, Puts}
use Rattle.transfers.proofs.Puts.{puts_next, puts_last, puts_room}
use Rattle.transfers.proofs.Transfers.{transfers_length, transfers_count, transfer_first, transfer_second}
use Rattle.transfers.proofs.Decimals.{line_none, line_more}

-- an element of a rising list, or 0 where there is none
small : (n : ℕ) (xs : List ℕ) → 0 < n → rising 0 n xs ≡ true → (i : ℕ) → get_or xs i 0 < n
small n xs p up i = go (below_or_not i (length xs))
  where
    go : (i < length xs) ⊎ (length xs ≤ i) → get_or xs i 0 < n
    go (inl l) = rising_below n xs up i l
    go (inr l) = rw (get_or-eq_default xs 0 l) p

pub flat_map_length : {A : Type 0} (f : A → List ℕ) (m : ℕ) (d : A) (ts : List A) → ((i : ℕ) → i < length ts → length (f (get_or ts i d)) ≤ m)
    → length (flat_map f ts) ≤ length ts * m
unfolding flat_map
flat_map_length f m d [] h = omega arith
flat_map_length f m d (t ∷ ts) h =
    omega (
      arith,
      length-append (f t) (flat_map f ts),
      h 0 (omega arith),
      flat_map_length f m d ts (λ i l. h (suc i) (omega arith)),
      suc-mul (length ts) m,
    )

module _ (s : Shape) (dead helpers : List ℕ) (p : Plannable s dead helpers) where
  S : Shaped s
  S = shape_accepted s p.shape

  R : Repairable s dead helpers
  R = repair_accepted s dead helpers p.lists

  -- the symbols of a message: of h + 1 messages no more than a node's
  all_messages : (length dead + 1) * message_size s dead ≤ size s
  unfolding message_size
  all_messages = mul-div-le (size s) (length dead + 1)

  message_high : message_size s dead < 10 ^ message_digits
  message_high = omega (arith, all_messages, S.size_high, mul-le-mul_right (message_size s dead) (let l : 2 ≤ length dead + 1 = omega (arith, R.some_dead) in l))

  pub senders_high : s.k + length dead ≤ most_nodes - 1
  senders_high = omega (arith, R.few_dead, S.n_high)

  pub count_high : length dead * (s.k + length dead) ≤ most_transfers
  count_high = mul-le-mul {n₂ = most_nodes - 2} (omega (arith, R.few_dead, S.n_high, S.k_low)) senders_high

  -- h messages of the h + 1 have no more symbols than a node, and there are k + h senders to each dead node
  pub total_high : length dead * (s.k + length dead) * message_size s dead < 10 ^ total_digits
  total_high =
      omega (arith, mul-le-mul senders_high (let l : length dead * message_size s dead ≤ most_size = omega (arith, all_messages, S.size_high) in l))

  pub few_listed : Few dead helpers
  few_listed = omega (arith, R.some_dead, R.few_dead, R.helpers_count, S.n_high)

  transfer_small : (e : ℕ) → e < length (transfers dead helpers)
      → ((get_or (transfers dead helpers) e no_transfer).sender < s.n) × ((get_or (transfers dead helpers) e no_transfer).receiver < s.n)
  unfolding helper_transfer dead_transfer node
  transfer_small e l = go (below_or_not e (length dead * length helpers))
    where
      d : (i : ℕ) → get_or dead i 0 < s.n
      d = small s.n dead (omega (arith, S.n_low)) R.dead_rising

      go : (e < length dead * length helpers) ⊎ (length dead * length helpers ≤ e)
          → ((get_or (transfers dead helpers) e no_transfer).sender < s.n) × ((get_or (transfers dead helpers) e no_transfer).receiver < s.n)
      go (inl b) = rw (transfer_first dead helpers e no_transfer b) (small s.n helpers (omega (arith, S.n_low)) R.helpers_rising _, d _)
      go (inr b) =
          rw (transfer_second dead helpers e (e - length dead * length helpers) no_transfer (omega arith) (omega (arith, transfers_length dead helpers)))
          (d _, d _)

  transfer_fits : (e : ℕ) → e < length (transfers dead helpers) → length (transfer_line (message_size s dead) (get_or (transfers dead helpers) e no_transfer)) ≤ line_room
  unfolding transfer_line
  transfer_fits e l =
      let t = transfer_small e l in
      line_more 1 _ _ (line_room - 3) (omega (arith, t.0, S.n_high))
      (line_more 1 _ _ (message_digits + 1) (omega (arith, t.1, S.n_high)) (line_more (message_digits - 1) _ _ 0 message_high line_none))

  few : length (transfers dead helpers) ≤ most_transfers
  few = omega (arith, transfers_count s dead helpers R, count_high)

  first_fits : length (line (s.n ∷ s.k ∷ s.layers ∷ length dead ∷ [])) ≤ line_room
  first_fits =
      let four = line_more 1 s.n _ 9 (omega (arith, S.n_high))
      (line_more 1 s.k _ 6 (omega (arith, S.n_high, S.k_high))
      (line_more 1 s.layers _ 3 (omega (arith, S.layers_high)) (line_more 1 (length dead) _ 0 (omega (arith, S.n_high, R.few_dead)) line_none))) in
      omega (arith, four)

  abbrev first : List ℕ
  first = line (s.n ∷ s.k ∷ s.layers ∷ length dead ∷ [])

  abbrev lines : List ℕ
  lines = flat_map (transfer_line (message_size s dead)) (transfers dead helpers)

  abbrev last : List ℕ
  last = line (total s dead ∷ [])

  last_fits : length last ≤ total_room
  unfolding total
  last_fits = line_more (total_digits - 1) (total s dead) [] 0 total_high line_none

  plan_is : plan_text s dead helpers ≡ first ++ (lines ++ last)
  unfolding plan_text
  plan_is = append_assoc first lines last

  pub plan_fits : length (plan_text s dead helpers) ≤ plan_room
  plan_fits =
      omega (
        arith,
        ap length plan_is ∙ length-append first (lines ++ last),
        length-append lines last,
        first_fits,
        flat_map_length (transfer_line (message_size s dead)) line_room no_transfer (transfers dead helpers) transfer_fits,
        few,
        last_fits,
      )

  -- ---- the text written in three steps, a message having `symbols` symbols

  module _ (symbols : ℕ) (e : symbols ≡ message_size s dead) (old : List ℕ) (room : plan_room ≤ length old) where
    whole : plan_text s dead helpers
        ≡ first ++ (flat_map (transfer_line symbols) (transfers dead helpers) ++ line (length dead * (s.k + length dead) * symbols ∷ []))
    unfolding total
    whole = rw e plan_is

    start : Writing (plan_text s dead helpers) old 0 (plan_text s dead helpers) old 0
    start = writing_all (plan_text s dead helpers) old 0

    fits : 0 + length (plan_text s dead helpers) ≤ length old
    fits = omega (arith, plan_fits)

    pub first_room : 0 + length (line (s.n ∷ s.k ∷ s.layers ∷ length dead ∷ [])) ≤ length old
    first_room = puts_room start first _ whole fits

    module _ (one : List ℕ) (at : ℕ) (p₁ : Puts (line (s.n ∷ s.k ∷ s.layers ∷ length dead ∷ [])) old 0 one at) where
      second : Writing (plan_text s dead helpers) old 0
          (flat_map (transfer_line symbols) (transfers dead helpers) ++ line (length dead * (s.k + length dead) * symbols ∷ [])) one at
      second = puts_next start _ whole p₁

      pub transfers_room : at + length (flat_map (transfer_line symbols) (transfers dead helpers)) ≤ length one
      transfers_room = puts_room second (flat_map (transfer_line symbols) (transfers dead helpers)) _ refl fits

      module _ (two : List ℕ) (behind : ℕ) (p₂ : Puts (flat_map (transfer_line symbols) (transfers dead helpers)) one at two behind) where
        third : Writing (plan_text s dead helpers) old 0 (line (length dead * (s.k + length dead) * symbols ∷ [])) two behind
        third = puts_next second _ refl p₂

        pub total_room_lem : behind + length (line (length dead * (s.k + length dead) * symbols ∷ [])) ≤ length two
        total_room_lem = writing_room third fits

        pub plan_put : {after : List ℕ} {next : ℕ} → Puts (line (length dead * (s.k + length dead) * symbols ∷ [])) two behind after next
            → Puts (plan_text s dead helpers) old 0 after next
        plan_put p₃ = puts_last third p₃

-- ---- every text

-- a line with a refusal's number, which has one digit or two
pub refusal_fits : (number : ℕ) → number < 100 → length (line (number ∷ [])) ≤ plan_room
refusal_fits number h = omega (arith, line_more 1 number [] 0 h line_none)

pub number_small : (cause : Refusal) → number_of cause < 100
number_small BadShape = omega arith
number_small BadNodes = omega arith
number_small PartBatch = omega arith
number_small WrongLength = omega arith
number_small BadSymbol = omega arith
number_small Malformed = omega arith
number_small NoTranscript = omega arith
number_small PastEnd = omega arith
number_small NoLayers = omega arith
number_small BadChange = omega arith
number_small BadOrder = omega arith

refuse_small : (cause : Bool) (number rest : ℕ) → number < 10 → rest < 10 → refuse cause number rest < 10
refuse_small true number rest h l = h
refuse_small false number rest h l = l

or_fits : (number : ℕ) (text : List ℕ) → number < 10 → (number ≡ 0 → length text ≤ plan_room) → length (text_or number text) ≤ plan_room
unfolding text_or
or_fits zero text h l = l refl
or_fits (suc number) text h l = refusal_fits (suc number) (omega arith)

-- lists that are not refused are planned
pub lists_accepted : (s : Shape) (dead helpers : List ℕ) (left : Bool) → shape_bad s ≡ false → lists_number s dead helpers left ≡ 0 → Plannable s dead helpers
unfolding lists_number
lists_accepted s dead helpers left e q = record { shape = e; lists = (passed (repair_bad s dead helpers) 1 _ (passed left 5 _ q).1).0 }

nodes_fit : (s : Shape) (h : ℕ) (nodes : List ℕ) (left : Bool) → shape_bad s ≡ false → length (with_nodes s h nodes left) ≤ plan_room
unfolding with_nodes
nodes_fit s h nodes left e =
    or_fits (lists_number s (take h nodes) (drop h nodes) left) (plan_text s (take h nodes) (drop h nodes)) number
    (λ q. plan_fits s (take h nodes) (drop h nodes) (lists_accepted s (take h nodes) (drop h nodes) left e q))
  where
    number : lists_number s (take h nodes) (drop h nodes) left < 10
    number = unfold lists_number in
        refuse_small left 6 _ (omega arith)
        (refuse_small (repair_bad s (take h nodes) (drop h nodes)) 2 _ (omega arith)
        (refuse_small (layers_bad s.layers (batch (take h nodes))) 3 0 (omega arith) (omega arith)))

lists_fit : (s : Shape) (h : ℕ) (n : Numbers) → shape_bad s ≡ false → length (with_lists s h n) ≤ plan_room
unfolding with_lists
lists_fit s h broken e = refusal_fits 6 (omega arith)
lists_fit s h (values nodes rest) e = nodes_fit s h nodes (left_over rest) e

-- a shape and an h that are not refused
pub shape_passed : (s : Shape) (h : ℕ) → shape_number s h ≡ 0 → shape_bad s ≡ false
unfolding shape_number
shape_passed s h q = (passed (shape_bad s) 0 _ q).0

shape_fits : (s : Shape) (h : ℕ) (rest : List ℕ) → length (with_shape s h rest) ≤ plan_room
unfolding with_shape
shape_fits s h rest =
    or_fits (shape_number s h) (with_lists s h (read_numbers (h + (s.k + 1)) rest)) number
    (λ q. lists_fit s h (read_numbers (h + (s.k + 1)) rest) (shape_passed s h q))
  where
    number : shape_number s h < 10
    number = unfold shape_number in
        refuse_small (shape_bad s) 1 _ (omega arith) (refuse_small (not (within 1 (s.n - s.k - 1) h)) 2 0 (omega arith) (omega arith))

front_fits : (n : Numbers) → length (with_front n) ≤ plan_room
unfolding with_front
front_fits broken = refusal_fits 6 (omega arith)
front_fits (values xs rest) = shape_fits _ (get_or xs 3 0) rest

pub printed_fits : (bytes : List ℕ) → length (printed bytes) ≤ plan_room
unfolding printed
printed_fits bytes = front_fits (read_numbers front_count bytes)
