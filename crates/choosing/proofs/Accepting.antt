-- "An archive written with that L shall be accepted for layers by repair for each value." (document 02 §6), as theorems about the promises: by
-- a repair, by its separate calls and by the plan; and a written archive is repaired.
use mathlib.Core.Path.{◌≡◌, refl, sym, ap, ap₂, ◌∙◌}
use mathlib.Core.Logic.{◌≢◌}
use mathlib.Core.Bool.{Bool, true, false, not, ◌&&◌, ◌||◌}
use mathlib.Core.List.{List, [], ◌∷◌}
use Prim.Native.Nat.{ℕ, ◌+◌, ◌-◌, ◌*◌, ◌≤◌, ◌<◌}
use native.Mathlib.Omega.{arith}
use borrow.Author.Tests.{le-leb, eq-eqb, not-true, not-false}
use lib.ListN.{length, get_or, take, drop, length-take}
use Rattle.lists.specs.Lists.{all, below, member, piece}
use Rattle.lists.proofs.Tests.{both, at_all, at_all_below}
use Rattle.lists.proofs.Members.{all_member, rising_below}
use Rattle.lists.proofs.Flats.{piece_length, piece_at}
use Rattle.lists.proofs.Parts.{row_within}
use Rattle.shape.specs.declared.Shape.{Shape}
use Rattle.std.specs.Prelude.{Ok}
use Rattle.shape.specs.Shape.{most_nodes, most_layers, size, within, shape_good}
use Rattle.shape.specs.Refusals.{answer_number, refuse, shape_bad, repair_bad, layers_bad, wrong_length, symbol_bad, Answer}
use Rattle.shape.proofs.Accepted.{passed, repair_accepted}
use Rattle.shape.proofs.Answers.{number_only}
use Rattle.numbers.specs.Numbers.{Numbers, values, broken, read_numbers, most_groups}
use Rattle.numbers.proofs.Numbers.{numbers_count}
use Rattle.code.specs.Code.{narrow}
use Rattle.code.specs.Archive.{Codeword}
use Rattle.code.specs.Promises.{Writes}
use Rattle.classes.specs.Classes.{batch, node, message_size}
use Rattle.judging.specs.Refusals.{lists_refusal, message_refusal, first_step_refusal, second_step_refusal, node_good, whole_refusal}
use Rattle.repair.specs.Promises.{HelperMessage, FirstStep, SecondStep, Repaired}
use Rattle.transfers.specs.Plan.{line, text_or, left_over, lists_number, with_nodes, with_lists, shape_number, with_shape, with_front, front_count, printed}
use Rattle.choosing.specs.Layers.{serves, counts_bad, losses_bad, layers_refusal}
use Rattle.choosing.specs.Promises.{LayersAccepted, Chooses}
use Rattle.choosing.proofs.Promised.{says_serves}
use Rattle.choosing.proofs.Texts.{Unlike, unlike_line, unlike_lists}

-- causes other than 1 and 3 leave layers accepted
apart : (two four five : Bool) → LayersAccepted (refuse two 2 (refuse four 4 (refuse five 5 0)))
apart true four five = (λ e. omega arith, λ e. omega arith)
apart false true five = (λ e. omega arith, λ e. omega arith)
apart false false true = (λ e. omega arith, λ e. omega arith)
apart false false false = (λ e. omega arith, λ e. omega arith)

-- n and k in their ranges are so with any layers in theirs
other_layers : (n k l m : ℕ) → shape_bad (record { n = n; k = k; layers = l }) ≡ false → 1 ≤ m → m ≤ most_layers → shape_bad (record { n = n; k = k; layers = m }) ≡ false
unfolding shape_bad shape_good within
other_layers n k l m e low high =
    let counts = (both (within 3 most_nodes n && within 1 (n - 2) k) (within 1 most_layers l) (not-false _ e)).0 in
    ap not (ap₂ ◌&&◌ counts (ap₂ ◌&&◌ (le-leb 1 m low) (le-leb m most_layers high)))

-- L was chosen for a list of losses
module _ (n k : ℕ) (losses : List ℕ) (layers : ℕ) (chosen : Chooses n k losses (Ok layers)) where
  -- the shape of an archive written with that L
  abbrev pub shape : Shape
  shape = record { n = n; k = k; layers = layers }

  counts_passed : (counts_bad n k ≡ false) × (losses_bad n k losses ≡ false)
  unfolding layers_refusal
  counts_passed =
      let one = passed (counts_bad n k) 0 _ (sym chosen.number) in
      (one.0, (passed (losses_bad n k losses) 1 _ one.1).0)

  chosen_shape : shape_bad shape ≡ false
  unfolding counts_bad
  chosen_shape = let r = chosen.range layers refl in other_layers n k 1 layers counts_passed.0 r.0 r.1

  -- a node of a codeword has symbols alone
  node_good_lem : (nodes : List ℕ) → Codeword narrow shape nodes → (i : ℕ) → i < n → node_good narrow shape nodes i ≡ true
  unfolding node_good
  node_good_lem nodes word i h =
      at_all_below narrow.modulus (piece (size shape) i nodes)
      (λ e l.
      let room = row_within n (size shape) i h in
      let m : e < size shape = rw (← piece_length (size shape) i nodes (omega (arith, room, word.long))) l in
      rw (piece_at (size shape) i nodes e 0 m) (word.small (i * size shape + e) (omega (arith, room, word.long))))

  -- it looks at the node's symbols alone
  node_alike : (nodes others : List ℕ) (i : ℕ) → piece (size shape) i nodes ≡ piece (size shape) i others
      → node_good narrow shape nodes i ≡ node_good narrow shape others i
  unfolding node_good
  node_alike nodes others i e = ap (all (below narrow.modulus)) e

  -- a loss of a size that the list has
  module _ (dead helpers : List ℕ) (named : member (length dead) losses ≡ true) where
    chosen_layers : layers_bad layers (batch dead) ≡ false
    unfolding serves batch
    chosen_layers = not-true _ (says_serves layers (length dead) (chosen.served layers refl (length dead) named))

    -- of the causes that all four calls share the lists alone are left
    lists_only : (unnamed : Bool) (rest : ℕ) → lists_refusal shape dead helpers unnamed rest ≡ refuse (repair_bad shape dead helpers || unnamed) 2 rest
    unfolding lists_refusal
    lists_only unnamed rest = rw (chosen_shape, chosen_layers) refl

    accepts : (number : ℕ) (unnamed four five : Bool) → number ≡ lists_refusal shape dead helpers unnamed (refuse four 4 (refuse five 5 0)) → LayersAccepted number
    accepts number unnamed four five e = rw (e ∙ lists_only unnamed _) (apart (repair_bad shape dead helpers || unnamed) four five)

    -- repair accepts the layers, whatever the nodes hold
    pub repair_accepts : (nodes nodes_after wire wire_after : List ℕ) (answer : Answer) → Repaired shape dead helpers nodes nodes_after wire wire_after answer
        → LayersAccepted (answer_number answer)
    unfolding whole_refusal
    repair_accepts nodes nodes_after wire wire_after answer p =
        accepts (answer_number answer) false
        (wrong_length (length nodes) (n * size shape) || wrong_length (length wire) (length dead * (k + length dead) * message_size shape dead))
        (not (all (node_good narrow shape nodes) helpers)) p.number

    -- and so do the step calls
    pub message_accepts : (helper new : ℕ) (symbols before after : List ℕ) (answer : Answer) → HelperMessage shape dead helpers helper new symbols before after answer
        → LayersAccepted (answer_number answer)
    unfolding message_refusal
    message_accepts helper new symbols before after answer p =
        accepts (answer_number answer) _ (wrong_length (length symbols) (size shape) || wrong_length (length before) (message_size shape dead))
        (symbol_bad narrow.modulus symbols) p.number

    pub first_accepts : (new : ℕ) (messages pairs sums pairs_after sums_after : List ℕ) (answer : Answer)
        → FirstStep shape dead helpers new messages pairs sums pairs_after sums_after answer → LayersAccepted (answer_number answer)
    unfolding first_step_refusal
    first_accepts new messages pairs sums pairs_after sums_after answer p =
        accepts (answer_number answer) _
        (wrong_length (length messages) ((k + 1) * message_size shape dead) || wrong_length (length pairs) (2 * message_size shape dead)
        || wrong_length (length sums) ((length dead - 1) * message_size shape dead))
        (symbol_bad narrow.modulus messages) p.number

    pub second_accepts : (new : ℕ) (pairs received before after : List ℕ) (answer : Answer) → SecondStep shape dead helpers new pairs received before after answer
        → LayersAccepted (answer_number answer)
    unfolding second_step_refusal
    second_accepts new pairs received before after answer p =
        accepts (answer_number answer) _
        (wrong_length (length pairs) (2 * message_size shape dead) || wrong_length (length received) ((length dead - 1) * message_size shape dead)
        || wrong_length (length before) (size shape))
        (symbol_bad narrow.modulus pairs || symbol_bad narrow.modulus received) p.number

    -- Of an archive written with that L the helpers still hold what was written on them, and the other nodes anything. It is repaired,
    -- whichever dead and helpers of such a size: each dead node ends with what was written on it.
    pub written_repaired : (bytes before written nodes nodes_after wire wire_after : List ℕ) (answer : Answer) → Writes shape bytes before written (Ok tt)
        → length nodes ≡ n * size shape
        → ((j : ℕ) → j < length helpers → piece (size shape) (get_or helpers j 0) nodes ≡ piece (size shape) (get_or helpers j 0) written)
        → repair_bad shape dead helpers ≡ false → length wire ≡ length dead * (k + length dead) * message_size shape dead
        → Repaired shape dead helpers nodes nodes_after wire wire_after answer
        → (answer ≡ Ok tt) × ((u : ℕ) → u < length dead → piece (size shape) (node dead u) nodes_after ≡ piece (size shape) (node dead u) written)
    unfolding whole_refusal wrong_length
    written_repaired bytes before written nodes nodes_after wire wire_after answer w full held lists long p =
        (number_only answer (Ok tt) (p.number ∙ none), (p.whole none).exact written word held)
      where
        word : Codeword narrow shape written
        word = w.codeword refl

        good : (j : ℕ) → j < length helpers → node_good narrow shape nodes (get_or helpers j 0) ≡ true
        good j l =
            node_alike nodes written (get_or helpers j 0) (held j l)
            ∙ node_good_lem written word (get_or helpers j 0) (rising_below _ _ (repair_accepted shape dead helpers lists).helpers_rising j l)

        none : whole_refusal narrow shape dead helpers nodes (length wire) ≡ 0
        none =
            lists_only false _
            ∙ rw (lists, eq-eqb (length nodes) (n * size shape) full, eq-eqb (length wire) _ long, at_all (node_good narrow shape nodes) helpers good) refl

  -- the plan accepts the layers for each value of the list: where its input starts with n, k, L and that value, it prints neither 1 nor 3
  module _ (h : ℕ) (named : member h losses ≡ true) where
    shape_passed : shape_number shape h ≡ 0
    unfolding shape_number losses_bad
    shape_passed =
        rw (chosen_shape, all_member (within 1 (n - k - 1)) losses (not-false _ counts_passed.1) h named) refl

    nodes_unlike : (nodes : List ℕ) (left : Bool) → h ≤ length nodes → Unlike (with_nodes shape h nodes left)
    unfolding with_nodes lists_number
    nodes_unlike nodes left l =
        let dead = take h nodes in
        let sized : length (take h nodes) ≡ h = simp length-take (omega arith) in
        rw (chosen_layers dead (drop h nodes) (ap (λ x. member x losses) sized ∙ named)) (unlike_lists shape dead (drop h nodes) left (repair_bad shape dead (drop h nodes)))

    lists_unlike : (read : Numbers) → ((vs rest : List ℕ) → read ≡ values vs rest → h ≤ length vs) → Unlike (with_lists shape h read)
    unfolding with_lists
    lists_unlike broken long = unlike_line 6 (omega arith) (λ e. omega arith) (λ e. omega arith)
    lists_unlike (values nodes rest) long = nodes_unlike nodes (left_over rest) (long nodes rest refl)

    pub plan_accepts : (input rest : List ℕ) → read_numbers front_count input ≡ values (n ∷ k ∷ layers ∷ h ∷ []) rest
        → (printed input ≢ line (1 ∷ [])) × (printed input ≢ line (3 ∷ []))
    unfolding printed with_front with_shape text_or
    plan_accepts input rest e =
        rw (e, shape_passed)
        (lists_unlike (read_numbers (h + (k + 1)) rest) (λ vs left read. omega (arith, numbers_count most_groups (h + (k + 1)) rest vs left read)))
