-- What the causes that all four calls share tell: where they pass, the later causes decide, and what is then known; where they stop a call, its number.
use mathlib.Core.Path.{◌≡◌, refl, sym, ap, ◌∙◌}
use mathlib.Core.Bool.{Bool, true, false, not, ◌||◌}
use mathlib.Core.List.{List}
use Prim.Native.Nat.{ℕ, zero, suc, ◌+◌, ◌-◌, ◌*◌, ◌/◌, ◌%◌, ◌≤◌, ◌<◌}
use native.Mathlib.Nat.{mul-le-mul, div-le_self, le_trans}
use native.Mathlib.Omega.{arith}
use borrow.Author.Tests.{eqb-true, not-false}
use lib.ListN.{length, get_or}
use Rattle.lists.specs.Lists.{all, member, outside, rising}
use Rattle.lists.proofs.Tests.{neither, all_at}
use Rattle.shape.specs.declared.Shape.{Shape}
use Rattle.shape.specs.Shape.{most_nodes, size}
use Rattle.shape.specs.declared.Refusal.{Refusal}
use Rattle.std.specs.Prelude.{Ok, Err}
use Rattle.shape.specs.Refusals.{number_of, answer_number, afterwards, refuse, shape_bad, repair_bad, layers_bad, wrong_length, symbol_bad, Answer}
use Rattle.shape.proofs.Accepted.{passed, shape_accepted, repair_accepted, layers_accepted, symbols_accepted, most_size}
use Rattle.shape.proofs.Answers.{number_positive, afterwards_refused}
use Rattle.code.specs.Code.{narrow}
use Rattle.code.proofs.Accepted.{narrow_accepted}
use Rattle.classes.specs.Classes.{batch, message_size}
use Rattle.judging.specs.Refusals.{lists_refusal, message_refusal, first_step_refusal, second_step_refusal, node_good, whole_refusal}
use Rattle.classes.proofs.Dead.{Accepted}

pub refuse_true : (t : Bool) (number rest : ℕ) → t ≡ true → refuse t number rest ≡ number
refuse_true t number rest e = rw e

pub refuse_false : (t : Bool) (number rest : ℕ) → t ≡ false → refuse t number rest ≡ rest
refuse_false t number rest e = rw e

module _ (s : Shape) (dead helpers : List ℕ) (unnamed : Bool) where
  -- causes 1 to 3 do not hold
  pub record Listed : Type 0 where
    pub shaped : shape_bad s ≡ false
    pub lists : repair_bad s dead helpers ≡ false
    pub named : unnamed ≡ false
    pub layers : layers_bad s.layers (batch dead) ≡ false

  pub listed_passed : (rest : ℕ) → lists_refusal s dead helpers unnamed rest ≡ 0 → Listed × (rest ≡ 0)
  unfolding lists_refusal
  listed_passed rest e =
      let one = passed (shape_bad s) 0 _ e in
      let two = passed (repair_bad s dead helpers || unnamed) 1 _ one.1 in
      let three = passed (layers_bad s.layers (batch dead)) 2 _ two.1 in
      let both = neither (repair_bad s dead helpers) unnamed two.0 in
      (record { shaped = one.0; lists = both.0; named = both.1; layers = three.0 }, three.1)

  -- where they pass, the later causes decide
  pub listed_then : (rest : ℕ) → lists_refusal s dead helpers unnamed 0 ≡ 0 → lists_refusal s dead helpers unnamed rest ≡ rest
  unfolding lists_refusal
  listed_then rest e = let L = (listed_passed 0 e).0 in rw (L.shaped, L.lists, L.named, L.layers)

  -- where they do not, the later causes do not matter
  pub listed_stop : (rest number : ℕ) → lists_refusal s dead helpers unnamed 0 ≡ suc number → lists_refusal s dead helpers unnamed rest ≡ suc number
  unfolding lists_refusal
  listed_stop rest number e = go (shape_bad s) (repair_bad s dead helpers || unnamed) (layers_bad s.layers (batch dead)) e
    where
      go : (a b d : Bool) → refuse a 1 (refuse b 2 (refuse d 3 0)) ≡ suc number → refuse a 1 (refuse b 2 (refuse d 3 rest)) ≡ suc number
      go true b d e = e
      go false true d e = e
      go false false true e = e
      go false false false e = absurd (omega arith)

-- an answer that turns back has a number
turned : (r : Refusal) → (number : ℕ) × (number_of r ≡ suc number)
turned r = go (number_of r) (number_positive r)
  where
    go : (k : ℕ) → 0 < k → (number : ℕ) × (k ≡ suc number)
    go zero h = absurd (omega arith)
    go (suc k) h = (k, refl)

-- and leaves a lent buffer as it was
pub turned_back : (a : Answer) (r : Refusal) (number : ℕ) (before made : List ℕ) → a ≡ Err r → answer_number a ≡ number → before ≡ afterwards number before made
turned_back a r number before made e q = sym (afterwards_refused before made r number (ap answer_number (sym e) ∙ q))

pub turned_number : (a : Answer) (r : Refusal) (number : ℕ) → a ≡ Err r → answer_number a ≡ number → number ≡ 0 → ⊥
turned_number a r number e q z = let n = number_positive r in omega (arith, ap answer_number (sym e) ∙ q)

-- what a call answers, by what the causes 1 to 3 were answered with, and then by 4, a wrong length, and 5, a bad symbol
module _ (s : Shape) (dead helpers : List ℕ) (unnamed : Bool) (lists : Answer) (e : answer_number lists ≡ lists_refusal s dead helpers unnamed 0) where
  pub judged_stop : (r : Refusal) → lists ≡ Err r → (rest : ℕ) → number_of r ≡ lists_refusal s dead helpers unnamed rest
  judged_stop r d rest = let n = turned r in n.1 ∙ sym (listed_stop s dead helpers unnamed rest n.0 (sym e ∙ ap answer_number d ∙ n.1))

  module _ (d : lists ≡ Ok tt) where
    pub judged_listed : Listed s dead helpers unnamed
    judged_listed = (listed_passed s dead helpers unnamed 0 (sym e ∙ ap answer_number d)).0

    pub judged_then : (rest : ℕ) → lists_refusal s dead helpers unnamed rest ≡ rest
    judged_then rest = listed_then s dead helpers unnamed rest (sym e ∙ ap answer_number d)

    pub judged_length : (long : Bool) (rest : ℕ) → long ≡ true → 4 ≡ lists_refusal s dead helpers unnamed (refuse long 4 rest)
    judged_length long rest t = sym (judged_then _ ∙ refuse_true long 4 _ t)

    pub judged_symbols : (long bad : Bool) → long ≡ false → bad ≡ true → 5 ≡ lists_refusal s dead helpers unnamed (refuse long 4 (refuse bad 5 0))
    judged_symbols long bad t q = sym (judged_then _ ∙ refuse_false long 4 _ t ∙ refuse_true bad 5 0 q)

    pub judged_done : (long bad : Bool) → long ≡ false → bad ≡ false → 0 ≡ lists_refusal s dead helpers unnamed (refuse long 4 (refuse bad 5 0))
    judged_done long bad t q = sym (judged_then _ ∙ refuse_false long 4 _ t ∙ refuse_false bad 5 0 q)

-- what is known where no cause holds
module _ (s : Shape) (dead helpers : List ℕ) (unnamed : Bool) where
  pub judged_passed : (long bad : Bool) → lists_refusal s dead helpers unnamed (refuse long 4 (refuse bad 5 0)) ≡ 0
      → Listed s dead helpers unnamed × (long ≡ false) × (bad ≡ false)
  judged_passed long bad e =
      let l = listed_passed s dead helpers unnamed _ e in
      let four = passed long 3 _ l.1 in
      (l.0, four.0, (passed bad 4 0 four.1).0)

  module _ (L : Listed s dead helpers unnamed) where
    pub lists_ready : (shape_bad s ≡ false) × (rising 0 s.n dead ≡ true) × (1 ≤ length dead) × (length dead < s.n) × (s.layers % batch dead ≡ 0)
    lists_ready =
        let r = repair_accepted s dead helpers L.lists in
        (L.shaped, r.dead_rising, r.some_dead, omega (arith, r.few_dead), layers_accepted s.layers (batch dead) L.layers)

    pub lists_accepted : Accepted narrow s dead helpers
    lists_accepted = record {
      code = narrow_accepted s L.shaped;
      lists = repair_accepted s dead helpers L.lists;
      whole = layers_accepted s.layers (batch dead) L.layers;
    }

-- what the lengths that are due are made of is small
module _ (s : Shape) (dead helpers : List ℕ) (unnamed : Bool) (L : Listed s dead helpers unnamed) where
  pub record Small : Type 0 where
    pub some : 1 ≤ length dead
    pub few : s.k + length dead < s.n
    pub n_high : s.n ≤ most_nodes
    pub full : size s ≤ most_size

  pub small : Small
  small =
      let h = shape_accepted s L.shaped in
      let r = repair_accepted s dead helpers L.lists in
      record { some = r.some_dead; few = r.few_dead; n_high = h.n_high; full = h.size_high }

  pub share_fits : (x full : ℕ) → x ≤ most_nodes * most_nodes → full ≡ size s → x * (full / (length dead + 1)) ≤ most_nodes * most_nodes * most_size
  share_fits x full h e = mul-le-mul {m₂ = most_size} h (le_trans (div-le_self full (length dead + 1)) (rw e small.full))

-- a length that is not wrong
pub right_length : (had due : ℕ) → wrong_length had due ≡ false → had ≡ due
unfolding wrong_length
right_length had due e = eqb-true had due (not-false _ e)

pub inside : (x : ℕ) (list : List ℕ) → outside list x ≡ false → member x list ≡ true
unfolding outside
inside x list e = not-false _ e

-- a helper's message
pub record MessagePassed (s : Shape) (dead helpers : List ℕ) (helper new : ℕ) (symbols : List ℕ) (room : ℕ) : Type 0 where
  pub listed : Listed s dead helpers (outside helpers helper || outside dead new)
  pub new_dead : member new dead ≡ true
  pub long : length symbols ≡ size s
  pub due : room ≡ message_size s dead

pub message_passed : (s : Shape) (dead helpers : List ℕ) (helper new : ℕ) (symbols : List ℕ) (room : ℕ)
    → message_refusal narrow s dead helpers helper new symbols room ≡ 0 → MessagePassed s dead helpers helper new symbols room
unfolding message_refusal
message_passed s dead helpers helper new symbols room e =
    let p = judged_passed s dead helpers _ _ (symbol_bad narrow.modulus symbols) e in
    let l = neither _ _ p.1 in
    record {
      listed = p.0;
      new_dead = inside new dead (neither (outside helpers helper) (outside dead new) p.0.named).1;
      long = right_length _ _ l.0;
      due = right_length _ _ l.1;
    }

-- a first step
pub record FirstPassed (s : Shape) (dead helpers : List ℕ) (new : ℕ) (messages : List ℕ) (pairs sums : ℕ) : Type 0 where
  pub listed : Listed s dead helpers (outside dead new)
  pub new_dead : member new dead ≡ true
  pub long : length messages ≡ (s.k + 1) * message_size s dead
  pub pairs_due : pairs ≡ 2 * message_size s dead
  pub sums_due : sums ≡ (length dead - 1) * message_size s dead
  pub below : (e : ℕ) → e < length messages → get_or messages e 0 < narrow.modulus

pub first_passed : (s : Shape) (dead helpers : List ℕ) (new : ℕ) (messages : List ℕ) (pairs sums : ℕ)
    → first_step_refusal narrow s dead helpers new messages pairs sums ≡ 0 → FirstPassed s dead helpers new messages pairs sums
unfolding first_step_refusal
first_passed s dead helpers new messages pairs sums e =
    let p = judged_passed s dead helpers _ _ (symbol_bad narrow.modulus messages) e in
    let l = neither _ _ p.1 in
    let m = neither _ _ l.0 in
    record {
      listed = p.0;
      new_dead = inside new dead p.0.named;
      long = right_length _ _ m.0;
      pairs_due = right_length _ _ m.1;
      sums_due = right_length _ _ l.1;
      below = symbols_accepted narrow.modulus messages p.2;
    }

-- a second step
pub record SecondPassed (s : Shape) (dead helpers : List ℕ) (new : ℕ) (pairs received : List ℕ) (room : ℕ) : Type 0 where
  pub listed : Listed s dead helpers (outside dead new)
  pub new_dead : member new dead ≡ true
  pub pairs_long : length pairs ≡ 2 * message_size s dead
  pub received_long : length received ≡ (length dead - 1) * message_size s dead
  pub due : room ≡ size s
  pub pairs_below : (e : ℕ) → e < length pairs → get_or pairs e 0 < narrow.modulus
  pub received_below : (e : ℕ) → e < length received → get_or received e 0 < narrow.modulus

pub second_passed : (s : Shape) (dead helpers : List ℕ) (new : ℕ) (pairs received : List ℕ) (room : ℕ)
    → second_step_refusal narrow s dead helpers new pairs received room ≡ 0 → SecondPassed s dead helpers new pairs received room
unfolding second_step_refusal
second_passed s dead helpers new pairs received room e =
    let p = judged_passed s dead helpers _ _ (symbol_bad narrow.modulus pairs || symbol_bad narrow.modulus received) e in
    let l = neither _ _ p.1 in
    let m = neither _ _ l.0 in
    let b = neither (symbol_bad narrow.modulus pairs) (symbol_bad narrow.modulus received) p.2 in
    record {
      listed = p.0;
      new_dead = inside new dead p.0.named;
      pairs_long = right_length _ _ m.0;
      received_long = right_length _ _ m.1;
      due = right_length _ _ l.1;
      pairs_below = symbols_accepted narrow.modulus pairs b.0;
      received_below = symbols_accepted narrow.modulus received b.1;
    }

-- a whole repair
pub record WholePassed (s : Shape) (dead helpers nodes : List ℕ) (room : ℕ) : Type 0 where
  pub listed : Listed s dead helpers false
  pub long : length nodes ≡ s.n * size s
  pub due : room ≡ length dead * (s.k + length dead) * message_size s dead
  pub below : (j : ℕ) → j < length helpers → node_good narrow s nodes (get_or helpers j 0) ≡ true

pub whole_passed : (s : Shape) (dead helpers nodes : List ℕ) (room : ℕ) → whole_refusal narrow s dead helpers nodes room ≡ 0 → WholePassed s dead helpers nodes room
unfolding whole_refusal
whole_passed s dead helpers nodes room e =
    let p = judged_passed s dead helpers _ _ (not (all (node_good narrow s nodes) helpers)) e in
    let l = neither _ _ p.1 in
    record {
      listed = p.0;
      long = right_length _ _ l.0;
      due = right_length _ _ l.1;
      below = all_at (node_good narrow s nodes) helpers (not-false _ p.2);
    }
