-- Which text each exit of the call has to write.
use mathlib.Core.Path.{◌≡◌, ap, ◌∙◌}
use mathlib.Core.Logic.{◌⊎◌, inl, inr}
use mathlib.Core.Bool.{Bool, not}
use mathlib.Core.List.{List, [], ◌∷◌}
use Prim.Native.Nat.{ℕ, zero, suc, ◌+◌, ◌-◌, ◌≤◌, ◌<◌}
use native.Mathlib.Omega.{arith}
use borrow.Author.Tests.{lt-ltb, le-ltb, eq-eqb, ne_eqb}
use lib.Dec.{ltb, eqb}
use lib.ListN.{length, get_or, take, drop, length-take, length-drop}
use lib.Seq.{take_all}
use Rattle.lists.proofs.Tests.{below_or_not}
use Rattle.shape.specs.declared.Shape.{Shape}
use Rattle.shape.specs.declared.Refusal.{Refusal}
use Rattle.shape.specs.declared.Refusal.TheVariants as refusal
use Rattle.shape.specs.Refusals.{number_of}
use Rattle.shape.proofs.Answers.{number_positive}
use Rattle.numbers.specs.Numbers.{Numbers, values, broken, read_numbers}
use Rattle.std.specs.Prelude.{Option, Some, None}
use Rattle.transfers.specs.Plan.{line, plan_text, text_or, left_over, lists_number, with_nodes, with_lists, shape_number, with_shape, with_front, front_count, printed}
use Rattle.transfers.specs.Promises.{Puts}
use Rattle.plan.specs.Promises.{numbers_of}

-- the same bytes in other words
pub puts_as : {xs ys before after : List ℕ} {at next : ℕ} → xs ≡ ys → Puts xs before at after next → Puts ys before at after next
puts_as e p = rw e at p

or_refused : (cause : Refusal) (number : ℕ) (text : List ℕ) → number_of cause ≡ number → line (number_of cause ∷ []) ≡ text_or number text
unfolding text_or
or_refused cause zero text e = absurd (omega (arith, number_positive cause))
or_refused cause (suc number) text e = ap (λ x. line (x ∷ [])) e

or_done : (number : ℕ) (text : List ℕ) → number ≡ 0 → text ≡ text_or number text
unfolding text_or
or_done number text e = rw e

-- ---- the listed nodes

pub front_length : (n : ℕ) (xs : List ℕ) → n ≤ length xs → n ≡ length (take n xs)
front_length n xs h = simp length-take (omega arith)

pub behind_dead : (nodes : List ℕ) (h : ℕ) → take (length nodes - h) (drop h nodes) ≡ drop h nodes
behind_dead nodes h = take_all (length nodes - h) (drop h nodes) (omega (arith, length-drop h nodes))

module _ (s : Shape) (h : ℕ) (nodes helpers : List ℕ) (left : Bool) (e : helpers ≡ drop h nodes) where
  pub nodes_refused : (cause : Refusal) → number_of cause ≡ lists_number s (take h nodes) helpers left → line (number_of cause ∷ []) ≡ with_nodes s h nodes left
  unfolding with_nodes
  nodes_refused cause q = or_refused cause _ _ (rw e at q)

  pub nodes_planned : lists_number s (take h nodes) helpers left ≡ 0 → plan_text s (take h nodes) helpers ≡ with_nodes s h nodes left
  unfolding with_nodes
  nodes_planned q = ap (plan_text s (take h nodes)) e ∙ or_done _ _ (rw e at q)

-- ---- numbers that were read

left_is : (bytes : List ℕ) (next : ℕ) → left_over (drop next bytes) ≡ ltb next (length bytes)
unfolding left_over
left_is bytes next = go (below_or_not next (length bytes))
  where
    go : (next < length bytes) ⊎ (length bytes ≤ next) → not (eqb (length (drop next bytes)) 0) ≡ ltb next (length bytes)
    go (inl l) = rw (ne_eqb (length (drop next bytes)) 0 (λ e. omega (arith, length-drop next bytes)), lt-ltb next (length bytes) l)
    go (inr l) = rw (eq-eqb (length (drop next bytes)) 0 (omega (arith, length-drop next bytes)), le-ltb next (length bytes) l)

module _ (n : Numbers) (bytes nodes : List ℕ) (r : Option ℕ) (q : n ≡ numbers_of bytes nodes r) where
  pub read_bad : r ≡ None → n ≡ broken
  unfolding numbers_of
  read_bad e = q ∙ ap (numbers_of bytes nodes) e

  pub read_good : (next : ℕ) → r ≡ Some next → n ≡ values nodes (drop next bytes)
  unfolding numbers_of
  read_good next e = q ∙ ap (numbers_of bytes nodes) e

module _ (s : Shape) (h : ℕ) (n : Numbers) where
  pub lists_bad : n ≡ broken → line (number_of refusal.Malformed ∷ []) ≡ with_lists s h n
  unfolding with_lists
  lists_bad e = rw e

  pub lists_read : (bytes nodes : List ℕ) (next : ℕ) → n ≡ values nodes (drop next bytes) → with_nodes s h nodes (ltb next (length bytes)) ≡ with_lists s h n
  unfolding with_lists
  lists_read bytes nodes next e = rw (e, left_is bytes next)

-- ---- the first four numbers

module _ (bytes : List ℕ) where
  pub front_bad : read_numbers front_count bytes ≡ broken → line (number_of refusal.Malformed ∷ []) ≡ printed bytes
  unfolding printed with_front
  front_bad e = rw e

  module _ (front : List ℕ) (next : ℕ) (e : read_numbers front_count bytes ≡ values front (drop next bytes)) where
    abbrev s : Shape
    s = record { n = get_or front 0 0; k = get_or front 1 0; layers = get_or front 2 0 }

    front_is : with_shape s (get_or front 3 0) (drop next bytes) ≡ printed bytes
    unfolding printed with_front
    front_is = rw e

    pub front_refused : (cause : Refusal) → number_of cause ≡ shape_number s (get_or front 3 0) → line (number_of cause ∷ []) ≡ printed bytes
    unfolding with_shape
    front_refused cause q = or_refused cause _ _ q ∙ front_is

    pub front_passed : shape_number s (get_or front 3 0) ≡ 0 → with_lists s (get_or front 3 0) (read_numbers (get_or front 3 0 + (s.k + 1)) (drop next bytes)) ≡ printed bytes
    unfolding with_shape
    front_passed q = or_done _ _ q ∙ front_is
