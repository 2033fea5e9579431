-- What is promised of the question whether transfers may run in an order: the number, the yes in the words of the request, and what it promises.
use Rattle.std.specs.Prelude.{◌≡◌, ◌↔◌, List, ℕ, ◌*◌, ◌<◌, length, get_or, Ok, Err}
use Rattle.lists.specs.Lists.{piece}
use Rattle.shape.specs.declared.Shape.{Shape}
use Rattle.shape.specs.declared.Refusal.TheVariants.{BadOrder}
use Rattle.shape.specs.Shape.{size}
use Rattle.shape.specs.Refusals.{answer_number, Answer}
use Rattle.code.specs.Code.{narrow}
use Rattle.code.specs.Archive.{Codeword}
use Rattle.classes.specs.Classes.{node}
use Rattle.classes.specs.Whole.{repaired}
use Rattle.repair.specs.Promises.{Repaired}
use Rattle.ordering.specs.Ordering.{pairs, pairs_refusal, order_refusal, MayRun}
use Rattle.ordering.specs.Running.{ran}

pub record Orders (s : Shape) (dead helpers numbers : List ℕ) (answer : Answer) : Type 0 where
  pub number : answer_number answer ≡ order_refusal s dead helpers numbers
  -- "say yes exactly if every transfer of the plan stands there once, nothing else does, and each exchange comes after all k+1 messages to
  -- its sender", where nothing before 13 turns the call back
  pub yes : pairs_refusal s dead helpers numbers 0 ≡ 0 → (answer ≡ Ok tt) ↔ MayRun dead helpers (pairs numbers)
  -- "13, in place of a no"
  pub no : pairs_refusal s dead helpers numbers 0 ≡ 0 → (answer ≡ Err BadOrder) ↔ (MayRun dead helpers (pairs numbers) → ⊥)
  -- "running the list in that order" leaves all n nodes as the definition of a whole repair has them, whatever they hold
  pub runs : answer ≡ Ok tt → (nodes : List ℕ) → ran narrow s dead helpers nodes (pairs numbers) ≡ repaired narrow s dead helpers nodes
  -- "The yes promises that running the list in that order leaves every dead drive as an accepted whole repair of the same archive does":
  -- all n nodes, as the promise of a repair that did its work has them
  pub leaves : answer ≡ Ok tt → (nodes nodes_after wire wire_after : List ℕ) → Repaired s dead helpers nodes nodes_after wire wire_after (Ok tt)
      → ran narrow s dead helpers nodes (pairs numbers) ≡ nodes_after
  -- "and so restored where demand 3 says it is": where the helpers hold their symbols of one codeword
  pub restored : answer ≡ Ok tt → (nodes X : List ℕ) → length nodes ≡ s.n * size s → Codeword narrow s X
      → ((j : ℕ) → j < length helpers → piece (size s) (get_or helpers j 0) nodes ≡ piece (size s) (get_or helpers j 0) X)
      → (u : ℕ) → u < length dead → piece (size s) (node dead u) (ran narrow s dead helpers nodes (pairs numbers)) ≡ piece (size s) (node dead u) X
