-- The promise of a whole repair that did its work, from the wire and the nodes that it leaves.
use mathlib.Core.Path.{◌≡◌, sym, ◌∙◌}
use mathlib.Core.List.{List}
use Prim.Native.Nat.{ℕ}
use lib.ListN.{length}
use Rattle.shape.specs.declared.Shape.{Shape}
use Rattle.std.specs.Prelude.{Ok}
use Rattle.shape.proofs.Answers.{afterwards_done}
use Rattle.code.specs.Code.{narrow}
use Rattle.judging.specs.Refusals.{whole_refusal}
use Rattle.classes.specs.Whole.{wire, repaired, WholeRepair}
use Rattle.repair.specs.Promises.{Alike, Repaired}
use Rattle.repair.proofs.Whole.{whole_accepted, helper_sends_own, new_node_sends_by_helpers, new_node_ends_by_messages}

pub whole_alike : (s : Shape) (dead helpers nodes wires after : List ℕ) → WholeRepair narrow s dead helpers nodes wires after → Alike s dead helpers nodes wires after
whole_alike s dead helpers nodes wires after R = record {
  helper = λ nodes' wires' after' R'. helper_sends_own narrow s dead helpers nodes nodes' wires wires' after after' R R';
  sender = λ nodes' wires' after' R'. new_node_sends_by_helpers narrow s dead helpers nodes nodes' wires wires' after after' R R';
  new = λ nodes' wires' after' R'. new_node_ends_by_messages narrow s dead helpers nodes nodes' wires wires' after after' R R';
}

pub repaired_promise : (s : Shape) (dead helpers nodes nodes_after wires wires_after : List ℕ) → whole_refusal narrow s dead helpers nodes (length wires) ≡ 0
    → wires_after ≡ wire narrow s dead helpers nodes → nodes_after ≡ repaired narrow s dead helpers nodes → Repaired s dead helpers nodes nodes_after wires wires_after (Ok tt)
repaired_promise s dead helpers nodes nodes_after wires wires_after e w n =
    let R : WholeRepair narrow s dead helpers nodes wires_after nodes_after = rw (w, n) (whole_accepted s dead helpers nodes (length wires) e) in
    record {
      number = sym e;
      sent = w ∙ sym (afterwards_done _ _ _ e);
      restored = n ∙ sym (afterwards_done _ _ _ e);
      whole = λ z. R;
      alike = λ z. whole_alike s dead helpers nodes wires_after nodes_after R;
    }
