-- What an accepted first step is given is what its work asks for.
use mathlib.Core.List.{List}
use Prim.Native.Nat.{ℕ, ◌+◌, ◌*◌, ◌<◌}
use lib.Arith.{digits_lt}
use lib.ListN.{length}
use Rattle.shape.specs.declared.Shape.{Shape}
use Rattle.shape.proofs.Accepted.{repair_accepted}
use Rattle.classes.specs.Classes.{message_size}
use Rattle.solving.specs.Solving.{Helped}
use Rattle.judging.proofs.Judged.{FirstPassed}

pub first_helped : (s : Shape) (dead helpers : List ℕ) (new : ℕ) (messages : List ℕ) (pairs sums u : ℕ)
    → FirstPassed s dead helpers new messages pairs sums → u < length dead → Helped s dead helpers u messages
first_helped s dead helpers new messages pairs sums u P l =
    let r = repair_accepted s dead helpers P.listed.lists in
    record {
      rises = r.helpers_rising;
      count = r.helpers_count;
      apart = r.apart;
      rank = l;
      long = P.long;
      below = λ j x h k. P.below (j * message_size s dead + x) (rw P.long (digits_lt h k));
    }
