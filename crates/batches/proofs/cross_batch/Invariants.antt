-- `batches::cross_batch` meets its contract. Assumes nothing.
use Rattle.code.specs.Code.{narrow}
use Rattle.batches.specs.Batches.{turned, left_in, Stored}
use Rattle.batches.proofs.cross_batch.Given as goal

abbrev pub invariant-loop-x : goal.invariant-loop-x
invariant-loop-x l = Stored l.x (turned l.members l.far) (left_in narrow l.members l.near l.sums l.initial.symbols) l.initial.symbols l.symbols
