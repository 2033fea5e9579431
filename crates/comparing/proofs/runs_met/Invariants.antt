-- `comparing::runs_met` meets its contract: what would be filled in at the a passed is there already. Assumes nothing.
use Rattle.std.proofs.Common.{◌*◌, ◌^◌}
use Rattle.code.specs.Code.{narrow}
use Rattle.rows.specs.Rows.{Low}
use Rattle.filling.specs.Filling.{Filled, Below}
use Rattle.comparing.proofs.runs_met.Given as goal

abbrev pub invariant-loop-block : goal.invariant-loop-block
invariant-loop-block l = record {
  low : Low narrow.modulus l.table;
  filled : Filled l.s.n (l.s.layers * 2 ^ l.s.n) l.list (Below (2 ^ l.s.n) (l.block * l.run)) l.nodes l.nodes;
}
