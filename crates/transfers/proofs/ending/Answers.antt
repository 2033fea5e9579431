-- `transfers::ending` meets its contract: the end of the line where no number is left. Assumes nothing.
use mathlib.Core.Path.{sym}
use native.Mathlib.Omega.{arith}
use Rattle.transfers.proofs.Decimals.{ending_none, ending_some}
use Rattle.transfers.proofs.ending.Goals as goal

pub returns-then-left-eq0 : goal.returns-then-left-eq0
returns-then-left-eq0 c = sym (ending_none _ (omega arith))

pub returns : goal.returns
returns c = sym (ending_some _ (omega arith))
