-- `arrival::heard_count` meets its contract. Assumes nothing.
use mathlib.Core.Path.{sym}
use native.Mathlib.Omega.{arith}
use Rattle.arrival.proofs.Records.{count_at, count_none}
use Rattle.arrival.proofs.heard_count.Goals as goal

pub returns-in-empty : goal.returns-in-empty
returns-in-empty c = sym (count_none _ (omega arith))

pub returns-in-len1-up : goal.returns-in-len1-up
returns-in-len1-up c = sym (count_at _)
