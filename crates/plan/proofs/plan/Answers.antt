-- `plan::plan` meets its contract: a short buffer is not touched, another holds the text in front. Assumes nothing.
use native.Mathlib.Omega.{arith}
use Rattle.plan.proofs.Promised.{plans_refused, plans_done}
use Rattle.plan.proofs.plan.Goals as goal

pub returns-then-text-lt-PLAN_TEXT : goal.returns-then-text-lt-PLAN_TEXT
returns-then-text-lt-PLAN_TEXT c = plans_refused _ _ (omega arith)

pub returns : goal.returns
returns c = plans_done _ _ (omega arith) c.write_text.ensures
