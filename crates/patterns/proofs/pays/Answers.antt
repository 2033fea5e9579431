-- `patterns::pays` meets its contract. Assumes nothing.
use mathlib.Core.Path.{sym}
use mathlib.Core.Bool.{true≢false}
use Rattle.patterns.proofs.pays.Goals as goal

pub returns-then-two-le-RUN : goal.returns-then-two-le-RUN
returns-then-two-le-RUN c = λ h. absurd (true≢false (sym h))

pub returns-then-patterns-gt-RUN : goal.returns-then-patterns-gt-RUN
returns-then-patterns-gt-RUN c = λ h. absurd (true≢false (sym h))
