-- The factors of the next equation, one at a time.
use Rattle.std.proofs.Common.{◌≡◌, ℕ, ◌*◌, ◌%◌, ◌<◌}
use Rattle.lists.specs.Lists.{element}
use Rattle.field.specs.Residues.{minus}
use Rattle.column.proofs.next_row.Given as goal

abbrev pub invariant-loop-j : goal.invariant-loop-j
invariant-loop-j l = (k : ℕ) → k < l.j → element l.factor-items k ≡ (element l.row k * minus l.q (element l.points k) l.x) % l.q
