-- `plan::write_listed` meets its contract: 6 where a number is malformed, else what is judged of the nodes that were read. Assumes nothing.
use native.Mathlib.Omega.{arith}
use Rattle.plan.proofs.Exits.{puts_as, read_bad, read_good, lists_bad, lists_read}
use Rattle.plan.proofs.write_listed.Goals as goal

pub returns-in_default : goal.returns-in_default
returns-in_default c =
    puts_as (lists_bad _ _ _ (read_bad _ _ _ _ c.read_numbers.ensures c.in_default.is)) c.write_refusal.ensures

pub write_nodes-requires : goal.write_nodes-requires
write_nodes-requires c =
    (c.requires.0, omega (arith, c.requires.1, c.read_numbers.auto.numbers), c.requires.2, c.requires.3)

pub returns : goal.returns
returns c =
    puts_as (lists_read _ _ _ c.args.input.now _ c.in-Some.next (read_good _ _ _ _ c.read_numbers.ensures _ c.in-Some.is)) c.write_nodes.ensures
