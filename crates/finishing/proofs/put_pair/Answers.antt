-- `finishing::put_pair` meets its contract. Assumes nothing.
use native.Mathlib.Omega.{arith}
use Rattle.finishing.proofs.Answers.{pair_put}
use Rattle.finishing.proofs.put_pair.Goals as goal

pub overflow_cast-pairs : goal.overflow_cast-pairs
overflow_cast-pairs c = omega (arith, c.requires.3.at c.args.i)

pub overflow_cast-pairs-2 : goal.overflow_cast-pairs-2
overflow_cast-pairs-2 c = omega (arith, c.requires.3.at c.args.n)

pub returns : goal.returns
returns c = pair_put _ _ _ _ _ c.requires.4
