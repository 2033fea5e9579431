-- `returned::store_header` meets its contract: the six stores fill the buffer. Assumes nothing.
use native.Mathlib.Omega.{arith}
use lib.ListN.{length-set}
use Rattle.card.specs.Cards.{plain_numbers, header_fields}
use Rattle.returned.proofs.Cards.{six_set}
use Rattle.returned.proofs.store_header.Goals as goal

pub bounds-header-4 : goal.bounds-header-4
bounds-header-4 c = simp length-set (omega (arith, c.requires))

pub bounds-header-5 : goal.bounds-header-5
bounds-header-5 c = simp length-set (omega (arith, c.requires))

pub returns : goal.returns
unfolding header_fields plain_numbers
returns c = six_set c.args.header.now _ _ _ _ _ _ c.requires
