-- `picking::run_multipliers` meets its contract. Assumes nothing.
use native.Mathlib.Omega.{arith}
use lib.Pow.{pow_mono}
use Rattle.picking.proofs.run_multipliers.Goals as goal

pub multipliers-requires : goal.multipliers-requires
multipliers-requires c =
    (c.requires.0, c.requires.1, c.requires.2, omega (arith, c.requires.3, pow_mono c.requires.0), c.requires.4, c.requires.5, c.requires.7, c.requires.8)
