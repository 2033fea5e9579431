-- `column_test::main` meets its contract. Assumes nothing.
use native.Mathlib.Omega.{arith}
use Rattle.field.proofs.Primes.{prime_by_trial}
use Rattle.column_test.proofs.main.Goals as goal

pub print_sizes-requires : goal.print_sizes-requires
print_sizes-requires c = (prime_by_trial 257 15 (omega arith) (omega arith) tt, omega arith, omega arith)

pub print_sizes-requires-2 : goal.print_sizes-requires-2
print_sizes-requires-2 c = (prime_by_trial 65537 255 (omega arith) (omega arith) tt, omega arith, omega arith)
