-- The inverse modulo q: by Fermat, where q is a prime.
use mathlib.Core.Path.{ap, ◌∙◌}
use Prim.Native.Nat.{◌*◌, ◌%◌}
use Rattle.field.specs.Residues.{inverse}
use Rattle.field.proofs.Fields.{inverse_inverts}
use Rattle.field.proofs.inverse.Goals as goal

pub returns : goal.returns
unfolding inverse
returns c =
    let same = c.power.ensures.1 in
    record {
      small = c.power.ensures.0;
      same = same;
      one = λ prime p l. ap (λ n. (c.args.a * n) % c.args.q) same ∙ inverse_inverts _ _ prime p l;
    }
