-- `hearing::next_member` meets its contract. Assumes nothing.
use mathlib.Core.Path.{◌≡◌, sym, ap, ◌∙◌}
use Prim.Native.Nat.{◌+◌, ◌%◌}
use native.Mathlib.Nat.{mod-eq_of_lt, mod_self}
use native.Mathlib.Omega.{arith}
use Rattle.hearing.proofs.next_member.Goals as goal

pub returns-then-j-size : goal.returns-then-j-size
returns-then-j-size c = (c.if-j-size.true, sym (mod-eq_of_lt c.if-j-size.true))

pub returns-else-j-size : goal.returns-else-j-size
returns-else-j-size c =
    let a = c.args in
    let e : a.j + 1 ≡ a.g.members = omega arith in
    (omega arith, sym (ap (λ z. z % a.g.members) e ∙ mod_self a.g.members))
