-- `inverting::invert` meets its contract: the last element first. Assumes nothing.
use Rattle.std.proofs.Common.{◌≡◌, ◌+◌, ◌-◌, ◌*◌, ◌%◌, sym, ap, ◌∙◌, length, get_or-set_other, arith}
use Rattle.lists.specs.Lists.{element}
use Rattle.inverting.specs.Inverses.{product, Pivots}
use Rattle.inverting.proofs.Inverses.{product_small, product_nonzero, inverts_pivot, inverts_rest, inverted_none, inverted_more}
use Rattle.inverting.proofs.invert.Goals as goal

pub loop-i-init : goal.loop-i-init
loop-i-init c =
    let w = c.products.ensures in (
      inverted_none _ _ _ (w.long ∙ c.requires.1),
      w.each,
      λ v.
          ap (λ x. (x * c.inverse-rest.result) % c.args.q) (sym w.whole)
          ∙ c.inverse-rest.ensures.one v.prime
          (omega (arith, w.whole, product_nonzero c.args.q _ (element c.args.row.now) v (length c.args.row.now) (omega arith)))
          (rw w.whole (product_small c.args.q _ (element c.args.row.now) v (length c.args.row.now))),
    )

pub loop-i-preserved : goal.loop-i-preserved
loop-i-preserved c =
    let l = c.loop-i in
    let a = c.args in
    let i = l.i - 1 in
    let next : l.i ≡ i + 1 = omega arith in
    let one : Pivots a.q (length a.row.now) (element a.row.now) → (product a.q (element a.row.now) (i + 1) * l.rest) % a.q ≡ 1 = λ w. rw (sym next) (l.invariant.2 w) in (
      inverted_more a.q a.row.now i _ l.out (omega arith) (rw next at l.invariant.0) c.multiply.ensures.0
          (λ w. inverts_pivot a.q (element a.row.now) i l.rest (one w) _ _ (l.invariant.1 i (omega arith)) c.multiply.ensures.1),
      λ k h. get_or-set_other l.out i k _ 0 (λ e. omega arith) ∙ l.invariant.1 k (omega arith),
      λ w. inverts_rest a.q (element a.row.now) i l.rest (one w) _ c.multiply-rest.ensures.1,
    )
