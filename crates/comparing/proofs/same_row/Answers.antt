-- `comparing::same_row` meets its contract. Assumes nothing.
use Rattle.std.proofs.Common.{◌≡◌, ◌+◌, ◌-◌, ◌%◌, ap, sym, ◌∙◌, subst, arith, length, take, drop, get_or-take, get_or-drop, length-take}
use Rattle.std.proofs.lemmas.Slice.Zip.{zip_turn}
use Rattle.std.proofs.lemmas.List.{length_push}
use Rattle.std.specs.Slice.Iter.{iter_rest}
use Rattle.std.specs.Iterator.Adapters.{zip_first, zip_second}
use Rattle.rows.specs.Rows.{Stored, remainder}
use Rattle.comparing.proofs.Comparing.{same_more}
use Rattle.comparing.proofs.same_row.Goals as goal

pub loop-sum-preserved : goal.loop-sum-preserved
unfolding remainder
loop-sum-preserved c =
    let l = c.loop-sum in
    let a = c.args in
    let n = length l.yielded in
    let s = c.into_iter-sum-iterator.result in
    let here = drop a.at a.symbols.now in
    let first : iter_rest (zip_first s) ≡ take a.run a.sums = cc in
    let second : iter_rest (zip_second s) ≡ take (a.at + a.run - a.at) here = cc in
    let t = zip_turn _ _ l.yielded s l.sum-iterator c.next.new.self _ first second l.yielded_by _ c.in-Some.is c.next.ensures.steps in
    let sum = t.2 0 ∙ get_or-take a.run a.sums n 0 (omega (arith, t.0, length-take a.run a.sums)) in
    let symbol = t.3 0 ∙ get_or-take (a.at + a.run - a.at) here n 0 (omega (arith, t.1, length-take (a.at + a.run - a.at) here)) ∙ get_or-drop a.at a.symbols.now n 0 in
    λ e. subst (λ k. Stored a.at k (λ i. remainder a.q a.sums i) a.symbols.now a.symbols.now) (sym (length_push l.yielded _))
    (same_more a.at n _ a.symbols.now l.same l.invariant (ap (λ x. x % a.q) sum) (c.from.ensures ∙ symbol) e)
