-- `column::part_of` meets its contract. Assumes nothing.
use Rattle.std.proofs.Common.{◌≡◌, ◌+◌, ◌-◌, ◌*◌, ◌%◌, ◌<◌, ap, ap₂, sym, ◌∙◌, ℕ, arith, length, List, take, drop, get_or, get_or-take, get_or-drop, length-take, length-drop}
use Rattle.std.proofs.lemmas.Slice.Zip.{zip_turn, zip_end}
use Rattle.std.proofs.lemmas.List.{length_push}
use Rattle.std.specs.Slice.Iter.{iter_rest}
use Rattle.std.specs.Iterator.Adapters.{zip_first, zip_second}
use Rattle.lists.specs.Sums.{sum}
use Rattle.lists.proofs.Sums.{sum_none, sum_more}
use Rattle.column.specs.Solving.{term}
use Rattle.column.proofs.part_of.Goals as goal

-- `count` elements from `start` on
abbrev part : ℕ → ℕ → List ℕ → List ℕ
part start count xs = take (start + count - start) (drop start xs)

part_at : (start count : ℕ) (xs : List ℕ) (k : ℕ) → k < length (part start count xs) → get_or (part start count xs) k 0 ≡ get_or xs (start + k) 0
part_at start count xs k h = get_or-take (start + count - start) (drop start xs) k 0 (omega (arith, length-take (start + count - start) (drop start xs))) ∙ get_or-drop start xs k 0

pub loop-factor-init : goal.loop-factor-init
loop-factor-init c = (omega arith, sum_none _ _)

pub loop-factor-preserved : goal.loop-factor-preserved
unfolding term
loop-factor-preserved c =
    let d = c.loop-factor in
    let a = c.args in
    let s = c.into_iter-factor-iterator.result in
    let first : iter_rest (zip_first s) ≡ part a.start a.count a.row = cc in
    let second : iter_rest (zip_second s) ≡ part a.start a.count a.values.now = cc in
    let t = zip_turn _ _ d.yielded s d.factor-iterator c.next.new.self _ first second d.yielded_by _ c.in-Some.is c.next.ensures.steps in
    let n = length d.yielded in
    let both = ap₂ (λ x y. x * y % a.q) (t.2 0 ∙ part_at a.start a.count a.row n t.0) (t.3 0 ∙ part_at a.start a.count a.values.now n t.1) in (
      c.add-total.ensures.0,
      c.add-total.ensures.1 ∙ sum_more a.q (term a.row a.values.now a.start) n _ _ d.invariant.1 (c.multiply.ensures.1 ∙ both)
          ∙ ap (λ m. sum m (term a.row a.values.now a.start) % a.q) (sym (length_push d.yielded _)),
    )

pub returns : goal.returns
returns c =
    let d = c.loop-factor in
    let a = c.args in
    let s = c.into_iter-factor-iterator.result in
    let first : iter_rest (zip_first s) ≡ part a.start a.count a.row = cc in
    let second : iter_rest (zip_second s) ≡ part a.start a.count a.values.now = cc in
    let t = zip_end _ _ d.yielded s d.factor-iterator c.next.new.self _ first second d.yielded_by c.in-None.is c.next.ensures.steps in
    let n : length d.yielded ≡ a.count = omega (arith, t, length-take {A = ℕ}, length-drop {A = ℕ}) in
    (d.invariant.0, d.invariant.1 ∙ ap (λ m. sum m (term a.row a.values.now a.start) % a.q) n)
