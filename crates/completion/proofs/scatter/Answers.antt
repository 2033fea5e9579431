-- `completion::scatter` meets its contract. Assumes nothing.
use Rattle.std.proofs.Common.{◌≡◌, ◌<◌, ◌≤◌, length, get_or, length-set, arith}
use Rattle.std.proofs.lemmas.Slice.Zip.{zip_turn}
use Rattle.std.proofs.lemmas.List.{length_push}
use Rattle.std.specs.Slice.Iter.{iter_rest}
use Rattle.std.specs.Iterator.Adapters.{zip_first, zip_second}
use Rattle.lists.proofs.Members.{rising_below}
use Rattle.lists.proofs.Stores.{listed_more, unlisted_more}
use Rattle.completion.proofs.scatter.Goals as goal
use Rattle.completion.proofs.scatter.Goals.{In-Some}

-- which entry and value an iteration has
turn : (c : In-Some) →
    let n = length c.loop-entry.yielded in
    (n < length c.args.list.now) × (c.in-Some.field-0-0.now ≡ get_or c.args.list.now n 0) × (c.in-Some.field-0-1.now ≡ get_or c.args.values.now n 0)
turn c =
    let d = c.loop-entry in
    let s = c.into_iter-entry-iterator.result in
    let first : iter_rest (zip_first s) ≡ c.args.list.now = cc in
    let second : iter_rest (zip_second s) ≡ c.args.values.now = cc in
    let t = zip_turn _ _ d.yielded s d.entry-iterator c.next.new.self _ first second d.yielded_by _ c.in-Some.is c.next.ensures.steps in
    (t.0, t.2 0, t.3 0)

target : (c : In-Some) → c.in-Some.field-0-0.now < length c.loop-entry.column
target c = let t = turn c in omega (arith, rising_below _ _ c.requires.1 (length c.loop-entry.yielded) t.0)

pub offset_bounds-column-entry : goal.offset_bounds-column-entry
offset_bounds-column-entry c = omega (arith, target (goal.at.offset_bounds-column-entry c).In-Some)

pub bounds-column-entry : goal.bounds-column-entry
bounds-column-entry c = target (goal.at.bounds-column-entry c).In-Some

pub loop-entry-preserved : goal.loop-entry-preserved
loop-entry-preserved c =
    let w = (goal.at.loop-entry-preserved c).In-Some in
    let l = w.loop-entry in
    let s = w.args in
    let t = turn w in
    let n = length l.yielded in
    let room : length s.column.now ≤ length l.column = omega arith in
    rw (length_push l.yielded _, t.1) (
      simp length-set l.invariant.0,
      listed_more _ s.list.now s.values.now w.requires.1 s.column.now l.column n _ t.0 room t.2 l.invariant.1,
      unlisted_more _ s.list.now s.values.now w.requires.1 s.column.now l.column n _ t.0 room l.invariant.2,
    )
