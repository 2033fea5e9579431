-- `batches::cross_rows` meets its contract. Assumes nothing.
use mathlib.Core.Path.{◌≡◌, refl, ◌∙◌}
use native.Mathlib.Omega.{arith}
use lib.ListN.{length, take, length-take}
use lib.Seq.{length_front}
use Rattle.lists.proofs.Tables.{range_length}
use Rattle.batches.proofs.Batches.{low_kept, crossed_more}
use Rattle.batches.proofs.cross_rows.Goals as goal

pub cross_run-requires-clause-low : goal.cross_run-requires-clause-low
cross_run-requires-clause-low c =
    (c.requires.low.0, low_kept _ _ _ _ _ _ c.requires.apart.0 _ _ c.loop-x.invariant.3 (omega (arith, range_length 0 (length c.args.sums.now))) c.requires.low.1)

pub loop-x-preserved : goal.loop-x-preserved
loop-x-preserved c =
    let l = c.loop-x in
    let i = l.invariant in
    let r = c.run_from-run.ensures in
    let m = c.cross_run in
    let w : length (take c.run_from-run.result l.left) ≡ c.run_from-run.result = simp length-take (omega (arith, r.1, i.2)) in (
      r.2,
      refl,
      length_front l.left m.new.left c.run_from-run.result m.auto.left ∙ i.2,
      rw (m.ensures, w) (crossed_more _ _ _ _ _ _ c.requires.apart.0 _ _ i.3 _ (omega (arith, r.2, range_length 0 (length c.args.sums.now)))),
    )
