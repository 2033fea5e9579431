-- `picking::pick` meets its contract. Assumes nothing.
use mathlib.Core.Path.{◌≡◌, refl, sym, ◌∙◌}
use Prim.Native.Nat.{◌+◌, ◌-◌, ◌^◌, ◌≤◌}
use native.Mathlib.Omega.{arith}
use lib.Pow.{pow_mono}
use Rattle.lists.proofs.Others.{rising_fits}
use Rattle.lists.proofs.Members.{rising_below}
use Rattle.shape.specs.Shape.{most_nodes}
use Rattle.rows.proofs.Rows.{low_replicate}
use Rattle.rows.specs.Rows.{most_places}
use Rattle.tables.proofs.Tables.{table_skip, table_more}
use Rattle.patterns.specs.Patterns.{patterns}
use Rattle.patterns.proofs.Patterns.{pattern_lt}
use Rattle.picking.specs.Picking.{looked_size, Pickable}
use Rattle.picking.proofs.pick.Goals as goal
use Rattle.picking.proofs.pick.Goals.{After-count-last, Start}

-- the places of a run are few
low : (c : Start) → c.args.a + c.args.run ≤ 2 ^ most_nodes
low c = omega (arith, c.requires.3, pow_mono c.requires.0)

-- one pattern less than there are
last_is : (c : After-count-last) → let a = c.args in c.count-last.result - 1 + 1 ≡ patterns a.marked a.n
last_is c = let a = c.args in omega (arith, c.count-last.ensures, pattern_lt a.marked 0 a.n)

pub patterns_of-picks-requires : goal.patterns_of-picks-requires
patterns_of-picks-requires c = let s = (goal.at.patterns_of-picks-requires c).Start in (s.requires.0, s.requires.2, low s)

pub overflow_sub-last : goal.overflow_sub-last
overflow_sub-last c = let a = c.args in omega (arith, c.count-last.ensures, pattern_lt a.marked 0 a.n)

pub look_up_rows-requires : goal.look_up_rows-requires
look_up_rows-requires c =
    let s = (goal.at.look_up_rows-requires c).Start in
    let n = s.args.n in
    let list = s.args.list.now in (
      λ j h. omega (arith, rising_below n list s.requires.4 j h, s.requires.0),
      omega (arith, rising_fits n list s.requires.4, s.requires.0),
      s.requires.2,
      low s,
      omega (arith, c.patterns_of-picks.ensures.0, s.requires.2),
      λ t h. omega (arith, c.patterns_of-picks.ensures.1 t h, last_is (goal.at.look_up_rows-requires c).After-count-last, pattern_lt c.args.marked (c.args.a + t) c.args.n),
      omega (arith, last_is (goal.at.look_up_rows-requires c).After-count-last, s.requires.6.few),
      refl,
      low_replicate most_places looked_size 0 (omega arith),
    )

pub loop-i-preserved-then-marked-i : goal.loop-i-preserved-then-marked-i
loop-i-preserved-then-marked-i c =
    let l = c.loop-i in
    table_skip _ _ c.requires.2 _ _ l.i _ l.invariant (sym (c.requires.5.each l.i (omega (arith, c.loop-i-test.true, c.requires.1))) ∙ c.if-marked-i.true)

pub loop-i-preserved : goal.loop-i-preserved
loop-i-preserved c =
    let l = c.loop-i in
    let k = (goal.at.loop-i-preserved c).After-count-last in
    let v = c.pick_rows.ensures in
    let able : Pickable c.args.n c.args.m c.args.a c.args.run c.args.list.now c.args.marked k.patterns_of-picks.result (k.count-last.result - 1) c.args.source.now =
    record { high = c.requires.0; inside = c.requires.1; low = c.requires.3; up = c.requires.4; marks = c.requires.5; picks_are = k.patterns_of-picks.ensures.1; last_is = last_is k; held = c.requires.6 } in
    table_more _ _ c.requires.2 _ _ l.i _ _ v.0 l.invariant
    (v.1 _ _ _ _ _ able c.look_up_rows.ensures c.loop-i-test.true (sym (c.requires.5.each l.i (omega (arith, c.loop-i-test.true, c.requires.1))) ∙ c.if-marked-i.false))
