-- `column_test::completed` meets its contract. Assumes nothing.
use mathlib.Core.Path.{refl, sym, ◌∙◌}
use lib.ListN.{length}
use Rattle.shape.proofs.Accepted.{nodes_accepted}
use Rattle.column_test.proofs.Apart.{stepped_points}
use Rattle.column_test.proofs.completed.Goals as goal

pub complete-requires : goal.complete-requires
complete-requires c =
    let m = length c.args.points.now in (
      record {
        prime = c.requires.prime.0;
        few = c.requires.points_len_bound.0;
        apart = stepped_points c.args.base c.args.step c.requires.prime.1 c.args.q m c.requires.points_len_bound.0 c.requires.prime.2 c.args.points.now refl c.requires.points_len_bound.1;
        up = (nodes_accepted m _ _ (sym c.nodes_bad.ensures ∙ c.if-nodes_bad.false)).1;
        each = c.requires.values_len.0;
      },
      c.requires.values_len.1,
    )
