-- Solving the Vandermonde equations: the triangle has no zero on its diagonal, and the values that meet it are the solution.
use Rattle.column.proofs.Assembled.{solved_by}
use Rattle.column.proofs.solve.Goals as goal

pub returns : goal.returns
returns c =
    let s = c.args in
    record {
      long = c.substituted.ensures.long;
      solved = λ points e prime apart v.
          solved_by s.q prime points apart s.r e c.requires.1 s.powers v s.right c.points_of-points.result _ _ c.points_of-points.ensures c.triangle-left.ensures
          c.eliminated.ensures c.substituted.result c.substituted.ensures;
    }
