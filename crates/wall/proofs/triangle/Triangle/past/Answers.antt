-- `wall::triangle::Triangle::past` meets its contract: it is the law's number.
use native.Mathlib.Omega.{arith}
use Rattle.rules.proofs.Triangles.{past}
use Rattle.wall.proofs.Widths.{past_fits}
use Rattle.wall.proofs.triangle.Triangle.past.Goals as goal

pub returns : goal.returns
unfolding past
returns c =
    let h = c.requires in
    omega (arith, c.saturating_sub.ensures, past_fits c.args.self c.args.i h.0 h.3 h.2)
