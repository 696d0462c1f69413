-- `wall::triangle::Triangle::pressure_at` meets its contract: what is left of the reach is the difference, and a peak scaled is no more than before.
use Rattle.wall.proofs.Exact.{scaled_within}
use Rattle.wall.proofs.triangle.Triangle.pressure_at.Goals as goal

pub returns : goal.returns
returns c = let t = c.args.self in (cc, rw (c.rounded_up.ensures, c.saturating_sub.ensures) (scaled_within t.peak c.args.twice t.contact.over t.contact.under))
