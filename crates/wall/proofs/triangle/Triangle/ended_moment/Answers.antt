-- `wall::triangle::Triangle::ended_moment` meets its contract: each product is kept whole, and the quotient fits.
use mathlib.Core.Path.{sym, ◌∙◌}
use native.Mathlib.Omega.{arith}
use lib.Dec.{lit≤}
use Rattle.wide.proofs.Exact.{first, exactly, up_exact}
use Rattle.rules.proofs.Triangles.{about_middle}
use Rattle.wall.proofs.Widths.{length_fits_lem, over_parts, toe_moment_fits}
use Rattle.wall.proofs.triangle.Triangle.ended_moment.Goals as goal

pub returns : goal.returns
returns c =
    let t = c.args.self in
    let s = t.contact.small in
    let peak = first 62 c.from.ensures (over_parts t t.contact.over (omega arith)) in
    let arm = exactly 43 peak (omega (arith, length_fits_lem s c.args.arm c.requires.0)) (lit≤ tt) c.times-above.ensures in
    let under = exactly 28 (first 41 c.from-2.ensures (omega arith)) (omega arith) (lit≤ tt) c.times-below.ensures in
    up_exact arm under (toe_moment_fits t c.args.arm c.requires.0 c.requires.1) c.quotient_up.ensures
    ∙ sym (about_middle _ _ _ s.over_some s.under_some c.args.arm c.requires.1)
