-- `wall::triangle::Triangle::begun_moment` meets its contract: each product is kept whole, and the quotient fits.
use mathlib.Core.Path.{◌≡◌, sym, ◌∙◌}
use Prim.Native.Nat.{◌*◌, ◌<◌, ◌^◌}
use native.Mathlib.Omega.{arith}
use lib.Dec.{lit≤}
use Rattle.whole.proofs.Rounded.{up_of_zero}
use Rattle.wide.proofs.Exact.{first, exactly, up_exact}
use Rattle.wall.proofs.Widths.{over_parts, heel_moment_fits, moment_before}
use Rattle.wall.proofs.triangle.Triangle.begun_moment.Goals as goal

pub returns-then-past-eq0 : goal.returns-then-past-eq0
returns-then-past-eq0 c =
    let t = c.args.self in
    let none : c.past-past.result ≡ 0 = omega arith in
    let nothing : t.peak * 0 * 0 * 0 ≡ 0 = omega arith in
    sym (moment_before t c.args.arm c.requires.1 c.past-past.ensures.0 ∙ rw (none, nothing) (up_of_zero _))

pub returns : goal.returns
returns c =
    let t = c.args.self in
    let e = c.past-past.result in
    let few : e < 2 ^ 41 = omega arith in
    let peak = first 62 c.from.ensures (over_parts t e c.past-past.ensures.3) in
    let part = exactly 41 (exactly 41 peak few (lit≤ tt) c.times.ensures) few (lit≤ tt) c.times-above.ensures in
    let under = exactly 28 (first 43 c.from-2.ensures (omega arith)) (omega arith) (lit≤ tt) c.times-2.ensures in
    let over = exactly 41 under (omega arith) (lit≤ tt) c.times-below.ensures in
    up_exact part over (heel_moment_fits t c.past-past.ensures.1 c.past-past.ensures.2) c.quotient_up.ensures
    ∙ sym (moment_before t c.args.arm c.requires.1 c.past-past.ensures.0)
