-- `wall::triangle::Triangle::ended_shear` meets its contract: its part over lt is worked in a wide number, all of it fits 64 bits.
use mathlib.Core.Path.{sym, ◌∙◌}
use native.Mathlib.Omega.{arith}
use lib.Dec.{lit≤}
use Rattle.wide.proofs.Exact.{first, exactly, up_exact}
use Rattle.rules.proofs.Triangles.{all, over_toe}
use Rattle.wall.proofs.Widths.{over_length, toe_shear_fits}
use Rattle.wall.proofs.triangle.Triangle.ended_shear.Goals as goal

pub returns-then-face-over : goal.returns-then-face-over
returns-then-face-over c =
    let t = c.args.self in
    let lt = first 35 c.from.ensures (over_length t c.args.lt c.requires) in
    let part = exactly 42 lt (omega arith) (lit≤ tt) c.times-above.ensures in
    let over = first 52 c.from-then-face-over.ensures (omega arith) in
    up_exact part over (toe_shear_fits t c.args.lt c.requires) c.quotient_up.ensures
    ∙ sym (over_toe _ _ _ t.contact.small.over_some t.contact.small.under_some c.args.lt (omega arith))

pub returns : goal.returns
returns c =
    let s = c.args.self.contact.small in
    c.rounded_up.ensures ∙ sym (all _ _ _ s.over_some s.under_some c.args.lt (omega arith))
