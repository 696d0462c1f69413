-- `wall::heel::moment_of_heel_triangle` meets its contract: the triangle is cut by the stem's middle, or stands behind it whole.
use mathlib.Core.Path.{sym, ◌∙◌}
use Prim.Native.Nat.{◌*◌}
use native.Mathlib.Omega.{arith}
use Rattle.rules.proofs.HeelBearing.{heel_moment_cut, heel_moment_all}
use Rattle.wall.proofs.UnderHeel.{share_is, cut_moment}
use Rattle.wall.proofs.heel.moment_of_heel_triangle.Goals as goal

pub returns-then-p-under : goal.returns-then-p-under
returns-then-p-under c =
    let s = c.args.contact.small in
    let is = c.twice_heel_arm.ensures.0 in
    c.rounded_down.ensures ∙ rw is (sym (heel_moment_all _ (omega arith) _ _ s.over_some s.under_some (rw (← is) (omega arith))))

pub returns : goal.returns
returns c =
    let p = c.args.contact.over in
    let q = c.args.contact.under in
    let s = c.args.contact.small in
    let is = c.twice_heel_arm.ensures.0 in
    share_is (480 * p * p) p (cut_moment p q (c.twice_heel_arm.result * q) (omega arith)) (omega arith) c.share_down.ensures
    ∙ rw is (sym (heel_moment_cut _ (omega arith) p q s.over_some s.under_some (rw (← is) (omega arith))))
