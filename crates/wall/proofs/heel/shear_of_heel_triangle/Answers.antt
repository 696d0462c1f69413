-- `wall::heel::shear_of_heel_triangle` meets its contract: the triangle is cut by the stem's back, or stands behind it whole.
use mathlib.Core.Path.{sym, ◌∙◌}
use Prim.Native.Nat.{◌*◌}
use native.Mathlib.Omega.{arith}
use Rattle.rules.proofs.HeelBearing.{heel_shear_cut, heel_shear_all}
use Rattle.wall.proofs.UnderHeel.{share_is, cut_shear}
use Rattle.wall.proofs.heel.shear_of_heel_triangle.Goals as goal

pub returns-then-p-under : goal.returns-then-p-under
returns-then-p-under c =
    let s = c.args.contact.small in
    let is = c.heel_length.ensures.0 in
    c.rounded_down.ensures ∙ sym (heel_shear_all _ (omega arith) _ _ s.over_some s.under_some (rw (← is) (omega arith)))

pub returns : goal.returns
returns c =
    let p = c.args.contact.over in
    let q = c.args.contact.under in
    let s = c.args.contact.small in
    let is = c.heel_length.ensures.0 in
    share_is (20 * p * p) q (cut_shear p q (c.heel_length.result * q) (omega arith)) (omega arith) c.share_down.ensures
    ∙ rw is (sym (heel_shear_cut _ (omega arith) p q s.over_some s.under_some (rw (← is) (omega arith))))
