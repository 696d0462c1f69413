-- `wall::heel::under_toe_triangle` meets its contract: what reaches past a section is a part of the contact, and the quotients are its share.
use mathlib.Core.Path.{◌≡◌, sym, ◌∙◌}
use Prim.Native.Nat.{◌+◌, ◌-◌, ◌*◌}
use native.Mathlib.Omega.{arith}
use Rattle.rules.specs.JobFile.{stem_thickness, toe_length}
use Rattle.rules.specs.ToeAndStem.{twice_arm}
use Rattle.rules.proofs.HeelBearing.{toe_shear, toe_moment}
use Rattle.wall.proofs.UnderHeel.{action_is, share_is, tip_shear, tip_moment}
use Rattle.wall.proofs.heel.under_toe_triangle.Goals as goal

pub returns : goal.returns
returns c =
    let wall = c.args.wall.now.fields in
    let p = c.args.contact.over in
    let q = c.args.contact.under in
    let s = c.args.contact.small in
    let thick = c.args.wall.now.within.stem_thickness in
    let near : c.saturating_sub-past_back.result ≡ p - (toe_length wall + stem_thickness wall) * q = rw (c.toe_length.ensures.0, c.stem_thickness.ensures.0) at c.saturating_sub-past_back.ensures in
    let far : c.saturating_sub-past_middle.result ≡ 2 * p - twice_arm wall * q = rw c.twice_arm.ensures.0 at c.saturating_sub-past_middle.ensures in
    action_is
    (share_is (20 * p * p) q (tip_shear p q c.saturating_sub-past_back.result (omega arith)) (omega arith) c.share_down.ensures
    ∙ rw near (sym (toe_shear wall (omega arith) p q s.over_some s.under_some)))
    (share_is (480 * p * p) p (tip_moment p q c.saturating_sub-past_middle.result (omega arith)) (omega arith) c.share_down-2.ensures
    ∙ rw far (sym (toe_moment wall (omega arith) p q s.over_some s.under_some)))
