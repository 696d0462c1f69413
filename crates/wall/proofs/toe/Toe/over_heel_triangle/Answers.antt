-- `wall::toe::Toe::over_heel_triangle` meets its contract: the triangle's contact is the fraction of its two parts, and the stem's front and middle are on the base.
use mathlib.Core.Path.{refl, sym, ◌∙◌}
use native.Mathlib.Omega.{arith}
use Rattle.std.proofs.Math.Logic.{∥∥₁_elim}
use Rattle.std.proofs.Props.{props}
use Rattle.rules.proofs.Lines.{arm_most}
use Rattle.wall.proofs.Contacts.{heel_stands, begun, begun_action}
use Rattle.wall.proofs.toe.Toe.over_heel_triangle.Goals as goal

pub on_base-triangle-requires : goal.on_base-triangle-requires
on_base-triangle-requires c =
    let l = c.base_length-l.ensures in
    ∥∥₁_elim c.args.self.now.bears (hlevel props) (λ b. let s = heel_stands b refl refl c.requires in (l.2, s.0, s.1, rw l.0 s.2))

pub begun_shear-requires : goal.begun_shear-requires
begun_shear-requires c = omega (arith, c.on_base-triangle.ensures.0, c.base_length-l.ensures, c.toe_length.ensures, arm_most c.args.self.now.wall.within)

pub begun_moment-requires : goal.begun_moment-requires
begun_moment-requires c = omega (arith, c.on_base-triangle.ensures.0, c.base_length-l.ensures, c.twice_arm.ensures, arm_most c.args.self.now.wall.within)

pub returns : goal.returns
returns c =
    let t = c.on_base-triangle.ensures in
    let p = c.on_base-triangle.result in
    begun_action c.args.self.now.wall.fields p.peak p.contact.over p.contact.under c.toe_length.ensures.0 c.twice_arm.ensures.0 (t.0 ∙ c.base_length-l.ensures.0) c.begun_shear.ensures c.begun_moment.ensures
    ∙ rw t.1 (∥∥₁_elim c.args.self.now.bears (hlevel props) (λ b. sym (begun b t.2 t.3 c.requires)))
