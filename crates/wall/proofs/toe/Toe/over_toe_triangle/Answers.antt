-- `wall::toe::Toe::over_toe_triangle` meets its contract: a case for a contact that ends before the stem's middle, and one for a contact that reaches it.
use mathlib.Core.Path.{refl, sym, ◌∙◌}
use native.Mathlib.Omega.{arith}
use Rattle.std.proofs.Math.Logic.{∥∥₁_elim}
use Rattle.std.proofs.Props.{props}
use Rattle.rules.specs.ToeAndStem.{scaled}
use Rattle.rules.proofs.Triangles.{scaled_is, scaled_start}
use Rattle.wall.specs.Working.{fraction}
use Rattle.wall.proofs.Contacts.{toe_stands, ended, reached, ended_action}
use Rattle.wall.proofs.Exact.{straight_action}
use Rattle.wall.proofs.toe.Toe.over_toe_triangle.Goals as goal

pub on_base-triangle-requires : goal.on_base-triangle-requires
on_base-triangle-requires c =
    let l = c.base_length-l.ensures in
    ∥∥₁_elim c.args.self.now.bears (hlevel props) (λ b. let s = toe_stands b refl refl c.requires in (l.2, s.0, s.1, rw l.0 s.2))

pub returns-then-contact-arm : goal.returns-then-contact-arm
returns-then-contact-arm c =
    let t = c.on_base-triangle.ensures in
    let p = c.on_base-triangle.result in
    let arm = c.twice_arm-arm.ensures.0 in
    ended_action c.args.self.now.wall.fields p.peak p.contact.over p.contact.under c.toe_length-lt.ensures.0 arm c.ended_shear.ensures c.ended_moment.ensures
    ∙ rw t.1 (∥∥₁_elim c.args.self.now.bears (hlevel props) (λ b. sym (ended b t.2 t.3 c.requires (rw (← arm) (omega arith)))))

pub returns : goal.returns
returns c =
    let t = c.on_base-triangle.ensures in
    let p = c.on_base-triangle.result in
    let arm = c.twice_arm-arm.ensures.0 in
    straight_action c.args.self.now.wall.fields (scaled p.peak (fraction p.contact.over p.contact.under)) c.toe_length-lt.ensures.0 arm (sym (scaled_start p.peak _ _ p.contact.small.over_some))
    (c.pressure_at-at_face.ensures.0 ∙ sym (scaled_is p.peak _ _ _)) (c.pressure_at-at_middle.ensures.0 ∙ sym (scaled_is p.peak _ _ _)) c.straight.ensures
    ∙ rw t.1 (∥∥₁_elim c.args.self.now.bears (hlevel props) (λ b. sym (reached b t.2 t.3 c.requires (rw (← arm) (omega arith)))))
