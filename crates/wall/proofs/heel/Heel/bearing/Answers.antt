-- `wall::heel::Heel::bearing` meets its contract: a case for each kind of block.
use mathlib.Core.Path.{refl, sym, ap, ◌∙◌}
use Rattle.std.proofs.Math.Logic.{∥∥₁_elim}
use Rattle.std.proofs.Props.{props}
use Rattle.rules.specs.ToeAndStem.{heel_bearing}
use Rattle.wall.proofs.UnderHeel.{action_is, full_is, full_ends, toe_is, heel_is, reaches, none_bears}
use Rattle.wall.proofs.heel.Heel.bearing.Goals as goal

pub of_block-requires : goal.of_block-requires
of_block-requires c =
    let wall = c.args.self.now.wall in
    ∥∥₁_elim c.args.self.now.made (hlevel props) (λ m. rw c.base_length.ensures.0 (full_ends m wall.fits c.in-Full.is refl refl))

pub returns-in-Full : goal.returns-in-Full
returns-in-Full c =
    let ends = c.of_block.ensures in
    c.under_full.ensures
    ∙ rw (ends.0 ∙ c.base_length.ensures.0)
    (∥∥₁_elim c.args.self.now.made (hlevel props) (λ m. ap (heel_bearing c.args.self.now.wall.fields) (sym (full_is m c.in-Full.is ends.1 ends.2))))

pub contact_length-requires : goal.contact_length-requires
contact_length-requires c = ∥∥₁_elim c.args.self.now.made (hlevel props) (λ m. reaches m refl refl c.in-FromToe.is tt)

pub returns-in-FromToe : goal.returns-in-FromToe
returns-in-FromToe c =
    let contact = c.contact_length.ensures in
    c.under_toe_triangle.ensures
    ∙ ∥∥₁_elim c.args.self.now.made (hlevel props) (λ m. ap (heel_bearing c.args.self.now.wall.fields) (sym (toe_is m contact.0 contact.1 c.in-FromToe.is)))

pub contact_length-contact-requires : goal.contact_length-contact-requires
contact_length-contact-requires c = ∥∥₁_elim c.args.self.now.made (hlevel props) (λ m. reaches m refl refl c.in-FromHeel.is tt)

pub returns-in-FromHeel : goal.returns-in-FromHeel
returns-in-FromHeel c =
    let contact = c.contact_length-contact.ensures in
    action_is c.shear_of_heel_triangle.ensures c.moment_of_heel_triangle.ensures
    ∙ ∥∥₁_elim c.args.self.now.made (hlevel props) (λ m. ap (heel_bearing c.args.self.now.wall.fields) (sym (heel_is m contact.0 contact.1 c.in-FromHeel.is)))

pub returns-in-NoBlock : goal.returns-in-NoBlock
returns-in-NoBlock c = none_bears _ _ c.in-NoBlock.is
