-- `wall::members::heel_over` meets its contract: a heel is worked where there is one, and a block under the base.
use mathlib.Core.Path.{sym, ◌∙◌}
use native.Mathlib.Omega.{arith}
use Rattle.rules.proofs.Sections.{heel_workable}
use Rattle.wall.proofs.Answers.{no_heel, no_heel_bearing, heel_worked_lem}
use Rattle.wall.proofs.members.heel_over.Goals.{then-heel_length-eq0-via-then-heel_length-eq0, then-heel_length-eq0-via-else-heel_length-eq0+then-not-is_given}
use Rattle.wall.proofs.members.heel_over.Goals as goal

pub returns-then-heel_length-eq0 : goal.returns-then-heel_length-eq0
returns-then-heel_length-eq0 c =
    elim c.then-heel_length-eq0.branch [
      | then-heel_length-eq0-via-then-heel_length-eq0 w ↦ sym (no_heel _ _ (omega (arith, c.heel_length.ensures)))
      | then-heel_length-eq0-via-else-heel_length-eq0+then-not-is_given w ↦ sym (no_heel_bearing _ _ (sym w.is_given.ensures ∙ w.if-not-is_given.true))
    ]

pub member_of-requires : goal.member_of-requires
member_of-requires c = rw c.heel_section.ensures (heel_workable _ c.args.heel.now.wall.fits)

pub returns : goal.returns
returns c =
    rw (c.heel_section.ensures, c.action.ensures) at c.member_of.ensures
    ∙ sym (heel_worked_lem _ _ (omega (arith, c.heel_length.ensures)) (sym c.is_given.ensures ∙ c.if-not-is_given.false))
