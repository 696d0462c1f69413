-- `wall::members::toe_over` meets its contract: a toe is worked where there is one, and a block under it.
use mathlib.Core.Path.{sym, ◌∙◌}
use native.Mathlib.Omega.{arith}
use Rattle.rules.proofs.Sections.{toe_workable}
use Rattle.wall.proofs.Answers.{no_toe, no_bearing, toe_worked_lem}
use Rattle.wall.proofs.members.toe_over.Goals.{then-toe_length-eq0-via-then-toe_length-eq0, then-toe_length-eq0-via-else-toe_length-eq0+then-not-is_given}
use Rattle.wall.proofs.members.toe_over.Goals as goal

pub returns-then-toe_length-eq0 : goal.returns-then-toe_length-eq0
returns-then-toe_length-eq0 c =
    elim c.then-toe_length-eq0.branch [
      | then-toe_length-eq0-via-then-toe_length-eq0 w ↦ sym (no_toe _ _ (omega (arith, c.toe_length.ensures)))
      | then-toe_length-eq0-via-else-toe_length-eq0+then-not-is_given w ↦ sym (no_bearing _ _ (sym w.is_given.ensures ∙ w.if-not-is_given.true))
    ]

pub member_of-requires : goal.member_of-requires
member_of-requires c = rw c.toe_section.ensures (toe_workable _ c.args.toe.now.wall.fits)

pub returns : goal.returns
returns c =
    rw (c.toe_section.ensures, c.action.ensures) at c.member_of.ensures
    ∙ sym (toe_worked_lem _ _ (omega (arith, c.toe_length.ensures)) (sym c.is_given.ensures ∙ c.if-not-is_given.false))
