-- `wall::members::member_of` meets its contract: of a workable section something is made.
use mathlib.Core.Path.{◌≡◌, ◌∙◌}
use lib.Ieee.Bits.{is_true}
use Rattle.std.specs.Prelude.{Some}
use Rattle.rules.specs.ToeAndStem.{member_under}
use Rattle.rules.specs.Beyond.{is_workable, verdict_of}
use Rattle.wall.proofs.members.member_of.Goals.{After-judged}
use Rattle.wall.proofs.members.member_of.Goals as goal

judged : (c : After-judged) → c.judged.result ≡ Some (member_under c.args.section c.args.action)
unfolding verdict_of
judged c = c.judged.ensures ∙ rw (is_true (is_workable c.args.section) c.requires)

pub unwrap-requires : goal.unwrap-requires
unwrap-requires c = rw (judged (goal.at.unwrap-requires c).After-judged)

pub returns : goal.returns
returns c = cc (judged (goal.at.returns c).After-judged, c.unwrap.ensures)
