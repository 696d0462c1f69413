-- `section::judged` meets its contract: a section is worked where the test says that it can be.
use Rattle.rules.specs.ToeAndStem.{member_under}
use Rattle.rules.specs.Beyond.{verdict_of}
use Rattle.section.proofs.judged.Goals as goal

pub returns-in_err-small : goal.returns-in_err-small
unfolding verdict_of
returns-in_err-small c = let h = c.in_err-small.ensures in rw h c.from_residual.ensures

pub returns : goal.returns
unfolding member_under verdict_of
returns c = let h = c.in_ok-small.ensures in rw (c.steel_of.ensures, c.shear_fails.ensures, h.1, h.0)
