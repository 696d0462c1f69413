-- `section::steel::needed_area` meets its contract: it is the rules' quotient, rounded up.
use Rattle.rules.specs.ToeAndStem.{needed_area}
use Rattle.section.proofs.steel.needed_area.Goals as goal

pub returns : goal.returns
unfolding needed_area
returns c = cc
