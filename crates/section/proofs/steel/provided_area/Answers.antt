-- `section::steel::provided_area` meets its contract: it is the rules' quotient, rounded down.
use Rattle.rules.specs.ToeAndStem.{provided_area}
use Rattle.section.proofs.steel.provided_area.Goals as goal

pub returns : goal.returns
unfolding provided_area
returns c = cc
