-- `section::steel::least_area` meets its contract: it is the rules' product.
use mathlib.Core.Path.{refl}
use Rattle.rules.specs.ToeAndStem.{least_area}
use Rattle.section.proofs.steel.least_area.Goals as goal

pub returns : goal.returns
unfolding least_area
returns c = refl
