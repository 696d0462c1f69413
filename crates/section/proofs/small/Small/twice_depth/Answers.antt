-- `section::small::Small::twice_depth` meets its contract: it is what the cover and the bar leave of twice the thickness.
use native.Mathlib.Omega.{arith}
use Rattle.rules.specs.ToeAndStem.{twice_depth}
use Rattle.section.proofs.small.Small.twice_depth.Goals as goal

pub returns : goal.returns
unfolding twice_depth
returns c = omega arith
