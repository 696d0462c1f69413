-- `section::steel::Bending::needs_compression` meets its contract: its one test is the rules'.
use mathlib.Core.Path.{refl}
use Rattle.rules.specs.ToeAndStem.{needs_compression}
use Rattle.section.proofs.steel.Bending.needs_compression.Goals as goal

pub returns : goal.returns
unfolding needs_compression
returns c = refl
