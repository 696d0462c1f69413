-- `record::crest_height` meets its contract. Two fields of 32 bits add up.
use native.Mathlib.Omega.{arith}
use Rattle.rules.specs.JobFile.{crest_height}
use Rattle.record.proofs.crest_height.Goals as goal

pub returns : goal.returns
unfolding crest_height
returns c = omega arith
