-- `record::base_length` meets its contract. Three fields of 32 bits add up.
use native.Mathlib.Omega.{arith}
use Rattle.rules.specs.JobFile.{base_length}
use Rattle.record.proofs.base_length.Goals as goal

pub returns : goal.returns
unfolding base_length
returns c = omega arith
