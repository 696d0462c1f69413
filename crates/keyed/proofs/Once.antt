-- No second answer fits, of each public entry.
use Rattle.whole.proofs.OnlyOne.{Once, by_equation}
use Rattle.keyed.specs.contracts as contracts
use Rattle.keyed.proofs as keyed

pub number_of : Once contracts.number_of.ended keyed.number_of.Reads.Asked keyed.number_of.Reads.Learnt
number_of = (λ _ _. tt, λ _ _ _ _ _ _. by_equation)

pub angle_of : Once contracts.angle_of.ended keyed.angle_of.Reads.Asked keyed.angle_of.Reads.Learnt
angle_of = (λ _ _. tt, λ _ _ _ _ _ _. by_equation)
