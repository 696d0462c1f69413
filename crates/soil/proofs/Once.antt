-- Document 01, "How strictly it is promised": no second answer fits, of each public entry.
use Rattle.whole.proofs.OnlyOne.{Once, by_equation}
use Rattle.soil.specs.contracts as contracts
use Rattle.soil.proofs as soil

pub sine : Once contracts.sine.ended soil.sine.Reads.Asked soil.sine.Reads.Learnt
sine = (λ _ _. tt, λ _ _ _ _ _ _. by_equation)

pub coefficients : Once contracts.coefficients.ended soil.coefficients.Reads.Asked soil.coefficients.Reads.Learnt
coefficients = (λ _ _. tt, λ _ _ _ _ _ _. by_equation)
