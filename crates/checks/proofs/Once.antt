-- Document 01, "How strictly it is promised": no second answer fits, of each public entry.
use Rattle.whole.proofs.OnlyOne.{Once, by_equation}
use Rattle.checks.specs.contracts as contracts
use Rattle.checks.proofs as checks

pub is_given_lem : Once contracts.is_given.ended checks.is_given.Reads.Asked checks.is_given.Reads.Learnt
is_given_lem = (λ _ _. tt, λ _ _ _ _ _ _. by_equation)

pub failures_of : Once contracts.failures_of.ended checks.failures_of.Reads.Asked checks.failures_of.Reads.Learnt
failures_of = (λ _ _. tt, λ _ _ _ _ _ _. by_equation)

pub has_failed_lem : Once contracts.has_failed.ended checks.has_failed.Reads.Asked checks.has_failed.Reads.Learnt
has_failed_lem = (λ _ _. tt, λ _ _ _ _ _ _. by_equation)
