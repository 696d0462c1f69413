-- Document 01, "How strictly it is promised": no second answer fits, of each public entry.
use Rattle.whole.proofs.OnlyOne.{Once, by_equation}
use Rattle.reply.specs.contracts as contracts
use Rattle.reply.proofs as reply

pub number_of : Once contracts.number_of.ended reply.number_of.Reads.Asked reply.number_of.Reads.Learnt
number_of = (λ _ _. tt, λ _ _ _ _ _ _. by_equation)

pub place_of : Once contracts.place_of.ended reply.place_of.Reads.Asked reply.place_of.Reads.Learnt
place_of = (λ _ _. tt, λ _ _ _ _ _ _. by_equation)

pub is_worked_lem : Once contracts.is_worked.ended reply.is_worked.Reads.Asked reply.is_worked.Reads.Learnt
is_worked_lem = (λ _ _. tt, λ _ _ _ _ _ _. by_equation)

pub refused_if_lem : Once contracts.refused_if.ended reply.refused_if.Reads.Asked reply.refused_if.Reads.Learnt
refused_if_lem = (λ _ _. tt, λ _ _ _ _ _ _. by_equation)

pub or_else : Once contracts.or_else.ended reply.or_else.Reads.Asked reply.or_else.Reads.Learnt
or_else = (λ _ _. tt, λ _ _ _ _ _ _. by_equation)
