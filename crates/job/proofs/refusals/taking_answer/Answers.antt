-- `job::refusals::taking_answer` meets its contract.
use Rattle.std.proofs.Common.{rules}
use Rattle.rules.specs.WrittenFile.{taking_answer}
use Rattle.job.proofs.refusals.taking_answer.Goals as goal

pub returns-in_err-first_refusal : goal.returns-in_err-first_refusal
unfolding taking_answer
returns-in_err-first_refusal c = rw (← c.first_refusal.ensures, c.in_err-first_refusal.was) (search rules)

pub returns : goal.returns
unfolding taking_answer
returns c =
    rw (← c.first_refusal.ensures, c.in_ok-first_refusal.was, c.refused_if.ensures, c.load_numbers.ensures.0, c.wall_numbers.ensures.0)
