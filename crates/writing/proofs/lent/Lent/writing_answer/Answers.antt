-- `writing::lent::Lent::writing_answer` meets its contract.
use Rattle.std.proofs.Common.{rules}
use Rattle.rules.specs.WrittenFile.{writing_answer}
use Rattle.writing.proofs.lent.Lent.writing_answer.Goals as goal

pub returns-in_err-records_answer : goal.returns-in_err-records_answer
unfolding writing_answer
returns-in_err-records_answer c = rw (← c.records_answer.ensures, c.in_err-records_answer.was) (search rules)

pub returns : goal.returns
unfolding writing_answer
returns c = rw (← c.records_answer.ensures, c.in_ok-records_answer.was, c.refused_if.ensures, c.is_short.ensures)
