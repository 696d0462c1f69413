-- `sheet::calculate` meets its contract.
use borrow.Author.Rules.{rules}
use Rattle.sheet.proofs.Outcomes.{job_refused, too_short, all_worked}
use Rattle.sheet.proofs.calculate.Goals as goal

pub returns-in_err-accepted : goal.returns-in_err-accepted
returns-in_err-accepted c = job_refused _ _ c.in_err-accepted.ensures (search rules)

pub returns-then-out-accepted : goal.returns-then-out-accepted
returns-then-out-accepted c =
    let job = c.in_ok-accepted.accepted in
    let same = c.in_ok-accepted.ensures in
    too_short _ _ (rw same at job.accepted) (rw (job.counted, same) at c.if-out-accepted.true)

pub returns : goal.returns
returns c =
    let job = c.in_ok-accepted.accepted in
    let same = c.in_ok-accepted.ensures in
    all_worked _ _ (rw same at job.accepted) (rw (job.counted, same) at c.if-out-accepted.false) (rw same at c.put_lines.ensures)
