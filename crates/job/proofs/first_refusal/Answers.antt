-- `job::first_refusal` meets its contract. The header's answer, the walls' and the loads' follow each other.
use Rattle.std.proofs.Common.{rules}
use mathlib.Core.Path.{sym, ◌∙◌}
use Rattle.rules.proofs.AcceptedFile.{walls_length}
use Rattle.job.proofs.Judging.{stops, goes_on, no_refusal, in_order, few_walls}
use Rattle.job.proofs.first_refusal.Goals as goal

pub returns-in_err-check_header : goal.returns-in_err-check_header
returns-in_err-check_header c = stops _ (in_order _) c.check_header.ensures c.in_err-check_header.was (search rules)

pub returns-in_err-check_walls : goal.returns-in_err-check_walls
returns-in_err-check_walls c =
    let past-header = goes_on _ (in_order _) c.check_header.ensures c.in_ok-check_header.was in
    stops _ past-header c.check_walls.ensures c.in_err-check_walls.was (search rules)

pub invariant_of-records : goal.invariant_of-records
invariant_of-records c =
    let passed = no_refusal c.check_header.ensures c.in_ok-check_header.was in record { few_walls = rw walls_length (few_walls c.args.file.now passed) }

pub returns : goal.returns
returns c =
    let past = goes_on _ (in_order _) c.check_header.ensures c.in_ok-check_header.was in
    let past-walls = goes_on _ past c.check_walls.ensures c.in_ok-check_walls.was in
    c.check_loads.ensures ∙ sym past-walls
