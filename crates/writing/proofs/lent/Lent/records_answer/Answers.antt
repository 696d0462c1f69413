-- `writing::lent::Lent::records_answer` meets its contract. The walls' answer and the loads' follow each other.
use Rattle.std.proofs.Common.{rules}
use mathlib.Core.Path.{◌≡◌, sym, ◌∙◌}
use mathlib.Core.List.{List, []}
use Prim.Native.Nat.{ℕ}
use lib.Dec.{T}
use lib.Ieee.Bits.{is_true}
use Rattle.rules.specs.JobFile.{wall_fields, entry_fields}
use Rattle.rules.specs.Answered.{◌or_else◌, first_bad_wall, first_bad_load}
use Rattle.rules.specs.WrittenFile.{records_in, records_fit, records_answer}
use Rattle.job.proofs.Judging.{stops, goes_on}
use Rattle.writing.proofs.lent.Lent.records_answer.Goals as goal

-- records that fit are judged one by one
past_counts : (walls loads : List ℕ) → T (records_fit walls loads) → let there = records_in wall_fields walls in
    records_answer walls loads ≡ (first_bad_wall 1 there or_else first_bad_load there [] 1 (records_in entry_fields loads))
unfolding records_answer
past_counts walls loads fit = rw (is_true _ fit)

pub returns-in_err-check_walls : goal.returns-in_err-check_walls
returns-in_err-check_walls c =
    let lent = c.args.self.now in
    stops _ (past_counts lent.walls.now lent.loads.now lent.fit) c.check_walls.ensures c.in_err-check_walls.was (search rules)

pub returns : goal.returns
returns c =
    let lent = c.args.self.now in
    let past-walls = goes_on _ (past_counts lent.walls.now lent.loads.now lent.fit) c.check_walls.ensures c.in_ok-check_walls.was in
    c.check_loads.ensures ∙ sym past-walls
