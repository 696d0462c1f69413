-- `writing::lent::Lent` has as many walls as its buffer has whole records.
use mathlib.Core.Path.{sym, ◌∙◌}
use native.Mathlib.Omega.{arith}
use Rattle.job.proofs.Numbers.{in_length}
use Rattle.writing.proofs.LentRecords.{few_records}
use Rattle.writing.proofs.lent.LentRecords.wall_count.Goals as goal

pub overflow_cast-result : goal.overflow_cast-result
overflow_cast-result c = let lent = c.args.self.now in omega (arith, few_records lent.walls.now lent.loads.now lent.fit)

pub returns : goal.returns
returns c = c.wall_count.ensures ∙ sym (in_length _ _)
