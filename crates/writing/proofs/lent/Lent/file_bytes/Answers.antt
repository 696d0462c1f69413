-- `writing::lent::Lent::file_bytes` meets its contract.
use mathlib.Core.Path.{sym}
use native.Mathlib.Omega.{arith}
use Rattle.rules.proofs.Bytes.{file_length}
use Rattle.writing.proofs.LentRecords.{few_records}
use Rattle.writing.proofs.lent.Lent.file_bytes.Goals as goal

pub overflow_add-result-2 : goal.overflow_add-result-2
overflow_add-result-2 c = let lent = c.args.self.now in omega (arith, few_records lent.walls.now lent.loads.now lent.fit)

pub returns : goal.returns
returns c = sym (file_length _ _)
