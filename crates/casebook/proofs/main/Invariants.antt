-- `casebook::main` is safe and ends: there are never more jobs counted than arguments passed.
use Rattle.std.proofs.Common.{◌<◌}
use Rattle.casebook.proofs.main.Given as goal

abbrev pub invariant-loop-number : goal.invariant-loop-number
invariant-loop-number l = l.again < l.number
