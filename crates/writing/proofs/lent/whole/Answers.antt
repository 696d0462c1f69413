-- `writing::lent::whole` meets its contract.
use lib.Dec.{T}
use Rattle.rules.specs.WrittenFile.{records_fit}
use Rattle.job.proofs.Numbers.{in_length}
use Rattle.writing.proofs.LentRecords.{few_records}
use Rattle.writing.proofs.lent.whole.Goals as goal

pub invariant_of-result : goal.invariant_of-result
invariant_of-result c =
    let fit : T (records_fit c.args.walls.now c.args.loads.now) = rw (← c.records_fit.ensures, c.if-records_fit.true) tt in
    record { fit = fit; few_walls = rw in_length (few_records c.args.walls.now c.args.loads.now fit).0 }
