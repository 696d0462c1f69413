-- `writing::lent::records_fit` meets its contract.
use Rattle.rules.specs.WrittenFile.{records_fit}
use Rattle.writing.proofs.lent.records_fit.Goals as goal

pub returns : goal.returns
unfolding records_fit
returns c = rw (c.load_count-load_count.ensures, c.wall_count-wall_count.ensures)
