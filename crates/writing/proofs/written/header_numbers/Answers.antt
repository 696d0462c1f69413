-- `writing::written::header_numbers` meets its contract.
use Rattle.rules.specs.WrittenFile.{header_of}
use Rattle.writing.proofs.written.header_numbers.Goals as goal

pub returns : goal.returns
unfolding header_of
returns c = rw (c.from.ensures, c.from-2.ensures)
