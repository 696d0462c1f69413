-- `keyed::digits_behind` meets its contract. The invariant: the bytes passed are digits, and the value is what the number has become with them.
use Rattle.keyed.proofs.Reading.{Passed}
use Rattle.keyed.proofs.digits_behind.Given as goal

abbrev pub invariant-loop-byte : goal.invariant-loop-byte
invariant-loop-byte l = Passed l.number l.word l.value l.byte-index
