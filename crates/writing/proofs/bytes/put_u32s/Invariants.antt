-- `writing::bytes::put_u32s` meets its contract. The invariant: the numbers that were passed are put.
use Rattle.rules.specs.WrittenFile.{u32_bytes}
use Rattle.writing.proofs.Writing.{NumbersPut}
use Rattle.writing.proofs.bytes.put_u32s.Given as goal

abbrev pub invariant-loop-k : goal.invariant-loop-k
invariant-loop-k l = NumbersPut u32_bytes 4 l.numbers l.initial.out l.k l.out
