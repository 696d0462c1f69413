-- The tests of document 01's "What is answered" that are made of the header.
use Rattle.std.specs.Prelude.{not, ltb, eqb, length, Err}
use Rattle.rules.specs.declared.Refusal.TheVariants.{TooShort, WrongEdition, CountOutOfRange, WrongOffset, WrongLength}
use Rattle.rules.specs.JobFile.{File, header_bytes, this_edition, edition}
use Rattle.rules.specs.Answered.{Answer, refused_if, ◌or_else◌, counts_fit, offsets_fit, length_fits}

-- 1 to 4, and 10 behind them
abbrev pub header_answer : File → Answer
header_answer file =
    refused_if (ltb (length file) header_bytes) (Err TooShort)
    or_else refused_if (not (eqb (edition file) this_edition)) (Err WrongEdition)
    or_else refused_if (not (counts_fit file)) (Err CountOutOfRange)
    or_else refused_if (not (offsets_fit file)) (Err WrongOffset)
    or_else refused_if (not (length_fits file)) (Err WrongLength)
