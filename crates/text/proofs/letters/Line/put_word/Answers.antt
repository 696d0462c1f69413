-- `text::letters::Line::put_word` meets its contract: the word is copied into its part of the buffer.
use Rattle.std.proofs.Common.{arith, refl, ◌+◌, ◌-◌, ◌∙◌, length, ap}
use lib.Seq.{length-sets}
use Rattle.text.proofs.Placing.{copied}
use Rattle.text.proofs.letters.Line.put_word.Goals as goal

pub returns : goal.returns
returns c =
    let before = c.args.self.now in
    let word = c.args.word.now in
    let there = copied before.out.now c.copy_from_slice.new.self word before.used (before.used + length word - before.used) c.copy_from_slice.ensures.after (omega arith) c.requires in
    record { same_buffer = refl; same_size = ap length there ∙ length-sets before.out.now before.used word; ends = refl; short = omega arith; holds = there }
