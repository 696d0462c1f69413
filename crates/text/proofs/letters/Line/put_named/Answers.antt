-- `text::letters::Line::put_named` meets its contract.
use native.Mathlib.Omega.{arith}
use Rattle.rules.specs.Coefficients.{named_text}
use Rattle.text.proofs.Placing.{then, within}
use Rattle.text.proofs.letters.Line.put_named.Goals as goal

pub returns : goal.returns
unfolding named_text
returns c =
    let line =
    then (then (then (then c.put_word.ensures (rw c.from.ensures at c.put_decimal.ensures)) c.put_word-2.ensures) (rw c.from-2.ensures at c.put_decimal-2.ensures)) c.put_byte.ensures in
    within line (omega (arith, line.short))
