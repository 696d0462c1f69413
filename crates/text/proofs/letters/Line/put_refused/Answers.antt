-- `text::letters::Line::put_refused` meets its contract.
use native.Mathlib.Omega.{arith}
use Rattle.rules.specs.Coefficients.{refused_text}
use Rattle.text.proofs.Placing.{then, within}
use Rattle.text.proofs.letters.Line.put_refused.Goals as goal

pub returns : goal.returns
unfolding refused_text
returns c = within (then c.put_word.ensures c.put_byte.ensures) (omega arith)
