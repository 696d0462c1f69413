-- `sheet::figures::quotient` meets its contract: a double holds each of the two numbers, as it is read back.
use lib.Ieee.{div}
use native.Mathlib.Omega.{arith}
use borrow.Author.Rules.{rules}
use Rattle.whole.proofs.Integer.{back}
use Rattle.rules.specs.Drawing.{quotient}
use Rattle.rules.proofs.Doubles.{held}
use Rattle.sheet.proofs.figures.quotient.Goals as goal

pub returns : goal.returns
unfolding div quotient
returns c = search rules

pub int_to_float-result : goal.int_to_float-result
int_to_float-result c = let h = c.requires.0 in rw (back c.args.over (omega arith)) (held _ h)

pub int_to_float-result-2 : goal.int_to_float-result-2
int_to_float-result-2 c = let h = c.requires.1 in rw (back c.args.under (omega arith)) (held _ h)
