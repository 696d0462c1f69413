-- `sheet::figures::in_thousands` meets its contract.
use native.Mathlib.Omega.{arith}
use Rattle.whole.proofs.Integer.{back}
use Rattle.sheet.proofs.figures.in_thousands.Goals as goal

pub returns : goal.returns
returns c = rw (c.quotient.ensures, back c.args.over (omega (arith, c.requires)))
