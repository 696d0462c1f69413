-- `sheet::figures::drawing_of` meets its contract: each number that is divided is read back as it is.
use native.Mathlib.Omega.{arith}
use lib.IntN.{pos, ◌*ℤ◌}
use Rattle.whole.proofs.Integer.{fits_abs, back}
use Rattle.rules.specs.Drawing.{drawing_of}
use Rattle.sheet.proofs.figures.drawing_of.Goals as goal

pub overflow_mul-totals : goal.overflow_mul-totals
overflow_mul-totals c = let d = c.requires in rw (back c.args.totals.R (omega arith)) (fits_abs _ (omega arith))

pub quotient-requires : goal.quotient-requires
quotient-requires c =
    let t = c.args.totals in
    let d = c.requires in
    rw (back t.M6 (omega arith), back t.R (omega arith), back (pos 6 *ℤ t.R) (omega arith)) (d.M6, d.sixfold)

pub returns : goal.returns
unfolding drawing_of
returns c =
    let t = c.args.totals in
    let d = c.requires in
    cc (back t.R (omega arith), back t.H (omega arith), back t.M6 (omega arith), back (pos 6 *ℤ t.R) (omega arith))
