-- `soil::rest_by` meets its contract. A coefficient is at most 1, so it fits.
use native.Mathlib.Omega.{arith}
use mir.Facts.{Fits-le, Fits-lit}
use Rattle.whole.proofs.Rounded.{up_least}
use Rattle.rules.specs.Coefficients.{at_rest}
use Rattle.soil.proofs.rest_by.Goals as goal

pub overflow_cast-result : goal.overflow_cast-result
overflow_cast-result c = Fits-le {n = 1000} (rw c.rounded_up.ensures (up_least {n = 1000} _ (omega arith))) (Fits-lit tt)

pub returns : goal.returns
unfolding at_rest
returns c = c.rounded_up.ensures
