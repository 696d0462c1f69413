-- `wall::fitting::Fitting::base_length` meets its contract: no part of the base is beyond its range.
use native.Mathlib.Omega.{arith}
use Rattle.rules.proofs.Accepted.{base_length_lem}
use Rattle.wall.proofs.fitting.Fitting.base_length.Goals as goal

pub returns : goal.returns
returns c = omega (arith, c.base_length.ensures, base_length_lem c.args.self.now.within)
