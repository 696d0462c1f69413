-- `bearing::block::pressed` meets its contract: the block is given or not by the max of its pressures.
use Prim.Native.Nat.{◌≤◌, ◌<◌}
use native.Mathlib.Omega.{arith}
use Rattle.rules.specs.Bearing.{greatest_peak}
use Rattle.bearing.proofs.Reports.{is_given_lem, not_given}
use Rattle.bearing.proofs.block.pressed.Goals as goal

pub returns-then-max-gt-GREATEST_PEAK : goal.returns-then-max-gt-GREATEST_PEAK
returns-then-max-gt-GREATEST_PEAK c =
    let high : greatest_peak < c.max.result = omega arith in
    not_given _ _ _ _ c.report-toe.ensures c.report-heel.ensures (rw c.max.ensures at high)

pub returns : goal.returns
returns c =
    let low : c.max.result ≤ greatest_peak = omega arith in
    is_given_lem _ _ _ _ c.report-toe.ensures c.report-heel.ensures (rw c.max.ensures at low)
