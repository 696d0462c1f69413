-- `job::rows::add_place` meets its contract. The invariant: the places passed are taken, and the number goes among those behind them.
use mathlib.Core.Path.{◌≡◌}
use mathlib.Core.List.{◌++◌}
use lib.ListN.{length, take, drop}
use Rattle.rules.specs.JobFile.{most_loads_on_wall}
use Rattle.job.specs.Places.{with_place}
use Rattle.job.proofs.rows.add_place.Given as goal

abbrev pub invariant-loop-place : goal.invariant-loop-place
invariant-loop-place l =
    let k = l.place-index in
    (length l.row ≡ most_loads_on_wall) × (with_place l.initial.row l.number ≡ take k l.row ++ with_place (drop k l.row) l.number)
