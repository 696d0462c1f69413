-- `forces::table::filled` meets its contract. The invariant: the components of the loads passed are stored, their dead and their live parts.
use mathlib.Core.List.{map}
use lib.ListN.{take}
use Rattle.rules.specs.JobFile.{most_loads_on_wall}
use Rattle.forces.specs.Tables.{components, own_rows, dead_part, live_part}
use Rattle.forces.proofs.Runs.{TwoRuns}
use Rattle.forces.proofs.table.filled.Given as goal

abbrev pub invariant-loop-i : goal.invariant-loop-i
invariant-loop-i l = TwoRuns (take own_rows l.initial.table) (map dead_part l.loads) (map live_part l.loads) components own_rows most_loads_on_wall l.i l.table
