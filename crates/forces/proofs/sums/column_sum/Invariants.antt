-- `forces::sums::column_sum` meets its contract. The invariant: the sum is that of the components passed.
use mathlib.Core.Path.{◌≡◌}
use mathlib.Core.List.{List}
use Prim.Native.Nat.{ℕ, ◌≤◌}
use lib.IntN.{ℤ}
use lib.ListN.{length, get_or}
use Rattle.whole.specs.Sum.{sum_to}
use Rattle.forces.specs.declared.component.Column.{Column}
use Rattle.forces.specs.declared.component.Component.{Component}
use Rattle.forces.specs.Sorts.{nothing_here, weighted, Small, Light}
use Rattle.forces.specs.Tables.{components}
use Rattle.forces.proofs.sums.column_sum.Given as goal

-- of a table that is small and weights that are light the first i components are summed
pub record Passed (table : List Component) (weights : List ℤ) (column : Column) (sum : ℤ) (i : ℕ) : Type 0 where
  pub all : length table ≡ components
  pub within : i ≤ components
  pub small : Small table
  pub light : Light weights
  pub same : sum ≡ sum_to (λ i. weighted weights column (get_or table i nothing_here)) i

abbrev pub invariant-loop-component : goal.invariant-loop-component
invariant-loop-component l = Passed l.table l.weights l.column l.sum l.component-index
