-- The table's sums as the code makes them: each component counts by a list of weights with a place for each sort.
use Rattle.std.specs.Prelude.{ℕ, ◌≤◌, List, [], ◌∷◌, get_or, ℤ, pos, nat_abs, ◌*ℤ◌}
use Rattle.whole.specs.Sum.{sum_of}
use Rattle.rules.specs.declared.Totals.{Totals}
use Rattle.rules.specs.Forces as forces
use Rattle.rules.specs.Forces.{deadWeight, liveWeight, deadPush, livePush, restores, overturns}
use Rattle.rules.proofs.Moments.{balances}
use Rattle.rules.proofs.Sizes.{greatest_cell}
use Rattle.forces.specs.declared.component.Sort.TheVariants.{DeadWeight}
use Rattle.forces.specs.declared.component.Column.{Column}
use Rattle.forces.specs.declared.component.Column.TheVariants.{Vertical, Horizontal, Moment}
use Rattle.forces.specs.declared.component.Component.{Component}
use Rattle.forces.specs.declared.sums.TotalWeights.{TotalWeights}
use Rattle.forces.specs.Components.{place_of, cell}

abbrev pub weights_of : (forces.Sort → ℤ) → List ℤ
weights_of weight = weight deadWeight ∷ weight liveWeight ∷ weight deadPush ∷ weight livePush ∷ []

-- a cell of the table, with the weight that its component's sort has
abbrev pub weighted : List ℤ → Column → Component → ℤ
weighted weights column c = get_or weights (place_of c.sort) (pos 0) *ℤ cell column c

unfoldable pub weighted_sum : List Component → List ℤ → Column → ℤ
weighted_sum table weights column = sum_of (weighted weights column) table

-- small enough for every sum to fit: a component, and a table of them
pub record SmallComponent (c : Component) : Type 0 where
  pub cells : (column : Column) → nat_abs (cell column c) ≤ greatest_cell

-- what is read behind the last component has nothing in it
abbrev pub nothing_here : Component
nothing_here = record { sort = DeadWeight; vertical = pos 0; horizontal = pos 0; moment = pos 0 }

pub record Small (table : List Component) : Type 0 where
  pub each : (i : ℕ) → SmallComponent (get_or table i nothing_here)

-- weights of at most 16, and lists of them
pub record Light (weights : List ℤ) : Type 0 where
  pub at_most : (i : ℕ) → nat_abs (get_or weights i (pos 0)) ≤ 16

pub record AllLight (weights : TotalWeights) : Type 0 where
  pub counted : Light weights.counted
  pub restored : Light weights.restored
  pub overturned : Light weights.overturned
  pub balanced : Light weights.balanced

-- what counts, what restores, what overturns, and what M6 takes
abbrev pub total_weights : (forces.Sort → ℤ) → TotalWeights
total_weights counts =
    record {
      counted = weights_of counts;
      restored = weights_of (λ s. counts s *ℤ restores s);
      overturned = weights_of (λ s. counts s *ℤ overturns s);
      balanced = weights_of (λ s. counts s *ℤ balances s);
    }

unfoldable pub totals_by : List Component → TotalWeights → Totals
totals_by table weights =
    record {
      R = weighted_sum table weights.counted Vertical;
      H = weighted_sum table weights.counted Horizontal;
      Mrest = weighted_sum table weights.restored Moment;
      Mot = weighted_sum table weights.overturned Moment;
      M6 = weighted_sum table weights.balanced Moment;
    }
