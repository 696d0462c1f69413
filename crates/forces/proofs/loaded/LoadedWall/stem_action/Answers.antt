-- `forces::loaded::LoadedWall::stem_action` meets its contract. The stem's table in place has the sums of the rules' table.
use mathlib.Core.Path.{◌≡◌, refl, ◌∙◌}
use mathlib.Core.List.{List}
use Prim.Native.Nat.{◌<◌, ◌^◌}
use lib.IntN.{ℤ}
use lib.Signed.{mag}
use mir.Syntax.{w64}
use mir.Val.{to_z, of_z}
use Rattle.rules.specs.Forces.{column_sum, tenths}
use Rattle.rules.specs.ToeAndStem.{stem_table, stem_action}
use Rattle.forces.specs.declared.component.Column.{Column}
use Rattle.forces.specs.declared.component.Column.TheVariants.{Horizontal, Moment}
use Rattle.forces.specs.Sorts.{weights_of, weighted_sum, Small}
use Rattle.forces.proofs.Cells.{stem_cells}
use Rattle.forces.proofs.Fitted.{fitted}
use Rattle.forces.proofs.OnStem.{stem_summed}
use Rattle.forces.proofs.Summed.{column_summed, place_in_row, light, read_back}
use Rattle.forces.proofs.loaded.LoadedWall.stem_action.Goals.{After-table_of_stem-table}
use Rattle.forces.proofs.loaded.LoadedWall.stem_action.Goals as goal

-- the stem's components can be summed
table_small : (c : After-table_of_stem-table) → Small c.table_of_stem-table.result
table_small c = rw c.table_of_stem-table.ensures (stem_cells _ _ (fitted c.args.self.now))

-- the code's sum of a column, read back from its bits
summed : (c : After-table_of_stem-table) {sum : ℤ} {weights : List ℤ} (column : Column)
    → sum ≡ weighted_sum c.table_of_stem-table.result weights column → mag sum < 2 ^ 63 → weights ≡ weights_of tenths
    → to_z w64 (of_z w64 sum) ≡ column_sum tenths (place_in_row column) (stem_table c.args.self.now.wall c.args.self.now.loads)
summed c column e ok f =
    read_back (e ∙ column_summed _ c.table_of_stem-table.ensures tenths column f ∙ stem_summed tenths (place_in_row column) _ _) ok

pub returns : goal.returns
unfolding stem_action
returns c =
    let table = (goal.at.returns c).After-table_of_stem-table in
    cc (
      summed table Horizontal c.column_sum-shear.ensures c.column_sum-shear.type_inv refl,
      summed table Moment c.column_sum-moment.ensures c.column_sum-moment.type_inv refl,
    )

pub column_sum-shear-requires : goal.column_sum-shear-requires
column_sum-shear-requires c = (table_small (goal.at.column_sum-shear-requires c).After-table_of_stem-table, light tt)

pub column_sum-moment-requires : goal.column_sum-moment-requires
column_sum-moment-requires c = (table_small (goal.at.column_sum-moment-requires c).After-table_of_stem-table, light tt)
