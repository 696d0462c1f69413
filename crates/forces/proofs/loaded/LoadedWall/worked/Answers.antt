-- `forces::loaded::LoadedWall::worked` meets its contract. The code's tables are those of the rules, and so are the sums that it makes of them.
use mathlib.Core.Path.{◌≡◌, refl, ◌∙◌}
use native.Mathlib.Omega.{arith}
use borrow.Author.Rules.{rules}
use lib.IntN.{◌-ℤ◌}
use mir.Syntax.{w64}
use mir.Val.{SFits, to_z, of_z}
use mir.ValLaws.{to_z-of_z}
use Rattle.whole.proofs.Integer.{pos-<ℤ, nonneg_abs, fits_abs}
use Rattle.rules.specs.JobFile.{active_coefficient, rest_coefficient}
use Rattle.rules.specs.Forces.{once, tenths, rests, table, service, factored, lasting_weight, sliding_of}
use Rattle.rules.specs.Beyond.{worked_forces}
use Rattle.rules.proofs.Sizes.{lasting_nonneg, lasting_below}
use Rattle.forces.specs.declared.component.Column.TheVariants.{Vertical}
use Rattle.forces.specs.Components.{all_in_code}
use Rattle.forces.specs.Sorts.{Small}
use Rattle.forces.proofs.Cells.{wall_cells}
use Rattle.forces.proofs.Fitted.{fitted}
use Rattle.forces.proofs.Summed.{column_summed, totals_summed, light, all_light}
use Rattle.forces.proofs.loaded.LoadedWall.worked.Goals.{After-table_at-active, After-table_at-at_rest, After-column_sum-resting}
use Rattle.forces.proofs.loaded.LoadedWall.worked.Goals as goal

-- the code's tables are those of the rules at Ka and at K0, and none of their cells is great
at_Ka : (c : After-table_at-active) → let l = c.args.self.now in c.table_at-active.result ≡ all_in_code (table (active_coefficient l.wall) l.wall l.loads)
at_Ka c = rw c.field.ensures.0 at c.table_at-active.ensures

small_at_Ka : (c : After-table_at-active) → Small c.table_at-active.result
small_at_Ka c = let l = c.args.self.now in rw (at_Ka c) (wall_cells _ _ (fitted l) _ l.within.active.1)

at_K0 : (c : After-table_at-at_rest) → let l = c.args.self.now in c.table_at-at_rest.result ≡ all_in_code (table (rest_coefficient l.wall) l.wall l.loads)
at_K0 c = rw c.field-2.ensures.0 at c.table_at-at_rest.ensures

small_at_K0 : (c : After-table_at-at_rest) → Small c.table_at-at_rest.result
small_at_K0 c = let l = c.args.self.now in rw (at_K0 c) (wall_cells _ _ (fitted l) _ l.within.rest.1)

-- what lasts of R, which is not negative and below what R is below
lasting_is : (c : After-column_sum-resting) → let l = c.args.self.now in
    to_z w64 (of_z w64 c.totals_by-service.result.R) -ℤ to_z w64 (of_z w64 c.column_sum-resting.result) ≡ lasting_weight l.wall l.loads
unfolding lasting_weight service
lasting_is c =
    let active = rw c.field.ensures.0 at c.table_at-active.ensures in
    let R = to_z-of_z w64 c.totals_by-service.result.R (search rules) in
    let resting = to_z-of_z w64 c.column_sum-resting.result (search rules) in
    rw (
      R,
      c.totals_by-service.ensures ∙ totals_summed _ active once refl,
      resting,
      c.column_sum-resting.ensures ∙ column_summed _ active rests Vertical refl,
    )

lasting_fits : (c : After-column_sum-resting) → SFits w64 (to_z w64 (of_z w64 c.totals_by-service.result.R) -ℤ to_z w64 (of_z w64 c.column_sum-resting.result))
lasting_fits c =
    let f = fitted c.args.self.now in
    rw (lasting_is c) (fits_abs _ (omega (arith, pos-<ℤ.0 (rw (nonneg_abs (lasting_nonneg _ _ f)) at (lasting_below _ _ f)))))

pub overflow_sub-service : goal.overflow_sub-service
overflow_sub-service c = lasting_fits (goal.at.overflow_sub-service c).After-column_sum-resting

pub held-sliding-requires : goal.held-sliding-requires
held-sliding-requires c =
    let summed = (goal.at.held-sliding-requires c).After-column_sum-resting in
    rw (to_z-of_z w64 _ (lasting_fits summed), lasting_is summed) (lasting_below _ _ (fitted c.args.self.now))

pub returns : goal.returns
unfolding worked_forces sliding_of service factored
returns c =
    let summed = (goal.at.returns c).After-column_sum-resting in
    let active = rw c.field.ensures.0 at c.table_at-active.ensures in
    let resting = rw c.field-2.ensures.0 at c.table_at-at_rest.ensures in
    let H = to_z-of_z w64 c.totals_by-service.result.H (search rules) in
    rw (
      c.fill_on_heel-fill.ensures,
      c.stem_action-stem.ensures,
      c.held-sliding.ensures,
      to_z-of_z w64 _ (lasting_fits summed) ∙ lasting_is summed,
      H,
      c.totals_by-service.ensures ∙ totals_summed _ active once refl,
      c.totals_by-factored.ensures ∙ totals_summed _ resting tenths refl,
    )

pub table_at-active-requires : goal.table_at-active-requires
table_at-active-requires c = omega (arith, c.args.self.now.within)

pub table_at-at_rest-requires : goal.table_at-at_rest-requires
table_at-at_rest-requires c = omega (arith, c.args.self.now.within)

pub totals_by-service-requires : goal.totals_by-service-requires
totals_by-service-requires c = (small_at_Ka (goal.at.totals_by-service-requires c).After-table_at-active, all_light tt tt tt tt)

pub totals_by-factored-requires : goal.totals_by-factored-requires
totals_by-factored-requires c = (small_at_K0 (goal.at.totals_by-factored-requires c).After-table_at-at_rest, all_light tt tt tt tt)

pub column_sum-resting-requires : goal.column_sum-resting-requires
column_sum-resting-requires c = (small_at_Ka (goal.at.column_sum-resting-requires c).After-table_at-active, light tt)
