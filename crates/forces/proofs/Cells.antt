-- Every cell of the tables is small, of a wall that fits with its loads.
use mathlib.Core.List.{List, map}
use Prim.Native.Nat.{ℕ, ◌≤◌}
use native.Mathlib.Omega.{arith}
use lib.IntN.{nat_abs}
use lib.ListN.{get_or, get_or-map}
use Rattle.whole.proofs.Lists.{all_joined}
use Rattle.rules.specs.JobFile.{Wall, Load, stem_height, base_thickness, rest_coefficient, greatest_load}
use Rattle.rules.specs.Forces.{saturated_height, Sort, Component, push_rows, load_table, table}
use Rattle.rules.proofs.Accepted.{WallWithin, wall_within, most}
use Rattle.rules.proofs.Examined.{Fit}
use Rattle.rules.proofs.Sizes.{greatest_cell, Sound, weight, pushes_sound, stem_face_lem, none, loads_sound, row_at, cell_at, cell_at_lem, sound_at}
use Rattle.forces.specs.declared.component.Column.{Column}
use Rattle.forces.specs.declared.component.Column.TheVariants.{Vertical, Horizontal, Moment}
use Rattle.forces.specs.Components.{in_code, all_in_code, cell}
use Rattle.forces.specs.Sorts.{Small}
use Rattle.forces.specs.Tables.{on_stem, nothing, stem_in_place}
use Rattle.forces.proofs.OnStem.{stem_fit}

-- components whose rows have no great cell are small as the code has them
small_in_code : (rows : List Component) → ((i j : ℕ) → nat_abs (cell_at rows i j) ≤ greatest_cell) → Small (all_in_code rows)
small_in_code rows h = record { each = λ i. rw (get_or-map in_code rows i none) (record { cells = go i }) }
  where
    go : (i : ℕ) (column : Column) → nat_abs (cell column (in_code (get_or rows i none))) ≤ greatest_cell
    go i Vertical = h i 0
    go i Horizontal = h i 1
    go i Moment = h i 2

-- of a wall that fits with its loads
module _ (wall : Wall) (loads : List Load) (f : Fit wall loads) where
  pub wall_cells : (K : ℕ) → K ≤ most 16 → Small (all_in_code (table K wall loads))
  wall_cells K k = small_in_code (table K wall loads) (cell_at_lem (table K wall loads) (sound_at wall loads f K k))

  within : WallWithin wall
  within = wall_within wall f.wall_fits

  -- a row of zeros is sound, as a weight of 0 at the toe
  idle : {sort : Sort} → Sound greatest_load (nothing sort)
  idle = weight {force = 0} {sixfold = 0} (omega arith)

  stem_sound : (i : ℕ) → Sound greatest_load (get_or (stem_in_place wall loads) i none)
  unfolding stem_in_place
  stem_sound =
      let pushes = push_rows wall (rest_coefficient wall) (stem_height wall) (saturated_height wall) 0 in
      let on = map (on_stem (base_thickness wall)) loads in
      let face = stem_face_lem within in
      let under = loads_sound greatest_load within (omega arith) on (stem_fit wall (base_thickness wall) loads f).loads_fit in
      let behind = pushes_sound _ within (rest_coefficient wall) _ _ 0 within.rest.1 face.0 face.1 (omega arith) in
      row_at greatest_load (stem_in_place wall loads)
      (idle, (idle, (idle, (idle, (idle, (idle, all_joined (Sound greatest_load) pushes (load_table on) behind under))))))

  -- every cell of the stem's table is small
  pub stem_cells : Small (all_in_code (stem_in_place wall loads))
  stem_cells = small_in_code (stem_in_place wall loads) (cell_at_lem (stem_in_place wall loads) stem_sound)
