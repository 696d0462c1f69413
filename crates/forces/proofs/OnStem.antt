-- The stem's table in the places that a wall's table has: its loads fit the wall, and each of its columns has the sum that the rules give it.
use mathlib.Core.Path.{◌≡◌, refl}
use mathlib.Core.Bool.{Bool, true, false}
use mathlib.Core.List.{List, [], ◌∷◌, map}
use Prim.Native.Nat.{ℕ, ◌-◌}
use native.Mathlib.Omega.{arith}
use borrow.Author.Tests.{le-leb}
use lib.Dec.{T, ltb, eqb}
use lib.IntN.{ℤ, pos, ◌+ℤ◌, ◌*ℤ◌, +ℤ_idl, +ℤ_idr, *ℤ-zero}
use lib.ListN.{get_or, length-map, get_or-map}
use Rattle.whole.specs.Sum.{sum_of}
use Rattle.whole.proofs.Lists.{case}
use Rattle.whole.proofs.Sums.{sum_of_add, sum_of_joined, sum_of_map}
use Rattle.rules.specs.JobFile.{Wall, Load, base_thickness, direction, is_down, position, dead_load, live_load, greatest_load, reach, load_fits}
use Rattle.rules.specs.Forces.{Sort, Component, load_row, dead_row, live_row, load_table, column_sum}
use Rattle.rules.specs.ToeAndStem.{stem_load_rows, stem_load_table, stem_table}
use Rattle.rules.proofs.Accepted.{LoadWithin, load_within}
use Rattle.rules.proofs.Examined.{AllFit, Fit}
use Rattle.forces.specs.Tables.{reaches_stem, on_stem, no_row, nothing, no_weights, stem_in_place}

-- ---- the loads

-- what holds of a load from the base's top, and of one with no newtons, holds of what it is on the stem
either_load : (P : Load → Type 0) (top : ℕ) (load : Load) → P (direction load ∷ (position load - top) ∷ dead_load load ∷ live_load load ∷ [])
    → P (direction load ∷ 0 ∷ 0 ∷ 0 ∷ []) → P (on_stem top load)
unfolding on_stem
either_load P top load p q = case (reaches_stem top load) _ _ P (λ t. p) (λ t. q)

-- it keeps its way
pub same_way : (top : ℕ) (load : Load) → is_down (on_stem top load) ≡ is_down load
unfolding is_down
same_way top load = either_load (λ on. is_down on ≡ is_down load) top load refl refl

-- a load whose numbers lie in their ranges fits
fits_within : (wall : Wall) (load : Load) → LoadWithin wall load → T (load_fits wall load)
unfolding load_fits
fits_within wall load l =
    rw (
      le-leb (direction load) 1 l.way,
      le-leb (position load) (reach wall load) l.place,
      le-leb (dead_load load) greatest_load l.dead,
      le-leb (live_load load) greatest_load l.live,
    ) tt

-- on the stem it has no greater number
on_stem_within : (wall : Wall) (top : ℕ) (load : Load) → LoadWithin wall load → LoadWithin wall (on_stem top load)
unfolding reach is_down
on_stem_within wall top load l = either_load (LoadWithin wall) top load (omega arith) (omega arith)

all_on_stem : (wall : Wall) (top : ℕ) (loads : List Load) → AllFit wall loads → AllFit wall (map (on_stem top) loads)
all_on_stem wall top [] all = tt
all_on_stem wall top (load ∷ rest) all =
    (fits_within wall (on_stem top load) (on_stem_within wall top load (load_within wall load all.0)), all_on_stem wall top rest all.1)

-- loads that fit their wall fit it as the stem has them
pub stem_fit : (wall : Wall) (top : ℕ) (loads : List Load) → Fit wall loads → Fit wall (map (on_stem top) loads)
stem_fit wall top loads f = record { wall_fits = f.wall_fits; loads_fit = all_on_stem wall top loads f.loads_fit; few = rw length-map f.few }

-- ---- the sums

-- each cell of a row of zeros is 0
pub none_at : (column : ℕ) → get_or no_row column (pos 0) ≡ pos 0
none_at column = get_or-map (λ (n : ℕ). pos 0) (0 ∷ 0 ∷ 0 ∷ []) column 0

module _ (weigh : Sort → ℤ) (column : ℕ) (wall : Wall) where
  abbrev cell : Component → ℤ
  cell c = weigh c.sort *ℤ get_or c.row column (pos 0)

  abbrev on : Load → Load
  on load = on_stem (base_thickness wall) load

  -- such a row adds nothing
  idle : (sort : Sort) → cell (nothing sort) ≡ pos 0
  idle sort = rw (none_at column) (*ℤ-zero (weigh sort))

  no_weight : sum_of cell no_weights ≡ pos 0
  unfolding sum_of
  no_weight = simp idle

  -- a load's two rows have the sum of those that the rules give it, which are none where it doesn't reach the stem
  load_summed : (load : Load) → sum_of cell (stem_load_rows wall load) ≡ cell (dead_row (on load)) +ℤ cell (live_row (on load))
  unfolding stem_load_rows on_stem reaches_stem is_down dead_row live_row load_row sum_of
  load_summed load = go (eqb (direction load) 0) refl (ltb (position load) (base_thickness wall)) refl
    where
      go : (d : Bool) → eqb (direction load) 0 ≡ d → (b : Bool) → ltb (position load) (base_thickness wall) ≡ b
          → sum_of cell (stem_load_rows wall load) ≡ cell (dead_row (on load)) +ℤ cell (live_row (on load))
      go true e b f = simp (e, idle)
      go false e true f = simp (e, f, idle)
      go false e false f = simp (e, f, +ℤ_idr)

  -- and so have the rows of all loads
  loads_summed : (loads : List Load) → sum_of cell (stem_load_table wall loads) ≡ sum_of (λ load. cell (dead_row (on load)) +ℤ cell (live_row (on load))) loads
  unfolding stem_load_table sum_of
  loads_summed [] = refl
  loads_summed (load ∷ rest) = rw (sum_of_joined, load_summed load, loads_summed rest)

  -- the table in place has the sums of the rules' table
  pub stem_summed : (loads : List Load) → column_sum weigh column (stem_in_place wall loads) ≡ column_sum weigh column (stem_table wall loads)
  unfolding column_sum stem_in_place stem_table load_table
  stem_summed loads =
      simp (sum_of_joined, no_weight, +ℤ_idl, sum_of_map, loads_summed, sum_of_add (λ load. cell (dead_row (on load))) (λ load. cell (live_row (on load))))
