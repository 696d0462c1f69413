-- The component table as the code fills it: the rows of the rules' table one behind the other, from loads that are small since they fit their wall.
use mathlib.Core.Path.{◌≡◌, refl}
use mathlib.Core.Bool.{Bool, true, false, cond}
use mathlib.Core.List.{List, [], ◌++◌, append_assoc, map-append, map-map}
use Prim.Native.Nat.{ℕ, zero, suc, ◌≤◌, ◌<◌}
use native.Mathlib.Omega.{arith}
use lib.ListN.{get_or}
use Rattle.whole.proofs.Lists.{all_at, of_either}
use Rattle.rules.specs.JobFile.{Wall, Load, greatest_load, base_length, crest_height, is_down, position, reach}
use Rattle.rules.specs.Forces.{Component, load_row, dead_row, live_row, load_table}
use Rattle.rules.proofs.Accepted.{WallWithin, wall_within, longest, base_length_lem, crest_height_lem, LoadWithin, load_within}
use Rattle.rules.proofs.Examined.{Suits, Fit, absent_fits}
use Rattle.forces.specs.Components.{in_code, all_in_code}
use Rattle.forces.specs.Tables.{LoadsSmall, part_of, rows_in}

-- ---- the loads

-- a load that fits its wall is small
module _ {wall : Wall} (w : WallWithin wall) (load : Load) (l : LoadWithin wall load) where
  near : position load ≤ longest
  unfolding reach
  near = go (is_down load) l.place
    where
      go : (b : Bool) → position load ≤ cond b (base_length wall) (crest_height wall) → position load ≤ longest
      go true h = omega (arith, base_length_lem w)
      go false h = omega (arith, crest_height_lem w)

  light : (i : ℕ) → i < 4 → get_or load i 0 ≤ greatest_load
  light zero h = omega arith
  light (suc zero) h = omega (arith, near)
  light (suc (suc zero)) h = omega arith
  light (suc (suc (suc zero))) h = omega arith
  light (suc (suc (suc (suc i)))) h = absurd (omega arith)

-- and so are loads that fit, and what is read behind the last
pub loads_small : (wall : Wall) (loads : List Load) → Fit wall loads → LoadsSmall loads
loads_small wall loads f i =
    let load = get_or loads i [] in
    let w = wall_within wall f.wall_fits in
    let l = load_within wall load (all_at (Suits wall) [] (absent_fits wall [] refl refl refl refl) loads f.loads_fit i) in
    record { numbers = light w load l; place = near w load l }

-- ---- the rows

-- put in place are the components: weights, pushes and the parts of the loads
pub in_place : (weights pushes : List Component) (loads : List Load)
    → rows_in (all_in_code weights) (all_in_code pushes) loads ≡ all_in_code (weights ++ pushes ++ load_table loads)
unfolding load_table dead_row live_row load_row rows_in part_of
in_place weights pushes loads = simp (map-append, map-map, of_either in_code, append_assoc)
