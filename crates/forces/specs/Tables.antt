-- The component tables as the code fills them, each with as many components as any of them can have. What a table doesn't have is a component with nothing in it.
use Rattle.std.specs.Prelude.{ℕ, ◌+◌, ◌-◌, ◌*◌, ◌≤◌, ◌<◌, Bool, not, ◌||◌, cond, List, [], ◌∷◌, ◌++◌, map, ltb, get_or, ℤ, pos}
use Rattle.rules.specs.JobFile.{greatest_load, Wall, Load, stem_height, base_thickness, rest_coefficient, direction, is_down, position, dead_load, live_load}
use Rattle.rules.specs.Forces as forces
use Rattle.rules.specs.Forces.{saturated_height, deadWeight, liveWeight, push_rows, load_table}
use Rattle.rules.proofs.Accepted.{longest}
use Rattle.forces.specs.declared.component.Sort.{Sort}
use Rattle.forces.specs.declared.component.Sort.TheVariants.{DeadWeight, LiveWeight, DeadPush, LivePush}
use Rattle.forces.specs.declared.component.Component.{Component}

-- how many components a wall has, with as many loads as it may have
abbrev pub components : ℕ
components = 27

-- how many of them are weights, and how many are weights and pushes
abbrev pub weights_count : ℕ
weights_count = 6

abbrev pub own_rows : ℕ
own_rows = weights_count + 5

-- ---- rows

-- what the numbers of a load are at most, its position among them
pub record LoadSmall (load : Load) : Type 0 where
  pub numbers : (i : ℕ) → i < 4 → get_or load i 0 ≤ greatest_load
  pub place : position load ≤ longest

abbrev pub LoadsSmall : List Load → Type 0
LoadsSmall loads = (i : ℕ) → LoadSmall (get_or loads i [])

-- a force of a load: a weight where the load acts down, and a push where it acts across
unfoldable pub part_of : Sort → Sort → ℕ → Load → Component
part_of weight push force load =
    let moment = pos (force * (6 * position load)) in
    cond (is_down load) (record { sort = weight; vertical = pos force; horizontal = pos 0; moment = moment })
    (record { sort = push; vertical = pos 0; horizontal = pos force; moment = moment })

abbrev pub dead_part : Load → Component
dead_part load = part_of DeadWeight DeadPush (dead_load load) load

abbrev pub live_part : Load → Component
live_part load = part_of LiveWeight LivePush (live_load load) load

-- the components one behind the other: the weights, the pushes, the dead part of every load and then the live part of every load
unfoldable pub rows_in : List Component → List Component → List Load → List Component
rows_in weights pushes loads = weights ++ pushes ++ map dead_part loads ++ map live_part loads

-- ---- the stem's table

-- a load across, at or above the base's top
unfoldable pub reaches_stem : ℕ → Load → Bool
reaches_stem thickness load = not (is_down load || ltb (position load) thickness)

-- a load as the stem has it, with its height above the base's top; one that doesn't reach the stem has no newtons there
unfoldable pub on_stem : ℕ → Load → Load
on_stem thickness load =
    cond (reaches_stem thickness load) (direction load ∷ (position load - thickness) ∷ dead_load load ∷ live_load load ∷ []) (direction load ∷ 0 ∷ 0 ∷ 0 ∷ [])

-- a row with nothing in it
abbrev pub no_row : List ℤ
no_row = pos 0 ∷ pos 0 ∷ pos 0 ∷ []

abbrev pub nothing : forces.Sort → forces.Component
nothing sort = record { sort = sort; row = no_row }

-- where a wall's table has the weights
abbrev pub no_weights : List forces.Component
no_weights = nothing deadWeight ∷ nothing deadWeight ∷ nothing deadWeight ∷ nothing deadWeight ∷ nothing deadWeight ∷ nothing liveWeight ∷ []

-- the rules' table of the stem, in the places that a wall's table has
unfoldable pub stem_in_place : Wall → List Load → List forces.Component
stem_in_place wall loads =
    no_weights
    ++ push_rows wall (rest_coefficient wall) (stem_height wall) (saturated_height wall) 0
    ++ load_table (map (on_stem (base_thickness wall)) loads)
