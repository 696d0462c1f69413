-- Document 01, "Forces": the component table, its totals in service and factored, and what holds a wall against sliding.
-- Forces are in N, on a metre's run of wall, and moments in exact sixths of a N mm.
use Rattle.std.specs.Prelude.{ℕ, ◌+◌, ◌-◌, ◌*◌, Bool, not, ◌&&◌, cond, List, [], ◌∷◌, ◌++◌, map, eqb, get_or, ℤ, pos, ◌+ℤ◌, ◌-ℤ◌, ◌*ℤ◌}
use Rattle.std.specs.Int.Signed.{lt_z}
use Rattle.whole.specs.Parts.{above_zero}
use Rattle.whole.specs.Rounding.{rounded_up, rounded_down, rounded_nearest}
use Rattle.whole.specs.Sum.{sum_of}
use Rattle.rules.specs.declared.Totals.{Totals}
use Rattle.rules.specs.declared.Sliding.{Sliding}
use Rattle.rules.specs.JobFile.{Wall, Load, kind, stem_height, stem_thickness, toe_length, heel_length, base_thickness, cover_in_front, excavation, water_height, stem_density, base_density, moist_density, saturated_density, soil_density, active_coefficient, rest_coefficient, passive_coefficient, friction_tangent, surcharge, downstand_depth, downstand_position, downstand_thickness, base_length, wall_height, is_down, position, dead_load, live_load}

-- ---- units

-- mm x mm x (10 N/m3) on a metre's run: 100000 to the newton
abbrev pub per_volume : ℕ
per_volume = 100000

-- mm x (10 N/m2) on a metre's run: 100 to the newton
abbrev pub per_area : ℕ
per_area = 100

-- a coefficient is in thousandths
abbrev pub thousandths : ℕ
thousandths = 1000

-- what water weighs, in 10 N/m3
abbrev pub water_density : ℕ
water_density = 981

-- n^2
abbrev pub squared : ℕ → ℕ
squared n = n * n

-- hsat; a difference of whole numbers is 0 where it would be negative
unfoldable pub saturated_height : Wall → ℕ
saturated_height wall = water_height wall - base_thickness wall - downstand_depth wall

-- ---- weights, rounded to the nearest newton

unfoldable pub stem_weight : Wall → ℕ
stem_weight wall = rounded_nearest (stem_height wall * stem_thickness wall * stem_density wall) per_volume

unfoldable pub base_weight : Wall → ℕ
base_weight wall = rounded_nearest (base_length wall * base_thickness wall * base_density wall) per_volume

-- of the base's concrete (#107 of document 02)
unfoldable pub downstand_weight : Wall → ℕ
downstand_weight wall = rounded_nearest (downstand_depth wall * downstand_thickness wall * base_density wall) per_volume

unfoldable pub saturated_weight : Wall → ℕ
saturated_weight wall = rounded_nearest (heel_length wall * saturated_height wall * saturated_density wall) per_volume

unfoldable pub moist_weight : Wall → ℕ
moist_weight wall = rounded_nearest (heel_length wall * (stem_height wall - saturated_height wall) * moist_density wall) per_volume

unfoldable pub surcharge_weight : Wall → ℕ
surcharge_weight wall = rounded_nearest (surcharge wall * heel_length wall) per_area

-- ---- pushes, rounded up: at a coefficient K, on a face of height h, with water up to hw above its foot

unfoldable pub surcharge_push : Wall → ℕ → ℕ → ℕ
surcharge_push wall K h = rounded_up (K * surcharge wall * h) (thousandths * per_area)

unfoldable pub moist_push : Wall → ℕ → ℕ → ℕ → ℕ
moist_push wall K h hw = rounded_up (K * moist_density wall * squared (h - hw)) (2 * thousandths * per_volume)

unfoldable pub moist_push_below : Wall → ℕ → ℕ → ℕ → ℕ
moist_push_below wall K h hw = rounded_up (K * moist_density wall * (h - hw) * hw) (thousandths * per_volume)

unfoldable pub saturated_push : Wall → ℕ → ℕ → ℕ
saturated_push wall K hw = rounded_up (K * (saturated_density wall - water_density) * squared hw) (2 * thousandths * per_volume)

unfoldable pub water_push : ℕ → ℕ
water_push hw = rounded_up (water_density * squared hw) (2 * per_volume)

-- ---- the component table

-- dead weight: stem, base, downstand, fill and dead loads down. Live weight: surcharge and live loads down.
-- Dead pushes: earth, water and horizontal dead loads. Live pushes: surcharge and horizontal live loads.
pub data Sort : Type 0 where
  deadWeight liveWeight deadPush livePush : Sort

-- a row is vertical, horizontal and moment
pub record Component : Type 0 where
  pub sort : Sort
  pub row : List ℤ

-- a force down, with six times its distance from the toe
abbrev pub down : Sort → ℕ → ℕ → Component
down sort force sixfold = record { sort = sort; row = pos force ∷ pos 0 ∷ pos (force * sixfold) ∷ [] }

-- a horizontal force, with six times its height above the base's underside, which is negative where it pushes below that
abbrev pub across : Sort → ℕ → ℤ → Component
across sort force sixfold = record { sort = sort; row = pos 0 ∷ pos force ∷ (pos force *ℤ sixfold) ∷ [] }

-- six times the distance of the heel's middle from the toe, l - lh/2
abbrev pub over_heel : Wall → ℕ
over_heel wall = 6 * base_length wall - 3 * heel_length wall

unfoldable pub weight_rows : Wall → List Component
weight_rows wall =
    down deadWeight (stem_weight wall) (6 * toe_length wall + 3 * stem_thickness wall)
    ∷ down deadWeight (base_weight wall) (3 * base_length wall)
    ∷ down deadWeight (downstand_weight wall) (6 * downstand_position wall + 3 * downstand_thickness wall)
    ∷ down deadWeight (saturated_weight wall) (over_heel wall)
    ∷ down deadWeight (moist_weight wall) (over_heel wall)
    ∷ down liveWeight (surcharge_weight wall) (over_heel wall)
    ∷ []

-- a difference of whole numbers, with its sign
infix 5 ◌less◌
abbrev pub ◌less◌ : ℕ → ℕ → ℤ
a less b = pos a -ℤ pos b

-- on a face whose foot lies dd below the base's underside: the levers (h - 2dd)/2, (h + 2hw - 3dd)/3, (hw - 2dd)/2, and (hw - 3dd)/3 twice, in sixths
unfoldable pub push_rows : Wall → ℕ → ℕ → ℕ → ℕ → List Component
push_rows wall K h hw dd =
    across livePush (surcharge_push wall K h) (3 * h less 6 * dd)
    ∷ across deadPush (moist_push wall K h hw) (2 * (h + 2 * hw) less 6 * dd)
    ∷ across deadPush (moist_push_below wall K h hw) (3 * hw less 6 * dd)
    ∷ across deadPush (saturated_push wall K hw) (2 * hw less 6 * dd)
    ∷ across deadPush (water_push hw) (2 * hw less 6 * dd)
    ∷ []

-- one part of a load: a weight where the load acts down, and a push where it acts across
unfoldable pub load_row : Sort → Sort → (Load → ℕ) → Load → Component
load_row weight push part load =
    cond (is_down load) (down weight (part load) (6 * position load)) (across push (part load) (pos (6 * position load)))

unfoldable pub dead_row : Load → Component
dead_row load = load_row deadWeight deadPush dead_load load

unfoldable pub live_row : Load → Component
live_row load = load_row liveWeight livePush live_load load

-- the dead part of every load, and then the live part of every load
unfoldable pub load_table : List Load → List Component
load_table loads = map dead_row loads ++ map live_row loads

unfoldable pub table : ℕ → Wall → List Load → List Component
table K wall loads = weight_rows wall ++ push_rows wall K (wall_height wall) (water_height wall) (downstand_depth wall) ++ load_table loads

-- ---- the totals: sums of a column, each row weighted by its sort

abbrev pub vertical : ℕ
vertical = 0

abbrev pub horizontal : ℕ
horizontal = 1

abbrev pub moment : ℕ
moment = 2

unfoldable pub column_sum : (Sort → ℤ) → ℕ → List Component → ℤ
column_sum weight column rows = sum_of (λ c. weight c.sort *ℤ get_or c.row column (pos 0)) rows

-- in service each row counts once; factored it counts in tenths
abbrev pub once : Sort → ℤ
once sort = pos 1

abbrev pub tenths : Sort → ℤ
tenths deadWeight = pos 14
tenths liveWeight = pos 16
tenths deadPush = pos 14
tenths livePush = pos 16

-- what Mrest takes
abbrev pub restores : Sort → ℤ
restores deadWeight = pos 1
restores liveWeight = pos 0
restores deadPush = pos 0
restores livePush = pos 0

-- what Mot takes
abbrev pub overturns : Sort → ℤ
overturns deadWeight = pos 0
overturns liveWeight = pos 0
overturns deadPush = pos 1
overturns livePush = pos 1

-- surcharge and live loads down, which rest on the wall
abbrev pub rests : Sort → ℤ
rests deadWeight = pos 0
rests liveWeight = pos 1
rests deadPush = pos 0
rests livePush = pos 0

-- the moment of the rows that a test of sorts picks
abbrev pub moment_of : (Sort → ℤ) → (Sort → ℤ) → List Component → ℤ
moment_of counts picks rows = column_sum (λ s. counts s *ℤ picks s) moment rows

-- M6 is Mrest less Mot, plus surcharge and live loads down
unfoldable pub totals : (Sort → ℤ) → List Component → Totals
totals counts rows =
    record {
      R = column_sum counts vertical rows;
      H = column_sum counts horizontal rows;
      Mrest = moment_of counts restores rows;
      Mot = moment_of counts overturns rows;
      M6 = moment_of counts restores rows -ℤ moment_of counts overturns rows +ℤ moment_of counts rests rows;
    }

-- service takes Ka, and the factored case K0
unfoldable pub service : Wall → List Load → Totals
service wall loads = totals once (table (active_coefficient wall) wall loads)

unfoldable pub factored : Wall → List Load → Totals
factored wall loads = totals tenths (table (rest_coefficient wall) wall loads)

-- ---- sliding, in service figures; passive force and friction are rounded down

unfoldable pub passive_depth : Wall → ℕ
passive_depth wall = cover_in_front wall + base_thickness wall + downstand_depth wall - excavation wall

unfoldable pub passive : Wall → ℕ
passive wall = rounded_down (passive_coefficient wall * soil_density wall * squared (passive_depth wall)) (2 * thousandths * per_volume)

-- R less surcharge and live loads down
unfoldable pub lasting_weight : Wall → List Load → ℤ
lasting_weight wall loads =
    (service wall loads).R -ℤ column_sum rests vertical (table (active_coefficient wall) wall loads)

unfoldable pub friction_under : Wall → ℤ → ℕ
friction_under wall weight = rounded_down (friction_tangent wall * above_zero weight) thousandths

unfoldable pub is_propped : Wall → Bool
is_propped wall = eqb (kind wall) 1

-- under a weight that lasts, against a push H
unfoldable pub sliding_under : Wall → ℤ → ℤ → Sliding
sliding_under wall weight H =
    record {
      passive = passive wall;
      friction = friction_under wall weight;
      slides = not (is_propped wall) && lt_z (pos (passive wall + friction_under wall weight)) H;
      propping = cond (is_propped wall) (above_zero (H -ℤ pos (passive wall) -ℤ pos (friction_under wall weight))) 0;
    }

unfoldable pub sliding_of : Wall → List Load → Sliding
sliding_of wall loads = sliding_under wall (lasting_weight wall loads) (service wall loads).H

abbrev pub friction : Wall → List Load → ℕ
friction wall loads = (sliding_of wall loads).friction

abbrev pub propping_force : Wall → List Load → ℕ
propping_force wall loads = (sliding_of wall loads).propping
