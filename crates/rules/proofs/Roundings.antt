-- Document 01, "Forces", of rounding: a weight is the nearest newton to the exact one, and the upper one at a half; a push is the least that is enough;
-- passive force and friction are the greatest that is not too much. The exact forces stand over what makes a newton of them.
use Prim.Native.Nat.{ℕ, ◌+◌, ◌-◌, ◌*◌, ◌≤◌, ◌<◌}
use mathlib.Core.List.{List}
use lib.Dec.{lit<}
use Rattle.whole.specs.Parts.{above_zero}
use Rattle.whole.specs.Rounding.{rounded_up, rounded_down, rounded_nearest}
use Rattle.whole.proofs.Rounded.{up_enough, up_least, down_within, down_greatest, nearest_low, nearest_high}
use Rattle.rules.specs.JobFile.{Wall, Load, stem_height, stem_thickness, heel_length, base_thickness, stem_density, base_density, moist_density, saturated_density, soil_density, passive_coefficient, friction_tangent, surcharge, base_length, downstand_depth, downstand_thickness}
use Rattle.rules.specs.Forces.{per_volume, per_area, thousandths, water_density, squared, saturated_height, stem_weight, base_weight, downstand_weight, saturated_weight, moist_weight, surcharge_weight, surcharge_push, moist_push, moist_push_below, saturated_push, water_push, passive_depth, passive, lasting_weight, friction_under, sliding_under, sliding_of, friction}

-- n is a / b, to the nearest: at most a half too much, and less than a half too little
pub record Nearest (n a b : ℕ) : Type 0 where
  pub low : 2 * (n * b) ≤ 2 * a + b
  pub high : 2 * a < 2 * (n * b) + b

-- n is a / b, rounded up
pub record LeastEnough (n a b : ℕ) : Type 0 where
  pub enough : a ≤ n * b
  pub least : (m : ℕ) → a ≤ m * b → n ≤ m

-- n is a / b, rounded down
pub record GreatestWithin (n a b : ℕ) : Type 0 where
  pub within : n * b ≤ a
  pub greatest : (m : ℕ) → m * b ≤ a → m ≤ n

pub nearest : (a : ℕ) {b : ℕ} → 0 < b → Nearest (rounded_nearest a b) a b
nearest a {b} h = record { low = nearest_low a b; high = nearest_high a h }

pub up : (a : ℕ) {b : ℕ} → 0 < b → LeastEnough (rounded_up a b) a b
up a {b} h = record { enough = up_enough a h; least = λ m k. up_least b k }

pub down : (a : ℕ) {b : ℕ} → 0 < b → GreatestWithin (rounded_down a b) a b
down a {b} h = record { within = down_within a b; greatest = λ m k. down_greatest h k }

-- ---- weights

pub stem_weight_lem : (wall : Wall) → Nearest (stem_weight wall) (stem_height wall * stem_thickness wall * stem_density wall) per_volume
unfolding stem_weight
stem_weight_lem wall = nearest _ (lit< tt)

pub base_weight_lem : (wall : Wall) → Nearest (base_weight wall) (base_length wall * base_thickness wall * base_density wall) per_volume
unfolding base_weight
base_weight_lem wall = nearest _ (lit< tt)

pub downstand_weight_lem : (wall : Wall) → Nearest (downstand_weight wall) (downstand_depth wall * downstand_thickness wall * base_density wall) per_volume
unfolding downstand_weight
downstand_weight_lem wall = nearest _ (lit< tt)

pub saturated_weight_lem : (wall : Wall) → Nearest (saturated_weight wall) (heel_length wall * saturated_height wall * saturated_density wall) per_volume
unfolding saturated_weight
saturated_weight_lem wall = nearest _ (lit< tt)

pub moist_weight_lem : (wall : Wall) → Nearest (moist_weight wall) (heel_length wall * (stem_height wall - saturated_height wall) * moist_density wall) per_volume
unfolding moist_weight
moist_weight_lem wall = nearest _ (lit< tt)

pub surcharge_weight_lem : (wall : Wall) → Nearest (surcharge_weight wall) (surcharge wall * heel_length wall) per_area
unfolding surcharge_weight
surcharge_weight_lem wall = nearest _ (lit< tt)

-- ---- pushes, at any coefficient, height and water

module _ (wall : Wall) (K h hw : ℕ) where
  pub surcharge_push_lem : LeastEnough (surcharge_push wall K h) (K * surcharge wall * h) (thousandths * per_area)
  unfolding surcharge_push
  surcharge_push_lem = up _ (lit< tt)

  pub moist_push_lem : LeastEnough (moist_push wall K h hw) (K * moist_density wall * squared (h - hw)) (2 * thousandths * per_volume)
  unfolding moist_push
  moist_push_lem = up _ (lit< tt)

  pub moist_push_below_lem : LeastEnough (moist_push_below wall K h hw) (K * moist_density wall * (h - hw) * hw) (thousandths * per_volume)
  unfolding moist_push_below
  moist_push_below_lem = up _ (lit< tt)

  pub saturated_push_lem : LeastEnough (saturated_push wall K hw) (K * (saturated_density wall - water_density) * squared hw) (2 * thousandths * per_volume)
  unfolding saturated_push
  saturated_push_lem = up _ (lit< tt)

  pub water_push_lem : LeastEnough (water_push hw) (water_density * squared hw) (2 * per_volume)
  unfolding water_push
  water_push_lem = up _ (lit< tt)

-- ---- passive force and friction

pub passive_force : (wall : Wall) → GreatestWithin (passive wall) (passive_coefficient wall * soil_density wall * squared (passive_depth wall)) (2 * thousandths * per_volume)
unfolding passive
passive_force wall = down _ (lit< tt)

pub friction_force : (wall : Wall) (loads : List Load) → GreatestWithin (friction wall loads) (friction_tangent wall * above_zero (lasting_weight wall loads)) thousandths
unfolding sliding_of sliding_under friction_under
friction_force wall loads = down _ (lit< tt)
