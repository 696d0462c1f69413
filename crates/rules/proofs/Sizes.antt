-- How big the forces and the totals of an accepted wall are, each bound proved once: of the weights, the pushes, the component table, the totals,
-- and what holds the wall against sliding.
use mathlib.Core.Path.{◌≡◌, refl, subst, fun_ext}
use mathlib.Core.Bool.{Bool, true, false, cond}
use mathlib.Core.List.{List, [], ◌∷◌, ◌++◌, map}
use Prim.Native.Nat.{ℕ, ◌+◌, ◌-◌, ◌*◌, ◌≤◌, ◌<◌}
use native.Mathlib.Nat.{mul-pos, mul-le-mul, mul-le-mul_left, mul-le-mul_right}
use native.Mathlib.Omega.{arith}
use lib.Dec.{lit<, lit≤}
use lib.IntN.{ℤ, pos, nat_abs, ◌*ℤ◌}
use lib.ListN.{get_or, length, length-append, length-map, get_or-map}
use lib.Signed.{◌≤ℤ◌, ◌<ℤ◌}
use Rattle.whole.specs.Parts.{above_zero}
use Rattle.whole.proofs.Rounded.{down_within}
use Rattle.whole.specs.Sum.{sum_to, sum_of}
use Rattle.whole.proofs.Integer.{pos-≤ℤ, pos-<ℤ, *ℤ-mono-≤ℤ, sub_nonneg, sub-<ℤ, nonneg_abs, above_most, *ℤ-nonneg, abs_neg, abs-<ℤ, abs_add, abs_sub, abs_weighted}
use Rattle.whole.proofs.Lists.{All, all_joined, all_at}
use Rattle.whole.proofs.Sums.{sum_to_abs, sum_to_mono, sum_to_nonneg, sum_of_zeros, sum_of_joined, sum_of_sum_to, sum_of_less}
use Rattle.rules.specs.declared.Totals.{Totals}
use Rattle.rules.specs.JobFile.{Wall, Load, stem_height, heel_length, water_height, downstand_depth, soil_density, active_coefficient, rest_coefficient, passive_coefficient, base_length, crest_height, wall_height, is_down, position, greatest_load, reach, friction_tangent}
use Rattle.rules.specs.Forces.{◌less◌, squared, saturated_height, stem_weight, base_weight, downstand_weight, saturated_weight, moist_weight, surcharge_weight, surcharge_push, moist_push, moist_push_below, saturated_push, water_push, Sort, deadWeight, liveWeight, deadPush, livePush, Component, down, across, weight_rows, push_rows, load_row, dead_row, live_row, load_table, table, vertical, horizontal, moment, column_sum, once, tenths, restores, overturns, rests, totals, service, factored, passive_depth, passive, lasting_weight, friction_under, thousandths}
use Rattle.rules.proofs.Moments.{balances, one_sum}
use Rattle.rules.proofs.Accepted.{Lies, most, WallWithin, wall_within, longest, tallest, base_length_lem, wall_height_lem, crest_height_lem, LoadWithin, load_within}
use Rattle.rules.proofs.Examined.{AllFit, Fit}
use Rattle.rules.proofs.Roundings.{stem_weight_lem, base_weight_lem, downstand_weight_lem, saturated_weight_lem, moist_weight_lem, surcharge_weight_lem, surcharge_push_lem, moist_push_lem, moist_push_below_lem, saturated_push_lem, water_push_lem, passive_force}

-- three factors have no greater product than three that are no less
pub product : {a b c x y z : ℕ} → a ≤ x → b ≤ y → c ≤ z → a * b * c ≤ x * y * z
product h k l = mul-le-mul (mul-le-mul h k) l

-- ---- weights

-- how much each weighs; the two fills have one bound together
pub record Weighed (wall : Wall) : Type 0 where
  pub stem : stem_weight wall ≤ 360000
  pub base : Lies 600 517500 (base_weight wall)
  pub under : downstand_weight wall ≤ 45000
  pub fill : saturated_weight wall + moist_weight wall ≤ 1200001
  pub over : surcharge_weight wall ≤ 500000

-- the weights of an accepted wall
pub weighed : {wall : Wall} → WallWithin wall → Weighed wall
unfolding saturated_height wall_height crest_height
weighed {wall} w =
    let l = base_length_lem w in
    let hsat = saturated_height wall in
    let high : hsat + (stem_height wall - hsat) ≤ most 2 = omega (arith, w.water, w.stem_height) in
    let wet = mul-le-mul_left (heel_length wall * hsat) w.saturated_density.1 in
    let dry = mul-le-mul_left (heel_length wall * (stem_height wall - hsat)) w.moist_density.1 in
    let least = product l.0 w.base_thickness.0 w.base_density.0 in
    let most = product l.1 w.base_thickness.1 w.base_density.1 in
    record {
      stem = omega (arith, (stem_weight_lem wall).low, product w.stem_height.1 w.stem_thickness.1 w.stem_density.1);
      base = omega (arith, base_weight_lem wall);
      under = omega (arith, (downstand_weight_lem wall).low, product w.downstand_depth.1 w.downstand.0 w.base_density.1);
      fill = omega (arith, (saturated_weight_lem wall).low, (moist_weight_lem wall).low, mul-le-mul w.heel_length.1 high);
      over = omega (arith, (surcharge_weight_lem wall).low, mul-le-mul w.surcharge.1 w.heel_length.1);
    }

-- ---- pushes

-- how hard each pushes at K, on a face of height h, with water up to hw above its foot
pub record Pushed (wall : Wall) (K h hw : ℕ) : Type 0 where
  pub over : surcharge_push wall K h ≤ 1050000
  pub moist : moist_push wall K h hw ≤ 1653750
  pub below : moist_push_below wall K h hw ≤ 1653750
  pub saturated : saturated_push wall K hw ≤ 1653750
  pub water : water_push hw ≤ 551250

-- the pushes on an accepted wall, or on its stem
pub pushed : {wall : Wall} → WallWithin wall → (K h hw : ℕ) → K ≤ most 16 → h ≤ tallest → hw ≤ h → Pushed wall K h hw
pushed {wall} w K h hw k high wet =
    let dry : h - hw ≤ tallest = omega arith in
    let deep : hw ≤ tallest = omega arith in
    let sum : h - hw + hw ≤ tallest = omega arith in
    record {
      over = (surcharge_push_lem wall K h hw).least _ (product k w.surcharge.1 high);
      moist = (moist_push_lem wall K h hw).least _ (product k w.moist_density.1 (mul-le-mul dry dry));
      below = (moist_push_below_lem wall K h hw).least _ (omega (arith, product k w.moist_density.1 (mul-le-mul sum sum)));
      saturated = (saturated_push_lem wall K h hw).least _ (product {y = 3000} k (omega (arith, w.saturated_density)) (mul-le-mul deep deep));
      water = (water_push_lem wall K h hw).least _ (mul-le-mul {n₂ = 1000} (lit≤ tt) (mul-le-mul deep deep));
    }

-- ---- rows

-- a cell of a table is small
abbrev pub greatest_cell : ℕ
greatest_cell = 200000000000

abbrev pub Cell : ℤ → Type 0
Cell z = nat_abs z ≤ greatest_cell

-- a row: its cells, neither force of which is negative, and the most that it weighs
pub record Sound (heavy : ℕ) (c : Component) : Type 0 where
  pub cells : All Cell c.row
  pub down : pos 0 ≤ℤ get_or c.row vertical (pos 0)
  pub along : pos 0 ≤ℤ get_or c.row horizontal (pos 0)
  pub light : nat_abs (get_or c.row vertical (pos 0)) ≤ heavy

-- a weight stands on the base
pub weight : {sort : Sort} {force sixfold heavy : ℕ} → (force ≤ heavy) × (heavy ≤ 1200001) × (sixfold ≤ 6 * longest) → Sound heavy (down sort force sixfold)
weight {force = f} {sixfold = d} h =
    let small : f ≤ 1200001 = omega arith in
    record { cells = omega (arith, mul-le-mul small h.2); down = pos-≤ℤ.1 (omega arith); along = pos-≤ℤ.1 (omega arith); light = h.0 }

-- a push weighs nothing; its lever may be negative
pub push : {sort : Sort} {force : ℕ} (sixfold : ℤ) {heavy : ℕ} → (force ≤ 1653750) × (nat_abs sixfold ≤ 69000) → Sound heavy (across sort force sixfold)
push {force = f} d h =
    record {
      cells = omega (arith, abs_weighted (pos f) d h.0 h.1);
      down = pos-≤ℤ.1 (omega arith);
      along = pos-≤ℤ.1 (omega arith);
      light = omega arith;
    }

-- on a face whose foot lies dd below the base's underside
pub face_push : {sort : Sort} {force : ℕ} (up dd : ℕ) {heavy : ℕ} → (force ≤ 1653750) × (up ≤ 6 * tallest) × (dd ≤ most 36)
    → Sound heavy (across sort force (up less 6 * dd))
face_push up dd h = push (up less 6 * dd) (omega (arith, abs_sub (pos up) (pos (6 * dd))))

-- the pushes on a wall, or on its stem
pub pushes_sound : {wall : Wall} (heavy : ℕ) → WallWithin wall → (K h hw dd : ℕ) → K ≤ most 16 → h ≤ tallest → hw ≤ h → dd ≤ most 36
    → All (Sound heavy) (push_rows wall K h hw dd)
unfolding push_rows
pushes_sound heavy w K h hw dd k high wet deep =
    let pushes = pushed w K h hw k high wet in
    let at = 2 * (h + 2 * hw) in (
      face_push (3 * h) dd (omega arith),
      (face_push at dd (omega arith), (face_push (3 * hw) dd (omega arith), (face_push (2 * hw) dd (omega arith), (face_push (2 * hw) dd (omega arith), tt)))),
    )

-- the stem's face is no higher than a wall's, and the water stands no higher
pub stem_face_lem : {wall : Wall} → WallWithin wall → (stem_height wall ≤ tallest) × (saturated_height wall ≤ stem_height wall)
unfolding saturated_height wall_height crest_height
stem_face_lem w = omega arith

-- one part of every load
part_sound : {wall : Wall} {heavy : ℕ} (weigh press : Sort) (part : Load → ℕ) → WallWithin wall → Lies greatest_load 1200001 heavy
    → ((load : Load) → LoadWithin wall load → part load ≤ greatest_load) → (loads : List Load) → AllFit wall loads
    → All (Sound heavy) (map (load_row weigh press part) loads)
unfolding load_row reach
part_sound weigh press part w b h [] all = tt
part_sound {wall} {heavy} weigh press part w b h (load ∷ loads) all =
    let v = load_within wall load all.0 in
    (go (is_down load) v.place (h load v), part_sound weigh press part w b h loads all.1)
  where
    go : (d : Bool) → position load ≤ cond d (base_length wall) (crest_height wall) → part load ≤ greatest_load
        → Sound heavy (cond d (down weigh (part load) (6 * position load)) (across press (part load) (pos (6 * position load))))
    go true far small = weight (omega (arith, base_length_lem w))
    go false far small = push (pos (6 * position load)) (omega (arith, crest_height_lem w))

pub loads_sound : {wall : Wall} (heavy : ℕ) → WallWithin wall → Lies greatest_load 1200001 heavy → (loads : List Load) → AllFit wall loads
    → All (Sound heavy) (load_table loads)
unfolding load_table dead_row live_row
loads_sound heavy w b loads all =
    all_joined _ (map dead_row loads) (map live_row loads) (part_sound _ _ _ w b (λ load v. v.dead) loads all)
    (part_sound _ _ _ w b (λ load v. v.live) loads all)

-- ---- columns and totals

-- as many rows as an accepted wall has with as many loads as it may have
abbrev pub most_rows : ℕ
most_rows = 27

-- well within 64 bits, and not negative besides
abbrev pub Small : ℕ → Type 0
Small n = n < 1000000000000000

abbrev pub Moderate : ℤ → Type 0
Moderate z = (pos 0 ≤ℤ z) × (z <ℤ pos 1000000000000000)

-- R of an accepted wall is below this in N, and factored below this in tenths
abbrev pub heaviest : ℕ
heaviest = 6000000

abbrev pub heaviest_factored : ℕ
heaviest_factored = 90000000

-- totals: some weight rests on the base, less than `most`; what overturns may be negative
pub record Sized (most : ℕ) (t : Totals) : Type 0 where
  pub some : pos 0 <ℤ t.R
  pub R : t.R <ℤ pos most
  pub H : Moderate t.H
  pub Mrest : Small (nat_abs t.Mrest)
  pub Mot : Small (nat_abs t.Mot)
  pub M6 : Small (nat_abs t.M6)

-- each of the four sorts has P
abbrev pub Each : (Sort → Type 0) → Type 0
Each P = P deadWeight × P liveWeight × P deadPush × P livePush

pub each : (P : Sort → Type 0) → Each P → (s : Sort) → P s
each P h deadWeight = h.0
each P h liveWeight = h.1
each P h deadPush = h.2
each P h livePush = h.3

-- past the end of a table stands a row with nothing in it
abbrev pub none : Component
none = record { sort = deadWeight; row = [] }

abbrev pub sort_at : List Component → ℕ → Sort
sort_at rows i = (get_or rows i none).sort

abbrev pub cell_at : List Component → ℕ → ℕ → ℤ
cell_at rows i j = get_or (get_or rows i none).row j (pos 0)

-- a column's sum, by the indices of the rows
column : (w : Sort → ℤ) (j : ℕ) (rows : List Component) → column_sum w j rows ≡ sum_to (λ i. w (sort_at rows i) *ℤ cell_at rows i j) (length rows)
unfolding column_sum
column w j rows = sum_of_sum_to _ none rows

-- what bounds a column of two tables bounds that of the two joined
column_joined : (w : Sort → ℤ) (j : ℕ) (xs ys : List Component) → nat_abs (column_sum w j (xs ++ ys)) ≤ nat_abs (column_sum w j xs) + nat_abs (column_sum w j ys)
unfolding column_sum
column_joined w j xs ys = rw (sum_of_joined _ xs ys) (abs_add (column_sum w j xs) (column_sum w j ys))

-- the row at any index is sound
pub row_at : (heavy : ℕ) (rows : List Component) → All (Sound heavy) rows → (i : ℕ) → Sound heavy (get_or rows i none)
row_at heavy rows = all_at (Sound heavy) none (record { cells = tt; down = pos-≤ℤ.1 (omega arith); along = pos-≤ℤ.1 (omega arith); light = omega arith }) rows

-- a column that is nowhere negative
abbrev Upward : List Component → ℕ → Type 0
Upward rows j = (i : ℕ) → pos 0 ≤ℤ cell_at rows i j

column_mono : (rows : List Component) (w u : Sort → ℤ) → ((s : Sort) → w s ≤ℤ u s) → (j : ℕ) → Upward rows j → column_sum w j rows ≤ℤ column_sum u j rows
column_mono rows w u h j up =
    rw (column w j rows, column u j rows)
    (sum_to_mono _ _ _ (λ i _. rw (nonneg_abs (up i)) (*ℤ-mono-≤ℤ (nat_abs (cell_at rows i j)) (h (sort_at rows i)))))

column_nonneg : (rows : List Component) (w : Sort → ℤ) → ((s : Sort) → pos 0 ≤ℤ w s) → (j : ℕ) → Upward rows j → pos 0 ≤ℤ column_sum w j rows
column_nonneg rows w h j up = rw (column w j rows) (sum_to_nonneg _ _ (λ i _. *ℤ-nonneg (h (sort_at rows i)) (up i)))

module _ {heavy : ℕ} (rows : List Component) (at : (i : ℕ) → Sound heavy (get_or rows i none)) where
  -- and so is each of its cells
  pub cell_at_lem : (i j : ℕ) → Cell (cell_at rows i j)
  cell_at_lem i j = all_at Cell (pos 0) (omega arith) (get_or rows i none).row (at i).cells j

  -- at most the greatest weight times the greatest cell, as often as there are rows
  column_most : (w : Sort → ℤ) {top b : ℕ} → ((s : Sort) → nat_abs (w s) ≤ top) → (j : ℕ) → ((i : ℕ) → nat_abs (cell_at rows i j) ≤ b)
      → nat_abs (column_sum w j rows) ≤ length rows * (top * b)
  column_most w h j k =
      rw (column w j rows) (sum_to_abs _ (length rows) (λ i _. abs_weighted (w (sort_at rows i)) (cell_at rows i j) (h (sort_at rows i)) (k i)))

  -- of no more rows than an accepted wall has, weighted by at most 16
  pub column_small : length rows ≤ most_rows → (w : Sort → ℤ) → ((s : Sort) → nat_abs (w s) ≤ 16) → (j : ℕ) → Small (nat_abs (column_sum w j rows))
  column_small few w h j = omega (arith, column_most w h j (λ i. cell_at_lem i j))

module _ (wall : Wall) (loads : List Load) (fit : Fit wall loads) where
  within : WallWithin wall
  within = wall_within wall fit.wall_fits

  -- two rows for each load
  loads_count : length (load_table loads) ≤ 16
  unfolding load_table
  loads_count = omega (arith, length-append (map dead_row loads) (map live_row loads), length-map loads dead_row, length-map loads live_row, fit.few)

  module _ (K : ℕ) (k : K ≤ most 16) where
    pub sound_at : (i : ℕ) → Sound 1200001 (get_or (table K wall loads) i none)
    unfolding table weight_rows base_length
    sound_at =
        let weights = weighed within in
        let long = base_length_lem within in
        let pushes = push_rows wall K (wall_height wall) (water_height wall) (downstand_depth wall) in
        let under = loads_sound 1200001 within (omega arith) loads fit.loads_fit in
        let behind = pushes_sound _ within K _ _ _ k (wall_height_lem within) within.water within.downstand_depth.1 in
        let rest = all_joined (Sound 1200001) pushes (load_table loads) behind under in
        row_at 1200001 (table K wall loads) (
          weight (omega arith),
          (
            weight (omega arith),
            (
              weight (omega (arith, within.downstand)),
              (weight (omega arith), (weight (omega arith), (weight (omega arith), rest))),
            ),
          ),
        )

    -- every cell of the component table is small
    pub cells_small : (i j : ℕ) → nat_abs (get_or (get_or (map (λ c. c.row) (table K wall loads)) i []) j (pos 0)) ≤ greatest_cell
    cells_small i j = rw (get_or-map (λ (c : Component). c.row) (table K wall loads) i none) (cell_at_lem (table K wall loads) sound_at i j)

    -- each row counts n times, by its sort
    module _ (n : Sort → ℕ) (top : ℕ) (counts : Each (λ s. Lies 1 top (n s))) where
      vertical_most : nat_abs (column_sum (λ s. pos (n s)) vertical (table K wall loads))
          ≤ n deadWeight * 2122501 + n liveWeight * 500000 + 16 * (top * greatest_load)
      unfolding table weight_rows push_rows column_sum sum_of
      vertical_most =
          let weights = weighed within in
          let dead : stem_weight wall + base_weight wall + downstand_weight wall + (saturated_weight wall + moist_weight wall) ≤ 2122501 = omega arith in
          let own = weight_rows wall ++ push_rows wall K (wall_height wall) (water_height wall) (downstand_depth wall) in
          let under = row_at greatest_load (load_table loads) (loads_sound greatest_load within (omega arith) loads fit.loads_fit) in
          let added = column_most (load_table loads) under (λ s. pos (n s)) (each (λ s. n s ≤ top) (omega arith)) vertical (λ i. (under i).light) in
          let few = mul-le-mul_right (top * greatest_load) loads_count in
          let joined = column_joined (λ s. pos (n s)) vertical own (load_table loads) in
          omega (arith, mul-le-mul_left (n deadWeight) dead, mul-le-mul_left (n liveWeight) weights.over)

      sized : {most : ℕ} → top ≤ 16 → n deadWeight * 2122501 + n liveWeight * 500000 + 16 * (top * greatest_load) < most
          → Sized most (totals (λ s. pos (n s)) (table K wall loads))
      unfolding totals column_sum table weight_rows push_rows
      sized few light =
          let rows = table K wall loads in
          let part : Component → ℤ = λ c. pos (n c.sort) *ℤ get_or c.row vertical (pos 0) in
          let R = sum_of part rows in
          let least : (i : ℕ) → pos 0 ≤ℤ part (get_or rows i none) = λ i. *ℤ-nonneg (pos-≤ℤ.1 (omega arith)) (sound_at i).down in
          let count : length rows ≤ most_rows = omega (arith, loads_count) in
          let base : 0 < n deadWeight * base_weight wall = mul-pos counts.0.0 (omega (arith, (weighed within).base)) in
          let once = each (λ s. nat_abs (pos (n s)) ≤ 16) (omega arith) in
          record {
            some = subst (λ z. z <ℤ R) (sum_of_zeros _ rows (λ c. refl)) (sum_of_less _ part none rows 1 least (omega arith) (pos-<ℤ.1 base));
            R = abs-<ℤ _ (omega (arith, vertical_most));
            H = (
              column_nonneg rows (λ s. pos (n s)) (λ s. pos-≤ℤ.1 (omega arith)) horizontal (λ i. (sound_at i).along),
              abs-<ℤ _ (column_small rows sound_at count (λ s. pos (n s)) once horizontal),
            );
            Mrest = column_small rows sound_at count (λ s. pos (n s) *ℤ restores s) (each _ (omega arith)) moment;
            Mot = column_small rows sound_at count (λ s. pos (n s) *ℤ overturns s) (each _ (omega arith)) moment;
            M6 =
                rw (one_sum (λ s. pos (n s)) rows)
                (column_small rows sound_at count (λ s. pos (n s) *ℤ balances s)
                (each _ (omega (arith, abs_neg (pos (n deadPush * 1)), abs_neg (pos (n livePush * 1))))) moment);
          }

  -- ---- service, factored and sliding

  -- the totals in service, and factored
  pub service_sized : Sized heaviest (service wall loads)
  unfolding service
  service_sized = sized (active_coefficient wall) within.active.1 (λ s. 1) 1 (omega arith) (lit≤ tt) (lit< tt)

  pub factored_sized : Sized heaviest_factored (factored wall loads)
  unfolding factored
  factored_sized =
      rw (fun_ext (each (λ s. tenths s ≡ pos (nat_abs (tenths s))) (refl, refl, refl, refl)))
      (sized (rest_coefficient wall) within.rest.1 (λ s. nat_abs (tenths s)) 16 (omega arith) (lit≤ tt) (lit< tt))

  -- R less surcharge and live loads down is not negative, and below what R is below
  pub lasting_nonneg : pos 0 ≤ℤ lasting_weight wall loads
  unfolding lasting_weight service totals
  lasting_nonneg = sub_nonneg (column_mono _ rests once (each _ (omega arith)) vertical (λ i. (sound_at (active_coefficient wall) within.active.1 i).down))

  pub lasting_below : lasting_weight wall loads <ℤ pos heaviest
  unfolding lasting_weight
  lasting_below =
      sub-<ℤ (column_nonneg _ rests (each _ (omega arith)) vertical (λ i. (sound_at (active_coefficient wall) within.active.1 i).down)) service_sized.R

-- the product that the passive force is a quotient of, and the force
pub passive_product : {wall : Wall} → WallWithin wall → passive_coefficient wall * soil_density wall * squared (passive_depth wall) ≤ 551250000000000
unfolding passive_depth
passive_product {wall} w =
    let depth : passive_depth wall ≤ 3500 = omega (arith, w.cover, w.base_thickness, w.downstand_depth) in
    product w.passive.1 w.soil_density.1 (mul-le-mul depth depth)

pub passive_most : {wall : Wall} → WallWithin wall → passive wall ≤ 2756250
passive_most {wall} w = omega (arith, (passive_force wall).within, passive_product w)

-- friction under a weight that is below what R is below
pub friction_most : {wall : Wall} {weight : ℤ} → WallWithin wall → weight <ℤ pos heaviest → friction_under wall weight ≤ heaviest
unfolding friction_under
friction_most {wall} {weight} w h =
    omega (arith, down_within (friction_tangent wall * above_zero weight) thousandths, mul-le-mul w.tangent.1 (above_most weight h))
