-- Document 02, "#107 Downstands": a wall without one is worked as before. The rules before the request stand here, where they were other; a wall of 35 fields reads as one with
-- dd 0, since nothing stands behind its last field.
use Rattle.std.specs.Prelude.{Option, None, Some}
use mathlib.Core.Path.{◌≡◌, refl, ap, fun_ext, ◌∙◌}
use mathlib.Core.Bool.{Bool, true, false, not, ◌&&◌, ◌||◌, cond}
use mathlib.Core.List.{List, [], ◌∷◌, ◌++◌, map}
use Prim.Native.Nat.{ℕ, suc, ◌+◌, ◌-◌, ◌*◌, ◌≤◌, ◌<◌}
use native.Mathlib.Nat.{mul-pos, mul-le-mul_left, zero-mul, add-zero}
use native.Mathlib.Omega.{arith}
use lib.Dec.{T, leb, ltb, le→leb}
use lib.IntN.{ℤ, pos, negsuc, nat_abs, ◌-ℤ◌, ◌*ℤ◌, +ℤ_idl, *ℤ-zero, *ℤ_comm}
use lib.ListN.{length, get_or, get_or-map}
use lib.Signed.{le_z, lt_z, ◌≤ℤ◌, ◌<ℤ◌}
use Rattle.whole.specs.Parts.{above_zero}
use Rattle.whole.specs.Rounding.{rounded_up, rounded_down, rounded_nearest}
use Rattle.whole.specs.Sum.{sum_of}
use Rattle.whole.proofs.Integer.{itself, diff_mul, diff_le, *ℤ-assoc, pos-<ℤ, lt_le_z, lt_z_le_z}
use Rattle.whole.proofs.Lists.{All, all_joined, all_at}
use Rattle.whole.proofs.Sums.{sum_of_factor, sum_of_less}
use Rattle.rules.specs.declared.Action.{Action}
use Rattle.rules.specs.declared.Block.{Block}
use Rattle.rules.specs.declared.Kind.{Kind}
use Rattle.rules.specs.declared.Kind.TheVariants.{Full, FromToe, FromHeel, NoBlock}
use Rattle.rules.specs.declared.Member.{Member}
use Rattle.rules.specs.declared.Range.{Range}
use Rattle.rules.specs.declared.Range.TheVariants.{Between, UpToTop, AlongBase, UnderBase, ABar}
use Rattle.rules.specs.declared.Sliding.{Sliding}
use Rattle.rules.specs.declared.Totals.{Totals}
use Rattle.rules.specs.declared.WorkedWall.{WorkedWall}
use Rattle.rules.specs.JobFile.{Wall, Load, stem_height, stem_thickness, toe_length, heel_length, base_thickness, cover_in_front, excavation, water_height, base_density, moist_density, saturated_density, soil_density, active_coefficient, rest_coefficient, passive_coefficient, downstand_depth, downstand_position, downstand_thickness, base_length, crest_height, wall_height, bars, among, within, field, first_outside, first_bad_field, is_down, position, dead_load, live_load, reach}
use Rattle.rules.specs.Forces.{per_volume, thousandths, squared, saturated_height, stem_weight, base_weight, downstand_weight, saturated_weight, moist_weight, surcharge_weight, surcharge_push, moist_push, moist_push_below, saturated_push, water_push, Sort, deadWeight, liveWeight, deadPush, livePush, Component, down, over_heel, weight_rows, push_rows, load_row, dead_row, live_row, load_table, table, vertical, horizontal, moment, column_sum, once, tenths, rests, totals, service, factored, passive_depth, passive, lasting_weight, friction_under, is_propped, sliding_under, sliding_of}
use Rattle.rules.specs.Bearing.{is_none, is_full, is_from_toe, is_from_heel, kind_of, of_kind, block_of, service_scale, factored_scale, given, block_under, service_block, factored_block, pressed_by}
use Rattle.rules.specs.ToeAndStem.{toe_under, toe, stem_load_rows, stem_load_table, stem_table, stem_action, twice_heel_arm, fill_on_heel, shear_on_heel, moment_on_heel, heel_bearing, heel_worked, heel_action, heel_section, stem_section, member_under, no_member, stem, heel_under, heel}
use Rattle.rules.specs.SheetLine.{worked_wall, numbers_by, line}
use Rattle.rules.proofs.Accepted.{both, every, WallWithin, wall_within, base_length_lem, load_within}
use Rattle.rules.proofs.Examined.{AllFit, Fit}
use Rattle.rules.proofs.Moments.{balances, one_sum}
use Rattle.rules.proofs.Sizes.{weighed, each, none}

-- ---- the rules before: forces

-- a horizontal force, with six times its height
abbrev pub across_before : Sort → ℕ → ℕ → Component
across_before sort force sixfold = record { sort = sort; row = pos 0 ∷ pos force ∷ pos (force * sixfold) ∷ [] }

abbrev pub load_row_before : Sort → Sort → (Load → ℕ) → Load → Component
load_row_before weight push part load =
    cond (is_down load) (down weight (part load) (6 * position load)) (across_before push (part load) (6 * position load))

abbrev pub load_table_before : List Load → List Component
load_table_before loads = map (load_row_before deadWeight deadPush dead_load) loads ++ map (load_row_before liveWeight livePush live_load) loads

module _ (wall : Wall) where
  -- h and hsat
  abbrev pub height_before : ℕ
  height_before = stem_height wall + base_thickness wall

  abbrev pub hsat_before : ℕ
  hsat_before = water_height wall - base_thickness wall

  abbrev pub saturated_weight_before : ℕ
  saturated_weight_before = rounded_nearest (heel_length wall * hsat_before * saturated_density wall) per_volume

  abbrev pub moist_weight_before : ℕ
  moist_weight_before = rounded_nearest (heel_length wall * (stem_height wall - hsat_before) * moist_density wall) per_volume

  abbrev pub weight_rows_before : List Component
  weight_rows_before =
      down deadWeight (stem_weight wall) (6 * toe_length wall + 3 * stem_thickness wall)
      ∷ down deadWeight (base_weight wall) (3 * base_length wall)
      ∷ down deadWeight saturated_weight_before (over_heel wall)
      ∷ down deadWeight moist_weight_before (over_heel wall)
      ∷ down liveWeight (surcharge_weight wall) (over_heel wall)
      ∷ []

  abbrev pub push_rows_before : ℕ → ℕ → ℕ → List Component
  push_rows_before K h hw =
      across_before livePush (surcharge_push wall K h) (3 * h)
      ∷ across_before deadPush (moist_push wall K h hw) (2 * (h + 2 * hw))
      ∷ across_before deadPush (moist_push_below wall K h hw) (3 * hw)
      ∷ across_before deadPush (saturated_push wall K hw) (2 * hw)
      ∷ across_before deadPush (water_push hw) (2 * hw)
      ∷ []

  abbrev pub table_before : ℕ → List Load → List Component
  table_before K loads = weight_rows_before ++ push_rows_before K height_before (water_height wall) ++ load_table_before loads

  abbrev pub service_before : List Load → Totals
  service_before loads = totals once (table_before (active_coefficient wall) loads)

  abbrev pub factored_before : List Load → Totals
  factored_before loads = totals tenths (table_before (rest_coefficient wall) loads)

  abbrev pub passive_before : ℕ
  passive_before =
      rounded_down (passive_coefficient wall * soil_density wall * squared (cover_in_front wall + base_thickness wall - excavation wall)) (2 * thousandths * per_volume)

  abbrev pub friction_before : List Load → ℕ
  friction_before loads =
      friction_under wall ((service_before loads).R -ℤ column_sum rests vertical (table_before (active_coefficient wall) loads))

  abbrev pub sliding_before : List Load → Sliding
  sliding_before loads =
      let H = (service_before loads).H in
      let friction = friction_before loads in
      record {
        passive = passive_before;
        friction = friction;
        slides = not (is_propped wall) && lt_z (pos (passive_before + friction)) H;
        propping = cond (is_propped wall) (above_zero (H -ℤ pos passive_before -ℤ pos friction)) 0;
      }

-- ---- the rules before: the block, which N always above 0 was said to make

abbrev pub kind_before : ℤ → ℤ → ℤ → Kind
kind_before R M6 l =
    cond (le_z M6 (pos 0)) NoBlock
    (cond (is_full R M6 l) Full (cond (is_from_toe R M6 l) FromToe (cond (lt_z (pos 4 *ℤ R *ℤ l) M6) FromHeel NoBlock)))

-- a horizontal load at or above the base's top
pub stem_loads_before : Wall → List Load → List Component
stem_loads_before wall [] = []
stem_loads_before wall (load ∷ rest) =
    let sixfold = 6 * (position load - base_thickness wall) in
    cond (is_down load || ltb (position load) (base_thickness wall))
    []
    (across_before deadPush (dead_load load) sixfold ∷ across_before livePush (live_load load) sixfold ∷ [])
    ++ stem_loads_before wall rest

abbrev pub block_before : ℕ → Totals → Wall → Block
block_before scale t wall = let l = pos (base_length wall) in given scale (of_kind (kind_before t.R t.M6 l) t.R t.M6 l)

module _ (wall : Wall) (loads : List Load) where
  abbrev pub service_block_before : Block
  service_block_before = block_before service_scale (service_before wall loads) wall

  abbrev pub factored_block_before : Block
  factored_block_before = block_before factored_scale (factored_before wall loads) wall

  -- ---- the rules before: stem and heel

  abbrev pub stem_table_before : List Component
  stem_table_before = push_rows_before wall (rest_coefficient wall) (stem_height wall) (hsat_before wall) ++ stem_loads_before wall loads

  abbrev pub stem_action_before : Action
  stem_action_before =
      record {
        shear = rounded_up (above_zero (column_sum tenths horizontal stem_table_before)) 10;
        moment = rounded_up (above_zero (column_sum tenths moment stem_table_before)) (6 * 10);
      }

  abbrev pub fill_before : ℕ
  fill_before = 14 * (saturated_weight_before wall + moist_weight_before wall) + 16 * surcharge_weight wall

  abbrev pub on_heel_before : Action
  on_heel_before =
      record {
        shear = rounded_up (14 * base_density wall * base_thickness wall * heel_length wall + per_volume * fill_before) (10 * per_volume);
        moment =
            rounded_up
            (14 * base_density wall * base_thickness wall * squared (twice_heel_arm wall) + 4 * per_volume * (fill_before * (heel_length wall + stem_thickness wall)))
            (4 * 2 * 10 * per_volume);
      }

  abbrev pub heel_before : Member
  heel_before =
      let b = factored_block_before in
      let acts : Action = record { shear = on_heel_before.shear - (heel_bearing wall b).shear; moment = on_heel_before.moment - (heel_bearing wall b).moment } in
      cond (heel_worked wall b) (member_under (heel_section wall) acts) no_member

  -- ---- the rules before: the line

  abbrev pub worked_before : WorkedWall
  worked_before =
      record {
        totals = service_before wall loads;
        sliding = sliding_before wall loads;
        service = pressed_by service_scale service_block_before;
        factored = pressed_by factored_scale factored_block_before;
        toe = toe_under wall factored_block_before;
        stem = member_under (stem_section wall) stem_action_before;
        heel = heel_before;
      }

  abbrev pub line_before : ℕ → List ℤ
  line_before n = numbers_by n wall worked_before

-- ---- a wall without a downstand

-- the rows of loads have whole levers still
loads_same : (loads : List Load) → load_table loads ≡ load_table_before loads
unfolding load_table dead_row live_row load_row
loads_same loads = refl

stem_loads_same : (wall : Wall) (loads : List Load) → stem_load_table wall loads ≡ stem_loads_before wall loads
unfolding stem_load_table stem_load_rows stem_loads_before
stem_loads_same wall [] = refl
stem_loads_same wall (load ∷ rest) = rw (stem_loads_same wall rest)

-- the levers on a face whose foot is the base's underside, or its top
pushes_same : (wall : Wall) (K h hw : ℕ) → push_rows wall K h hw 0 ≡ push_rows_before wall K h hw
unfolding push_rows
pushes_same wall K h hw = simp add-zero

module _ (wall : Wall) (none-there : downstand_depth wall ≡ 0) where
  height_same : wall_height wall ≡ height_before wall
  unfolding wall_height crest_height
  height_same = rw none-there (omega arith)

  hsat_same : saturated_height wall ≡ hsat_before wall
  unfolding saturated_height
  hsat_same = rw none-there (omega arith)

  saturated_same : saturated_weight wall ≡ saturated_weight_before wall
  unfolding saturated_weight
  saturated_same = rw hsat_same

  moist_same : moist_weight wall ≡ moist_weight_before wall
  unfolding moist_weight
  moist_same = rw hsat_same

  passive_same : passive wall ≡ passive_before wall
  unfolding passive passive_depth
  passive_same = let k : cover_in_front wall + base_thickness wall + 0 ≡ cover_in_front wall + base_thickness wall = omega arith in rw (none-there, k)

  no_weight : downstand_weight wall ≡ 0
  unfolding downstand_weight rounded_nearest
  no_weight = rw (none-there, zero-mul, zero-mul)

  pushes_there : (K : ℕ) → push_rows wall K (wall_height wall) (water_height wall) (downstand_depth wall) ≡ push_rows_before wall K (height_before wall) (water_height wall)
  pushes_there K = rw (height_same, none-there) (pushes_same wall K (height_before wall) (water_height wall))

  -- the downstand's row is of zeros, so every column has the sum that it had
  module _ (weight : Sort → ℤ) (column : ℕ) where
    abbrev cell : Component → ℤ
    cell c = weight c.sort *ℤ get_or c.row column (pos 0)

    idle : (sixfold : ℕ) → cell (down deadWeight (downstand_weight wall) sixfold) ≡ pos 0
    idle sixfold =
        let zeros : get_or (pos 0 ∷ pos 0 ∷ pos 0 ∷ []) column (pos 0) ≡ pos 0 = get_or-map (λ (n : ℕ). pos 0) (0 ∷ 0 ∷ 0 ∷ []) column 0 in
        ap (λ (n : ℕ). cell (down deadWeight n sixfold)) no_weight
        ∙ ap (λ (n : ℕ). weight deadWeight *ℤ get_or (pos 0 ∷ pos 0 ∷ pos n ∷ []) column (pos 0)) (zero-mul sixfold)
        ∙ ap (λ z. weight deadWeight *ℤ z) zeros
        ∙ *ℤ-zero (weight deadWeight)

    column_same : (K : ℕ) (loads : List Load) → column_sum weight column (table K wall loads) ≡ column_sum weight column (table_before wall K loads)
    unfolding column_sum table weight_rows sum_of
    column_same K loads =
        let fill : (n m : ℕ) → n ≡ m → cell (down deadWeight n (over_heel wall)) ≡ cell (down deadWeight m (over_heel wall)) =
        λ n m e. ap (λ (n : ℕ). cell (down deadWeight n (over_heel wall))) e in
        let rest : sum_of cell (push_rows wall K (wall_height wall) (water_height wall) (downstand_depth wall) ++ load_table loads)
        ≡ sum_of cell (push_rows_before wall K (height_before wall) (water_height wall) ++ load_table_before loads) = rw (pushes_there K, loads_same loads) in
        rw (idle (6 * downstand_position wall + 3 * downstand_thickness wall), +ℤ_idl, fill _ _ saturated_same, fill _ _ moist_same, rest)

  totals_same : (counts : Sort → ℤ) (K : ℕ) (loads : List Load) → totals counts (table K wall loads) ≡ totals counts (table_before wall K loads)
  unfolding totals
  totals_same counts K loads =
      let same : (weight : Sort → ℤ) (column : ℕ) → column_sum weight column (table K wall loads) ≡ column_sum weight column (table_before wall K loads) =
      λ weight column. column_same weight column K loads in
      simp same

  service_same : (loads : List Load) → service wall loads ≡ service_before wall loads
  unfolding service
  service_same loads = totals_same once (active_coefficient wall) loads

  factored_same : (loads : List Load) → factored wall loads ≡ factored_before wall loads
  unfolding factored
  factored_same loads = totals_same tenths (rest_coefficient wall) loads

  sliding_same : (loads : List Load) → sliding_of wall loads ≡ sliding_before wall loads
  unfolding sliding_of sliding_under lasting_weight
  sliding_same loads = rw (service_same loads, passive_same, column_same rests vertical (active_coefficient wall) loads)

  stem_same : (loads : List Load) → stem_action wall loads ≡ stem_action_before wall loads
  unfolding stem_action stem_table
  stem_same loads = rw (hsat_same, pushes_same wall (rest_coefficient wall), stem_loads_same wall loads)

  fill_same : (loads : List Load) → fill_on_heel wall ≡ fill_before wall loads
  unfolding fill_on_heel
  fill_same loads = rw (saturated_same, moist_same)

  on_heel_same : (loads : List Load) → record { shear = shear_on_heel wall; moment = moment_on_heel wall } ≡ on_heel_before wall loads
  unfolding shear_on_heel moment_on_heel
  on_heel_same loads = rw (fill_same loads)

-- ---- its weights stand on the base and nothing turns it backwards, so N is above 0

-- a row's part of M6, n times over, is no more than if it stood on the base's end
record Stands (l : ℕ) (c : Component) : Type 0 where
  by : (n : ℕ) → (pos n *ℤ balances c.sort *ℤ get_or c.row moment (pos 0)) ≤ℤ (pos (l * 6) *ℤ (pos n *ℤ get_or c.row vertical (pos 0)))

weight_stands : {sort : Sort} {force sixfold l : ℕ} → balances sort ≡ pos 1 → sixfold ≤ 6 * l → Stands l (down sort force sixfold)
weight_stands {force = f} e h = record { by = λ n. rw e (omega (arith, le→leb, mul-le-mul_left (n * f) h)) }

push_stands : {sort : Sort} (force sixfold : ℕ) {l : ℕ} → balances sort ≡ negsuc 0 → Stands l (across_before sort force sixfold)
push_stands f d {l} e =
    record {
      by =
          λ n. let against = diff_mul (pos n) (negsuc 0) (itself _) (itself _) in
          rw e (diff_le _ _ (diff_mul _ (pos (f * d)) against (itself _)) (itself (pos (l * 6 * (n * 0)))) (omega arith));
    }

-- one part of every load
part_stands : (wall : Wall) (weigh press : Sort) (part : Load → ℕ) → balances weigh ≡ pos 1 → balances press ≡ negsuc 0 → (loads : List Load) → AllFit wall loads
    → All (Stands (base_length wall)) (map (load_row_before weigh press part) loads)
unfolding reach
part_stands wall weigh press part e g [] all = tt
part_stands wall weigh press part e g (load ∷ loads) all =
    (go (is_down load) (load_within wall load all.0).place, part_stands wall weigh press part e g loads all.1)
  where
    go : (d : Bool) → position load ≤ cond d (base_length wall) (crest_height wall)
        → Stands (base_length wall) (cond d (down weigh (part load) (6 * position load)) (across_before press (part load) (6 * position load)))
    go true far = weight_stands e (omega arith)
    go false far = push_stands (part load) (6 * position load) g

module _ (wall : Wall) (loads : List Load) (fit : Fit wall loads) (K : ℕ) where
  ranged : WallWithin wall
  ranged = wall_within wall fit.wall_fits

  rows_stand : All (Stands (base_length wall)) (table_before wall K loads)
  unfolding base_length
  rows_stand =
      let S = Stands (base_length wall) in
      let under = all_joined S (map (load_row_before deadWeight deadPush dead_load) loads) (map (load_row_before liveWeight livePush live_load) loads) (part_stands wall _ _ _ refl refl loads fit.loads_fit) (part_stands wall _ _ _ refl refl loads fit.loads_fit) in
      let pushes : All S (push_rows_before wall K (height_before wall) (water_height wall)) =
      (push_stands _ _ refl, (push_stands _ _ refl, (push_stands _ _ refl, (push_stands _ _ refl, (push_stands _ _ refl, tt))))) in
      let rest = all_joined S (push_rows_before wall K (height_before wall) (water_height wall)) (load_table_before loads) pushes under in
      (weight_stands refl (omega arith), (weight_stands refl (omega arith), (weight_stands refl (omega arith), (weight_stands refl (omega arith), (weight_stands refl (omega arith), rest)))))

  -- each row counts n times by its sort, the base at least once
  on_base : (n : Sort → ℕ) → 0 < n deadWeight
      → let t = totals (λ s. pos (n s)) (table_before wall K loads) in t.M6 <ℤ (pos 6 *ℤ t.R *ℤ pos (base_length wall))
  unfolding totals column_sum
  on_base n counted =
      let rows = table_before wall K loads in
      let l = base_length wall in
      let part : Component → ℤ = λ c. pos (n c.sort) *ℤ get_or c.row vertical (pos 0) in
      let long : 0 < l = omega (arith, base_length_lem ranged) in
      let base : 0 < n deadWeight * base_weight wall = mul-pos counted (omega (arith, (weighed ranged).base)) in
      let at = all_at (Stands l) none (record { by = λ n. omega (arith, le→leb) }) rows rows_stand in
      rw (one_sum (λ s. pos (n s)) rows, *ℤ_comm (pos 6 *ℤ sum_of part rows) (pos l), ← *ℤ-assoc (pos l) (pos 6) (sum_of part rows), ← sum_of_factor (pos (l * 6)) part rows)
      (sum_of_less _ _ none rows 1 (λ i. (at i).by (n (get_or rows i none).sort)) (omega arith) (pos-<ℤ.1 (omega (arith, mul-pos base long))))

-- so the block is of the kind that it was
kind_same : (R M6 l : ℤ) → M6 <ℤ (pos 6 *ℤ R *ℤ l) → kind_of R M6 l ≡ kind_before R M6 l
unfolding kind_of is_none is_from_heel
kind_same R M6 l less =
    rw (lt_z_le_z M6 (pos 6 *ℤ R *ℤ l), lt_le_z less, or_false (le_z M6 (pos 0)), and-true (lt_z (pos 4 *ℤ R *ℤ l) M6))
  where
    or_false : (b : Bool) → (b || false) ≡ b
    or_false true = refl
    or_false false = refl

    and-true : (b : Bool) → (b && true) ≡ b
    and-true true = refl
    and-true false = refl

-- ---- the whole of it

-- the totals, the blocks and the line, with any number, are those of before
pub record AsBefore (wall : Wall) (loads : List Load) : Type 0 where
  pub service : service wall loads ≡ service_before wall loads
  pub factored : factored wall loads ≡ factored_before wall loads
  pub service_block : service_block wall loads ≡ service_block_before wall loads
  pub factored_block : factored_block wall loads ≡ factored_block_before wall loads
  pub line : (n : ℕ) → line n wall loads ≡ line_before wall loads n

module _ (wall : Wall) (loads : List Load) (fit : Fit wall loads) (none-there : downstand_depth wall ≡ 0) where
  service_block_same : service_block wall loads ≡ service_block_before wall loads
  unfolding service_block block_under block_of
  service_block_same =
      rw (service_same wall none-there loads, kind_same _ _ (pos (base_length wall)) (on_base wall loads fit (active_coefficient wall) (λ s. 1) (omega arith)))

  -- factored, a row counts 14 or 16 times
  factored_on_base : (factored_before wall loads).M6 <ℤ (pos 6 *ℤ (factored_before wall loads).R *ℤ pos (base_length wall))
  factored_on_base =
      rw (fun_ext (each (λ s. tenths s ≡ pos (nat_abs (tenths s))) (refl, refl, refl, refl)))
      (on_base wall loads fit (rest_coefficient wall) (λ s. nat_abs (tenths s)) (omega arith))

  factored_block_same : factored_block wall loads ≡ factored_block_before wall loads
  unfolding factored_block block_under block_of
  factored_block_same = rw (factored_same wall none-there loads, kind_same _ _ (pos (base_length wall)) factored_on_base)

  line_same : (n : ℕ) → line n wall loads ≡ line_before wall loads n
  unfolding line worked_wall toe stem heel heel_under heel_action
  line_same n =
      rw (
        service_same wall none-there loads,
        sliding_same wall none-there loads,
        service_block_same,
        factored_block_same,
        stem_same wall none-there loads,
        ap (λ (a : Action). a.shear) (on_heel_same wall none-there loads),
        ap (λ (a : Action). a.moment) (on_heel_same wall none-there loads),
      )

  pub as_before : AsBefore wall loads
  as_before =
      record {
        service = service_same wall none-there loads;
        factored = factored_same wall none-there loads;
        service_block = service_block_same;
        factored_block = factored_block_same;
        line = line_same;
      }

-- ---- a wall with all three fields 0 is refused where it was, at the same field

-- the table of ranges; no field had one of the last two
abbrev pub ranges_before : List Range
ranges_before =
    Between 0 1
    ∷ Between 500 8000 ∷ Between 200 1500
    ∷ Between 0 5000 ∷ Between 0 5000 ∷ Between 200 1500
    ∷ Between 0 1000 ∷ Between 0 1000
    ∷ UpToTop
    ∷ Between 1500 3000 ∷ Between 1500 3000
    ∷ Between 1000 3000 ∷ Between 1000 3000 ∷ Between 1000 3000
    ∷ Between 1 1000 ∷ Between 1 1000
    ∷ Between 0 15000
    ∷ Between 0 1000
    ∷ Between 1 1000
    ∷ Between 0 10000
    ∷ Between 20 60 ∷ Between 250 500
    ∷ Between 0 100
    ∷ Between 20 75 ∷ ABar ∷ Between 50 500
    ∷ Between 20 75 ∷ ABar ∷ Between 50 500
    ∷ Between 1 5000 ∷ Between 1 5000
    ∷ Between 20 75 ∷ ABar ∷ Between 50 500 ∷ Between 1 5000
    ∷ []

abbrev pub within_before : Wall → Range → ℕ → Bool
within_before wall (Between low high) n = leb low n && leb n high
within_before wall UpToTop n = leb n (height_before wall)
within_before wall ABar n = among n bars
within_before wall AlongBase n = false
within_before wall (UnderBase low high) n = false

pub outside_before : Wall → ℕ → List Range → Option ℕ
outside_before wall number [] = None
outside_before wall number (range ∷ rest) =
    cond (within_before wall range (field wall number)) (outside_before wall (suc number) rest) (Some number)

abbrev is_old : Range → Bool
is_old (Between low high) = true
is_old UpToTop = true
is_old ABar = true
is_old AlongBase = false
is_old (UnderBase low high) = false

module _ (wall : Wall) (depth : downstand_depth wall ≡ 0) where
  within_same : (range : Range) → T (is_old range) → (n : ℕ) → within wall range n ≡ within_before wall range n
  unfolding within
  within_same (Between low high) t n = refl
  within_same UpToTop t n = rw (height_same wall depth)
  within_same ABar t n = refl
  within_same AlongBase t n = absurd t
  within_same (UnderBase low high) t n = absurd t

  -- the first outside is among the ranges of before, or else among the new ones behind them
  behind : (number : ℕ) (rs qs : List Range) → T (every is_old rs) → first_outside wall (suc number + length rs) qs ≡ None
      → first_outside wall (suc number) (rs ++ qs) ≡ outside_before wall (suc number) rs
  unfolding first_outside outside_before
  behind number [] qs t e = let k : suc number ≡ suc number + 0 = omega arith in rw k e
  behind number (r ∷ rs) qs t e =
      let old = both (is_old r) (every is_old rs) t in
      let k : suc (suc number) + length rs ≡ suc number + suc (length rs) = omega arith in
      rw (within_same r old.0 (field wall (suc number)), behind (suc number) rs qs old.1 (rw k e))

  pub same_field : downstand_position wall ≡ 0 → downstand_thickness wall ≡ 0 → first_bad_field wall ≡ outside_before wall 1 ranges_before
  unfolding first_bad_field first_outside within
  same_field position thickness =
      behind 0 ranges_before (Between 0 1000 ∷ AlongBase ∷ UnderBase 100 1500 ∷ []) tt (rw (depth, position, thickness))
