-- Every number of an accepted wall's line is small, and so fits 64 bits.
use mathlib.Core.Path.{◌≡◌, refl}
use mathlib.Core.Bool.{Bool, true, false, ◌||◌, cond}
use mathlib.Core.List.{List, [], ◌∷◌}
use Prim.Native.Nat.{ℕ, ◌+◌, ◌-◌, ◌*◌, ◌≤◌}
use native.Mathlib.Nat.{mul-le-mul, le_trans}
use native.Mathlib.Omega.{arith}
use lib.Dec.{T, ltb, lit<}
use lib.IntN.{ℤ, pos, nat_abs}
use lib.ListN.{length, length-append}
use lib.Signed.{◌≤ℤ◌, ◌<ℤ◌}
use Rattle.whole.specs.Parts.{above_zero}
use Rattle.whole.specs.Rounding.{rounded_up}
use Rattle.whole.proofs.Integer.{≤ℤ-of-<ℤ, pos-≤ℤ, sub-<ℤ, above_less, abs-<ℤ, abs_less}
use Rattle.whole.proofs.Lists.{All, all_joined, case}
use Rattle.whole.proofs.Rounded.{up_within, up_least}
use Rattle.rules.specs.declared.Kind.{Kind}
use Rattle.rules.specs.declared.Kind.TheVariants.{Full, FromToe, FromHeel, NoBlock}
use Rattle.rules.specs.declared.Block.{Block}
use Rattle.rules.specs.declared.Section.{Section}
use Rattle.rules.specs.declared.Action.{Action}
use Rattle.rules.specs.declared.Member.{Member}
use Rattle.rules.specs.JobFile.{Wall, Load, stem_height, stem_thickness, toe_length, heel_length, base_thickness, base_density, rest_coefficient, base_length, crest_height, is_down, position, dead_load, live_load, reach}
use Rattle.rules.specs.Forces.{saturated_height, Component, deadPush, livePush, across, push_rows, horizontal, moment, column_sum, tenths, passive, friction_under, lasting_weight, is_propped, sliding_under, sliding_of, propping_force}
use Rattle.rules.specs.Bearing.{service_scale, greatest_peak, block_under, service_block, factored_block, pressed_by}
use Rattle.rules.specs.ToeAndStem.{twice_arm, twice_heel_arm, straight_shear, straight_moment, straight, toe_worked, toe_action, stem_load_rows, stem_load_table, stem_table, stem_action, toe_section, fill_on_heel, shear_on_heel, moment_on_heel, heel_worked, heel_action, stem_section, heel_section, member_under, toe_under, toe, stem, heel_under, heel}
use Rattle.rules.specs.SheetLine.{worked_wall, numbers_by, line}
use Rattle.rules.specs.Beyond.{is_workable}
use Rattle.rules.proofs.Accepted.{most, WallWithin, wall_within, longest, crest_height_lem, LoadWithin, load_within}
use Rattle.rules.proofs.Examined.{AllFit, Fit}
use Rattle.rules.proofs.Bits.{two_bytes}
use Rattle.rules.proofs.Pressures.{Pressable, WithinPeak, given_most, factored_pressable, reported_most, scaled_most, line_most}
use Rattle.rules.proofs.Sections.{toe_workable, stem_workable, heel_workable, required_most}
use Rattle.rules.proofs.ToeBearing.{before, never_more}
use Rattle.rules.proofs.Sizes.{weighed, Sound, push, pushes_sound, stem_face_lem, Small, each, row_at, column_small, service_sized}

-- a member's figures are small
record SmallMember (m : Member) : Type 0 where
  shear : Small m.action.shear
  moment : Small m.action.moment
  required : Small m.steel.required

-- those of a workable section are where what acts on it is
member_small : (s : Section) → T (is_workable s) → (a : Action) → Small a.shear × Small a.moment → SmallMember (member_under s a)
unfolding member_under
member_small s t a h = record { shear = h.0; moment = h.1; required = required_most s t a.moment }

-- a division rounded up is where what is divided is
quotient_small : (a d : ℕ) → Small a → Small (rounded_up a d)
quotient_small a d h = omega (arith, up_within a d)

-- ---- the toe

-- twice its arm; the arm ends on the base, and so does the toe
pub arm_most : {wall : Wall} → WallWithin wall → (twice_arm wall ≤ longest) × (twice_arm wall ≤ 2 * base_length wall) × (2 * toe_length wall ≤ 2 * base_length wall)
unfolding base_length
arm_most w = omega arith

module _ (wall : Wall) (b : Block) (w : WallWithin wall) (p : Pressable (base_length wall) b) where
  -- what presses on it by a straight line, where no pressure is above the greatest peak
  straight_small : (at : ℕ → ℕ) → ((twice : ℕ) → twice ≤ 2 * base_length wall → at twice ≤ greatest_peak)
      → Small (straight wall at).shear × Small (straight wall at).moment
  unfolding straight straight_shear straight_moment
  straight_small at pressed =
      let arm = arm_most w in
      let long = w.toe_length.1 in
      let square = mul-le-mul arm.0 arm.0 in
      let start = pressed 0 (omega arith) in
      let end = pressed (2 * toe_length wall) arm.2 in
      let middle = pressed (twice_arm wall) arm.1 in (
        quotient_small _ _ (omega (arith, mul-le-mul start long, mul-le-mul end long)),
        quotient_small _ _ (omega (arith, mul-le-mul start square, mul-le-mul middle square)),
      )

  before_small : (k : Kind) → b.kind ≡ k → Small (before k wall b).shear × Small (before k wall b).moment
  unfolding before
  before_small Full e = straight_small _ (line_most p e)
  before_small FromToe e = straight_small _ (λ twice h. le_trans (scaled_most _ twice p.contact) (reported_most p).0)
  before_small FromHeel e =
      straight_small _ (λ twice h. le_trans (scaled_most _ (2 * base_length wall - twice) p.contact) (reported_most p).1)
  before_small NoBlock e = (omega arith, omega arith)

  -- what presses on it now is no more, and from that its own weight is taken
  toe_action_small : Small (toe_action wall b).shear × Small (toe_action wall b).moment
  unfolding toe_action
  toe_action_small =
      let less = never_more wall b p.touches in
      let small = before_small b.kind refl in
      omega arith

toe_small : (wall : Wall) (loads : List Load) → Fit wall loads → SmallMember (toe wall loads)
unfolding toe toe_under
toe_small wall loads fit =
    let b = factored_block wall loads in
    let acts = toe_action_small wall b (wall_within wall fit.wall_fits) (factored_pressable wall loads fit) in
    case (toe_worked wall b) _ _ SmallMember (λ t. member_small (toe_section wall) (toe_workable wall fit.wall_fits) _ acts)
    (λ t. record { shear = omega arith; moment = omega arith; required = omega arith })

-- ---- the heel: from what stands on it only something is taken

-- what stands on it, in tenths of a N
pub fill_most : {wall : Wall} → WallWithin wall → fill_on_heel wall ≤ 40000000
unfolding fill_on_heel
fill_most w = let weights = weighed w in omega arith

-- the base over it, in tenths
pub slab_most : {wall : Wall} → WallWithin wall → 14 * base_density wall * base_thickness wall ≤ 14 * most 11 * most 6
slab_most {wall} w = omega (arith, mul-le-mul w.base_density.1 w.base_thickness.1)

pub heel_arm_most : {wall : Wall} → WallWithin wall → (twice_heel_arm wall ≤ longest) × (heel_length wall + stem_thickness wall ≤ longest)
heel_arm_most w = omega arith

heel_action_small : (wall : Wall) (b : Block) → WallWithin wall → Small (heel_action wall b).shear × Small (heel_action wall b).moment
unfolding heel_action shear_on_heel moment_on_heel
heel_action_small wall b w =
    let fill = fill_most w in
    let slab = slab_most w in
    let arm = heel_arm_most w in
    let shear : shear_on_heel wall ≤ 10000000 = up_least _ (omega (arith, mul-le-mul slab w.heel_length.1)) in
    let moment : moment_on_heel wall ≤ 100000000000 = up_least _ (omega (arith, mul-le-mul slab (mul-le-mul arm.0 arm.0), mul-le-mul fill arm.1)) in
    omega arith

heel_small : (wall : Wall) (loads : List Load) → Fit wall loads → SmallMember (heel wall loads)
unfolding heel heel_under
heel_small wall loads fit =
    let b = factored_block wall loads in
    let acts = heel_action_small wall b (wall_within wall fit.wall_fits) in
    case (heel_worked wall b) _ _ SmallMember (λ t. member_small (heel_section wall) (heel_workable wall fit.wall_fits) _ acts)
    (λ t. record { shear = omega arith; moment = omega arith; required = omega arith })

-- ---- the stem

-- no more rows than so many, and all of them sound, without weight
abbrev Rows : ℕ → List Component → Type 0
Rows most rows = All (Sound 0) rows × (length rows ≤ most)

module _ (wall : Wall) (w : WallWithin wall) where
  -- a load has two pushes, or nothing that reaches the stem
  stem_load_sound : (load : Load) → LoadWithin wall load → Rows 2 (stem_load_rows wall load)
  unfolding stem_load_rows reach
  stem_load_sound load v = go (is_down load) (ltb (position load) (base_thickness wall)) v.place
    where
      high : ℤ
      high = pos (6 * (position load - base_thickness wall))

      go : (d below : Bool) → position load ≤ cond d (base_length wall) (crest_height wall)
          → Rows 2 (cond (d || below) [] (across deadPush (dead_load load) high ∷ across livePush (live_load load) high ∷ []))
      go true below far = (tt, omega arith)
      go false true far = (tt, omega arith)
      go false false far = ((push high (omega (arith, crest_height_lem w)), (push high (omega (arith, crest_height_lem w)), tt)), omega arith)

  stem_loads_sound : (loads : List Load) → AllFit wall loads → Rows (2 * length loads) (stem_load_table wall loads)
  unfolding stem_load_table
  stem_loads_sound [] all = (tt, omega arith)
  stem_loads_sound (load ∷ rest) all =
      let one = stem_load_sound load (load_within wall load all.0) in
      let others = stem_loads_sound rest all.1 in
      (all_joined (Sound 0) (stem_load_rows wall load) (stem_load_table wall rest) one.0 others.0, rw length-append (omega arith))

module _ (wall : Wall) (loads : List Load) (fit : Fit wall loads) where
  within : WallWithin wall
  within = wall_within wall fit.wall_fits

  -- the rows of its table: five pushes and two for each load; and its columns
  stem_rows : Rows 21 (stem_table wall loads)
  unfolding stem_table push_rows
  stem_rows =
      let K = rest_coefficient wall in
      let h = stem_height wall in
      let hw = saturated_height wall in
      let behind = pushes_sound 0 within K h hw 0 within.rest.1 (stem_face_lem within).0 (stem_face_lem within).1 (omega arith) in
      let under = stem_loads_sound wall within loads fit.loads_fit in
      (all_joined (Sound 0) (push_rows wall K h hw 0) (stem_load_table wall loads) behind under.0, omega (arith, fit.few))

  stem_column : (j : ℕ) → column_sum tenths j (stem_table wall loads) <ℤ pos 1000000000000000
  stem_column j =
      let rows = row_at 0 (stem_table wall loads) stem_rows.0 in
      abs-<ℤ _ (column_small (stem_table wall loads) rows (omega (arith, stem_rows.1)) tenths (each _ (omega arith)) j)

  stem_small : SmallMember (stem wall loads)
  unfolding stem stem_action
  stem_small =
      let part : (j : ℕ) → Small (above_zero (column_sum tenths j (stem_table wall loads))) = λ j. above_less _ (lit< tt) (stem_column j) in
      member_small (stem_section wall) (stem_workable wall fit.wall_fits) _
      (quotient_small _ 10 (part horizontal), quotient_small _ (6 * 10) (part moment))

-- ---- the line

-- a prop takes no more than H
propping_small : (wall : Wall) (loads : List Load) → Fit wall loads → Small (propping_force wall loads)
unfolding sliding_of sliding_under
propping_small wall loads fit =
    let passive_force : pos 0 ≤ℤ pos (passive wall) = pos-≤ℤ.1 (omega arith) in
    let friction : pos 0 ≤ℤ pos (friction_under wall (lasting_weight wall loads)) = pos-≤ℤ.1 (omega arith) in
    let H = (service_sized wall loads fit).H.1 in
    case (is_propped wall) _ _ Small (λ t. above_less _ (lit< tt) (sub-<ℤ friction (sub-<ℤ passive_force H))) (λ t. omega arith)

-- the pressures that the service block reports
service_most : (wall : Wall) (loads : List Load) → WithinPeak service_scale (service_block wall loads)
unfolding service_block block_under
service_most wall loads = given_most service_scale _

-- every number of an accepted wall's line is small, where the wall's own number is
pub line_small : {wall : Wall} {loads : List Load} (n : ℕ) → Small n → Fit wall loads → All (λ z. Small (nat_abs z)) (line n wall loads)
unfolding line numbers_by worked_wall pressed_by
line_small {wall} {loads} n h fit =
    let s = service_sized wall loads fit in
    let R = abs_less (≤ℤ-of-<ℤ s.some) s.R in
    let H = abs_less s.H.0 s.H.1 in
    let served = service_most wall loads in
    let pressed = reported_most (factored_pressable wall loads fit) in
    omega (arith, two_bytes wall loads, propping_small wall loads fit, s.M6, toe_small wall loads fit, stem_small wall loads fit, heel_small wall loads fit)
