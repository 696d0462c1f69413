-- Document 01, "Figures to hold it to": P1 to P10, each worked by the definitions and put beside the figure that is wanted.
use Prim.Native.Nat.{ℕ, ◌/◌, ◌%◌}
use mathlib.Core.Path.{◌≡◌, refl}
use mathlib.Core.Bool.{Bool, true, false}
use mathlib.Core.List.{List, [], ◌∷◌, ◌++◌}
use lib.IntN.{pos}
use lib.ListN.{length, set}
use Rattle.whole.specs.Rounding.{rounded_up, rounded_down, rounded_nearest}
use Rattle.whole.specs.Sum.{sum_of}
use Rattle.rules.specs.declared.Block.{Block}
use Rattle.rules.specs.declared.Fraction.{Fraction}
use Rattle.rules.specs.declared.Kind.{Kind}
use Rattle.rules.specs.declared.Kind.TheVariants.{Full, FromToe, NoBlock}
use Rattle.rules.specs.JobFile.{Wall, active_coefficient, water_height, u16_at, u32_at, u32s_at, entries_at, wall_at, records_from, walls, entries, loads_on, base_length, crest_height, wall_height, among, within, first_outside, first_bad_field, wall_fits}
use Rattle.rules.specs.Answered.{counts_fit, offsets_fit, length_fits, wall_answer, first_bad_wall, first_bad_load, first_refusal}
use Rattle.rules.specs.Forces.{saturated_height, stem_weight, base_weight, downstand_weight, saturated_weight, moist_weight, surcharge_weight, surcharge_push, moist_push, moist_push_below, saturated_push, water_push, weight_rows, push_rows, load_row, dead_row, live_row, load_table, table, column_sum, totals, service, factored, passive_depth, passive, lasting_weight, friction_under, is_propped, sliding_under, sliding_of}
use Rattle.rules.specs.Bearing.{service_scale, is_none, is_full, is_from_toe, is_from_heel, kind_of, of_kind, block_of, behind_by, behind, carried_behind, six_moments_behind, reported, peak, given, block_under, service_block, factored_block, pressed_by}
use Rattle.rules.specs.ToeAndStem.{scaled, straight_shear, straight_moment, straight, bearing_by, toe_bearing, toe_worked, shear_of_weight, moment_of_weight, toe_action, stem_load_table, stem_table, stem_action, fill_on_heel, shear_on_heel, moment_on_heel, whole_of, heel_bearing, heel_worked, heel_action, twice_depth, needs_compression, bears, greatest, lever_arm, needed_area, least_area, besides, bar_area, provided_area, required_area, steel_fails, shear_fails, member_under, toe_under, toe, stem, heel_under, heel}
use Rattle.rules.specs.SheetLine.{ascii, worked_wall, fails_by, bits_among, failures_by, numbers_by, line, lines_from, sheet, joined, digits, decimal, signed_decimal, hex_digits, line_rest, line_text, printed}

-- what the definitions give, and what document 01 wants
pub record Point : Type 1 where
  pub Figure : Type 0
  pub worked : Figure
  pub wanted : Figure

abbrev pub point : (A : Type 0) → A → A → Point
point A worked wanted = record { Figure = A; worked = worked; wanted = wanted }

-- ---- case A, in bytes

abbrev pub u16s : List ℕ → List ℕ
u16s [] = []
u16s (n ∷ rest) = n % 256 ∷ n / 256 ∷ u16s rest

abbrev pub u32s : List ℕ → List ℕ
u32s [] = []
u32s (n ∷ rest) = n % 256 ∷ n / 256 % 256 ∷ n / 65536 % 256 ∷ n / 16777216 ∷ u32s rest

unfoldable pub case_a : List ℕ
case_a =
    u16s (2 ∷ 1 ∷ 12 ∷ 0 ∷ 164 ∷ 164 ∷ [])
    ++ u32s
    (0 ∷ 3000 ∷ 300 ∷ 500 ∷ 1500 ∷ 300 ∷ 0 ∷ 0 ∷ 0 ∷ 2400 ∷ 2400 ∷ 1800 ∷ 2000 ∷ 1800 ∷ 333 ∷ 500 ∷ 3000 ∷ 500 ∷ 150 ∷ 1000 ∷ 35 ∷ 500 ∷ 13
    ∷ 40 ∷ 12 ∷ 200 ∷ 40 ∷ 16 ∷ 150 ∷ 550 ∷ 550 ∷ 40 ∷ 16 ∷ 150 ∷ 550 ∷ 0 ∷ 0 ∷ 0 ∷ [])

unfoldable pub wall_a : Wall
unfolding case_a
wall_a = wall_at case_a 0

-- wall A with 400 mm of unplanned excavation, which is field 8
unfoldable pub excavated_a : Wall
unfolding wall_a
excavated_a = set wall_a 7 400

-- ---- a block of R 600 on a base of 3000: its kind, and the pressures reported of it

pub record Shown : Type 0 where
  pub shape : Kind
  pub toe : ℕ
  pub heel : ℕ

unfoldable pub block_at : ℕ → Block
block_at M6 = given service_scale (block_of (pos 600) (pos M6) (pos 3000))

unfoldable pub shown : ℕ → Shown
unfolding block_at
shown M6 = let p = pressed_by service_scale (block_at M6) in record { shape = p.block.kind; toe = p.toe; heel = p.heel }

-- ---- the points

abbrev pub points : List Point
points =
    point ℕ (length case_a) 164  -- P1
    ∷ point (List ℕ) (printed case_a) (ascii "1 000 134160 43627 0 767102100 88312 28349 173078 0 71688 30840740 39000 80700 92700000 89165 75042 88187024 84824\n")
    ∷ point ℕ (lever_arm 232500000 35 585) 529  -- P2
    ∷ point ℕ (needed_area 232500000 500 (lever_arm 232500000 35 585)) 202073
    ∷ point ℕ (provided_area 25 175) 280497  -- P3
    ∷ point ℕ (provided_area 12 200) 56545
    ∷ point ℕ (passive excavated_a) 0  -- P4
    ∷ point Shown (shown 3600000) (record { shape = Full; toe = 400; heel = 0 })  -- P5
    ∷ point Shown (shown 3599999) (record { shape = FromToe; toe = 401; heel = 0 })  -- P6
    ∷ point Fraction (block_at 3599999).contact (record { over = pos 3599999; under = pos 1200 })
    ∷ point Shown (shown 7200000) (record { shape = Full; toe = 0; heel = 400 })  -- P7
    ∷ point Shown (shown 0) (record { shape = NoBlock; toe = 0; heel = 0 })  -- P8
    ∷ point ℕ (lever_arm 352257360 35 508) 394  -- P9
    ∷ point Bool (needs_compression 352257360 35 508) false
    ∷ point Bool (needs_compression 352257361 35 508) true
    ∷ point ℕ (moist_push wall_a (active_coefficient wall_a) (wall_height wall_a) (water_height wall_a)) 32638  -- P10
    ∷ []

-- each point is as wanted
abbrev pub Hold : List Point → Type 0
Hold [] = Unit
Hold (p ∷ rest) = (p.worked ≡ p.wanted) × Hold rest

pub points_hold : Hold points
unfolding excavated_a shown u16_at u32_at u32s_at entries_at wall_at records_from walls entries loads_on base_length crest_height wall_height among within first_outside first_bad_field wall_fits counts_fit offsets_fit length_fits wall_answer first_bad_wall first_bad_load first_refusal saturated_height stem_weight base_weight downstand_weight saturated_weight moist_weight surcharge_weight surcharge_push moist_push moist_push_below saturated_push water_push weight_rows push_rows load_row dead_row live_row load_table table column_sum totals service factored passive_depth passive lasting_weight friction_under is_propped sliding_under sliding_of is_none is_full is_from_toe is_from_heel kind_of of_kind block_of behind_by behind carried_behind six_moments_behind reported peak given block_under service_block factored_block pressed_by scaled straight_shear straight_moment straight bearing_by toe_bearing toe_worked shear_of_weight moment_of_weight toe_action stem_load_table stem_table stem_action fill_on_heel shear_on_heel moment_on_heel whole_of heel_bearing heel_worked heel_action twice_depth needs_compression bears greatest lever_arm needed_area least_area besides bar_area provided_area required_area steel_fails shear_fails member_under toe_under toe stem heel_under heel worked_wall fails_by bits_among failures_by numbers_by line lines_from sheet joined digits decimal signed_decimal hex_digits line_rest line_text printed rounded_up rounded_down rounded_nearest sum_of
points_hold = (refl, (refl, (refl, (refl, (refl, (refl, (refl, (refl, (refl, (refl, (refl, (refl, (refl, (refl, (refl, (refl, tt))))))))))))))))
