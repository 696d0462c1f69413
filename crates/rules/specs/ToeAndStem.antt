-- Document 01, "Toe and stem": what bends and shears the toe, the stem and (#103 of document 02) the heel, and the steel and shear rules, which are one for every section.
-- Shears are in N and moments in N mm, on a metre's run; pressures in N/m2; areas in hundredths of mm2 (#106 of document 02).
use Rattle.std.specs.Prelude.{ℕ, zero, suc, ◌+◌, ◌-◌, ◌*◌, max, Bool, true, false, not, ◌&&◌, ◌||◌, cond, List, [], ◌∷◌, ◌++◌, leb, ltb, eqb, pos, ◌+ℤ◌, ◌-ℤ◌, ◌*ℤ◌}
use Rattle.whole.specs.Parts.{above_zero}
use Rattle.whole.specs.Rounding.{rounded_up, rounded_down}
use Rattle.rules.specs.declared.Fraction.{Fraction}
use Rattle.rules.specs.declared.Kind.{Kind}
use Rattle.rules.specs.declared.Kind.TheVariants.{Full, FromToe, FromHeel, NoBlock}
use Rattle.rules.specs.declared.Block.{Block}
use Rattle.rules.specs.declared.Cage.{Cage}
use Rattle.rules.specs.declared.Section.{Section}
use Rattle.rules.specs.declared.Action.{Action}
use Rattle.rules.specs.declared.Steel.{Steel}
use Rattle.rules.specs.declared.Member.{Member}
use Rattle.rules.specs.JobFile.{Wall, Load, stem_height, stem_thickness, toe_length, heel_length, base_thickness, base_density, rest_coefficient, concrete_strength, steel_strength, least_steel, toe_cover, toe_bar, toe_spacing, stem_cover, stem_bar, stem_spacing, toe_stress, stem_stress, heel_cover, heel_bar, heel_spacing, heel_stress, base_length, bars, is_down, position, dead_load, live_load}
use Rattle.rules.specs.Forces.{per_volume, squared, saturated_height, saturated_weight, moist_weight, surcharge_weight, Component, deadPush, livePush, across, push_rows, horizontal, moment, column_sum, tenths}
use Rattle.rules.specs.Bearing.{◌over◌, over_one, minus, times, divided_by, less_than, carried_behind, six_moments_behind, factored_scale, reported, factored_block, is_given}

-- ---- the factored pressure at a point, rounded up. Distances are given twice, so that half a millimetre is exact.

-- a triangle from the toe: what its reported peak has fallen to at a point so far from the toe; 0 where the contact has ended
unfoldable pub scaled : ℕ → Fraction → ℕ → ℕ
scaled peak contact twice =
    rounded_up (peak * above_zero (pos 2 *ℤ contact.over -ℤ contact.under *ℤ pos twice)) (above_zero (pos 2 *ℤ contact.over))

-- the straight line between a full block's ends, both of which are over l^2
unfoldable pub on_line : Block → ℕ → ℕ → ℕ
on_line b l twice =
    rounded_up (factored_scale * above_zero (b.toe.over *ℤ pos (2 * l - twice) +ℤ b.heel.over *ℤ pos twice))
    (2 * l * above_zero b.toe.under)

-- ---- what bears on the toe by a straight line from its end to the middle of the stem

-- 2a: twice the distance of the stem's middle from the toe
abbrev pub twice_arm : Wall → ℕ
twice_arm wall = 2 * toe_length wall + stem_thickness wall

-- mm x (N/m2) on a metre's run: 1000 to the newton
abbrev pub per_pressure : ℕ
per_pressure = 1000

-- (p at 0 + p at lt) x lt / 2, rounded up
unfoldable pub straight_shear : Wall → ℕ → ℕ → ℕ
straight_shear wall atEnd atFace = rounded_up ((atEnd + atFace) * toe_length wall) (2 * per_pressure)

-- (2 x p at 0 + p at a) x a^2 / 6, rounded up; a^2 is a quarter of (2a)^2
unfoldable pub straight_moment : Wall → ℕ → ℕ → ℕ
straight_moment wall atEnd atMiddle = rounded_up ((2 * atEnd + atMiddle) * squared (twice_arm wall)) (4 * 6 * per_pressure)

-- where p is the pressure at a point
unfoldable pub straight : Wall → (ℕ → ℕ) → Action
straight wall p =
    record { shear = straight_shear wall (p 0) (p (2 * toe_length wall)); moment = straight_moment wall (p 0) (p (twice_arm wall)) }

-- ---- what bears on it by the triangle that is there (#105 of document 02), of peak P and contact c: fractions, which are rounded up once

-- a whole number
abbrev pub plain : ℕ → Fraction
plain n = over_one (pos n)

-- from the toe, where it ends before a: all of it if it ends at lt or before, P x c / 2; else its part over lt, P x lt x (2c - lt) / 2c
unfoldable pub ended_shear : Fraction → Fraction → Fraction → Fraction
ended_shear P c lt =
    let double = times (plain 2) c in
    cond (less_than lt c) (divided_by (times (times P lt) (minus double lt)) double) (times P (divided_by c (plain 2)))

-- P x c / 2 x (a - c / 3)
unfoldable pub ended_moment : Fraction → Fraction → Fraction → Fraction
ended_moment P c a = times (times P (divided_by c (plain 2))) (minus a (divided_by c (plain 3)))

-- from the heel, where it begins at z: its part before lt, P x (lt - z)^2 / 2c
unfoldable pub begun_shear : Fraction → Fraction → Fraction → Fraction → Fraction
begun_shear P c z lt =
    let covered = minus lt z in
    cond (less_than z lt) (divided_by (times P (times covered covered)) (times (plain 2) c)) (plain 0)

-- its part before a, P x (a - z)^3 / 6c
unfoldable pub begun_moment : Fraction → Fraction → Fraction → Fraction → Fraction
begun_moment P c z a =
    let covered = minus a z in
    cond (less_than z a) (divided_by (times P (times covered (times covered covered))) (times (plain 6) c)) (plain 0)

-- pressures over lengths in N, over areas in N mm: the one rounding
unfoldable pub in_newtons : Fraction → ℕ
in_newtons bearing = rounded_up (above_zero bearing.over) (per_pressure * above_zero bearing.under)

-- lt and a: where the stem begins, and its middle
abbrev pub stem_face : Wall → Fraction
stem_face wall = plain (toe_length wall)

abbrev pub stem_middle : Wall → Fraction
stem_middle wall = pos (twice_arm wall) over pos 2

-- both figures, of a triangle from the toe that ends before a
unfoldable pub ended_bearing : Wall → ℕ → Fraction → Action
ended_bearing wall peak c =
    record { shear = in_newtons (ended_shear (plain peak) c (stem_face wall)); moment = in_newtons (ended_moment (plain peak) c (stem_middle wall)) }

-- and of one from the heel, which begins at z = l - c
unfoldable pub begun_bearing : Wall → ℕ → Fraction → Action
begun_bearing wall peak c =
    let z = minus (plain (base_length wall)) c in
    record { shear = in_newtons (begun_shear (plain peak) c z (stem_face wall)); moment = in_newtons (begun_moment (plain peak) c z (stem_middle wall)) }

-- ---- the toe, over a factored block

abbrev pub no_action : Action
no_action = record { shear = 0; moment = 0 }

-- a full block has the straight line, and so has a triangle from the toe that reaches a
unfoldable pub bearing_by : Kind → Wall → Block → Action
bearing_by Full wall b = straight wall (on_line b (base_length wall))
bearing_by FromToe wall b =
    let peak = reported factored_scale b.toe in
    cond (less_than b.contact (stem_middle wall)) (ended_bearing wall peak b.contact) (straight wall (scaled peak b.contact))
bearing_by FromHeel wall b = begun_bearing wall (reported factored_scale b.heel) b.contact
bearing_by NoBlock wall b = no_action

unfoldable pub toe_bearing : Wall → Block → Action
toe_bearing wall b = bearing_by b.kind wall b

-- there is a toe, and a block under it
unfoldable pub toe_worked : Wall → Block → Bool
toe_worked wall b = ltb 0 (toe_length wall) && is_given b

-- 1.4 x base density x tb x lt, rounded down; 1.4 is 14 tenths
unfoldable pub shear_of_weight : Wall → ℕ
shear_of_weight wall = rounded_down (14 * base_density wall * base_thickness wall * toe_length wall) (10 * per_volume)

-- 1.4 x base density x tb x a^2 / 2, rounded down
unfoldable pub moment_of_weight : Wall → ℕ
moment_of_weight wall = rounded_down (14 * base_density wall * base_thickness wall * squared (twice_arm wall)) (4 * 2 * 10 * per_volume)

-- bearing less weight; a difference of whole numbers is 0 where it would be negative
unfoldable pub toe_action : Wall → Block → Action
toe_action wall b =
    record { shear = (toe_bearing wall b).shear - shear_of_weight wall; moment = (toe_bearing wall b).moment - moment_of_weight wall }

-- ---- the stem, on the base's top

-- a horizontal load at or above the base's top; others don't reach the stem
unfoldable pub stem_load_rows : Wall → Load → List Component
stem_load_rows wall load =
    cond (is_down load || ltb (position load) (base_thickness wall))
    []
    (across deadPush (dead_load load) (pos (6 * (position load - base_thickness wall)))
    ∷ across livePush (live_load load) (pos (6 * (position load - base_thickness wall)))
    ∷ [])

unfoldable pub stem_load_table : Wall → List Load → List Component
stem_load_table wall [] = []
stem_load_table wall (load ∷ rest) = stem_load_rows wall load ++ stem_load_table wall rest

-- its foot is the base's top, and a downstand lies below that. The wall's kind isn't read: a prop at the base leaves the stem as it is
unfoldable pub stem_table : Wall → List Load → List Component
stem_table wall loads = push_rows wall (rest_coefficient wall) (stem_height wall) (saturated_height wall) 0 ++ stem_load_table wall loads

-- the shear from tenths of a N, the moment from tenths of a sixth of a N mm
unfoldable pub stem_action : Wall → List Load → Action
stem_action wall loads =
    record {
      shear = rounded_up (above_zero (column_sum tenths horizontal (stem_table wall loads))) 10;
      moment = rounded_up (above_zero (column_sum tenths moment (stem_table wall loads))) (6 * 10);
    }

-- ---- the heel: what stands on it less what the exact factored block bears from below (#103 of document 02). Loads down aren't counted

-- 2b: twice the length from the middle of the stem to the heel's end
abbrev pub twice_heel_arm : Wall → ℕ
twice_heel_arm wall = 2 * heel_length wall + stem_thickness wall

-- 1.4 x fill and 1.6 x surcharge, in tenths of a N; the weights are whole newtons
unfoldable pub fill_on_heel : Wall → ℕ
fill_on_heel wall = 14 * (saturated_weight wall + moist_weight wall) + 16 * surcharge_weight wall

-- with 1.4 x base density x tb x lh, which is exact: the one rounding is up
unfoldable pub shear_on_heel : Wall → ℕ
shear_on_heel wall =
    rounded_up (14 * base_density wall * base_thickness wall * heel_length wall + per_volume * fill_on_heel wall) (10 * per_volume)

-- about the middle of the stem: the base weighs over b at b/2, and b^2 is a quarter of (2b)^2; fill and surcharge act at (lh + tw)/2
unfoldable pub moment_on_heel : Wall → ℕ
moment_on_heel wall =
    rounded_up
    (14 * base_density wall * base_thickness wall * squared (twice_heel_arm wall)
    + 4 * per_volume * (fill_on_heel wall * (heel_length wall + stem_thickness wall)))
    (4 * 2 * 10 * per_volume)

-- where the heel begins
abbrev pub stem_back : Wall → Fraction
stem_back wall = plain (toe_length wall + stem_thickness wall)

-- so many to the unit, rounded down: the one rounding of what bears on the heel
unfoldable pub whole_of : ℕ → Fraction → ℕ
whole_of per bearing = rounded_down (above_zero bearing.over) (per * above_zero bearing.under)

-- what the block bears under lh, from tenths of a N; and its moment about the middle of the stem, from tenths of a sixth of a N mm
unfoldable pub heel_bearing : Wall → Block → Action
heel_bearing wall b =
    let l = pos (base_length wall) in
    record { shear = whole_of 10 (carried_behind l (stem_back wall) b); moment = whole_of (6 * 10) (six_moments_behind l (stem_middle wall) b) }

-- there is a heel, and a block under the base
unfoldable pub heel_worked : Wall → Block → Bool
heel_worked wall b = ltb 0 (heel_length wall) && is_given b

-- a difference of whole numbers is 0 where it would be negative
unfoldable pub heel_action : Wall → Block → Action
heel_action wall b =
    record { shear = shear_on_heel wall - (heel_bearing wall b).shear; moment = moment_on_heel wall - (heel_bearing wall b).moment }

-- ---- steel, BS 8110: one rule for every section

-- the cages of a wall
abbrev pub toe_cage : Wall → Cage
toe_cage wall = record { cover = toe_cover wall; bar = toe_bar wall; spacing = toe_spacing wall; stress = toe_stress wall }

abbrev pub stem_cage : Wall → Cage
stem_cage wall = record { cover = stem_cover wall; bar = stem_bar wall; spacing = stem_spacing wall; stress = stem_stress wall }

abbrev pub heel_cage : Wall → Cage
heel_cage wall = record { cover = heel_cover wall; bar = heel_bar wall; spacing = heel_spacing wall; stress = heel_stress wall }

-- a section has its own thickness and cage, and the wall's materials
abbrev pub section_of : Wall → ℕ → Cage → Section
section_of wall thickness cage =
    record { thickness = thickness; cage = cage; concrete = concrete_strength wall; steel = steel_strength wall; least = least_steel wall }

abbrev pub toe_section : Wall → Section
toe_section wall = section_of wall (base_thickness wall) (toe_cage wall)

abbrev pub stem_section : Wall → Section
stem_section wall = section_of wall (stem_thickness wall) (stem_cage wall)

abbrev pub heel_section : Wall → Section
heel_section wall = section_of wall (base_thickness wall) (heel_cage wall)

-- D: twice the depth
unfoldable pub twice_depth : Section → ℕ
twice_depth s = 2 * s.thickness - 2 * s.cage.cover - s.cage.bar

-- M is more than the section bears without compression steel
unfoldable pub needs_compression : ℕ → ℕ → ℕ → Bool
needs_compression M fcu D = ltb (39 * fcu * squared D) M

-- the three tests of Z, twice the lever arm
unfoldable pub bears : ℕ → ℕ → ℕ → ℕ → Bool
bears M fcu D Z = leb (20 * Z) (19 * D) && leb D (2 * Z) && leb M (225 * fcu * Z * (D - Z))

-- the greatest number up to n that passes a test; 0 where none above 0 does
unfoldable pub greatest : (ℕ → Bool) → ℕ → ℕ
greatest passes zero = 0
greatest passes (suc n) = elim (passes (suc n)) [ true ↦ suc n | false ↦ greatest passes n ]

-- Z; what passes the first test is at most D
unfoldable pub lever_arm : ℕ → ℕ → ℕ → ℕ
lever_arm M fcu D = greatest (bears M fcu D) D

-- for a moment M at a lever arm Z: 200 M / (87 fy Z) mm2, rounded up to a hundredth
unfoldable pub needed_area : ℕ → ℕ → ℕ → ℕ
needed_area M fy Z = rounded_up (20000 * M) (87 * fy * Z)

-- a hundredth of a percent of a metre's width is a tenth of a mm: 10 hundredths of mm2 for each mm of thickness. Nothing is rounded
unfoldable pub least_area : Section → ℕ
least_area s = s.least * s.thickness * 10

-- what one bar of each diameter has, in the order of the bars
abbrev pub bar_areas : List ℕ
bar_areas = 5026 ∷ 7853 ∷ 11309 ∷ 20106 ∷ 31415 ∷ 49087 ∷ 80424 ∷ 125663 ∷ []

-- the area in the place that a diameter has among the bars
unfoldable pub besides : ℕ → List ℕ → List ℕ → ℕ
besides n [] areas = 0
besides n (m ∷ ms) [] = 0
besides n (m ∷ ms) (area ∷ areas) = cond (eqb n m) area (besides n ms areas)

unfoldable pub bar_area : ℕ → ℕ
bar_area bar = besides bar bars bar_areas

-- of bars at a spacing over a metre, 1000 mm, rounded down
unfoldable pub provided_area : ℕ → ℕ → ℕ
provided_area bar spacing = rounded_down (bar_area bar * 1000) spacing

-- the greater of needed and least; where compression steel would be needed, 0
unfoldable pub required_area : Section → ℕ → ℕ
required_area s M =
    cond (needs_compression M s.concrete (twice_depth s)) 0
    (max (needed_area M s.steel (lever_arm M s.concrete (twice_depth s))) (least_area s))

unfoldable pub steel_fails : Section → ℕ → Bool
steel_fails s M = needs_compression M s.concrete (twice_depth s) || ltb (provided_area s.cage.bar s.cage.spacing) (required_area s M)

-- ---- shear: one rule for every section

-- the stress is 2V / 1000D in N/mm2: it has to be below the concrete's, at most 5, and at most 0.8 of the root of fcu
unfoldable pub shear_fails : Section → ℕ → Bool
shear_fails s shear =
    let D = twice_depth s in
    not
    (ltb (2 * shear) (s.cage.stress * D)
    && leb (2 * shear) (5000 * D)
    && leb (100 * squared (2 * shear)) (64 * s.concrete * squared (1000 * D)))

-- ---- a member: what acts on its section, and what the section makes of it

abbrev pub steel_under : Section → ℕ → Steel
steel_under s M = record { required = required_area s M; fails = steel_fails s M }

unfoldable pub member_under : Section → Action → Member
member_under s a = record { action = a; steel = steel_under s a.moment; sheared = shear_fails s a.shear }

-- figures of 0, and no check made
abbrev pub no_member : Member
no_member = record { action = no_action; steel = record { required = 0; fails = false }; sheared = false }

unfoldable pub toe_under : Wall → Block → Member
toe_under wall b = cond (toe_worked wall b) (member_under (toe_section wall) (toe_action wall b)) no_member

unfoldable pub toe : Wall → List Load → Member
toe wall loads = toe_under wall (factored_block wall loads)

unfoldable pub stem : Wall → List Load → Member
stem wall loads = member_under (stem_section wall) (stem_action wall loads)

unfoldable pub heel_under : Wall → Block → Member
heel_under wall b = cond (heel_worked wall b) (member_under (heel_section wall) (heel_action wall b)) no_member

unfoldable pub heel : Wall → List Load → Member
heel wall loads = heel_under wall (factored_block wall loads)
