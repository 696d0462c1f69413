-- Document 01, "The job file": numbers out of bytes, the header, walls and loads as records, and the range of every field.
use Rattle.std.specs.Prelude.{ℕ, zero, suc, ◌+◌, ◌-◌, ◌*◌, Bool, false, ◌&&◌, ◌||◌, cond, List, [], ◌∷◌, leb, ltb, eqb, get_or, drop, Option, None, Some, is_none}
use Rattle.rules.specs.declared.Range.{Range}
use Rattle.rules.specs.declared.Range.TheVariants.{Between, UpToTop, AlongBase, UnderBase, ABar}

-- a job file is the list of its bytes; a wall is the list of its fields, in file order
abbrev pub File : Type 0
File = List ℕ

abbrev pub Wall : Type 0
Wall = List ℕ

-- a load is its direction, its position, its dead and its live part; an entry of the file is the number of a wall, and then a load
abbrev pub Load : Type 0
Load = List ℕ

abbrev pub Entry : Type 0
Entry = List ℕ

-- ---- numbers, little-endian; a byte past the end reads as 0

abbrev pub byte_at : File → ℕ → ℕ
byte_at file at = get_or file at 0

unfoldable pub u16_at : File → ℕ → ℕ
u16_at file at = byte_at file at + 256 * byte_at file (at + 1)

unfoldable pub u32_at : File → ℕ → ℕ
u32_at file at = u16_at file at + 65536 * u16_at file (at + 2)

-- n of them, one behind the other
unfoldable pub u32s_at : File → ℕ → ℕ → List ℕ
u32s_at file at zero = []
u32s_at file at (suc n) = u32_at file at ∷ u32s_at file (at + 4) n

-- ---- the header of six u16

abbrev pub header_bytes : ℕ
header_bytes = 12

-- the edition that is read and written (#107 of document 02)
abbrev pub this_edition : ℕ
this_edition = 2

abbrev pub edition : File → ℕ
edition file = u16_at file 0

abbrev pub wall_count : File → ℕ
wall_count file = u16_at file 2

abbrev pub first_wall_offset : File → ℕ
first_wall_offset file = u16_at file 4

abbrev pub load_count : File → ℕ
load_count file = u16_at file 6

abbrev pub first_load_offset : File → ℕ
first_load_offset file = u16_at file 8

abbrev pub whole_length : File → ℕ
whole_length file = u16_at file 10

-- ---- the records: walls of 38 u32, and behind them entries of 5 u32

abbrev pub wall_fields : ℕ
wall_fields = 38

abbrev pub entry_fields : ℕ
entry_fields = 5

-- a u32 is 4 bytes
abbrev pub wall_bytes : ℕ
wall_bytes = 4 * wall_fields

abbrev pub entry_bytes : ℕ
entry_bytes = 4 * entry_fields

-- how many there may be: walls and loads in a file, loads on one wall
abbrev pub most_walls : ℕ
most_walls = 64

abbrev pub most_loads : ℕ
most_loads = 512

abbrev pub most_loads_on_wall : ℕ
most_loads_on_wall = 8

-- where the first entry stands, by the count of walls
unfoldable pub entries_at : File → ℕ
entries_at file = header_bytes + wall_bytes * wall_count file

-- the wall, and the entry, at an index from 0
unfoldable pub wall_at : File → ℕ → Wall
wall_at file i = u32s_at file (header_bytes + wall_bytes * i) wall_fields

unfoldable pub entry_at : File → ℕ → Entry
entry_at file i = u32s_at file (entries_at file + entry_bytes * i) entry_fields

-- all of them in file order: n records from an index on
unfoldable pub records_from : (ℕ → List ℕ) → ℕ → ℕ → List (List ℕ)
records_from recordAt i zero = []
records_from recordAt i (suc n) = recordAt i ∷ records_from recordAt (suc i) n

unfoldable pub walls : File → List Wall
walls file = records_from (wall_at file) 0 (wall_count file)

unfoldable pub entries : File → List Entry
entries file = records_from (entry_at file) 0 (load_count file)

-- the loads of wall number n, in file order
abbrev pub wall_of : Entry → ℕ
wall_of entry = get_or entry 0 0

abbrev pub load_of : Entry → Load
load_of entry = drop 1 entry

unfoldable pub loads_on : ℕ → List Entry → List Load
loads_on n [] = []
loads_on n (entry ∷ rest) = cond (eqb (wall_of entry) n) (load_of entry ∷ loads_on n rest) (loads_on n rest)

-- their numbers in the file, where the first entry of the list has the number given
unfoldable pub numbers_on : ℕ → ℕ → List Entry → List ℕ
numbers_on n number [] = []
numbers_on n number (entry ∷ rest) =
    cond (eqb (wall_of entry) n) (number ∷ numbers_on n (suc number) rest) (numbers_on n (suc number) rest)

-- ---- a wall's fields, by their numbers in document 01's table: lengths in mm, densities in 10 N/m3, coefficients in thousandths

abbrev pub field : Wall → ℕ → ℕ
field wall number = get_or wall (number - 1) 0

-- the kind of wall: 0 unpropped, 1 propped
abbrev pub kind : Wall → ℕ
kind wall = field wall 1

-- stem height hs, thickness tw
abbrev pub stem_height : Wall → ℕ
stem_height wall = field wall 2

abbrev pub stem_thickness : Wall → ℕ
stem_thickness wall = field wall 3

-- toe lt, heel lh, base thickness tb
abbrev pub toe_length : Wall → ℕ
toe_length wall = field wall 4

abbrev pub heel_length : Wall → ℕ
heel_length wall = field wall 5

abbrev pub base_thickness : Wall → ℕ
base_thickness wall = field wall 6

-- cover in front, unplanned excavation
abbrev pub cover_in_front : Wall → ℕ
cover_in_front wall = field wall 7

abbrev pub excavation : Wall → ℕ
excavation wall = field wall 8

-- water height hw, above the underside of the downstand, or of the base where there is none
abbrev pub water_height : Wall → ℕ
water_height wall = field wall 9

-- density of the stem, of the base
abbrev pub stem_density : Wall → ℕ
stem_density wall = field wall 10

abbrev pub base_density : Wall → ℕ
base_density wall = field wall 11

-- density of moist fill, of saturated fill, of the base soil
abbrev pub moist_density : Wall → ℕ
moist_density wall = field wall 12

abbrev pub saturated_density : Wall → ℕ
saturated_density wall = field wall 13

abbrev pub soil_density : Wall → ℕ
soil_density wall = field wall 14

-- Ka, K0
abbrev pub active_coefficient : Wall → ℕ
active_coefficient wall = field wall 15

abbrev pub rest_coefficient : Wall → ℕ
rest_coefficient wall = field wall 16

-- Kp x cos(base friction angle), and the tangent of that angle
abbrev pub passive_coefficient : Wall → ℕ
passive_coefficient wall = field wall 17

abbrev pub friction_tangent : Wall → ℕ
friction_tangent wall = field wall 18

-- allowable bearing in kN/m2; surcharge S in 10 N/m2
abbrev pub allowable_bearing : Wall → ℕ
allowable_bearing wall = field wall 19

abbrev pub surcharge : Wall → ℕ
surcharge wall = field wall 20

-- fcu, fy in N/mm2; least steel in hundredths of a percent
abbrev pub concrete_strength : Wall → ℕ
concrete_strength wall = field wall 21

abbrev pub steel_strength : Wall → ℕ
steel_strength wall = field wall 22

abbrev pub least_steel : Wall → ℕ
least_steel wall = field wall 23

-- cover, bar diameter and spacing of the toe's steel, and of the stem's
abbrev pub toe_cover : Wall → ℕ
toe_cover wall = field wall 24

abbrev pub toe_bar : Wall → ℕ
toe_bar wall = field wall 25

abbrev pub toe_spacing : Wall → ℕ
toe_spacing wall = field wall 26

abbrev pub stem_cover : Wall → ℕ
stem_cover wall = field wall 27

abbrev pub stem_bar : Wall → ℕ
stem_bar wall = field wall 28

abbrev pub stem_spacing : Wall → ℕ
stem_spacing wall = field wall 29

-- concrete shear stress of the toe, of the stem, in 1/1000 N/mm2
abbrev pub toe_stress : Wall → ℕ
toe_stress wall = field wall 30

abbrev pub stem_stress : Wall → ℕ
stem_stress wall = field wall 31

-- the heel's steel and its concrete's shear stress (#103 of document 02)
abbrev pub heel_cover : Wall → ℕ
heel_cover wall = field wall 32

abbrev pub heel_bar : Wall → ℕ
heel_bar wall = field wall 33

abbrev pub heel_spacing : Wall → ℕ
heel_spacing wall = field wall 34

abbrev pub heel_stress : Wall → ℕ
heel_stress wall = field wall 35

-- the downstand under the base (#107 of document 02): depth dd, position ld from the toe, thickness td
abbrev pub downstand_depth : Wall → ℕ
downstand_depth wall = field wall 36

abbrev pub downstand_position : Wall → ℕ
downstand_position wall = field wall 37

abbrev pub downstand_thickness : Wall → ℕ
downstand_thickness wall = field wall 38

-- the base's length l, by document 01's "Forces"
unfoldable pub base_length : Wall → ℕ
base_length wall = toe_length wall + stem_thickness wall + heel_length wall

-- how high the crest stands above the base's underside, and the wall's height h, above the downstand's
unfoldable pub crest_height : Wall → ℕ
crest_height wall = stem_height wall + base_thickness wall

unfoldable pub wall_height : Wall → ℕ
wall_height wall = crest_height wall + downstand_depth wall

-- ---- the range of each field

abbrev pub bars : List ℕ
bars = 8 ∷ 10 ∷ 12 ∷ 16 ∷ 20 ∷ 25 ∷ 32 ∷ 40 ∷ []

unfoldable pub among : ℕ → List ℕ → Bool
among n [] = false
among n (m ∷ ms) = eqb n m || among n ms

abbrev pub has_downstand : Wall → Bool
has_downstand wall = ltb 0 (downstand_depth wall)

unfoldable pub within : Wall → Range → ℕ → Bool
within wall (Between low high) n = leb low n && leb n high
within wall UpToTop n = leb n (wall_height wall)
within wall AlongBase n = cond (has_downstand wall) (leb n (base_length wall)) (eqb n 0)
within wall (UnderBase low high) n =
    cond (has_downstand wall) (leb low n && leb n high && leb (downstand_position wall + n) (base_length wall)) (eqb n 0)
within wall ABar n = among n bars

-- a line for each row of document 01's table, and behind them one for the heel and one for the downstand
abbrev pub ranges : List Range
ranges =
    Between 0 1
    ∷ Between 500 8000 ∷ Between 200 1500
    ∷ Between 0 5000 ∷ Between 0 5000 ∷ Between 200 1500
    ∷ Between 0 1000 ∷ Between 0 1000
    ∷ UpToTop
    ∷ Between 1500 3000 ∷ Between 1500 3000
    ∷ Between 1000 3000 ∷ Between 1000 3000 ∷ Between 1000 3000
    ∷ Between 1 1000 ∷ Between 1 1000
    ∷ Between 0 15000
    ∷ Between 0 1000
    ∷ Between 1 1000
    ∷ Between 0 10000
    ∷ Between 20 60 ∷ Between 250 500
    ∷ Between 0 100
    ∷ Between 20 75 ∷ ABar ∷ Between 50 500
    ∷ Between 20 75 ∷ ABar ∷ Between 50 500
    ∷ Between 1 5000 ∷ Between 1 5000
    ∷ Between 20 75 ∷ ABar ∷ Between 50 500 ∷ Between 1 5000
    ∷ Between 0 1000 ∷ AlongBase ∷ UnderBase 100 1500
    ∷ []

-- the number of the first field out of range, from a number on
unfoldable pub first_outside : Wall → ℕ → List Range → Option ℕ
first_outside wall number [] = None
first_outside wall number (range ∷ rest) =
    cond (within wall range (field wall number)) (first_outside wall (suc number) rest) (Some number)

unfoldable pub first_bad_field : Wall → Option ℕ
first_bad_field wall = first_outside wall 1 ranges

unfoldable pub wall_fits : Wall → Bool
wall_fits wall = is_none (first_bad_field wall)

-- ---- a load's figures, and their range against its wall

-- 0 down, 1 horizontal towards the toe
abbrev pub direction : Load → ℕ
direction load = get_or load 0 0

-- of a load down, from the toe; of a horizontal one, above the base's underside
abbrev pub position : Load → ℕ
position load = get_or load 1 0

-- in N/m
abbrev pub dead_load : Load → ℕ
dead_load load = get_or load 2 0

abbrev pub live_load : Load → ℕ
live_load load = get_or load 3 0

unfoldable pub is_down : Load → Bool
is_down load = eqb (direction load) 0

-- the greatest dead load, and the greatest live load
abbrev pub greatest_load : ℕ
greatest_load = 200000

-- the furthest position: a horizontal load stands no higher than the crest
unfoldable pub reach : Wall → Load → ℕ
reach wall load = cond (is_down load) (base_length wall) (crest_height wall)

unfoldable pub load_fits : Wall → Load → Bool
load_fits wall load =
    leb (direction load) 1 && leb (position load) (reach wall load) && leb (dead_load load) greatest_load && leb (live_load load) greatest_load
