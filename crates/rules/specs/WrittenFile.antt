-- Document 02, "#101 Write job files": the file that wall and load records make, what is answered where it is written into a lent buffer, and its counterpart: a file taken apart
-- into its records.
use Rattle.rules.specs.declared.Refusal.{Refusal}
use Rattle.std.specs.Prelude.{ℕ, ◌+◌, ◌*◌, ◌/◌, ◌%◌, ◌≡◌, Bool, not, ◌&&◌, ◌||◌, cond, List, [], ◌∷◌, ◌++◌, map, leb, ltb, eqb, length, take, drop, is_ok, Result, Err}
use Rattle.rules.specs.declared.Refusal.TheVariants.{CountOutOfRange, BufferTooShort, OutputTooShort}
use Rattle.rules.specs.declared.Taken.{Taken}
use Rattle.rules.specs.JobFile.{File, this_edition, header_bytes, wall_fields, entry_fields, wall_bytes, entry_bytes, most_walls, most_loads, wall_count, load_count, records_from, walls, entries}
use Rattle.rules.specs.Answered.{refused_if, ◌or_else◌, first_bad_wall, first_bad_load, first_refusal, Answer, ◌gives◌}
use Rattle.rules.specs.SheetLine.{joined, refusal_text}
use Rattle.rules.specs.Beyond.{Put, fitting, onto}

-- ---- records in a lent buffer of numbers: each has so many fields, and they stand one behind the other

-- there is no part of a record behind the last
abbrev pub is_whole : ℕ → List ℕ → Bool
is_whole fields numbers = eqb (length numbers % fields) 0

abbrev pub record_count : ℕ → List ℕ → ℕ
record_count fields numbers = length numbers / fields

-- the record at an index from 0
unfoldable pub record_in : ℕ → List ℕ → ℕ → List ℕ
record_in fields numbers i = take fields (drop (fields * i) numbers)

unfoldable pub records_in : ℕ → List ℕ → List (List ℕ)
records_in fields numbers = records_from (record_in fields numbers) 0 (record_count fields numbers)

-- ---- numbers as bytes, little-endian

unfoldable pub u16_bytes : ℕ → File
u16_bytes n = n % 256 ∷ n / 256 % 256 ∷ []

unfoldable pub u32_bytes : ℕ → File
u32_bytes n = u16_bytes n ++ u16_bytes (n / 65536)

-- any of them, one behind the other
unfoldable pub u16s_bytes : List ℕ → File
u16s_bytes numbers = joined (map u16_bytes numbers)

unfoldable pub u32s_bytes : List ℕ → File
u32s_bytes numbers = joined (map u32_bytes numbers)

-- ---- the file that records make

-- where so many walls end, and so many loads behind them
abbrev pub walls_end : ℕ → ℕ
walls_end wall_count = header_bytes + wall_bytes * wall_count

abbrev pub loads_end : ℕ → ℕ → ℕ
loads_end wall_count load_count = walls_end wall_count + entry_bytes * load_count

-- the header of six u16, by the two counts
unfoldable pub header_of : ℕ → ℕ → File
header_of wall_count load_count =
    u16s_bytes (this_edition ∷ wall_count ∷ header_bytes ∷ load_count ∷ walls_end wall_count ∷ loads_end wall_count load_count ∷ [])

-- the header, the walls, the loads
unfoldable pub file_of : List ℕ → List ℕ → File
file_of walls loads = header_of (record_count wall_fields walls) (record_count entry_fields loads) ++ u32s_bytes walls ++ u32s_bytes loads

-- ---- what is answered where it is written

-- 3: both buffers are whole records, and both counts are within range
unfoldable pub records_fit : List ℕ → List ℕ → Bool
records_fit walls loads =
    is_whole wall_fields walls
    && is_whole entry_fields loads
    && leb 1 (record_count wall_fields walls)
    && leb (record_count wall_fields walls) most_walls
    && leb (record_count entry_fields loads) most_loads

-- 3, then 5, 6 and 7 as the reader has them
unfoldable pub records_answer : List ℕ → List ℕ → Answer
records_answer walls loads =
    refused_if (not (records_fit walls loads)) (Err CountOutOfRange)
    or_else first_bad_wall 1 (records_in wall_fields walls)
    or_else first_bad_load (records_in wall_fields walls) [] 1 (records_in entry_fields loads)

-- and 9 last, where room for so many bytes is lent
unfoldable pub writing_answer : List ℕ → List ℕ → ℕ → Answer
writing_answer walls loads room = records_answer walls loads or_else refused_if (ltb room (length (file_of walls loads))) (Err OutputTooShort)

-- the bytes that are written: the file, and none where it is refused
unfoldable pub bytes_written : List ℕ → List ℕ → ℕ → File
bytes_written walls loads room = cond (is_ok (writing_answer walls loads room)) (file_of walls loads) []

-- what a call answers, how many bytes it wrote or the refusal, and what the lent buffer holds after it: those at its start, and beyond them what stood there
pub record Writes (walls loads before : List ℕ) (written : Result ℕ Refusal) (after : List ℕ) : Type 0 where
  pub answered : written ≡ (writing_answer walls loads (length before) gives length (bytes_written walls loads (length before)))
  pub holds : after ≡ onto (bytes_written walls loads (length before)) before

-- ---- a file taken apart

-- the refusals of the file, and 8 last, where room for so many numbers is lent for the walls and for the loads
unfoldable pub taking_answer : File → ℕ → ℕ → Answer
taking_answer file wallRoom loadRoom =
    first_refusal file
    or_else refused_if (ltb wallRoom (wall_fields * wall_count file) || ltb loadRoom (entry_fields * load_count file)) (Err BufferTooShort)

-- the numbers that are taken, of the walls and of the loads: all of them, and none where the file is refused
unfoldable pub walls_taken : File → ℕ → ℕ → List ℕ
walls_taken file wallRoom loadRoom = cond (is_ok (taking_answer file wallRoom loadRoom)) (joined (walls file)) []

unfoldable pub loads_taken : File → ℕ → ℕ → List ℕ
loads_taken file wallRoom loadRoom = cond (is_ok (taking_answer file wallRoom loadRoom)) (joined (entries file)) []

-- how many they are
unfoldable pub numbers_taken : File → ℕ → ℕ → Taken
numbers_taken file wallRoom loadRoom =
    record { walls = length (walls_taken file wallRoom loadRoom); loads = length (loads_taken file wallRoom loadRoom) }

-- what a call answers, how many numbers it took or the refusal, and what the two lent buffers hold after it: the records at their start, and beyond them what stood there
pub record TakesApart (file wallsBefore loadsBefore : List ℕ) (taken : Result Taken Refusal) (wallsAfter loadsAfter : List ℕ) : Type 0 where
  pub answered : taken ≡ (taking_answer file (length wallsBefore) (length loadsBefore) gives numbers_taken file (length wallsBefore) (length loadsBefore))
  pub walls_held : wallsAfter ≡ onto (walls_taken file (length wallsBefore) (length loadsBefore)) wallsBefore
  pub loads_held : loadsAfter ≡ onto (loads_taken file (length wallsBefore) (length loadsBefore)) loadsBefore

-- ---- a job written again, as it is printed: taken apart and written, or its refusal

-- room for the file of any job
abbrev pub file_room : ℕ
file_room = loads_end most_walls most_loads

unfoldable pub rewritten : File → List ℕ
rewritten file = cond (is_ok (first_refusal file)) (file_of (joined (walls file)) (joined (entries file))) (refusal_text (first_refusal file))

-- what is put for it
abbrev pub Rewrites : File → List ℕ → ℕ → List ℕ → Type 0
Rewrites file before = Put (fitting file_room (rewritten file) before) before
