-- Document 01, "What is answered", as request #102 of document 02 has it: each answer's number and place, and the first refusal of a job file in the order of the tests.
use Rattle.rules.specs.declared.Refusal.{Refusal}
use Rattle.std.specs.Prelude.{ℕ, suc, ◌+◌, ◌-◌, ◌*◌, Bool, not, ◌&&◌, cond, List, [], ◌∷◌, ◌++◌, leb, ltb, eqb, length, get_or, is_ok, Result, Ok, Err, ⊤, Option, None, Some}
use Rattle.rules.specs.declared.Refusal.TheVariants.{TooShort, WrongEdition, CountOutOfRange, WrongOffset, WrongLength, WallOutOfRange, LoadOutOfRange, NinthLoad, BufferTooShort, OutputTooShort, NoSuchWall}
use Rattle.rules.specs.JobFile.{File, Wall, Entry, header_bytes, this_edition, edition, wall_count, first_wall_offset, load_count, first_load_offset, whole_length, entry_bytes, most_walls, most_loads, most_loads_on_wall, entries_at, walls, entries, first_bad_field, wall_of, load_of, load_fits, loads_on}

-- what is answered: all is well, or the refusal
abbrev pub Answer : Type 0
Answer = Result ⊤ Refusal

-- a refusal's number; 0 says that all is well
abbrev pub number : Answer → ℕ
number (Ok well) = 0
number (Err TooShort) = 1
number (Err WrongEdition) = 2
number (Err CountOutOfRange) = 3
number (Err WrongOffset) = 4
number (Err WrongLength) = 10
number (Err (WallOutOfRange wall field)) = 5
number (Err (LoadOutOfRange load)) = 6
number (Err (NinthLoad load)) = 7
number (Err BufferTooShort) = 8
number (Err OutputTooShort) = 9
number (Err (NoSuchWall wall)) = 18

-- its place; a wall and its field have one together
abbrev pub place : Answer → ℕ
place (Ok well) = 0
place (Err TooShort) = 0
place (Err WrongEdition) = 0
place (Err CountOutOfRange) = 0
place (Err WrongOffset) = 0
place (Err WrongLength) = 0
place (Err (WallOutOfRange wall field)) = wall * 100 + field
place (Err (LoadOutOfRange load)) = load
place (Err (NinthLoad load)) = load
place (Err BufferTooShort) = 0
place (Err OutputTooShort) = 0
place (Err (NoSuchWall wall)) = wall

-- a refusal, where the test says so
abbrev pub refused_if : Bool → Answer → Answer
refused_if test refusal = cond test refusal (Ok tt)

-- the first of two refusals
infixr 20 ◌or_else◌
abbrev pub ◌or_else◌ : Answer → Answer → Answer
first or_else second = cond (is_ok first) second first

-- what is worked where all is well, or the same refusal
infixr 10 ◌gives◌
abbrev pub ◌gives◌ : {A : Type 0} → Answer → A → Result A Refusal
(Ok well) gives worked = Ok worked
(Err refusal) gives worked = Err refusal

-- ---- 3: the counts; 4: the offsets that they give; 10: the length that they give, which is the input's too

unfoldable pub counts_fit : File → Bool
counts_fit file = leb 1 (wall_count file) && leb (wall_count file) most_walls && leb (load_count file) most_loads

unfoldable pub offsets_fit : File → Bool
offsets_fit file = eqb (first_wall_offset file) header_bytes && eqb (first_load_offset file) (entries_at file)

unfoldable pub length_fits : File → Bool
length_fits file = eqb (whole_length file) (entries_at file + entry_bytes * load_count file) && eqb (whole_length file) (length file)

-- ---- 5: walls in file order, the first of them number n

-- wall number n, by the number of its first field out of range
abbrev pub refused_at : ℕ → Option ℕ → Answer
refused_at n None = Ok tt
refused_at n (Some field) = Err (WallOutOfRange n field)

-- a wall with such a field is refused at the number that it has, and at the first of them
unfoldable pub wall_answer : ℕ → Wall → Answer
wall_answer n wall = refused_at n (first_bad_field wall)

unfoldable pub first_bad_wall : ℕ → List Wall → Answer
first_bad_wall n [] = Ok tt
first_bad_wall n (wall ∷ rest) = wall_answer n wall or_else first_bad_wall (suc n) rest

-- ---- 6 and 7: loads in file order, the first of them number n, behind those that were passed

abbrev pub is_there : ℕ → List Wall → Bool
is_there n there = leb 1 n && leb n (length there)

-- wall number n, from 1
abbrev pub numbered : ℕ → List Wall → Wall
numbered n there = get_or there (n - 1) []

unfoldable pub entry_fits : List Wall → Entry → Bool
entry_fits there entry = is_there (wall_of entry) there && load_fits (numbered (wall_of entry) there) (load_of entry)

-- as many as a wall may have were passed already
unfoldable pub is_one_more : List Entry → Entry → Bool
is_one_more passed entry = leb most_loads_on_wall (length (loads_on (wall_of entry) passed))

unfoldable pub first_bad_load : List Wall → List Entry → ℕ → List Entry → Answer
first_bad_load there passed n [] = Ok tt
first_bad_load there passed n (entry ∷ rest) =
    refused_if (not (entry_fits there entry)) (Err (LoadOutOfRange n))
    or_else refused_if (is_one_more passed entry) (Err (NinthLoad n))
    or_else first_bad_load there (passed ++ entry ∷ []) (suc n) rest

-- ---- 1 to 7, in order, with 10 behind 4

unfoldable pub first_refusal : File → Answer
first_refusal file =
    refused_if (ltb (length file) header_bytes) (Err TooShort)
    or_else refused_if (not (eqb (edition file) this_edition)) (Err WrongEdition)
    or_else refused_if (not (counts_fit file)) (Err CountOutOfRange)
    or_else refused_if (not (offsets_fit file)) (Err WrongOffset)
    or_else refused_if (not (length_fits file)) (Err WrongLength)
    or_else first_bad_wall 1 (walls file)
    or_else first_bad_load (walls file) [] 1 (entries file)

-- a job that is accepted has none of these
abbrev pub accepted : File → Bool
accepted file = is_ok (first_refusal file)
