-- Document 02, "#102 Say which field": nothing accepted changes. What document 01 told of a file before that request is a function of what is told now.
use Rattle.rules.proofs.Replies.{no_number}
use Rattle.rules.specs.declared.Refusal.{Refusal}
use Rattle.std.specs.Prelude.{is_ok, Err, Option, None, Some, is_none}
use mathlib.Core.Path.{◌∙◌, ◌≡◌, refl, sym, ap}
use mathlib.Core.Bool.{Bool, true, false, not, ◌&&◌, cond}
use mathlib.Core.List.{List, [], ◌∷◌, ◌++◌}
use Prim.Native.Nat.{ℕ, suc, ◌+◌, ◌*◌, ◌/◌}
use native.Mathlib.Omega.{arith}
use lib.Dec.{ltb, eqb}
use lib.ListN.{length}
use borrow.Author.Tests.{eqb-true}
use Rattle.whole.proofs.Lists.{of_either}
use Rattle.rules.specs.declared.Refusal.TheVariants.{TooShort, WrongEdition, CountOutOfRange, WrongOffset, WrongLength, LoadOutOfRange, NinthLoad, BufferTooShort, NoSuchWall}
use Rattle.rules.specs.JobFile.{File, Wall, Entry, header_bytes, this_edition, edition, wall_count, first_wall_offset, load_count, first_load_offset, whole_length, entry_bytes, entries_at, walls, entries, first_bad_field, wall_fits}
use Rattle.rules.specs.Answered.{number, place, refused_if, ◌or_else◌, counts_fit, offsets_fit, length_fits, wall_answer, first_bad_wall, is_there, entry_fits, is_one_more, first_bad_load, first_refusal, accepted, Answer, refused_at}
use Rattle.rules.specs.SheetLine.{line_numbers, answer_to}
use Rattle.rules.specs.Drawing.{answer_to_drawing}
use Rattle.rules.proofs.Named.{first_bad, FirstBad}

-- ---- what is told of an answer: its number and its place, and 0 and 0 where the job is worked

pub record Told : Type 0 where
  pub number : ℕ
  pub place : ℕ

abbrev pub told : Answer → Told
told answer = record { number = number answer; place = place answer }

-- a refusal, where the test says so
abbrev pub told_if : Bool → ℕ → ℕ → Told
told_if test number place = cond test (record { number = number; place = place }) (record { number = 0; place = 0 })

-- the first of two refusals
infixr 20 ◌or_told◌
abbrev pub ◌or_told◌ : Told → Told → Told
first or_told second = cond (eqb first.number 0) second first

-- ---- document 01, "What is answered", as it stood before

-- 4: both offsets, and the length too
abbrev pub offsets_and_length_fit : File → Bool
offsets_and_length_fit file =
    eqb (first_wall_offset file) header_bytes
    && eqb (first_load_offset file) (entries_at file)
    && eqb (whole_length file) (entries_at file + entry_bytes * load_count file)
    && eqb (whole_length file) (length file)

-- 5, with the wall's number for its place
pub walls_told : ℕ → List Wall → Told
walls_told n [] = told_if false 0 0
walls_told n (wall ∷ rest) = told_if (not (wall_fits wall)) 5 n or_told walls_told (suc n) rest

-- 6 and 7
pub loads_told : List Wall → List Entry → ℕ → List Entry → Told
loads_told there passed n [] = told_if false 0 0
loads_told there passed n (entry ∷ rest) =
    told_if (not (entry_fits there entry)) 6 n or_told told_if (is_one_more passed entry) 7 n or_told loads_told there (passed ++ entry ∷ []) (suc n) rest

-- 1 to 7, in order
pub told_before : File → Told
told_before file =
    told_if (ltb (length file) header_bytes) 1 0
    or_told told_if (not (eqb (edition file) this_edition)) 2 0
    or_told told_if (not (counts_fit file)) 3 0
    or_told told_if (not (offsets_and_length_fit file)) 4 0
    or_told walls_told 1 (walls file)
    or_told loads_told (walls file) [] 1 (entries file)

-- 8 behind them for a sheet, and 18 for a drawing
abbrev pub sheet_told : File → ℕ → Told
sheet_told file room = told_before file or_told told_if (ltb room (line_numbers * wall_count file)) 8 0

abbrev pub drawing_told : File → ℕ → Told
drawing_told file n = told_before file or_told told_if (not (is_there n (walls file))) 18 n

-- ---- what is told now, as it was told then: 10 was 4, the place of 5 was the wall alone, and the rest is as it was

abbrev pub told_as_before : Told → Told
told_as_before now =
    record { number = cond (eqb now.number 10) 4 now.number; place = cond (eqb now.number 5) (now.place / 100) now.place }

-- what was worked is worked
same_worked : (n : ℕ) → eqb (cond (eqb n 10) 4 n) 0 ≡ eqb n 0
same_worked n = go (eqb n 10) refl
  where
    go : (ten : Bool) → eqb n 10 ≡ ten → eqb (cond ten 4 n) 0 ≡ eqb n 0
    go true e = rw (eqb-true n 10 e)
    go false e = refl

-- an answer of then and one of now that are told alike
pub record Alike (then : Told) (answer : Answer) : Type 0 where
  pub is : then ≡ told_as_before (told answer)

-- the same refusal, by the same test
same : (test : Bool) (refusal : Refusal) → Alike (told_if test (told_as_before (told (Err refusal))).number (told_as_before (told (Err refusal))).place) (refused_if test (Err refusal))
same true refusal = record { is = refl }
same false refusal = record { is = refl }

-- the first of two
first : (x y : Told) (a b : Answer) → Alike x a → Alike y b → Alike (x or_told y) (a or_else b)
first x y a b one other =
    record { is = rw (one.is, other.is, same_worked (number a), no_number a) (sym (of_either (λ (answer : Answer). told_as_before (told answer)) (is_ok a) b a)) }

-- the offsets and the length apart
apart : (a b c d : Bool) (rest : Told) → (told_if (not (a && b && c && d)) 4 0 or_told rest) ≡ (told_if (not (a && b)) 4 0 or_told told_if (not (c && d)) 4 0 or_told rest)
apart true true true true rest = refl
apart true true true false rest = refl
apart true true false d rest = refl
apart true false c d rest = refl
apart false b c d rest = refl

-- a wall, whose field goes from the place
wall_alike : (n : ℕ) (wall : Wall) → Alike (told_if (not (wall_fits wall)) 5 n) (wall_answer n wall)
unfolding wall_fits wall_answer
wall_alike n wall = go (first_bad_field wall) refl
  where
    go : (bad : Option ℕ) → first_bad_field wall ≡ bad → Alike (told_if (not (is_none bad)) 5 n) (refused_at n bad)
    go None e = record { is = refl }
    go (Some field) e =
        let first : FirstBad wall field = rw e at (first_bad wall (rw e tt)) in
        let small = first.to in
        let k : n ≡ (n * 100 + field) / 100 = omega arith in
        record { is = ap (λ (place : ℕ). record { number = 5; place = place }) k }

walls_alike : (n : ℕ) (ws : List Wall) → Alike (walls_told n ws) (first_bad_wall n ws)
unfolding walls_told first_bad_wall
walls_alike n [] = record { is = refl }
walls_alike n (wall ∷ rest) = first _ _ _ _ (wall_alike n wall) (walls_alike (suc n) rest)

loads_alike : (there : List Wall) (passed : List Entry) (n : ℕ) (es : List Entry) → Alike (loads_told there passed n es) (first_bad_load there passed n es)
unfolding loads_told first_bad_load
loads_alike there passed n [] = record { is = refl }
loads_alike there passed n (entry ∷ rest) =
    first _ _ _ _ (same (not (entry_fits there entry)) (LoadOutOfRange n))
    (first _ _ _ _ (same (is_one_more passed entry) (NinthLoad n)) (loads_alike there (passed ++ entry ∷ []) (suc n) rest))

-- of every file
pub as_before : (file : File) → Alike (told_before file) (first_refusal file)
unfolding told_before first_refusal offsets_fit length_fits
as_before file =
    rw (apart (eqb (first_wall_offset file) header_bytes))
    (first _ _ _ _ (same (ltb (length file) header_bytes) TooShort)
    (first _ _ _ _ (same (not (eqb (edition file) this_edition)) WrongEdition)
    (first _ _ _ _ (same (not (counts_fit file)) CountOutOfRange)
    (first _ _ _ _ (same (not (offsets_fit file)) WrongOffset)
    (first _ _ _ _ (same (not (length_fits file)) WrongLength)
    (first _ _ _ _ (walls_alike 1 (walls file)) (loads_alike (walls file) [] 1 (entries file))))))))

pub sheet_as_before : (file : File) (room : ℕ) → Alike (sheet_told file room) (answer_to file room)
unfolding answer_to
sheet_as_before file room = first _ _ _ _ (as_before file) (same (ltb room (line_numbers * wall_count file)) BufferTooShort)

pub drawing_as_before : (file : File) (n : ℕ) → Alike (drawing_told file n) (answer_to_drawing file n)
unfolding answer_to_drawing
drawing_as_before file n = first _ _ _ _ (as_before file) (same (not (is_there n (walls file))) (NoSuchWall n))

-- "nothing accepted changes": a file is accepted where it was
pub same_accepted : (file : File) → eqb (told_before file).number 0 ≡ accepted file
same_accepted file = rw (as_before file).is (same_worked (number (first_refusal file)) ∙ no_number (first_refusal file))
