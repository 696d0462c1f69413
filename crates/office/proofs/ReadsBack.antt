-- The parts of a packed number, which C reads back.
use Prim.Native.Nat.{ℕ, ◌/◌, ◌%◌, ◌<◌, ◌^◌}
use mathlib.Core.Path.{◌≡◌, refl, sym}
use mathlib.Core.Bool.{false, cond}
use mathlib.Core.List.{List}
use native.Mathlib.Omega.{arith}
use borrow.Author.Tests.{ne_eqb}
use lib.Dec.{ltb, eqb}
use lib.IntN.{ℤ}
use lib.Ieee.{Float}
use lib.ListN.{length}
use Rattle.whole.proofs.Lists.{case}
use Rattle.std.specs.Prelude.{Ok, Err, is_ok}
use Rattle.rules.specs.declared.Refusal.TheVariants.{TooShort, WrongEdition, CountOutOfRange, WrongOffset, WrongLength, WallOutOfRange, LoadOutOfRange, NinthLoad, BufferTooShort, OutputTooShort, NoSuchWall}
use Rattle.rules.specs.JobFile.{File, Wall, wall_fields, walls}
use Rattle.rules.specs.Answered.{Answer, number, place}
use Rattle.rules.specs.SheetLine.{answer_to}
use Rattle.rules.specs.Drawing.{answer_to_drawing}
use Rattle.rules.specs.WrittenFile.{records_in, writing_answer, bytes_written, taking_answer}
use Rattle.rules.proofs.Replies.{number_below}
use Rattle.rules.proofs.Named.{Names, Says, silent, sheet_says, drawing_says, taking_says, writer_says}
use Rattle.office.specs.Packed.{packed, Packs, CalculatesPacked, figure_room, drawing_answer, shape_drawn, DrawsPacked, WritesPacked, TakesApartPacked}

-- ---- the parts read by division: the low 32 bits, the next 16, and the rest. The header's shifts and masks are these divisions

pub record ReadsBack (answer : Answer) (besides r : ℕ) : Type 0 where
  pub low : r % 2 ^ 32 ≡ place answer
  pub next : r / 2 ^ 32 % 2 ^ 16 ≡ number answer
  pub rest : r / 2 ^ 48 ≡ besides

pub reads_back : {answer : Answer} {besides r : ℕ} → Packs answer besides r → ReadsBack answer besides r
reads_back {answer} packs = let small = number_below answer in record { low = omega arith; next = omega arith; rest = omega arith }

-- so of what each entry answers
pub calculation_reads_back : {file : File} {before after : List ℤ} {r : ℕ} → CalculatesPacked file before r after
    → ReadsBack (answer_to file (length before)) 0 r
calculation_reads_back call = reads_back call.answered

pub drawing_reads_back : {file : File} {n : ℕ} {before after : List Float} {r : ℕ} → DrawsPacked file n before r after
    → ReadsBack (drawing_answer file n (length before)) (shape_drawn file n (length before)) r
drawing_reads_back call = reads_back call.answered

pub writing_reads_back : {walls loads before after : List ℕ} {r : ℕ} → WritesPacked walls loads before r after
    → ReadsBack (writing_answer walls loads (length before)) (length (bytes_written walls loads (length before))) r
writing_reads_back call = reads_back call.answered

pub taking_reads_back : {file wallsBefore loadsBefore wallsAfter loadsAfter : List ℕ} {r : ℕ}
    → TakesApartPacked file wallsBefore loadsBefore r wallsAfter loadsAfter → ReadsBack (taking_answer file (length wallsBefore) (length loadsBefore)) 0 r
taking_reads_back call = reads_back call.answered

-- ---- the wall and the field of refusal 5: the header reads them off the place, in its hundreds and the rest, and they are those that request #102 asks for

names_back : {there : List Wall} {answer : Answer} {besides r : ℕ} → Packs answer besides r → Says there answer → r / 2 ^ 32 % 2 ^ 16 ≡ 5
    → Names there (r % 2 ^ 32 / 100) (r % 2 ^ 32 % 100)
names_back packs says five = let back = reads_back packs in rw back.low (says.named (rw back.next at five))

pub calculation_names : {file : File} {before after : List ℤ} {r : ℕ} → CalculatesPacked file before r after → r / 2 ^ 32 % 2 ^ 16 ≡ 5
    → Names (walls file) (r % 2 ^ 32 / 100) (r % 2 ^ 32 % 100)
calculation_names {file} {before} call = names_back call.answered (sheet_says file (length before))

pub drawing_names : {file : File} {n : ℕ} {before after : List Float} {r : ℕ} → DrawsPacked file n before r after → r / 2 ^ 32 % 2 ^ 16 ≡ 5
    → Names (walls file) (r % 2 ^ 32 / 100) (r % 2 ^ 32 % 100)
unfolding drawing_answer
drawing_names {file} {n} {before} call = names_back call.answered answer_says
  where
    too_short : Says (walls file) (cond (ltb (length before) figure_room) (Err BufferTooShort) (Ok tt))
    too_short = case (ltb (length before) figure_room) (Err BufferTooShort) (Ok tt) (Says (walls file)) (λ t. silent (walls file) (Err BufferTooShort) tt) (λ t. silent (walls file) (Ok tt) tt)

    answer_says : Says (walls file) (drawing_answer file n (length before))
    answer_says =
        case (is_ok (answer_to_drawing file n)) (cond (ltb (length before) figure_room) (Err BufferTooShort) (Ok tt)) (answer_to_drawing file n) (Says (walls file)) (λ t. too_short)
        (λ t. drawing_says file n)

pub writing_names : {ws ls before after : List ℕ} {r : ℕ} → WritesPacked ws ls before r after → r / 2 ^ 32 % 2 ^ 16 ≡ 5
    → Names (records_in wall_fields ws) (r % 2 ^ 32 / 100) (r % 2 ^ 32 % 100)
writing_names {ws} {ls} {before} call = names_back call.answered (writer_says ws ls (length before))

pub taking_names : {file wallsBefore loadsBefore wallsAfter loadsAfter : List ℕ} {r : ℕ}
    → TakesApartPacked file wallsBefore loadsBefore r wallsAfter loadsAfter → r / 2 ^ 32 % 2 ^ 16 ≡ 5
    → Names (walls file) (r % 2 ^ 32 / 100) (r % 2 ^ 32 % 100)
taking_names {file} {wallsBefore} {loadsBefore} call = names_back call.answered (taking_says file (length wallsBefore) (length loadsBefore))

-- ---- what has nothing besides is 0 where it is worked, and nowhere else

above : (answer : Answer) → 0 < packed answer 0 → false ≡ eqb (packed answer 0) 0
above answer h = sym (ne_eqb (packed answer 0) 0 (λ zero. omega (arith, h, zero)))

zero_if_worked : (answer : Answer) → is_ok answer ≡ eqb (packed answer 0) 0
zero_if_worked (Ok well) = refl
zero_if_worked (Err TooShort) = refl
zero_if_worked (Err WrongEdition) = refl
zero_if_worked (Err CountOutOfRange) = refl
zero_if_worked (Err WrongOffset) = refl
zero_if_worked (Err WrongLength) = refl
zero_if_worked (Err (WallOutOfRange wall field)) = above (Err (WallOutOfRange wall field)) (omega arith)
zero_if_worked (Err (LoadOutOfRange load)) = above (Err (LoadOutOfRange load)) (omega arith)
zero_if_worked (Err (NinthLoad load)) = above (Err (NinthLoad load)) (omega arith)
zero_if_worked (Err BufferTooShort) = refl
zero_if_worked (Err OutputTooShort) = refl
zero_if_worked (Err (NoSuchWall wall)) = above (Err (NoSuchWall wall)) (omega arith)

-- so of a calculation, and of a job taken apart
pub zero_is_worked : {file : File} {before after : List ℤ} {r : ℕ} → CalculatesPacked file before r after
    → is_ok (answer_to file (length before)) ≡ eqb r 0
zero_is_worked {file} {before} call = rw call.answered.is (zero_if_worked (answer_to file (length before)))

pub zero_is_taken : {file wallsBefore loadsBefore wallsAfter loadsAfter : List ℕ} {r : ℕ}
    → TakesApartPacked file wallsBefore loadsBefore r wallsAfter loadsAfter → is_ok (taking_answer file (length wallsBefore) (length loadsBefore)) ≡ eqb r 0
zero_is_taken {file} {wallsBefore} {loadsBefore} call =
    rw call.answered.is (zero_if_worked (taking_answer file (length wallsBefore) (length loadsBefore)))
