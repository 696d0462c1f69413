-- Document 01, "How strictly it is promised", its four idle versions: none of them meets the promise. One job of two unlike walls tells on each.
use Rattle.std.specs.Prelude.{Ok}
use Prim.Native.Nat.{ℕ, zero, suc, ◌+◌, ◌*◌, ◌≤◌, ◌<◌}
use native.Mathlib.Omega.{arith}
use mathlib.Core.Path.{◌≡◌, refl, ap, ◌∙◌}
use mathlib.Core.Bool.{Bool}
use mathlib.Core.List.{List, [], ◌∷◌, ◌++◌}
use lib.Dec.{T, ltb, leb→le}
use lib.IntN.{ℤ, pos}
use lib.ListN.{length, get_or, set, drop, replicate, length-replicate}
use mir.Syntax.{w64}
use mir.Val.{SFits}
use Rattle.whole.proofs.Lists.{All}
use Rattle.whole.specs.Rounding.{rounded_nearest}
use Rattle.whole.specs.Sum.{sum_of}
use Rattle.rules.specs.JobFile.{File, Wall, wall_count, u16_at, u32_at, u32s_at, entries_at, wall_at, records_from, walls, entries, loads_on, base_length, crest_height, wall_height, among, within, first_outside, first_bad_field, wall_fits}
use Rattle.rules.specs.Answered.{accepted, counts_fit, offsets_fit, length_fits, wall_answer, first_bad_wall, first_bad_load, first_refusal, Answer}
use Rattle.rules.specs.Forces.{saturated_height, stem_weight, base_weight, downstand_weight, saturated_weight, moist_weight, surcharge_weight, weight_rows, push_rows, load_table, table, column_sum, totals, service}
use Rattle.rules.specs.SheetLine.{line_numbers, worked_wall, numbers_by, line, lines_from, sheet, joined, answer_to, buffer_after, Calculates, digit, digits, decimal, signed_decimal, hex_digits, line_rest, line_text, printed}
use Rattle.rules.specs.Beyond.{sheet_room, onto, Prints}
use Rattle.rules.proofs.Accepted.{both, every}
use Rattle.rules.proofs.Fitting.{fits}
use Rattle.rules.proofs.LongInput.{IsByte}
use Rattle.rules.proofs.Points.{u16s, u32s, case_a, wall_a}

-- ---- the job: wall A with its stem 2000 mm high, and then wall A as it is

unfoldable low_a : Wall
unfolding wall_a
low_a = set wall_a 1 2000

unfoldable two_walls : File
unfolding low_a
two_walls = u16s (2 ∷ 2 ∷ 12 ∷ 0 ∷ 316 ∷ 316 ∷ []) ++ u32s (low_a ++ wall_a)

-- room for both lines
abbrev lent : List ℤ
lent = replicate 38 (pos 0)

abbrev after : List ℤ
after = buffer_after two_walls lent

-- the number at a place of a wall's line, walls and places counted from 0; R is at place 2
abbrev pub number_at : List ℤ → ℕ → ℕ → ℤ
number_at buffer wall place = get_or buffer (line_numbers * wall + place) (pos 0)

-- the first figure of the first wall's R, in print, and room for the print
abbrev leading : List ℕ → ℕ
leading text = get_or text 6 0

abbrev blank : List ℕ
blank = replicate sheet_room 0

-- is every number of a list a byte?
abbrev are_bytes : List ℕ → Bool
are_bytes = every (λ n. ltb n 256)

-- what the rules make of it, and of case A
record WorkedOut : Type 0 where
  answered : answer_to two_walls 38 ≡ Ok tt
  passes : T (accepted two_walls)
  bytes : T (are_bytes two_walls)
  two : wall_count two_walls ≡ 2
  one : number_at after 0 0 ≡ pos 1
  low : number_at after 0 2 ≡ pos 99960
  high : number_at after 1 2 ≡ pos 134160
  case_a_number : number_at (joined (sheet case_a)) 0 2 ≡ pos 134160
  low_printed : leading (printed two_walls) ≡ digit 9
  case_a_printed : leading (printed case_a) ≡ digit 1
  case_a_bytes : T (are_bytes case_a)

worked_out : WorkedOut
unfolding two_walls u16_at u32_at u32s_at entries_at wall_at records_from walls entries loads_on base_length crest_height wall_height among within first_outside first_bad_field wall_fits counts_fit offsets_fit length_fits wall_answer first_bad_wall first_bad_load first_refusal saturated_height stem_weight base_weight downstand_weight saturated_weight moist_weight surcharge_weight weight_rows push_rows load_table table column_sum totals service worked_wall numbers_by line lines_from sheet joined answer_to buffer_after digits decimal signed_decimal hex_digits line_rest line_text printed rounded_nearest sum_of
worked_out =
    record { answered = refl; passes = tt; bytes = tt; two = refl; one = refl; low = refl; high = refl; case_a_number = refl; low_printed = refl; case_a_printed = refl; case_a_bytes = tt }

-- two numbers that are the same are of one amount
amount : {a b : ℤ} {m n : ℕ} → a ≡ b → a ≡ pos m → b ≡ pos n → m ≡ n
amount same is its = cc

-- ---- versions

-- a version of the calculation: what it answers where a file and a buffer are given, and what it leaves in the buffer
pub record Version : Type 0 where
  pub answers : File → List ℤ → Answer
  pub leaves : File → List ℤ → List ℤ

-- what it may be given: a file of bytes, and a buffer of numbers of 64 bits
abbrev pub Given : File → List ℤ → Type 0
Given file before = All IsByte file × All (SFits w64) before

abbrev pub Meets : Version → Type 0
Meets v = (file : File) (before : List ℤ) → Given file before → Calculates file before (v.answers file before) (v.leaves file before)

-- one does: it does what the rules say
pub met : (v : Version) × Meets v
met = (record { answers = λ file before. answer_to file (length before); leaves = buffer_after }, λ file before lent. record { answered = refl; holds = refl })

-- none meets the promise and has this of the file, the buffer before and the buffer after, whenever it works a job
abbrev pub NoVersion : (File → List ℤ → List ℤ → Type 0) → Type 0
NoVersion Has =
    (v : Version) → Meets v
    → ((file : File) (before : List ℤ) → Given file before → v.answers file before ≡ Ok tt → Has file before (v.leaves file before)) → ⊥

all_bytes : (list : List ℕ) → T (are_bytes list) → All IsByte list
all_bytes [] t = tt
all_bytes (n ∷ rest) t = let h = both (ltb n 256) (are_bytes rest) t in (leb→le (suc n) 256 h.0, all_bytes rest h.1)

all_same : {A : Type 0} (P : A → Type 0) (x : A) → P x → (n : ℕ) → All P (replicate n x)
all_same P x has zero = tt
all_same P x has (suc n) = (has, all_same P x has n)

-- so it is where the job above hasn't this
told : (Has : File → List ℤ → List ℤ → Type 0) → (Has two_walls lent after → ⊥) → NoVersion Has
told Has has_not v meets each =
    let may : Given two_walls lent = (all_bytes two_walls worked_out.bytes, all_same (SFits w64) (pos 0) (record { sfits = omega arith }) 38) in
    let call = meets two_walls lent may in
    has_not (rw call.holds at (each two_walls lent may (call.answered ∙ worked_out.answered)))

-- ---- the four

-- it refuses everything
pub refuses_everything : (v : Version) → Meets v
    → ((file : File) (before : List ℤ) → Given file before → v.answers file before ≡ Ok tt → ⊥) → ⊥
refuses_everything = told (λ file before after. ⊥) (λ never. never)

-- it prints the text of case A for every job that is accepted: a version of the printing leaves the same in a buffer for each
pub record Printer : Type 0 where
  pub counts : File → List ℕ → ℕ
  pub leaves : File → List ℕ → List ℕ

abbrev pub MeetsText : Printer → Type 0
MeetsText p = (file : File) (before : List ℕ) → All IsByte file → All IsByte before → Prints file before (p.counts file before) (p.leaves file before)

-- a figure of a text is there with anything behind the text too
still_there : (text rest : List ℕ) (i n : ℕ) → get_or text i 0 ≡ suc n → get_or (text ++ rest) i 0 ≡ suc n
still_there [] rest i n is = absurd (omega (arith, is))
still_there (x ∷ xs) rest zero n is = is
still_there (x ∷ xs) rest (suc i) n is = still_there xs rest i n is

all_blank : All IsByte blank
all_blank = all_same IsByte 0 (omega arith) sheet_room

-- so it is in what is left of a blank buffer
in_print : (p : Printer) → MeetsText p → (file : File) → All IsByte file → (n : ℕ) → leading (printed file) ≡ suc n
    → leading (p.leaves file blank) ≡ suc n
unfolding onto
in_print p meets file bytes n is =
    let room : sheet_room ≤ length blank = omega (arith, length-replicate {A = ℕ} sheet_room 0) in
    ap leading (meets file blank bytes all_blank).holds
    ∙ ap (λ (text : List ℕ). leading (onto text blank)) (fits sheet_room (printed file) blank room)
    ∙ still_there (printed file) (drop (length (printed file)) blank) 6 n is

pub case_a_for_all : (p : Printer) → MeetsText p
    → ((file : File) (before : List ℕ) → All IsByte file → All IsByte before → T (accepted file) → p.leaves file before ≡ p.leaves case_a before) → ⊥
case_a_for_all p meets idle =
    let two = all_bytes two_walls worked_out.bytes in
    let same : leading (p.leaves two_walls blank) ≡ leading (p.leaves case_a blank) = ap leading (idle two_walls blank two all_blank worked_out.passes) in
    let low = in_print p meets two_walls two 56 worked_out.low_printed in
    let one = in_print p meets case_a (all_bytes case_a worked_out.case_a_bytes) 48 worked_out.case_a_printed in
    omega (arith, same, low, one)

-- and it has the numbers of case A for the first wall of every job
abbrev pub HasCaseA : File → List ℤ → List ℤ → Type 0
HasCaseA file before after = (place : ℕ) → place < line_numbers → number_at after 0 place ≡ number_at (joined (sheet case_a)) 0 place

pub case_a_numbers_for_all : NoVersion HasCaseA
case_a_numbers_for_all = told HasCaseA (λ same. omega (arith, amount (same 2 (omega arith)) worked_out.low worked_out.case_a_number))

-- it writes nothing
abbrev pub WritesNothing : File → List ℤ → List ℤ → Type 0
WritesNothing file before after = after ≡ before

pub writes_nothing : NoVersion WritesNothing
writes_nothing = told WritesNothing (λ same. omega (arith, amount (ap (λ buffer. number_at buffer 0 0) same) worked_out.one refl))

-- it gives each wall the numbers of the first; the one at place 0 is the wall's own
abbrev pub CopiesFirst : File → List ℤ → List ℤ → Type 0
CopiesFirst file before after =
    (wall place : ℕ) → wall < wall_count file → 1 ≤ place → place < line_numbers → number_at after wall place ≡ number_at after 0 place

pub first_wall_for_all : NoVersion CopiesFirst
first_wall_for_all =
    told CopiesFirst
    (λ same. omega (arith, amount (same 1 2 (rw worked_out.two (omega arith)) (omega arith) (omega arith)) worked_out.high worked_out.low))
