-- Document 01, "The sheet line": the checks and their bits, a wall's nineteen numbers, the result buffer after a call, and the printed text.
use Rattle.std.specs.Prelude.{ℕ, zero, suc, ◌+◌, ◌-◌, ◌*◌, ◌/◌, ◌%◌, max, ◌≡◌, Bool, true, false, not, ◌||◌, cond, List, [], ◌∷◌, ◌++◌, map, ltb, eqb, length, get_or, drop, ℤ, pos, negsuc, is_ok, Err}
use Prim.Native.Char.{code}
use Prim.Native.String.{String, [] as empty, ◌∷◌ as ◌then◌}
use Rattle.std.specs.Int.Signed.{lt_z}
use Rattle.whole.specs.Parts.{above_zero}
use Rattle.rules.specs.declared.Refusal.TheVariants.{BufferTooShort}
use Rattle.rules.specs.declared.Check.{Check}
use Rattle.rules.specs.declared.Check.TheVariants.{Slides, Overturns, OverAllowable, NoServiceBlock, NoFactoredBlock, ToeSteel, StemSteel, Sheared, HeelSteel}
use Rattle.rules.specs.declared.WorkedWall.{WorkedWall}
use Rattle.rules.specs.JobFile.{File, Wall, Load, Entry, wall_count, allowable_bearing, walls, entries, loads_on}
use Rattle.rules.specs.Answered.{number, place, refused_if, ◌or_else◌, first_refusal, Answer}
use Rattle.rules.specs.Forces.{service, sliding_of}
use Rattle.rules.specs.Bearing.{service_scale, factored_scale, service_block, factored_block, is_given, pressed_by}
use Rattle.rules.specs.ToeAndStem.{toe, stem, heel}

-- ---- a wall that is worked

unfoldable pub worked_wall : Wall → List Load → WorkedWall
worked_wall wall loads =
    record {
      totals = service wall loads;
      sliding = sliding_of wall loads;
      service = pressed_by service_scale (service_block wall loads);
      factored = pressed_by factored_scale (factored_block wall loads);
      toe = toe wall loads;
      stem = stem wall loads;
      heel = heel wall loads;
    }

-- ---- the checks

-- the test of each: does a wall fail it, as it was worked? The allowable pressure is in kN/m2, each of 1000 N/m2.
unfoldable pub fails_by : Check → Wall → WorkedWall → Bool
fails_by Slides wall w = w.sliding.slides
fails_by Overturns wall w = lt_z w.totals.Mrest w.totals.Mot
fails_by OverAllowable wall w = ltb (1000 * allowable_bearing wall) (max w.service.toe w.service.heel)
fails_by NoServiceBlock wall w = not (is_given w.service.block)
fails_by NoFactoredBlock wall w = not (is_given w.factored.block)
fails_by ToeSteel wall w = w.toe.steel.fails
fails_by StemSteel wall w = w.stem.steel.fails
fails_by Sheared wall w = w.toe.sheared || w.stem.sheared || w.heel.sheared
fails_by HeelSteel wall w = w.heel.steel.fails

abbrev pub fails : Check → Wall → List Load → Bool
fails check wall loads = fails_by check wall (worked_wall wall loads)

abbrev pub bit : Check → ℕ
bit Slides = 1
bit Overturns = 2
bit OverAllowable = 4
bit NoServiceBlock = 8
bit NoFactoredBlock = 16
bit ToeSteel = 32
bit StemSteel = 64
bit Sheared = 128
bit HeelSteel = 256

abbrev pub checks : List Check
checks = Slides ∷ Overturns ∷ OverAllowable ∷ NoServiceBlock ∷ NoFactoredBlock ∷ ToeSteel ∷ StemSteel ∷ Sheared ∷ HeelSteel ∷ []

-- the bits of the checks that a test picks, in two bytes
unfoldable pub bits_among : List Check → (Check → Bool) → ℕ
bits_among [] picks = 0
bits_among (check ∷ rest) picks = cond (picks check) (bit check) 0 + bits_among rest picks

unfoldable pub failures_by : Wall → WorkedWall → ℕ
failures_by wall w = bits_among checks (λ check. fails_by check wall w)

abbrev pub failures : Wall → List Load → ℕ
failures wall loads = failures_by wall (worked_wall wall loads)

-- is a check's bit set among some failures?
unfoldable pub is_set : ℕ → Check → Bool
is_set found check = eqb (found / bit check % 2) 1

-- ---- the line of wall number n

abbrev pub line_numbers : ℕ
line_numbers = 19

unfoldable pub numbers_by : ℕ → Wall → WorkedWall → List ℤ
numbers_by n wall w =
    pos n
    ∷ pos (failures_by wall w)
    ∷ w.totals.R
    ∷ w.totals.H
    ∷ pos w.sliding.propping
    ∷ w.totals.M6
    ∷ pos w.service.toe
    ∷ pos w.service.heel
    ∷ pos w.factored.toe
    ∷ pos w.factored.heel
    ∷ pos w.toe.action.shear
    ∷ pos w.toe.action.moment
    ∷ pos w.toe.steel.required
    ∷ pos w.stem.action.shear
    ∷ pos w.stem.action.moment
    ∷ pos w.stem.steel.required
    ∷ pos w.heel.action.shear
    ∷ pos w.heel.action.moment
    ∷ pos w.heel.steel.required
    ∷ []

unfoldable pub line : ℕ → Wall → List Load → List ℤ
line n wall loads = numbers_by n wall (worked_wall wall loads)

-- the lines of walls, the first of them number n, each with its own loads of the file
unfoldable pub lines_from : ℕ → List Wall → List Entry → List (List ℤ)
lines_from n [] there = []
lines_from n (wall ∷ rest) there = line n wall (loads_on n there) ∷ lines_from (suc n) rest there

unfoldable pub sheet : File → List (List ℤ)
sheet file = lines_from 1 (walls file) (entries file)

-- ---- the result buffer, by document 01's "What is answered"

unfoldable pub joined : {A : Type 0} → List (List A) → List A
joined [] = []
joined (list ∷ rest) = list ++ joined rest

-- the refusals of the file, and 8 last, where room for so many numbers is lent
unfoldable pub answer_to : File → ℕ → Answer
answer_to file room = first_refusal file or_else refused_if (ltb room (line_numbers * wall_count file)) (Err BufferTooShort)

-- every line, and beyond them what stood there; of a refused job all that stood there
unfoldable pub buffer_after : File → List ℤ → List ℤ
buffer_after file before =
    cond (is_ok (answer_to file (length before))) (joined (sheet file) ++ drop (line_numbers * wall_count file) before) before

-- what a call answers, and what the lent buffer holds after it
pub record Calculates (file : File) (before : List ℤ) (answer : Answer) (after : List ℤ) : Type 0 where
  pub answered : answer ≡ answer_to file (length before)
  pub holds : after ≡ buffer_after file before

-- ---- the printed text, as bytes; `code` is the number of a character

abbrev pub ascii : String → List ℕ
ascii empty = []
ascii (character then text) = code character ∷ ascii text

-- 0 to 9
abbrev pub digit : ℕ → ℕ
digit n = code "0" + n

-- 0 to 9 and a to f
abbrev pub hex_digit : ℕ → ℕ
hex_digit n = cond (ltb n 10) (digit n) (code "a" + (n - 10))

-- n in decimal, where it has at most so many digits
unfoldable pub digits : ℕ → ℕ → List ℕ
digits zero n = []
digits (suc most) n = elim (ltb n 10) [ true ↦ digit n ∷ [] | false ↦ digits most (n / 10) ++ digit (n % 10) ∷ [] ]

-- n has at most n + 1 digits
unfoldable pub decimal : ℕ → List ℕ
decimal n = digits (suc n) n

unfoldable pub signed_decimal : ℤ → List ℕ
signed_decimal (pos n) = decimal n
signed_decimal (negsuc n) = code "-" ∷ decimal (suc n)

-- the last so many hex digits of n, the highest first
unfoldable pub hex_digits : ℕ → ℕ → List ℕ
hex_digits zero n = []
hex_digits (suc places) n = hex_digits places (n / 16) ++ hex_digit (n % 16) ∷ []

-- numbers, a space before each, and the end of the line
unfoldable pub line_rest : List ℤ → List ℕ
line_rest [] = code "\n" ∷ []
line_rest (z ∷ zs) = code " " ∷ signed_decimal z ++ line_rest zs

-- a line's numbers; the second of them, the failures, is printed in three hex digits
unfoldable pub line_text : List ℤ → List ℕ
line_text numbers =
    signed_decimal (get_or numbers 0 (pos 0))
    ++ code " " ∷ hex_digits 3 (above_zero (get_or numbers 1 (pos 0)))
    ++ line_rest (drop 2 numbers)

unfoldable pub refusal_text : Answer → List ℕ
refusal_text answer = ascii "refused" ++ line_rest (pos (number answer) ∷ pos (place answer) ∷ [])

unfoldable pub printed : File → List ℕ
printed file = cond (is_ok (first_refusal file)) (joined (map line_text (sheet file))) (refusal_text (first_refusal file))
