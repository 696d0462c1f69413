-- Document 02, "#102 Say which field", as theorems: which wall and which field refusal 5 names wherever walls are examined, that both are read off its place, and the order of 4, 10 and 5.
use Rattle.rules.specs.declared.Refusal.{Refusal}
use Rattle.std.specs.Prelude.{is_ok, Ok, Err, Option, None, Some, IsSomeAnd}
use mathlib.Core.Path.{◌≡◌, refl, sym, ◌∙◌, ap}
use mathlib.Core.Bool.{Bool, true, false, not, ◌||◌, and-eq-true_iff}
use mathlib.Core.List.{List, [], ◌∷◌, ◌++◌, map}
use mathlib.Core.Logic.{◌↔◌}
use Prim.Native.Nat.{ℕ, suc, ◌+◌, ◌-◌, ◌*◌, ◌/◌, ◌%◌, ◌≤◌, ◌<◌}
use native.Mathlib.Omega.{arith}
use lib.Dec.{T, ltb, eqb, not_T}
use lib.Ieee.Bits.{is_true, is_false}
use lib.ListN.{length, get_or}
use borrow.Author.Tests.{le-ltb, eq-eqb, eqb-true}
use Rattle.whole.proofs.Lists.{FirstFailed, fails_at_once, fails_behind, case}
use Rattle.rules.specs.declared.Refusal.TheVariants.{TooShort, WrongEdition, CountOutOfRange, WrongOffset, WrongLength, LoadOutOfRange, NinthLoad, BufferTooShort, OutputTooShort, NoSuchWall}
use Rattle.rules.specs.declared.Range.{Range}
use Rattle.rules.specs.declared.Range.TheVariants.{ABar}
use Rattle.rules.specs.JobFile.{File, Wall, Load, Entry, wall_fields, entry_fields, header_bytes, this_edition, edition, wall_count, first_wall_offset, first_load_offset, whole_length, load_count, entry_bytes, entries_at, walls, entries, field, within, ranges, first_outside, first_bad_field, wall_fits}
use Rattle.rules.specs.Answered.{number, place, refused_if, ◌or_else◌, counts_fit, offsets_fit, length_fits, wall_answer, first_bad_wall, is_there, numbered, entry_fits, is_one_more, first_bad_load, first_refusal, Answer}
use Rattle.rules.specs.SheetLine.{line_numbers, answer_to}
use Rattle.rules.specs.Drawing.{answer_to_drawing}
use Rattle.rules.specs.Beyond.{alone, examined}
use Rattle.rules.specs.WrittenFile.{records_in, file_of, records_fit, records_answer, writing_answer, taking_answer}
use Rattle.rules.proofs.Accepted.{Ranged, range_of, in_range, within_range}
use Rattle.rules.proofs.AcceptedFile.{ends}

-- ---- "the first bad field in field order"

-- a field is out of its range, and each one before it is within; so 9 is named only where 2 and 6 are
pub record FirstBad (wall : Wall) (number : ℕ) : Type 0 where
  pub from : 1 ≤ number
  pub to : number ≤ wall_fields
  pub outside : Ranged wall number → ⊥
  pub before : (earlier : ℕ) → 1 ≤ earlier → earlier < number → Ranged wall earlier

-- the test of each field from a number on, against a list of ranges
abbrev field_test : Wall → ℕ → List Range → ℕ → Bool
field_test wall first rs j = within wall (get_or rs j ABar) (field wall (first + j))

-- the first field that is outside its range stands so far behind the first of them
record Outside (wall : Wall) (first : ℕ) (rs : List Range) : Type 0 where
  at : ℕ
  is : first_outside wall first rs ≡ Some (first + at)
  bad : FirstFailed (length rs) (field_test wall first rs) at

outside : (wall : Wall) (first : ℕ) (rs : List Range) → (first_outside wall first rs ≡ None → ⊥) → Outside wall first rs
unfolding first_outside
outside wall first [] some = absurd (some refl)
outside wall first (r ∷ rs) some = go (within wall r (field wall first)) refl (outside wall (suc first) rs)
  where
    here : first + 0 ≡ first
    here = omega arith

    along : (j : ℕ) → first + suc j ≡ suc first + j
    along j = omega arith

    go : (fits : Bool) → within wall r (field wall first) ≡ fits → ((first_outside wall (suc first) rs ≡ None → ⊥) → Outside wall (suc first) rs)
        → Outside wall first (r ∷ rs)
    go true e behind =
        let next = behind (λ none. some (rw e none)) in
        record {
          at = suc next.at;
          is = rw e (next.is ∙ ap Some (sym (along next.at)));
          bad = fails_behind (field_test wall first (r ∷ rs)) (rw (here, e) tt) (simp along next.bad);
        }
    go false e behind = record { at = 0; is = rw e (ap Some (sym here)); bad = fails_at_once (field_test wall first (r ∷ rs)) (rw (here, e)) }

-- of a wall that doesn't fit it is the field that the definition gives
pub first_bad : (wall : Wall) → T (not (wall_fits wall)) → IsSomeAnd (first_bad_field wall) (FirstBad wall)
unfolding wall_fits first_bad_field
first_bad wall unfit = let f = outside wall 1 ranges (λ none. rw none at unfit) in rw f.is (go f.bad)
  where
    go : {at : ℕ} → FirstFailed wall_fields (field_test wall 1 ranges) at → FirstBad wall (1 + at)
    go {at} bad =
        let k : 1 + at - 1 ≡ at = omega arith in
        record {
          from = omega arith;
          to = omega (arith, bad.there);
          outside = λ its. rw (rw k at bad.fails) at (within_range wall (get_or ranges at ABar) (get_or wall at 0) (rw k at its));
          before = λ earlier some less.
              let k : 1 + (earlier - 1) ≡ earlier = omega arith in
              in_range wall (range_of earlier) (field wall earlier) (rw k at (bad.passed (earlier - 1) (omega arith)));
        }

-- ---- "the first bad wall"

-- among walls that are numbered from 1: each one before it fits, and of it the first bad field is named
pub record Names (there : List Wall) (wall field : ℕ) : Type 0 where
  pub from : 1 ≤ wall
  pub to : wall ≤ length there
  pub others : (earlier : ℕ) → 1 ≤ earlier → earlier < wall → T (wall_fits (numbered earlier there))
  pub its : FirstBad (numbered wall there) field

-- an answer with the number 5 names such a field: the wall in the hundreds of its place, and the field in the rest
pub record Says (there : List Wall) (answer : Answer) : Type 0 where
  pub named : number answer ≡ 5 → Names there (place answer / 100) (place answer % 100)

module _ (there : List Wall) where
  -- any other says nothing of walls
  pub silent : (answer : Answer) → T (not (eqb (number answer) 5)) → Says there answer
  silent answer other = record { named = λ e. absurd (rw e at other) }

  silent_if : (test : Bool) (refusal : Refusal) → T (not (eqb (number (Err refusal)) 5)) → Says there (refused_if test (Err refusal))
  silent_if test refusal other = case test (Err refusal) (Ok tt) (Says there) (λ t. silent (Err refusal) other) (λ t. silent (Ok tt) tt)

  -- and the first of two says what it says
  either : (a b : Answer) → Says there a → Says there b → Says there (a or_else b)
  either a b first second = case (is_ok a) b a (Says there) (λ t. second) (λ t. first)

-- ---- walls in order, and loads behind them

abbrev wall_test : List Wall → ℕ → Bool
wall_test ws j = wall_fits (get_or ws j [])

-- among walls that are numbered from n, the one that is named stands so far behind the first
record NamedFrom (n : ℕ) (ws : List Wall) (wall field : ℕ) : Type 0 where
  at : ℕ
  is : wall ≡ n + at
  bad : FirstFailed (length ws) (wall_test ws) at
  its : FirstBad (get_or ws at []) field

named : (n : ℕ) (ws : List Wall) → let answer = first_bad_wall n ws in number answer ≡ 5 → NamedFrom n ws (place answer / 100) (place answer % 100)
unfolding wall_fits first_bad_wall wall_answer
named n [] e = absurd (omega arith)
named n (w ∷ ws) e = go (first_bad_field w) refl (named (suc n) ws)
  where
    go : (bad : Option ℕ) → first_bad_field w ≡ bad
        → (let answer = first_bad_wall (suc n) ws in number answer ≡ 5 → NamedFrom (suc n) ws (place answer / 100) (place answer % 100))
        → let answer = first_bad_wall n (w ∷ ws) in NamedFrom n (w ∷ ws) (place answer / 100) (place answer % 100)
    go None f behind =
        let next = behind (rw f at e) in
        rw f (record { at = suc next.at; is = omega (arith, next.is); bad = fails_behind (wall_test (w ∷ ws)) (rw f tt) next.bad; its = next.its })
    go (Some field) f behind =
        let first : FirstBad w field = rw f at (first_bad w (rw f tt)) in
        let rest : (n * 100 + field) % 100 ≡ field = omega (arith, first.to) in
        rw f (record { at = 0; is = omega (arith, first.to); bad = fails_at_once (wall_test (w ∷ ws)) (rw f); its = rw rest first })

-- numbered from 1, they have the numbers of a file
from_1 : {there : List Wall} {wall field : ℕ} → NamedFrom 1 there wall field → Names there wall field
from_1 {wall = wall} f =
    let k : wall - 1 ≡ f.at = omega (arith, f.is) in
    record {
      from = omega (arith, f.is);
      to = omega (arith, f.is, f.bad.there);
      others = λ earlier some less. f.bad.passed (earlier - 1) (omega (arith, f.is));
      its = rw k f.its;
    }

walls_say : (there : List Wall) → Says there (first_bad_wall 1 there)
walls_say there = record { named = λ e. from_1 (named 1 there e) }

loads_silent : (there ws : List Wall) (passed : List Entry) (n : ℕ) (es : List Entry) → Says there (first_bad_load ws passed n es)
unfolding first_bad_load
loads_silent there ws passed n [] = silent there (Ok tt) tt
loads_silent there ws passed n (e ∷ es) =
    either there _ _
    (silent_if there (not (entry_fits ws e)) (LoadOutOfRange n) tt)
    (either there _ _ (silent_if there (is_one_more passed e) (NinthLoad n) tt) (loads_silent there ws (passed ++ e ∷ []) (suc n) es))

records_say : (there : List Wall) (es : List Entry) → Says there (first_bad_wall 1 there or_else first_bad_load there [] 1 es)
records_say there es = either there _ _ (walls_say there) (loads_silent there there [] 1 es)

-- ---- the same wherever walls are examined

-- by the reader,
pub reader_says : (file : File) → Says (walls file) (first_refusal file)
unfolding first_refusal
reader_says file =
    let there = walls file in
    either there _ _ (silent_if there (ltb (length file) header_bytes) TooShort tt)
    (either there _ _ (silent_if there (not (eqb (edition file) this_edition)) WrongEdition tt)
    (either there _ _ (silent_if there (not (counts_fit file)) CountOutOfRange tt)
    (either there _ _ (silent_if there (not (offsets_fit file)) WrongOffset tt)
    (either there _ _ (silent_if there (not (length_fits file)) WrongLength tt) (records_say there (entries file))))))

-- and so of a sheet, of a drawing and where a file is taken apart;
pub sheet_says : (file : File) (room : ℕ) → Says (walls file) (answer_to file room)
unfolding answer_to
sheet_says file room = let there = walls file in either there _ _ (reader_says file) (silent_if there (ltb room (line_numbers * wall_count file)) BufferTooShort tt)

pub drawing_says : (file : File) (n : ℕ) → Says (walls file) (answer_to_drawing file n)
unfolding answer_to_drawing
drawing_says file n = let there = walls file in either there _ _ (reader_says file) (silent_if there (not (is_there n there)) (NoSuchWall n) tt)

pub taking_says : (file : File) (m n : ℕ) → Says (walls file) (taking_answer file m n)
unfolding taking_answer
taking_says file m n =
    let there = walls file in
    either there _ _ (reader_says file) (silent_if there (ltb m (wall_fields * wall_count file) || ltb n (entry_fields * load_count file)) BufferTooShort tt)

-- by the writer, of the records that it is lent;
pub writer_says : (ws ls : List ℕ) (room : ℕ) → Says (records_in wall_fields ws) (writing_answer ws ls room)
unfolding writing_answer records_answer
writer_says ws ls room =
    let there = records_in wall_fields ws in
    either there _ _
    (either there _ _ (silent_if there (not (records_fit ws ls)) CountOutOfRange tt) (records_say there (records_in entry_fields ls)))
    (silent_if there (ltb room (length (file_of ws ls))) OutputTooShort tt)

-- and of one wall by itself, as wall 1
pub wall_says : (wall : Wall) (loads : List Load) → Says (wall ∷ []) (examined wall loads)
unfolding examined
wall_says wall loads = records_say (wall ∷ []) (map alone loads)

-- ---- "4 for an offset, then 10 for the length, then 5 as before"

-- both offsets are those that the counts give
abbrev pub OffsetsRight : File → Type 0
OffsetsRight file = (first_wall_offset file ≡ header_bytes) × (first_load_offset file ≡ entries_at file)

-- the length is, and it is the input's
abbrev pub LengthRight : File → Type 0
LengthRight file = (whole_length file ≡ length file) × (whole_length file ≡ entries_at file + entry_bytes * load_count file)

offsets_tested : (file : File) → T (offsets_fit file) ↔ OffsetsRight file
unfolding offsets_fit
offsets_tested file = (
  λ t. omega (arith, eqb-true, simp and-eq-true_iff at (is_true (offsets_fit file) t)),
  λ right. rw (eq-eqb _ _ right.0, eq-eqb _ _ right.1) tt,
)

length_tested : (file : File) → T (length_fits file) ↔ LengthRight file
unfolding length_fits
length_tested file = (ends file, λ right. rw (eq-eqb _ _ right.1, eq-eqb _ _ right.0) tt)

-- of a file that passes 1 to 3
module _ (file : File) (long : header_bytes ≤ length file) (one : edition file ≡ this_edition) (counts : T (counts_fit file)) where
  past_counts : first_refusal file
      ≡ (refused_if (not (offsets_fit file)) (Err WrongOffset) or_else refused_if (not (length_fits file)) (Err WrongLength)
      or_else first_bad_wall 1 (walls file) or_else first_bad_load (walls file) [] 1 (entries file))
  unfolding first_refusal
  past_counts = rw (le-ltb (length file) header_bytes, eq-eqb (edition file) this_edition, is_true (counts_fit file))

  pub offset_refused : (OffsetsRight file → ⊥) → first_refusal file ≡ Err WrongOffset
  offset_refused wrong = past_counts ∙ rw (is_false (offsets_fit file) (not_T (offsets_fit file) (λ t. wrong ((offsets_tested file).0 t))))

  module _ (right : OffsetsRight file) where
    fit : offsets_fit file ≡ true
    fit = is_true (offsets_fit file) ((offsets_tested file).1 right)

    pub length_refused : (LengthRight file → ⊥) → first_refusal file ≡ Err WrongLength
    length_refused wrong = past_counts ∙ rw (fit, is_false (length_fits file) (not_T (length_fits file) (λ t. wrong ((length_tested file).0 t))))

    pub then_walls : LengthRight file → first_refusal file ≡ (first_bad_wall 1 (walls file) or_else first_bad_load (walls file) [] 1 (entries file))
    then_walls ended = past_counts ∙ rw (fit, is_true (length_fits file) ((length_tested file).1 ended))
