-- Walls and loads are judged one after the other, in their order in a file or in lent buffers: what is answered is what the first that is refused is answered.
use mathlib.Core.Path.{◌≡◌, refl, sym, ap, ◌∙◌}
use mathlib.Core.Bool.{not}
use mathlib.Core.List.{List, []}
use Prim.Native.Nat.{ℕ, zero, suc, ◌+◌, ◌-◌, ◌≤◌, ◌<◌}
use native.Mathlib.Omega.{arith}
use native.Mathlib.Numerals.{add-one}
use lib.Dec.{T, ltb, eqb}
use lib.ListN.{length, get_or}
use lib.Seq.{ext_get_or}
use Rattle.std.specs.Prelude.{is_ok, Ok, Err, ⊤}
use Rattle.rules.specs.declared.Refusal.{Refusal}
use Rattle.rules.specs.declared.Refusal.TheVariants.{TooShort, WrongEdition, CountOutOfRange}
use Rattle.rules.specs.JobFile.{File, Wall, Load, Entry, base_length, crest_height, reach, load_fits, header_bytes, this_edition, edition, wall_count, most_walls, records_from, walls, entries, wall_of, loads_on}
use Rattle.rules.specs.Answered.{Answer, refused_if, ◌or_else◌, counts_fit, wall_answer, first_bad_wall, entry_fits, is_one_more, first_bad_load, first_refusal}
use Rattle.rules.proofs.AcceptedFile.{records_length, record_at, first_worked, passes, walls_counted}
use Rattle.job.specs.Lengths.{lengths_of}
use Rattle.rules.specs.Beyond.{load_answer}
use Rattle.job.specs.Refusals.{header_answer}
use Rattle.job.proofs.Passed.{passed_loads, one_more}

-- where the first of two answers is a refusal, that is answered, and otherwise the rest
module _ {all first a : Answer} (rest : Answer) (is : all ≡ (first or_else rest)) (its : a ≡ first) where
  pub stops : {refusal : Refusal} {given : Answer} → a ≡ Err refusal → given ≡ Err refusal → given ≡ all
  stops e same = same ∙ sym (is ∙ rw (← its, e))

  pub goes_on : {well : ⊤} → a ≡ Ok well → all ≡ rest
  goes_on e = is ∙ rw (← its, e)

-- an answer that is passed is no refusal
pub no_refusal : {first a : Answer} {well : ⊤} → a ≡ first → a ≡ Ok well → T (is_ok first)
no_refusal its e = rw (← its, e) tt

-- of three it doesn't matter which two are taken first
grouped : (a b c : Answer) → ((a or_else b) or_else c) ≡ (a or_else (b or_else c))
grouped (Ok well) b c = refl
grouped (Err refusal) b c = refl

-- ---- the header, and then walls and loads

pub in_order : (file : File)
    → first_refusal file ≡ (header_answer file or_else first_bad_wall 1 (walls file) or_else first_bad_load (walls file) [] 1 (entries file))
unfolding first_refusal
in_order file = rw (grouped, grouped, grouped, grouped)

-- a header that is passed has no more walls than it may
pub few_walls : (file : File) → T (is_ok (header_answer file)) → wall_count file ≤ most_walls
few_walls file t =
    let past1 = (first_worked (refused_if (ltb (length file) header_bytes) (Err TooShort)) _ t).1 in
    let past2 = (first_worked (refused_if (not (eqb (edition file) this_edition)) (Err WrongEdition)) _ past1).1 in
    let past3 = (first_worked (refused_if (not (counts_fit file)) (Err CountOutOfRange)) _ past2).0 in
    (walls_counted file (passes (counts_fit file) CountOutOfRange past3)).1

-- ---- any records

-- those of a list stand at their indices
abbrev pub at : List (List ℕ) → ℕ → List ℕ
at records i = get_or records i []

listed : (records : List (List ℕ)) → records_from (at records) 0 (length records) ≡ records
listed records =
    let n = length records in
    let counted = records_length (at records) 0 n in
    ext_get_or [] (records_from (at records) 0 n) records counted
    (λ k h. let l : k < n = omega (arith, counted) in let i : 0 + k ≡ k = omega arith in record_at (at records) 0 n k l ∙ ap (at records) i)

-- what is answered of n of them from an index on
pub first_from : (ℕ → Answer) → ℕ → ℕ → Answer
first_from answer i zero = Ok tt
first_from answer i (suc n) = answer i or_else first_from answer (suc i) n

-- those before an index were passed: what is answered of all is what is answered from there on
pub record Passed (all : Answer) (answer : ℕ → Answer) (n i : ℕ) : Type 0 where
  pub within : i ≤ n
  pub left : all ≡ first_from answer i (n - i)

none_passed : {all : Answer} {answer : ℕ → Answer} {n : ℕ} → all ≡ first_from answer 0 n → Passed all answer n 0
none_passed {n = n} e = record { within = omega arith; left = let k : n - 0 ≡ n = omega arith in rw (k, e) }

module _ {all : Answer} {answer : ℕ → Answer} {n i : ℕ} (passed : Passed all answer n i) where
  -- all were passed
  pub all_passed : n ≤ i → Ok tt ≡ all
  unfolding first_from
  all_passed h = let k : n - i ≡ 0 = omega arith in sym (passed.left ∙ rw k)

  module _ {a : Answer} (h : i < n) (its : a ≡ answer i) where
    next : all ≡ (answer i or_else first_from answer (suc i) (n - suc i))
    unfolding first_from
    next = let k : n - i ≡ suc (n - suc i) = omega arith in passed.left ∙ rw k

    -- the next one is refused
    pub refused : {refusal : Refusal} {given : Answer} → a ≡ Err refusal → given ≡ Err refusal → given ≡ all
    refused = stops _ next its

    -- it is passed
    pub one_passed : {well : ⊤} → a ≡ Ok well → Passed all answer n (i + 1)
    one_passed e = record { within = omega arith; left = rw add-one (goes_on _ next its e) }

-- ---- walls

-- what is answered of the wall at an index, where it is said which stands at each
abbrev pub wall_answer_at : (ℕ → Wall) → ℕ → Answer
wall_answer_at wall_at i = wall_answer (i + 1) (wall_at i)

walls_from : (wall_at : ℕ → Wall) (i n : ℕ) → first_bad_wall (i + 1) (records_from wall_at i n) ≡ first_from (wall_answer_at wall_at) i n
unfolding first_from first_bad_wall records_from
walls_from wall_at i zero = refl
walls_from wall_at i (suc n) = let k : suc (i + 1) ≡ suc i + 1 = omega arith in rw (k, walls_from wall_at (suc i) n)

pub no_wall_passed : (walls : List Wall) → Passed (first_bad_wall 1 walls) (wall_answer_at (at walls)) (length walls) 0
no_wall_passed walls = none_passed (rw listed at (walls_from (at walls) 0 (length walls)))

-- ---- loads

-- a load fits a wall exactly where it fits the wall's lengths
pub by_lengths : (wall : Wall) (load : Load) → load_fits (lengths_of wall) load ≡ load_fits wall load
unfolding lengths_of base_length crest_height reach load_fits
by_lengths wall load = refl

-- what is answered of the load at an index, against the walls that are there
abbrev pub load_answer_at : List Wall → (ℕ → Entry) → ℕ → Answer
load_answer_at there entry_at i =
    let e = entry_at i in load_answer (entry_fits there e) (length (loads_on (wall_of e) (passed_loads entry_at i))) (i + 1)

loads_from : (there : List Wall) (entry_at : ℕ → Entry) (i n : ℕ)
    → first_bad_load there (passed_loads entry_at i) (i + 1) (records_from entry_at i n) ≡ first_from (load_answer_at there entry_at) i n
unfolding first_from first_bad_load is_one_more records_from
loads_from there entry_at i zero = refl
loads_from there entry_at i (suc n) =
    let k : suc (i + 1) ≡ suc i + 1 = omega arith in rw (k, grouped, ← one_more entry_at i, loads_from there entry_at (suc i) n)

pub no_load_passed : (there : List Wall) (entries : List Entry) → Passed (first_bad_load there [] 1 entries) (load_answer_at there (at entries)) (length entries) 0
unfolding records_from
no_load_passed there entries = none_passed (rw listed at (loads_from there (at entries) 0 (length entries)))
