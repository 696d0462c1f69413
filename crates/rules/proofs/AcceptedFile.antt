-- What it tells of a whole job file that it is accepted: its header, its walls and its loads have passed every test. A law for each of them.
use Rattle.rules.specs.declared.Refusal.{Refusal}
use Rattle.std.specs.Prelude.{is_ok, Err, Option, None, Some, is_none}
use mathlib.Core.Path.{◌≡◌, refl, sym, ap, ◌∙◌}
use mathlib.Core.Bool.{Bool, true, false, not, cond, and-eq-true_iff}
use mathlib.Core.List.{List, [], ◌∷◌, ◌++◌, append-nil}
use Prim.Native.Nat.{ℕ, zero, suc, ◌+◌, ◌-◌, ◌*◌, ◌≤◌, ◌<◌}
use native.Mathlib.Omega.{arith}
use lib.Dec.{T, ltb, eqb, eqb→eq, nleb→lt}
use lib.Ieee.Bits.{is_true}
use lib.ListN.{length, get_or, length-append}
use lib.Seq.{append_snoc}
use borrow.Author.Tests.{eqb-true, leb-true}
use Rattle.whole.proofs.Lists.{of_either}
use Rattle.rules.proofs.Accepted.{both}
use Rattle.rules.specs.declared.Refusal.TheVariants.{TooShort, WrongEdition, CountOutOfRange, WrongOffset, WrongLength, LoadOutOfRange, NinthLoad}
use Rattle.rules.specs.JobFile.{File, Wall, Load, Entry, this_edition, edition, wall_count, load_count, whole_length, header_bytes, entry_bytes, most_walls, most_loads, most_loads_on_wall, entries_at, wall_at, entry_at, records_from, walls, entries, wall_of, load_of, loads_on, first_bad_field, wall_fits, load_fits}
use Rattle.rules.specs.Answered.{refused_if, ◌or_else◌, counts_fit, offsets_fit, length_fits, wall_answer, first_bad_wall, is_there, numbered, entry_fits, is_one_more, first_bad_load, first_refusal, accepted, Answer, refused_at}

-- ---- records in file order, and the loads of a wall among them

-- as many records stand there as were asked for
pub records_length : (f : ℕ → List ℕ) (i n : ℕ) → length (records_from f i n) ≡ n
unfolding records_from
records_length f i zero = refl
records_length f i (suc n) = ap suc (records_length f (suc i) n)

-- each of them is the one that stands as far behind the first
pub record_at : (f : ℕ → List ℕ) (i n k : ℕ) → k < n → get_or (records_from f i n) k [] ≡ f (i + k)
unfolding records_from
record_at f i zero k h = absurd (omega arith)
record_at f i (suc n) zero h = ap f (omega arith)
record_at f i (suc n) (suc k) h = record_at f (suc i) n k (omega arith) ∙ ap f (omega arith)

-- one more record stands behind the others
pub records_more : (f : ℕ → List ℕ) (i n : ℕ) → records_from f i (suc n) ≡ records_from f i n ++ f (i + n) ∷ []
unfolding records_from
records_more f i zero = ap (λ (k : ℕ). f k ∷ []) (omega arith)
records_more f i (suc n) =
    let k : suc i + n ≡ i + suc n = omega arith in ap (λ (rest : List (List ℕ)). f i ∷ rest) (rw k at (records_more f (suc i) n))

-- the loads of a wall in two stretches of the file are those of the first, and then those of the second
pub loads_join : (n : ℕ) (es fs : List Entry) → loads_on n (es ++ fs) ≡ loads_on n es ++ loads_on n fs
unfolding loads_on
loads_join n [] fs = refl
loads_join n (e ∷ es) fs =
    rw (loads_join n es fs) (sym (of_either (λ (l : List Load). l ++ loads_on n fs) (eqb (wall_of e) n) (load_of e ∷ loads_on n es) (loads_on n es)))

-- the walls of a file, and its entries, are as many as its header says, and stand in the list as in the file
pub walls_length : (file : File) → length (walls file) ≡ wall_count file
unfolding walls
walls_length file = records_length (wall_at file) 0 (wall_count file)

pub entries_length : (file : File) → length (entries file) ≡ load_count file
unfolding entries
entries_length file = records_length (entry_at file) 0 (load_count file)

pub wall_at_lem : (file : File) (i : ℕ) → i < wall_count file → get_or (walls file) i [] ≡ wall_at file i
unfolding walls
wall_at_lem file i h = record_at (wall_at file) 0 (wall_count file) i h ∙ ap (wall_at file) (omega arith)

pub entry_at_lem : (file : File) (k : ℕ) → k < load_count file → get_or (entries file) k [] ≡ entry_at file k
unfolding entries
entry_at_lem file k h = record_at (entry_at file) 0 (load_count file) k h ∙ ap (entry_at file) (omega arith)

-- the walls that are there are numbered from 1
pub there_is : (file : File) (n : ℕ) → T (is_there n (walls file)) → (1 ≤ n) × (n ≤ wall_count file)
there_is file n t = omega (arith, leb-true, walls_length file, simp and-eq-true_iff at (is_true (is_there n (walls file)) t))

-- ---- tests that were passed

-- where the first refusal of two is none, there is neither
pub first_worked : (a b : Answer) → T (is_ok (a or_else b)) → T (is_ok a) × T (is_ok b)
first_worked a b t = go (is_ok a) refl t
  where
    go : (worked : Bool) → is_ok a ≡ worked → T (is_ok (cond worked b a)) → T (is_ok a) × T (is_ok b)
    go true e t = (rw e tt, t)
    go false e t = absurd (rw e at t)

-- where a refusal did not come, its test does not hold
pub not_refused : (test : Bool) (refusal : Refusal) → T (is_ok (refused_if test (Err refusal))) → T (not test)
not_refused true refusal t = absurd t
not_refused false refusal t = tt

-- and where it would come unless a test holds, that test does
pub passes : (test : Bool) (refusal : Refusal) → T (is_ok (refused_if (not test) (Err refusal))) → T test
passes true refusal t = tt
passes false refusal t = absurd t

-- so with other refusals behind it: the test holds, and there are none of those
step : (test : Bool) (refusal : Refusal) (rest : Answer) → T (is_ok (refused_if (not test) (Err refusal) or_else rest)) → T test × T (is_ok rest)
step test refusal rest t = let h = first_worked (refused_if (not test) (Err refusal)) rest t in (passes test refusal h.0, h.1)

-- what the tests from 2 on leave; test 1 asks for less than that of the length
record Passed (file : File) : Type 0 where
  one : T (eqb (edition file) this_edition)
  counts : T (counts_fit file)
  offsets : T (offsets_fit file)
  ended : T (length_fits file)
  no_bad_wall : T (is_ok (first_bad_wall 1 (walls file)))
  no_bad_load : T (is_ok (first_bad_load (walls file) [] 1 (entries file)))

passed : (file : File) → T (accepted file) → Passed file
unfolding first_refusal
passed file t =
    let past1 = (first_worked (refused_if (ltb (length file) header_bytes) (Err TooShort)) _ t).1 in
    let past2 = step (eqb (edition file) this_edition) WrongEdition _ past1 in
    let past3 = step (counts_fit file) CountOutOfRange _ past2.1 in
    let past4 = step (offsets_fit file) WrongOffset _ past3.1 in
    let past10 = step (length_fits file) WrongLength _ past4.1 in
    let past5 = first_worked (first_bad_wall 1 (walls file)) _ past10.1 in
    record { one = past2.0; counts = past3.0; offsets = past4.0; ended = past10.0; no_bad_wall = past5.0; no_bad_load = past5.1 }

-- ---- the header

-- its edition is the one that is read
pub edition_is : (file : File) → T (accepted file) → edition file ≡ this_edition
edition_is file t = eqb→eq (edition file) this_edition (passed file t).one

-- its counts are within their bounds
pub counts_fit_lem : (file : File) → T (accepted file) → T (counts_fit file)
counts_fit_lem file t = (passed file t).counts

-- its offsets are those that the counts give
pub offsets_fit_lem : (file : File) → T (accepted file) → T (offsets_fit file)
offsets_fit_lem file t = (passed file t).offsets

-- and so is its length, which is the input's
pub length_fits_lem : (file : File) → T (accepted file) → T (length_fits file)
length_fits_lem file t = (passed file t).ended

-- there is at least one wall, and there are no more than a file may have
pub walls_counted : (file : File) → T (counts_fit file) → (1 ≤ wall_count file) × (wall_count file ≤ most_walls)
unfolding counts_fit
walls_counted file t = omega (arith, leb-true, simp and-eq-true_iff at (is_true (counts_fit file) t))

pub wall_count_lem : (file : File) → T (accepted file) → (1 ≤ wall_count file) × (wall_count file ≤ most_walls)
wall_count_lem file t = walls_counted file (counts_fit_lem file t)

-- there are no more loads than a file may have
pub loads_counted : (file : File) → T (counts_fit file) → load_count file ≤ most_loads
unfolding counts_fit
loads_counted file t = omega (arith, leb-true, simp and-eq-true_iff at (is_true (counts_fit file) t))

pub load_count_lem : (file : File) → T (accepted file) → load_count file ≤ most_loads
load_count_lem file t = loads_counted file (counts_fit_lem file t)

-- the file is as long as its header says, and ends where its last load does
pub ends : (file : File) → T (length_fits file) → (whole_length file ≡ length file) × (whole_length file ≡ entries_at file + entry_bytes * load_count file)
unfolding length_fits
ends file t = omega (arith, eqb-true, simp and-eq-true_iff at (is_true (length_fits file) t))

pub length_is : (file : File) → T (accepted file) → length file ≡ entries_at file + entry_bytes * load_count file
length_is file t = let h = ends file (length_fits_lem file t) in sym h.0 ∙ h.1

-- ---- the walls

-- a wall that is passed fits, and no later one is refused
pub past_wall : (n : ℕ) (w : Wall) (ws : List Wall) → T (is_ok (first_bad_wall n (w ∷ ws))) → T (wall_fits w) × T (is_ok (first_bad_wall (suc n) ws))
unfolding wall_fits wall_answer first_bad_wall
past_wall n w ws t = let h = first_worked (wall_answer n w) (first_bad_wall (suc n) ws) t in (go (first_bad_field w) h.0, h.1)
  where
    go : (bad : Option ℕ) → T (is_ok (refused_at n bad)) → T (is_none bad)
    go None t = tt
    go (Some field) t = absurd t

-- where no wall of a list is refused, each fits
each_wall : (n : ℕ) (ws : List Wall) → T (is_ok (first_bad_wall n ws)) → (i : ℕ) → i < length ws → T (wall_fits (get_or ws i []))
each_wall n [] t i h = absurd (omega arith)
each_wall n (w ∷ ws) t zero h = (past_wall n w ws t).0
each_wall n (w ∷ ws) t (suc i) h = each_wall (suc n) ws (past_wall n w ws t).1 i (omega arith)

-- every wall has each field within its range
pub walls_fit : (file : File) → T (accepted file) → (i : ℕ) → i < wall_count file → T (wall_fits (wall_at file i))
walls_fit file t i h = rw (wall_at_lem file i) at (each_wall 1 (walls file) (passed file t).no_bad_wall i (rw walls_length h))

-- ---- the loads

-- an entry that is passed fits, is not one too many for its wall, and no later one is refused
pub past_load : (there : List Wall) (before : List Entry) (n : ℕ) (e : Entry) (es : List Entry) → T (is_ok (first_bad_load there before n (e ∷ es)))
    → T (entry_fits there e) × T (not (is_one_more before e)) × T (is_ok (first_bad_load there (before ++ e ∷ []) (suc n) es))
unfolding first_bad_load
past_load there before n e es t =
    let rest = first_bad_load there (before ++ e ∷ []) (suc n) es in
    let more = refused_if (is_one_more before e) (Err (NinthLoad n)) in
    let h = step (entry_fits there e) (LoadOutOfRange n) (more or_else rest) t in
    let k = first_worked more rest h.1 in
    (h.0, not_refused (is_one_more before e) (NinthLoad n) k.0, k.1)

-- where no load of a list is refused, each has a wall and fits it
each_load : (there : List Wall) (before : List Entry) (n : ℕ) (es : List Entry) → T (is_ok (first_bad_load there before n es))
    → (k : ℕ) → k < length es → T (entry_fits there (get_or es k []))
each_load there before n [] t k h = absurd (omega arith)
each_load there before n (e ∷ es) t zero h = (past_load there before n e es t).0
each_load there before n (e ∷ es) t (suc k) h =
    each_load there (before ++ e ∷ []) (suc n) es (past_load there before n e es t).2 k (omega arith)

-- every load's wall is there, and the load fits it
entry_fits_lem : (file : File) → T (accepted file) → (k : ℕ) → k < load_count file
    → T (is_there (wall_of (entry_at file k)) (walls file)) × T (load_fits (numbered (wall_of (entry_at file k)) (walls file)) (load_of (entry_at file k)))
unfolding entry_fits
entry_fits_lem file t k h =
    let e = entry_at file k in
    let fit = each_load (walls file) [] 1 (entries file) (passed file t).no_bad_load k (rw entries_length h) in
    both (is_there (wall_of e) (walls file)) (load_fits (numbered (wall_of e) (walls file)) (load_of e)) (rw (entry_at_lem file k) at fit)

-- every load names a wall of the file
pub load_has_wall : (file : File) → T (accepted file) → (k : ℕ) → k < load_count file
    → (1 ≤ wall_of (entry_at file k)) × (wall_of (entry_at file k) ≤ wall_count file)
load_has_wall file t k h = there_is file (wall_of (entry_at file k)) (entry_fits_lem file t k h).0

-- what every entry that names a wall has in its load, every load of the wall has
each_on : (p : Load → Bool) (n : ℕ) (es : List Entry)
    → ((k : ℕ) → k < length es → wall_of (get_or es k []) ≡ n → T (p (load_of (get_or es k []))))
    → (k : ℕ) → k < length (loads_on n es) → T (p (get_or (loads_on n es) k []))
unfolding loads_on
each_on p n [] all = λ k h. absurd (omega arith)
each_on p n (e ∷ es) all = go (eqb (wall_of e) n) refl (each_on p n es (λ k h. all (suc k) (omega arith)))
  where
    go : (on : Bool) → eqb (wall_of e) n ≡ on → ((k : ℕ) → k < length (loads_on n es) → T (p (get_or (loads_on n es) k [])))
        → (k : ℕ) → k < length (cond on (load_of e ∷ loads_on n es) (loads_on n es)) → T (p (get_or (cond on (load_of e ∷ loads_on n es) (loads_on n es)) k []))
    go true on rest zero h = all 0 (omega arith) (eqb-true (wall_of e) n on)
    go true on rest (suc k) h = rest k (omega arith)
    go false on rest k h = rest k h

-- a wall's loads fit the wall that they are on
pub loads_fit : (file : File) → T (accepted file) → (i : ℕ) → i < wall_count file → (k : ℕ) → k < length (loads_on (suc i) (entries file))
    → T (load_fits (wall_at file i) (get_or (loads_on (suc i) (entries file)) k []))
loads_fit file t i h = each_on (load_fits (wall_at file i)) (suc i) (entries file) one
  where
    one : (k : ℕ) → k < length (entries file) → wall_of (get_or (entries file) k []) ≡ suc i → T (load_fits (wall_at file i) (load_of (get_or (entries file) k [])))
    one k l e =
        let there : k < load_count file = rw entries_length at l in
        let index : suc i - 1 ≡ i = omega arith in
        let its : wall_of (entry_at file k) ≡ suc i = rw (entry_at_lem file k) at e in
        rw (entry_at_lem file k) (rw (its, index, wall_at_lem file i) at (entry_fits_lem file t k there).1)

-- a wall with no more loads than it may have has no more with the next entry that is passed
still_few : (n : ℕ) (before : List Entry) (e : Entry) → length (loads_on n before) ≤ most_loads_on_wall → T (not (is_one_more before e))
    → length (loads_on n (before ++ e ∷ [])) ≤ most_loads_on_wall
unfolding is_one_more loads_on
still_few n before e few room = rw (loads_join n before (e ∷ []), length-append) (go (eqb (wall_of e) n) refl)
  where
    less : length (loads_on (wall_of e) before) < most_loads_on_wall
    less = nleb→lt most_loads_on_wall (length (loads_on (wall_of e) before)) room

    go : (on : Bool) → eqb (wall_of e) n ≡ on → length (loads_on n before) + length (cond on (load_of e ∷ []) []) ≤ most_loads_on_wall
    go true on = omega (arith, rw (eqb-true (wall_of e) n on) at less)
    go false on = omega arith

-- and to the end, where no load is refused
pub few_from : (n : ℕ) (there : List Wall) (before : List Entry) (first : ℕ) (es : List Entry) → T (is_ok (first_bad_load there before first es))
    → length (loads_on n before) ≤ most_loads_on_wall → length (loads_on n (before ++ es)) ≤ most_loads_on_wall
few_from n there before first [] t few = rw append-nil few
few_from n there before first (e ∷ es) t few =
    let past = past_load there before first e es t in
    rw append_snoc at (few_from n there (before ++ e ∷ []) (suc first) es past.2 (still_few n before e few past.1))

-- no wall has more loads than it may
pub few_loads : (file : File) → T (accepted file) → (n : ℕ) → length (loads_on n (entries file)) ≤ most_loads_on_wall
unfolding loads_on
few_loads file t n = few_from n (walls file) [] 1 (entries file) (passed file t).no_bad_load (omega arith)
