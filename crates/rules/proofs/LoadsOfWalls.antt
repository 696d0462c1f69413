-- Which loads a wall has: those that name it, in file order. So none is lost between two walls, and none is on both.
use mathlib.Core.Path.{◌≡◌, refl, sym, ap, ◌∙◌}
use mathlib.Core.Bool.{Bool, true, false, ◌||◌, cond}
use mathlib.Core.List.{List, [], ◌∷◌, map}
use Prim.Native.Nat.{ℕ, zero, suc, ◌+◌, ◌-◌, ◌≤◌, ◌<◌}
use native.Mathlib.Omega.{arith}
use lib.Dec.{T, eqb, eqb→eq}
use lib.ListN.{length, get_or}
use borrow.Author.Tests.{eq-eqb}
use Rattle.whole.proofs.Lists.{of_either, case}
use Rattle.rules.proofs.Accepted.{either}
use Rattle.rules.proofs.AcceptedFile.{entry_at_lem, entries_length, load_has_wall}
use Rattle.rules.specs.JobFile.{File, Load, Entry, wall_count, load_count, entry_at, records_from, entries, wall_of, load_of, loads_on, numbers_on, among}
use Rattle.rules.specs.Answered.{accepted}

-- ---- the numbers of a wall's loads

-- of any records: the loads of a wall are those that have its numbers, which are one more than the records' indices
loads_from : (f : ℕ → Entry) (n i count : ℕ)
    → loads_on n (records_from f i count) ≡ map (λ number. load_of (f (number - 1))) (numbers_on n (suc i) (records_from f i count))
unfolding loads_on numbers_on records_from
loads_from f n i zero = refl
loads_from f n i (suc count) =
    let index : suc i - 1 ≡ i = omega arith in
    let its : ℕ → Load = λ number. load_of (f (number - 1)) in
    let rest = numbers_on n (suc (suc i)) (records_from f (suc i) count) in
    rw (loads_from f n (suc i) count, of_either (map its) (eqb (wall_of (f i)) n) (suc i ∷ rest) rest, index)

-- of a file's entries: the loads of a wall are those that have its numbers
pub loads_are : (file : File) (n : ℕ)
    → loads_on n (entries file) ≡ map (λ number. load_of (entry_at file (number - 1))) (numbers_on n 1 (entries file))
unfolding entries
loads_are file n = loads_from (entry_at file) n 0 (load_count file)

-- ---- where its numbers lie

-- one of two tests holds where the second does
or_right : (a b : Bool) → T b → T (a || b)
or_right true b t = tt
or_right false b t = t

-- every element of a list is among them
element_among : (ms : List ℕ) (k : ℕ) → k < length ms → T (among (get_or ms k 0) ms)
unfolding among
element_among [] k h = absurd (omega arith)
element_among (m ∷ ms) zero h = rw (eq-eqb m m refl) tt
element_among (m ∷ ms) (suc k) h = or_right (eqb (get_or ms k 0) m) (among (get_or ms k 0) ms) (element_among ms k (omega arith))

-- a number of a wall is the first entry's, which then names the wall, or it is a later entry's
first_or_later : {P : Type 0} (n first : ℕ) (e : Entry) (es : List Entry) (m : ℕ) → T (among m (numbers_on n first (e ∷ es)))
    → (m ≡ first → wall_of e ≡ n → P) → (T (among m (numbers_on n (suc first) es)) → P) → P
unfolding among numbers_on
first_or_later {P} n first e es m t here later =
    let rest = numbers_on n (suc first) es in
    case (eqb (wall_of e) n) (first ∷ rest) rest (λ l. T (among m l) → P)
    (λ on t. either (eqb m first) (among m rest) t (λ same. here (eqb→eq m first same) (eqb→eq (wall_of e) n on)) later) (λ off t. later t) t

-- and the later entries' numbers stay numbers of the wall
later_too : (n first : ℕ) (e : Entry) (es : List Entry) (m : ℕ) → T (among m (numbers_on n (suc first) es)) → T (among m (numbers_on n first (e ∷ es)))
unfolding among numbers_on
later_too n first e es m t =
    let rest = numbers_on n (suc first) es in
    case (eqb (wall_of e) n) (first ∷ rest) rest (λ l. T (among m l)) (λ on. or_right (eqb m first) (among m rest) t) (λ off. t)

-- a number of a wall is no lower than the first entry's, and no higher than the last one's
numbers_between : (n first : ℕ) (es : List Entry) (m : ℕ) → T (among m (numbers_on n first es)) → (first ≤ m) × (m < first + length es)
unfolding among numbers_on
numbers_between n first [] m t = absurd t
numbers_between n first (e ∷ es) m t =
    first_or_later n first e es m t (λ same on. omega arith) (λ later. omega (arith, numbers_between n (suc first) es m later))

-- a wall's numbers ascend, and so its loads keep the order of the file
pub numbers_ascend : (n first : ℕ) (es : List Entry) (j k : ℕ) → j < k → k < length (numbers_on n first es)
    → get_or (numbers_on n first es) j 0 < get_or (numbers_on n first es) k 0
unfolding numbers_on
numbers_ascend n first [] = λ j k less h. absurd (omega arith)
numbers_ascend n first (e ∷ es) = go (eqb (wall_of e) n) (numbers_ascend n (suc first) es)
  where
    rest : List ℕ
    rest = numbers_on n (suc first) es

    go : (on : Bool) → ((j k : ℕ) → j < k → k < length rest → get_or rest j 0 < get_or rest k 0)
        → (j k : ℕ) → j < k → k < length (cond on (first ∷ rest) rest) → get_or (cond on (first ∷ rest) rest) j 0 < get_or (cond on (first ∷ rest) rest) k 0
    go true ascend j zero less h = absurd (omega arith)
    go true ascend zero (suc k) less h = (numbers_between n (suc first) es (get_or rest k 0) (element_among rest k (omega arith))).0
    go true ascend (suc j) (suc k) less h = ascend j k (omega arith) (omega arith)
    go false ascend j k less h = ascend j k less h

-- ---- one wall for each load

-- an entry's number is among those of the wall that it names
number_there : (n first : ℕ) (es : List Entry) (k : ℕ) → k < length es → wall_of (get_or es k []) ≡ n → T (among (first + k) (numbers_on n first es))
unfolding among numbers_on
number_there n first [] k h its = absurd (omega arith)
number_there n first (e ∷ es) zero h its =
    let here : first + 0 ≡ first = omega arith in rw (eq-eqb (wall_of e) n its, here, eq-eqb first first refl) tt
number_there n first (e ∷ es) (suc k) h its =
    let further : first + suc k ≡ suc first + k = omega arith in
    later_too n first e es (first + suc k) (rw further (number_there n (suc first) es k (omega arith) its))

-- and where it is among a wall's numbers, the entry names that wall
named : (n first : ℕ) (es : List Entry) (k : ℕ) → k < length es → T (among (first + k) (numbers_on n first es)) → n ≡ wall_of (get_or es k [])
named n first [] k h t = absurd (omega arith)
named n first (e ∷ es) zero h t =
    first_or_later n first e es (first + 0) t (λ same on. sym on) (λ later. absurd (omega (arith, numbers_between n (suc first) es (first + 0) later)))
named n first (e ∷ es) (suc k) h t =
    let further : first + suc k ≡ suc first + k = omega arith in
    first_or_later n first e es (first + suc k) t (λ same on. absurd (omega arith)) (λ later. named n (suc first) es k (omega arith) (rw further at later))

-- a load's number is among those of the wall that it names
on_its_wall : (file : File) (k : ℕ) → k < load_count file → T (among (suc k) (numbers_on (wall_of (entry_at file k)) 1 (entries file)))
on_its_wall file k h =
    let number : 1 + k ≡ suc k = omega arith in
    rw number at (number_there (wall_of (entry_at file k)) 1 (entries file) k (rw entries_length h) (ap wall_of (entry_at_lem file k h)))

-- and among no other wall's
on_no_other : (file : File) (k n : ℕ) → k < load_count file → T (among (suc k) (numbers_on n 1 (entries file))) → n ≡ wall_of (entry_at file k)
on_no_other file k n h t =
    let number : suc k ≡ 1 + k = omega arith in
    named n 1 (entries file) k (rw entries_length h) (rw number at t) ∙ ap wall_of (entry_at_lem file k h)

-- the one wall that a load is on
pub record OnOneWall (file : File) (k : ℕ) : Type 0 where
  pub wall : ℕ
  pub there : (1 ≤ wall) × (wall ≤ wall_count file)
  pub has : T (among (suc k) (numbers_on wall 1 (entries file)))
  pub only : (n : ℕ) → T (among (suc k) (numbers_on n 1 (entries file))) → n ≡ wall

-- every load of an accepted file is on exactly one wall
pub on_one_wall : (file : File) → T (accepted file) → (k : ℕ) → k < load_count file → OnOneWall file k
on_one_wall file t k h =
    record {
      wall = wall_of (entry_at file k);
      there = load_has_wall file t k h;
      has = on_its_wall file k h;
      only = λ n. on_no_other file k n h;
    }
