-- The places of a wall's loads: an entry's number goes into the first place of its wall's row that is free, and what is read at a wall's row are that
-- wall's loads. The laws that the loops cite, and the theorems for the layers above.
use mathlib.Core.Path.{◌≡◌, refl, sym, ap, ap₂, ◌∙◌}
use mathlib.Core.List.{List, [], ◌∷◌, ◌++◌, map, append-nil}
use Prim.Native.Nat.{ℕ, zero, suc, ◌+◌, ◌-◌, ◌≤◌, ◌<◌}
use native.Mathlib.Omega.{arith}
use native.Mathlib.Numerals.{add-one}
use lib.Dec.{T, eqb}
use lib.ListN.{length, get_or, set, replicate}
use lib.Seq.{ext_get_or}
use borrow.Author.Tests.{eq-eqb, ne_eqb}
use Rattle.whole.proofs.Lists.{of_either}
use Rattle.rules.specs.JobFile.{File, Load, Entry, wall_count, most_walls, most_loads_on_wall, entry_at, records_from, entries, wall_of, load_of, loads_on, numbers_on}
use Rattle.rules.specs.Answered.{accepted}
use Rattle.rules.proofs.AcceptedFile.{records_length, record_at, wall_count_lem, few_loads}
use Rattle.rules.proofs.LoadsOfWalls.{loads_are}
use Rattle.rules.proofs.Absent.{Absent}
use Rattle.job.specs.Places.{padded, no_load, places_on, place_table, with_place, load_numbered, loads_at}
use Rattle.job.proofs.Passed.{passed_loads, one_more, Kept, none_kept, one_kept, still_kept}

-- ---- filled up to a number

-- behind the last comes what stands for nothing, as often as one is missing
padded_is : {A : Type 0} (none : A) (n : ℕ) (xs : List A) → length xs ≤ n → padded none n xs ≡ xs ++ replicate (n - length xs) none
unfolding padded
padded_is none zero [] h = refl
padded_is none zero (x ∷ xs) h = absurd (omega arith)
padded_is {A} none (suc n) [] h =
    let missing : suc n - 0 ≡ suc (n - 0) = omega arith in
    rw missing (ap (λ (rest : List A). none ∷ rest) (padded_is none n [] (omega arith)))
padded_is {A} none (suc n) (x ∷ xs) h =
    let missing : suc n - suc (length xs) ≡ n - length xs = omega arith in
    rw missing (ap (λ (rest : List A). x ∷ rest) (padded_is none n xs (omega arith)))

-- what is made of each is made of what stands for nothing too
map_padded : {A B : Type 0} (f : A → B) (none : A) (n : ℕ) (xs : List A) → map f (padded none n xs) ≡ padded (f none) n (map f xs)
unfolding padded
map_padded f none zero xs = refl
map_padded {B = B} f none (suc n) [] = ap (λ (rest : List B). f none ∷ rest) (map_padded f none n [])
map_padded {B = B} f none (suc n) (x ∷ xs) = ap (λ (rest : List B). f x ∷ rest) (map_padded f none n xs)

-- ---- the numbers of a wall's loads

-- where the first entry has a number higher by one, each has
numbers_up : (n first : ℕ) (es : List Entry) → numbers_on n (suc first) es ≡ map suc (numbers_on n first es)
unfolding numbers_on
numbers_up n first [] = refl
numbers_up n first (e ∷ es) = rw (numbers_up n (suc first) es) (sym (of_either (map suc) (eqb (wall_of e) n) _ _))

-- the numbers of two stretches of the file are those of the first, and then those of the second
numbers_join : (n first : ℕ) (es fs : List Entry) → numbers_on n first (es ++ fs) ≡ numbers_on n first es ++ numbers_on n (length es + first) fs
unfolding numbers_on
numbers_join n first [] fs = ap (λ (k : ℕ). numbers_on n k fs) (omega arith)
numbers_join n first (e ∷ es) fs =
    let further : suc (length es) + first ≡ length es + suc first = omega arith in
    rw (further, numbers_join n (suc first) es fs) (sym (of_either (λ (ks : List ℕ). ks ++ numbers_on n (length es + suc first) fs) (eqb (wall_of e) n) _ _))

-- ---- a row of places

-- the first that is free is behind the last number, as none is 0
place_after : (n : ℕ) (ks : List ℕ) (number : ℕ) → with_place (padded 0 n (map suc ks)) number ≡ padded 0 n (map suc ks ++ number ∷ [])
unfolding padded with_place
place_after zero ks number = refl
place_after (suc n) [] number = refl
place_after (suc n) (k ∷ ks) number = ap (λ (rest : List ℕ). suc k ∷ rest) (place_after n ks number)

-- one more entry has its number in the row of the wall that it names
its_row : (es : List Entry) (e : Entry) → with_place (places_on es (wall_of e)) (length es + 1) ≡ places_on (es ++ e ∷ []) (wall_of e)
unfolding places_on numbers_on
its_row es e =
    rw (numbers_join, eq-eqb (wall_of e) (wall_of e) refl, numbers_up (wall_of e) 0 es) (place_after most_loads_on_wall (numbers_on (wall_of e) 0 es) (length es + 1))

-- and the row of any other wall stays
other_row : (es : List Entry) (e : Entry) (n : ℕ) → (wall_of e ≡ n → ⊥) → places_on (es ++ e ∷ []) n ≡ places_on es n
unfolding places_on numbers_on
other_row es e n off = rw (numbers_join, ne_eqb (wall_of e) n, append-nil)

-- ---- the table of places

-- a table that goes along with the entries passed
abbrev pub Placed : File → ℕ → List (List ℕ) → Type 0
Placed file i table = Kept places_on 1 most_walls [] (passed_loads (entry_at file) i) table

pub begun : (file : File) → Placed file 0 (replicate most_walls (replicate most_loads_on_wall 0))
unfolding records_from places_on padded numbers_on
begun file = none_kept (replicate most_loads_on_wall 0) (λ n. refl)

module _ (file : File) (i : ℕ) (table : List (List ℕ)) (placed : Placed file i table) where
  module _ (entry : Entry) (its : entry ≡ entry_at file i) where
    -- the next entry gets a place, where its wall has a row
    pub one_placed : 1 ≤ wall_of entry → wall_of entry ≤ most_walls → (row : List ℕ) → row ≡ with_place (get_or table (wall_of entry - 1) []) (i + 1)
        → Placed file (i + 1) (set table (wall_of entry - 1) row)
    one_placed low high row e =
        let number : 1 + (wall_of entry - 1) ≡ wall_of entry = omega arith in
        let there : wall_of entry - 1 < most_walls = omega arith in
        rw (add-one, one_more, ← its)
        (one_kept other_row placed entry _ row there number (e ∙ rw (placed.row _ there, number) (rw records_length at (its_row (passed_loads (entry_at file) i) entry))))

    -- and otherwise none
    pub none_placed : (1 ≤ wall_of entry → wall_of entry ≤ most_walls → ⊥) → Placed file (i + 1) table
    none_placed out = rw (add-one, one_more, ← its) (still_kept other_row placed entry (λ k h same. out (omega arith) (omega arith)))

  -- in the end it is the table of them all
  pub all_placed : table ≡ place_table (passed_loads (entry_at file) i)
  unfolding place_table
  all_placed =
      let made = places_on (passed_loads (entry_at file) i) in
      ext_get_or [] table (records_from made 1 most_walls) (placed.rows ∙ sym (records_length made 1 most_walls))
      (λ k h. let l : k < most_walls = omega (arith, placed.rows) in placed.row k l ∙ sym (record_at made 1 most_walls k l))

-- ---- the loads at a row of places

-- the load with a number stands at the index one less
pub load_at : (file : File) (number : ℕ) → 1 ≤ number → load_numbered file number ≡ load_of (entry_at file (number - 1))
unfolding load_numbered
load_at file zero low = absurd (omega arith)
load_at file (suc i) low = ap (λ (k : ℕ). load_of (entry_at file k)) (omega arith)

-- and so do all of them
loads_at_lem : (file : File) (ks : List ℕ) → map (load_numbered file) (map suc ks) ≡ map (λ number. load_of (entry_at file (number - 1))) (map suc ks)
loads_at_lem file [] = refl
loads_at_lem file (k ∷ ks) = ap₂ (λ (load : Load) (loads : List Load). load ∷ loads) (load_at file (suc k) (omega arith)) (loads_at_lem file ks)

-- what is read at the row of a wall's index are the wall's loads, the first eight of them, in file order, and behind the last none
pub loads_of_wall : (file : File) (i : ℕ) → i < most_walls
    → loads_at file (get_or (place_table (entries file)) i []) ≡ padded no_load most_loads_on_wall (loads_on (suc i) (entries file))
unfolding loads_at load_numbered places_on place_table
loads_of_wall file i h =
    let number : 1 + i ≡ suc i = omega arith in
    rw (record_at (places_on (entries file)) 1 most_walls i h, number, map_padded, loads_are, numbers_up, loads_at_lem)

-- ---- what is read of an accepted file

-- a row of zeros is an absent load
pub absent : Absent no_load
absent = record { down = refl; at_toe = refl; dead = refl; live = refl }

module _ (file : File) (t : T (accepted file)) (i : ℕ) (h : i < wall_count file) where
  -- all of the wall's loads are read, and the other rows are absent loads
  pub rows_of_wall : loads_at file (get_or (place_table (entries file)) i [])
      ≡ loads_on (suc i) (entries file) ++ replicate (most_loads_on_wall - length (loads_on (suc i) (entries file))) no_load
  rows_of_wall =
      let few = (wall_count_lem file t).1 in
      loads_of_wall file i (omega arith) ∙ padded_is no_load most_loads_on_wall (loads_on (suc i) (entries file)) (few_loads file t (suc i))

  -- and with them there are no more than a wall may have
  pub room_for_rows : length (loads_on (suc i) (entries file)) + (most_loads_on_wall - length (loads_on (suc i) (entries file))) ≤ most_loads_on_wall
  room_for_rows = omega (arith, few_loads file t (suc i))
