-- The loads of a wall as the code hands them on: eight rows each, with nothing but zeros after the last load; and the table that says where they stand.
use Rattle.std.specs.Prelude.{ℕ, zero, suc, List, [], ◌∷◌, map}
use Rattle.rules.specs.JobFile.{File, Load, Entry, most_walls, most_loads_on_wall, entry_at, records_from, load_of, numbers_on}

-- as many as asked for: the first of a list, and behind its last what stands for nothing
unfoldable pub padded : {A : Type 0} → A → ℕ → List A → List A
padded none zero xs = []
padded none (suc n) [] = none ∷ padded none n []
padded none (suc n) (x ∷ xs) = x ∷ padded none n xs

-- a load that is absent
abbrev pub no_load : Load
no_load = 0 ∷ 0 ∷ 0 ∷ 0 ∷ []

-- the numbers of the loads on a wall, eight of them, 0 where there are no more
unfoldable pub places_on : List Entry → ℕ → List ℕ
places_on entries n = padded 0 most_loads_on_wall (numbers_on n 1 entries)

-- the table of places: a row for each wall that a file may have, wall number 1 first
unfoldable pub place_table : List Entry → List (List ℕ)
place_table entries = records_from (places_on entries) 1 most_walls

-- a row of places with one more number, in the first place that is free
unfoldable pub with_place : List ℕ → ℕ → List ℕ
with_place [] number = []
with_place (zero ∷ rest) number = number ∷ rest
with_place (suc taken ∷ rest) number = suc taken ∷ with_place rest number

-- the load with a number, from 1; number 0 is no load
unfoldable pub load_numbered : File → ℕ → Load
load_numbered file zero = no_load
load_numbered file (suc i) = load_of (entry_at file i)

-- the loads at a row of places
unfoldable pub loads_at : File → List ℕ → List Load
loads_at file places = map (load_numbered file) places
