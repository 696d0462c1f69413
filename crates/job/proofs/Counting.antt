-- A count for each wall goes along with the loads that are passed, and by it the next one is answered.
use mathlib.Core.Path.{◌≡◌, refl, ◌∙◌}
use mathlib.Core.Bool.{Bool, true, false}
use mathlib.Core.List.{List, [], ◌∷◌, ◌++◌, append-nil}
use Prim.Native.Nat.{ℕ, suc, ◌+◌, ◌≤◌, ◌<◌}
use native.Mathlib.Omega.{arith}
use native.Mathlib.Numerals.{add-one}
use borrow.Author.Tests.{leb-false, eq-eqb, ne_eqb}
use lib.Dec.{T, leb, leb→le}
use lib.ListN.{length, get_or, set, replicate, length-append}
use Rattle.std.specs.Prelude.{is_ok, Ok, Err, ⊤}
use Rattle.rules.specs.declared.Refusal.TheVariants.{NinthLoad}
use Rattle.rules.specs.JobFile.{Wall, Entry, most_loads_on_wall, most_walls, records_from, wall_of, load_of, loads_on, load_fits}
use Rattle.rules.specs.Answered.{Answer, refused_if, is_there, numbered, entry_fits}
use Rattle.rules.proofs.Accepted.{both}
use Rattle.rules.proofs.AcceptedFile.{loads_join}
use Rattle.rules.specs.Beyond.{load_answer}
use Rattle.job.proofs.Passed.{passed_loads, one_more, Kept, none_kept, one_kept}
use Rattle.job.proofs.Judging.{no_refusal, load_answer_at}

-- how many of some entries are on a wall
abbrev pub count_on : List Entry → ℕ → ℕ
count_on es n = length (loads_on n es)

-- those passed are counted
abbrev pub Counted : (ℕ → Entry) → ℕ → List ℕ → Type 0
Counted entry_at i counts = Kept count_on 0 (suc most_walls) 0 (passed_loads entry_at i) counts

pub none_counted : (entry_at : ℕ → Entry) → Counted entry_at 0 (replicate (suc most_walls) 0)
unfolding loads_on records_from
none_counted entry_at = none_kept 0 (λ n. refl)

-- one more makes no difference to any wall but its own, and there it is one more
not_counted : (es : List Entry) (e : Entry) (n : ℕ) → (wall_of e ≡ n → ⊥) → count_on (es ++ e ∷ []) n ≡ count_on es n
unfolding loads_on
not_counted es e n off = rw (loads_join, ne_eqb (wall_of e) n, append-nil)

counted_once : (es : List Entry) (e : Entry) → count_on es (wall_of e) + 1 ≡ count_on (es ++ e ∷ []) (wall_of e)
unfolding loads_on
counted_once es e = rw (loads_join, eq-eqb (wall_of e) (wall_of e) refl, length-append)

-- a load that fits is on one of the walls that there are
has_wall : (there : List Wall) (entry : Entry) → T (entry_fits there entry) → wall_of entry ≤ length there
unfolding entry_fits
has_wall there entry t =
    let n = wall_of entry in
    let is-there = (both (is_there n there) (load_fits (numbered n there) (load_of entry)) t).0 in
    leb→le n (length there) (both (leb 1 n) (leb n (length there)) is-there).1

-- how many were passed matters only where the load fits
by_count : (fits : Bool) (m n number : ℕ) → (T fits → m ≡ n) → load_answer fits m number ≡ load_answer fits n number
by_count true m n number same = rw (same tt)
by_count false m n number same = refl

-- a load that is passed fits, and has room on its wall
room_for : (fits : Bool) (passed number : ℕ) → T (is_ok (load_answer fits passed number)) → T fits × (passed < most_loads_on_wall)
room_for true passed number t = (tt, go (leb most_loads_on_wall passed) refl t)
  where
    go : (more : Bool) → leb most_loads_on_wall passed ≡ more → T (is_ok (refused_if more (Err (NinthLoad number)))) → passed < most_loads_on_wall
    go true e t = absurd t
    go false e t = leb-false most_loads_on_wall passed e
room_for false passed number t = absurd t

-- the load at an index is met: its entry is read, those on its wall are counted, and it is answered
pub record Met (there : List Wall) (entry_at : ℕ → Entry) (i : ℕ) (counts : List ℕ) (entry : Entry) (passed : ℕ) (answer : Answer) : Type 0 where
  pub few : length there ≤ most_walls
  pub counted : Counted entry_at i counts
  pub its : entry ≡ entry_at i
  pub count : passed ≡ get_or counts (wall_of entry) 0
  pub answered : answer ≡ load_answer (entry_fits there entry) passed (i + 1)

module _ {there : List Wall} {entry_at : ℕ → Entry} {i : ℕ} {counts : List ℕ} {entry : Entry} {passed : ℕ} {answer : Answer}
    (met : Met there entry_at i counts entry passed answer) where
  right : T (entry_fits there entry) → passed ≡ count_on (passed_loads entry_at i) (wall_of entry)
  right t =
      let k : 0 + wall_of entry ≡ wall_of entry = omega arith in
      met.count ∙ met.counted.row (wall_of entry) (omega (arith, has_wall there entry t, met.few)) ∙ rw k

  -- that is its answer
  pub its_answer : answer ≡ load_answer_at there entry_at i
  its_answer = met.answered ∙ rw (← met.its) (by_count (entry_fits there entry) _ _ (i + 1) right)

  module _ {well : ⊤} (e : answer ≡ Ok well) where
    fits : T (entry_fits there entry) × (passed < most_loads_on_wall)
    fits = room_for (entry_fits there entry) passed (i + 1) (no_refusal met.answered e)

    -- where it is passed, its wall has a count, and room for it
    pub has_room : (wall_of entry ≤ most_walls) × (passed < most_loads_on_wall)
    has_room = (omega (arith, has_wall there entry fits.0, met.few), fits.1)

    -- and it is counted
    pub one_counted : Counted entry_at (i + 1) (set counts (wall_of entry) (passed + 1))
    one_counted =
        let k : 0 + wall_of entry ≡ wall_of entry = omega arith in
        rw (add-one i, one_more entry_at i, ← met.its)
        (one_kept not_counted met.counted entry (wall_of entry) (passed + 1) (omega (arith, has_room.0)) k (rw (right fits.0) (counted_once (passed_loads entry_at i) entry)))
