-- What it tells of one wall with its loads that they are worked and not refused: the wall fits, each load fits it, and there are no more than a wall may have.
use Rattle.rules.proofs.Accepted.{no_bad_field}
use Rattle.std.specs.Prelude.{is_ok, Option, Some, None, Ok, Err}
use mathlib.Core.Path.{◌≡◌, refl, ap}
use mathlib.Core.Bool.{Bool, true, false, not, cond}
use mathlib.Core.List.{List, [], ◌∷◌, ◌++◌, map}
use Prim.Native.Nat.{ℕ, suc, ◌+◌, ◌≤◌, ◌<◌}
use native.Mathlib.Omega.{arith}
use lib.Dec.{T, leb-zero}
use lib.ListN.{length, replicate, length-append, length-replicate, get_or-replicate}
use lib.Ieee.Bits.{is_true}
use borrow.Author.Tests.{le-ltb, lt-leb, eq-eqb}
use Rattle.whole.proofs.Lists.{All, all_joined, all_apart, all_of}
use Rattle.rules.specs.declared.Refusal.TheVariants.{LoadOutOfRange}
use Rattle.rules.specs.JobFile.{File, Wall, Load, Entry, header_bytes, this_edition, edition, wall_count, most_loads_on_wall, wall_at, walls, entries, loads_on, first_bad_field, wall_fits, direction, position, dead_load, live_load, load_fits}
use Rattle.rules.specs.Answered.{refused_if, ◌or_else◌, counts_fit, offsets_fit, length_fits, wall_answer, first_bad_wall, entry_fits, is_one_more, first_bad_load, first_refusal, accepted, Answer, refused_at}
use Rattle.rules.specs.Beyond.{first_unfit, alone, examined, fits}
use Rattle.rules.proofs.AcceptedFile.{loads_join, first_worked, walls_fit, past_wall, past_load, loads_fit, few_from, few_loads}

-- each load fits the wall
abbrev pub Suits : Wall → Load → Type 0
Suits wall load = T (load_fits wall load)

abbrev pub AllFit : Wall → List Load → Type 0
AllFit wall loads = All (Suits wall) loads

pub record Fit (wall : Wall) (loads : List Load) : Type 0 where
  pub wall_fits : T (wall_fits wall)
  pub loads_fit : AllFit wall loads
  pub few : length loads ≤ most_loads_on_wall

-- ---- the loads one after the other

-- the loads that are made entries of wall 1 are its loads
pub loads_alone : (loads : List Load) → loads_on 1 (map alone loads) ≡ loads
unfolding loads_on
loads_alone [] = refl
loads_alone (load ∷ rest) = ap (λ (loads : List Load). load ∷ loads) (loads_alone rest)

abbrev pub refused_load : Option ℕ → Answer
refused_load None = Ok tt
refused_load (Some number) = Err (LoadOutOfRange number)

module _ (wall : Wall) where
  -- as long as the wall has no more loads than it may, a load is refused only where it doesn't fit
  never_ninth : (before : List Entry) (n : ℕ) (loads : List Load) → length (loads_on 1 before) + length loads ≤ most_loads_on_wall
      → first_bad_load (wall ∷ []) before (suc n) (map alone loads) ≡ refused_load (first_unfit wall (suc n) loads)
  unfolding first_bad_load entry_fits is_one_more loads_on first_unfit
  never_ninth before n [] h = refl
  never_ninth before n (load ∷ rest) h =
      let less : length (loads_on 1 before) < most_loads_on_wall = omega arith in
      let room : length (loads_on 1 (before ++ alone load ∷ [])) + length rest ≤ most_loads_on_wall = rw (loads_join, length-append) (omega arith) in
      rw (lt-leb most_loads_on_wall (length (loads_on 1 before)), never_ninth (before ++ alone load ∷ []) (suc n) rest)
      (go (load_fits wall load) (first_unfit wall (suc (suc n)) rest))
    where
      go : (fits : Bool) (next : Option ℕ) → (refused_if (not fits) (Err (LoadOutOfRange (suc n))) or_else refused_load next) ≡ refused_load (cond fits next (Some (suc n)))
      go true next = refl
      go false next = refl

  -- a wall with no more loads than it may have is examined by itself, and then load after load
  pub examined_is : (loads : List Load) → length loads ≤ most_loads_on_wall
      → examined wall loads ≡ (wall_answer 1 wall or_else refused_load (first_unfit wall 1 loads))
  unfolding examined wall_answer first_bad_wall loads_on
  examined_is loads few = rw (never_ninth [] 0 loads (omega arith)) (go (first_bad_field wall) (refused_load (first_unfit wall 1 loads)))
    where
      go : (bad : Option ℕ) (rest : Answer) → ((refused_at 1 bad or_else Ok tt) or_else rest) ≡ (refused_at 1 bad or_else rest)
      go None rest = refl
      go (Some field) rest = refl

  -- ---- what is worked fits, and what fits is worked

  -- where no load is refused, each fits
  all_passed : (before : List Entry) (n : ℕ) (loads : List Load) → T (is_ok (first_bad_load (wall ∷ []) before n (map alone loads))) → AllFit wall loads
  unfolding entry_fits
  all_passed before n [] t = tt
  all_passed before n (load ∷ rest) t =
      let past = past_load (wall ∷ []) before n (alone load) (map alone rest) t in
      (past.0, all_passed (before ++ alone load ∷ []) (suc n) rest past.2)

  -- and where each fits, none is refused
  none_unfit : (n : ℕ) (loads : List Load) → AllFit wall loads → first_unfit wall n loads ≡ None
  unfolding first_unfit
  none_unfit n [] all = refl
  none_unfit n (load ∷ rest) all = rw (is_true (load_fits wall load) all.0) (none_unfit (suc n) rest all.1)

  -- of a wall and loads that are worked, the wall fits, each load fits it, and they are not too many
  pub fit : (loads : List Load) → T (fits wall loads) → Fit wall loads
  unfolding examined loads_on
  fit loads t =
      let h = first_worked (first_bad_wall 1 (wall ∷ [])) (first_bad_load (wall ∷ []) [] 1 (map alone loads)) t in
      record {
        wall_fits = (past_wall 1 wall [] h.0).0;
        loads_fit = all_passed [] 1 loads h.1;
        few = rw loads_alone at (few_from 1 (wall ∷ []) [] 1 (map alone loads) h.1 (omega arith));
      }

  -- and where this is so, they are worked
  pub worked : (loads : List Load) → Fit wall loads → examined wall loads ≡ Ok tt
  unfolding wall_answer
  worked loads f = rw (examined_is loads f.few, no_bad_field wall f.wall_fits, none_unfit 1 loads f.loads_fit)

  -- so that the test of them holds
  pub fits_of : (loads : List Load) → Fit wall loads → T (fits wall loads)
  fits_of loads f = rw (worked loads f) tt

  -- ---- other loads

  -- the wall fits with any that each fit it, and are not too many
  others : {loads these : List Load} → Fit wall loads → AllFit wall these → length these ≤ most_loads_on_wall → Fit wall these
  others f each less = record { wall_fits = f.wall_fits; loads_fit = each; few = less }

  -- what fits joined fits in its parts, and in either order
  pub joined : (first second : List Load) → T (fits wall (first ++ second))
      → T (fits wall first) × T (fits wall second) × T (fits wall (second ++ first))
  joined first second t =
      let whole = fit (first ++ second) t in
      let all = all_apart (Suits wall) first second whole.loads_fit in
      let few : length first + length second ≤ most_loads_on_wall = rw length-append at whole.few in (
        fits_of first (others whole all.0 (omega arith)),
        fits_of second (others whole all.1 (omega arith)),
        fits_of (second ++ first) (others whole (all_joined (Suits wall) second first all.1 all.0) (rw length-append (omega arith))),
      )

  -- an absent load, which has nothing but zeros, fits any wall
  pub absent_fits : (load : Load) → direction load ≡ 0 → position load ≡ 0 → dead_load load ≡ 0 → live_load load ≡ 0 → T (load_fits wall load)
  unfolding load_fits
  absent_fits load way place dead live = rw (way, place, leb-zero, dead, live) tt

  -- a load that fits, as an absent one does, may stand behind the others as often as there is room
  pub filled : (loads : List Load) (n : ℕ) (load : Load) → T (load_fits wall load) → length loads + n ≤ most_loads_on_wall
      → Fit wall loads → Fit wall (loads ++ replicate n load)
  filled loads n load suits room f =
      let all = all_of (Suits wall) [] (replicate n load) (λ k h. rw (get_or-replicate n k load [] (rw length-replicate at h)) suits) in
      others f (all_joined (Suits wall) loads (replicate n load) f.loads_fit all) (rw (length-append, length-replicate) room)

-- ---- in a file

-- a file with just one wall and its loads is answered as they are by themselves, where its header passes
pub as_a_file : (file : File) (wall : Wall) (loads : List Load)
    → header_bytes ≤ length file → edition file ≡ this_edition → T (counts_fit file) → T (offsets_fit file) → T (length_fits file)
    → walls file ≡ wall ∷ [] → entries file ≡ map alone loads → first_refusal file ≡ examined wall loads
unfolding first_refusal examined
as_a_file file wall loads long one counts offsets ended its these =
    rw (le-ltb (length file) header_bytes, eq-eqb (edition file) this_edition, is_true (counts_fit file), is_true (offsets_fit file), is_true (length_fits file), its, these)

-- a wall of an accepted file fits with its loads
pub wall_of_file : (file : File) → T (accepted file) → (i : ℕ) → i < wall_count file → T (fits (wall_at file i) (loads_on (suc i) (entries file)))
wall_of_file file t i h =
    let wall = wall_at file i in
    let loads = loads_on (suc i) (entries file) in
    fits_of wall loads (record { wall_fits = walls_fit file t i h; loads_fit = all_of (Suits wall) [] loads (loads_fit file t i h); few = few_loads file t (suc i) })
