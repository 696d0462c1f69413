-- The lines of a sheet by their index, and what bears the wall there.
use Prim.Native.Nat.{ℕ, zero, suc, ◌+◌, ◌*◌, ◌-◌, ◌<◌, ◌≤◌}
use mathlib.Core.Path.{◌≡◌, refl, sym, ap, ap₂, ◌∙◌}
use mathlib.Core.List.{List, [], ◌∷◌, map}
use native.Mathlib.Nat.{add-zero, add-suc, suc-add}
use native.Mathlib.Numerals.{add-one}
use native.Mathlib.Omega.{arith}
use lib.Dec.{T}
use lib.IntN.{ℤ, nat_abs}
use lib.ListN.{length, get_or}
use mir.Syntax.{w64}
use mir.Val.{SFits}
use Rattle.whole.proofs.Indexed.{mapped}
use Rattle.whole.proofs.Integer.{fits_abs}
use Rattle.whole.proofs.Lists.{All}
use Rattle.std.specs.Prelude.{Ok}
use Rattle.rules.specs.JobFile.{File, Wall, Load, Entry, most_loads_on_wall, wall_count, wall_at, walls, entries, loads_on}
use Rattle.rules.specs.Answered.{accepted}
use Rattle.rules.specs.SheetLine.{line_numbers, numbers_by, line, lines_from, sheet, joined, line_text}
use Rattle.rules.specs.Beyond.{onto, worked_bearing, bearing_of, line_of, line_room, fitting, Put}
use Rattle.rules.proofs.AcceptedFile.{walls_length, wall_at_lem, wall_count_lem}
use Rattle.rules.proofs.Examined.{fit, wall_of_file}
use Rattle.rules.proofs.Fitting.{put_whole}
use Rattle.rules.proofs.Sizes.{Small}
use Rattle.rules.proofs.Lines.{line_small}
use Rattle.rules.proofs.Absent.{borne_with, line_with}
use Rattle.job.specs.Places.{place_table, loads_at}
use Rattle.job.proofs.PlacesOfLoads.{absent, rows_of_wall, room_for_rows}
use Rattle.text.proofs.Lengths.{line_most}
use Rattle.rules.proofs.Putting.{behind, with_back, behind_is, back_is}
use Rattle.rules.proofs.Pieces.{Pieced, joined_length, one_further}
use borrow.Rule.Slice.PartMut.{put_mid}

-- as many as there are walls
lines_length : (n : ℕ) (there : List Wall) (its : List Entry) → length (lines_from n there its) ≡ length there
unfolding lines_from
lines_length n [] its = refl
lines_length n (wall ∷ rest) its = ap suc (lines_length (suc n) rest its)

pub sheet_length : (file : File) → length (sheet file) ≡ wall_count file
unfolding sheet
sheet_length file = lines_length 1 (walls file) (entries file) ∙ walls_length file

-- each of sixteen numbers
all_sixteen : (n : ℕ) (there : List Wall) (its : List Entry) → All (λ (numbers : List ℤ). length numbers ≡ line_numbers) (lines_from n there its)
unfolding lines_from line numbers_by
all_sixteen n [] its = tt
all_sixteen n (wall ∷ rest) its = (refl, all_sixteen (suc n) rest its)

pub numbers_length : (file : File) → length (joined (sheet file)) ≡ line_numbers * wall_count file
unfolding sheet
numbers_length file = joined_length line_numbers (sheet file) (all_sixteen 1 (walls file) (entries file)) ∙ ap (λ n. line_numbers * n) (sheet_length file)

-- and the one at an index is that of the wall there
line_from : (n i : ℕ) (there : List Wall) (its : List Entry) → i < length there
    → get_or (lines_from n there its) i [] ≡ line (n + i) (get_or there i []) (loads_on (n + i) its)
unfolding lines_from
line_from n i [] its h = absurd (omega arith)
line_from n zero (wall ∷ rest) its h = ap (λ (m : ℕ). line m wall (loads_on m its)) (sym (add-zero n))
line_from n (suc i) (wall ∷ rest) its h =
    line_from (suc n) i rest its (omega arith) ∙ ap (λ (m : ℕ). line m (get_or rest i []) (loads_on m its)) (suc-add n i ∙ sym (add-suc n i))

-- the next piece is copied into its part of the buffer
pub copied : {A : Type 0} {pieces : List (List A)} {before out part : List A} {i at k : ℕ} → Pieced pieces before i at out → i < length pieces → part ≡ get_or pieces i []
    → length (get_or pieces i []) ≡ k → at + k ≤ length before → Pieced pieces before (i + 1) (at + k) (put_mid at (at + k - at) out part)
unfolding onto
copied {A} {pieces} {out = out} {i = i} {at = at} {k = k} so_far here same size room =
    let piece = get_or pieces i [] in
    let width : at + k - at ≡ length piece = omega (arith, size) in
    let there : with_back at out (onto piece (behind at out)) ≡ put_mid at (at + k - at) out piece = rw (back_is at out (onto piece (behind at out)), width, behind_is at out) in
    rw (same, ← there) (one_further so_far here room (record { counted = sym size; holds = refl }))

-- numbers as small as a line's are of 64 bits
all_held : (zs : List ℤ) → All (λ z. Small (nat_abs z)) zs → All (SFits w64) zs
all_held [] small = tt
all_held (z ∷ zs) small = (fits_abs z (omega (arith, small.0)), all_held zs small.1)

module _ (file : File) (i : ℕ) (h : i < wall_count file) where
  line_is : get_or (sheet file) i [] ≡ line (suc i) (wall_at file i) (loads_on (suc i) (entries file))
  unfolding sheet
  line_is =
      let number : 1 + i ≡ suc i = omega arith in
      line_from 1 i (walls file) (entries file) (omega (arith, walls_length file))
      ∙ ap₂ (λ (m : ℕ) (wall : Wall). line m wall (loads_on m (entries file))) number (wall_at_lem file i h)

  pub line_sixteen : length (get_or (sheet file) i []) ≡ line_numbers
  unfolding line numbers_by
  line_sixteen = ap (λ (numbers : List ℤ). length numbers) line_is

  module _ (t : T (accepted file)) where
    -- and is short enough for its text to be put whole where the room of a line is
    pub text_put : {before after : List ℕ} {n : ℕ} → line_room ≤ length before → Put (fitting line_room (line_text (get_or (sheet file) i [])) before) before n after
        → Put (get_or (map line_text (sheet file)) i []) before n after × (n ≤ line_room)
    text_put room put =
        let its = loads_on (suc i) (entries file) in
        let few = (wall_count_lem file t).1 in
        let whole = put_whole line_room _ room put in
        let small = all_held (line (suc i) (wall_at file i) its) (line_small (suc i) (omega arith) (fit (wall_at file i) its (wall_of_file file t i h))) in (
          rw (mapped line_text (sheet file) i [] [] (omega (arith, sheet_length file))) whole,
          omega (arith, whole.counted, line_most (get_or (sheet file) i []) line_sixteen (rw line_is small)),
        )

    -- what is worked of the wall with its row of places is the line
    pub line_there : line_of (i + 1) (wall_at file i) (loads_at file (get_or (place_table (entries file)) i [])) ≡ Ok (get_or (sheet file) i [])
    line_there =
        let its = loads_on (suc i) (entries file) in
        ap₂ (λ (n : ℕ) (rows : List Load). line_of n (wall_at file i) rows) (add-one i) (rows_of_wall file t i h)
        ∙ line_with (wall_at file i) absent its (most_loads_on_wall - length its) (room_for_rows file t i h) (wall_of_file file t i h) (suc i)
        ∙ ap Ok (sym line_is)

    -- what bears the wall with that row is what bears it under its own loads, as the absent ones behind them change nothing
    pub borne_by : bearing_of (wall_at file i) (loads_at file (get_or (place_table (entries file)) i [])) ≡ Ok (worked_bearing (wall_at file i) (loads_on (suc i) (entries file)))
    borne_by =
        rw (rows_of_wall file t i h)
        (borne_with (wall_at file i) absent (loads_on (suc i) (entries file)) _ (room_for_rows file t i h) (wall_of_file file t i h))
