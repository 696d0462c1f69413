-- How a taking apart ends.
use Prim.Native.Nat.{ℕ, ◌*◌}
use mathlib.Core.Path.{◌≡◌, ◌∙◌}
use mathlib.Core.List.{List, ◌++◌}
use native.Mathlib.Omega.{arith}
use lib.ListN.{length, take, drop}
use lib.Seq.{length-take-le}
use Rattle.std.specs.Prelude.{Result, Ok, Err, ⊤}
use Rattle.rules.specs.declared.Refusal.{Refusal}
use Rattle.rules.specs.declared.Taken.{Taken}
use Rattle.rules.specs.JobFile.{u32s_at, header_bytes, wall_fields, entry_fields, wall_count, load_count, entries_at, walls, entries}
use Rattle.rules.specs.Answered.{Answer}
use Rattle.rules.specs.Beyond.{onto}
use Rattle.rules.specs.SheetLine.{joined}
use Rattle.rules.specs.WrittenFile.{taking_answer, walls_taken, loads_taken, numbers_taken, TakesApart}
use Rattle.rules.proofs.Rewritten.{walls_joined, entries_joined, walls_numbers, entries_numbers, taken_fits}

module _ {file wallsBefore loadsBefore : List ℕ} {answer : Answer} (is : answer ≡ taking_answer file (length wallsBefore) (length loadsBefore)) where
  -- it is refused
  pub not_taken : {refusal : Refusal} {taken : Result Taken Refusal} → answer ≡ Err refusal → taken ≡ Err refusal
      → TakesApart file wallsBefore loadsBefore taken wallsBefore loadsBefore
  unfolding onto walls_taken loads_taken
  not_taken refused same = record { answered = rw (← is, refused) same; walls_held = rw (← is, refused); loads_held = rw (← is, refused) }

  -- the records are taken
  pub all_taken : {well : ⊤} {m n at : ℕ} {wallPart loadPart : List ℕ} → answer ≡ Ok well
      → m ≡ wall_fields * wall_count file → n ≡ entry_fields * load_count file → at ≡ entries_at file
      → wallPart ≡ u32s_at file header_bytes (length (take m wallsBefore)) → loadPart ≡ u32s_at file at (length (take n loadsBefore))
      → TakesApart file wallsBefore loadsBefore (Ok (record { walls = m; loads = n })) (wallPart ++ drop m wallsBefore) (loadPart ++ drop n loadsBefore)
  unfolding onto walls_taken loads_taken numbers_taken
  all_taken {well} {m} {n} {at} {wallPart} {loadPart} worked walled loaded placed wallsRead loadsRead =
      let room = taken_fits file (length wallsBefore) (length loadsBefore) (rw (← is, worked) tt) in
      let wallLength = length-take-le m wallsBefore (omega (arith, room.1)) in
      let loadLength = length-take-le n loadsBefore (omega (arith, room.2)) in
      let walls : wallPart ≡ joined (walls file) = wallsRead ∙ rw (wallLength, walled, walls_joined) in
      let loads : loadPart ≡ joined (entries file) = loadsRead ∙ rw (loadLength, loaded, placed, entries_joined) in
      record {
        answered = rw (← is, worked, walls_numbers, entries_numbers, walled, loaded);
        walls_held = rw (← is, worked, walls, walls_numbers, walled);
        loads_held = rw (← is, worked, loads, entries_numbers, loaded);
      }
