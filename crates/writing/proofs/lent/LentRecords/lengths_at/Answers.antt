-- `writing::lent::Lent` has the lengths of each wall: they are five fields behind the first.
use mathlib.Core.Path.{◌≡◌, ap, ◌∙◌}
use mathlib.Core.List.{List, [], ◌∷◌, ◌++◌}
use Prim.Native.Nat.{ℕ, suc, ◌-◌, ◌≤◌, ◌<◌}
use native.Mathlib.Omega.{arith}
use lib.ListN.{length, get_or, take, drop, replicate, length-drop, length-take}
use lib.Seq.{drop-cons}
use Rattle.rules.specs.JobFile.{wall_fields}
use Rattle.job.specs.Lengths.{lengths_of}
use Rattle.job.proofs.Numbers.{chunked, in_length}
use Rattle.writing.proofs.lent.LentRecords.lengths_at.Goals as goal

five : (wall : List ℕ) → length (take 5 (drop 1 wall)) ≡ 5 → 0 ∷ (take 5 (drop 1 wall) ++ replicate (wall_fields - 6) 0) ≡ lengths_of wall
unfolding lengths_of
five wall h =
    let enough : 6 ≤ length wall = omega (arith, h, length-take 5 (drop 1 wall), length-drop 1 wall) in
    let at : (k : ℕ) → k < 6 → drop k wall ≡ get_or wall k 0 ∷ drop (suc k) wall = λ k l. drop-cons wall k 0 (omega arith) in
    rw (at 1 (omega arith), at 2 (omega arith), at 3 (omega arith), at 4 (omega arith), at 5 (omega arith))

pub returns-in-Some : goal.returns-in-Some
returns-in-Some c h =
    let read = c.copy_from_slice.ensures in
    let chunks = c.as_chunks.ensures in
    let there = c.in-Some.ensures.lookup.4 (omega arith) [] in
    let same = there ∙ ap (λ (records : List (List ℕ)). get_or records c.args.i []) (chunks.front ∙ chunked _ _) in
    rw (read.after, ← same) (five c.in-Some.wall.now (rw read.after at read.len))

pub returns-in_default : goal.returns-in_default
returns-in_default c h = absurd (omega (arith, c.in_default.ensures.lookup, c.as_chunks.ensures.front_len, in_length wall_fields c.args.self.now.walls.now))
