-- `job::take_apart` meets its contract.
use Rattle.std.proofs.Common.{rules}
use Prim.Native.Nat.{◌≤◌}
use mathlib.Core.Path.{sym}
use native.Mathlib.Omega.{arith}
use lib.ListN.{length}
use lib.Seq.{length-take-le}
use Rattle.rules.specs.JobFile.{entries_at}
use Rattle.rules.proofs.Rewritten.{taken_fits}
use Rattle.job.proofs.Judging.{no_refusal}
use Rattle.job.proofs.Taking.{not_taken, all_taken}
use Rattle.job.proofs.take_apart.Goals.{After-load_numbers-load_numbers}
use Rattle.job.proofs.take_apart.Goals as goal

pub returns-in_err-taking_answer : goal.returns-in_err-taking_answer
returns-in_err-taking_answer c = not_taken c.taking_answer.ensures c.in_err-taking_answer.was (search rules)

room : (c : After-load_numbers-load_numbers) → let lent = c.args in
    (c.wall_numbers-wall_numbers.result ≤ length lent.walls.now) × (c.load_numbers-load_numbers.result ≤ length lent.loads.now)
room c =
    let lent = c.args in
    let fits = taken_fits lent.file.now (length lent.walls.now) (length lent.loads.now) (no_refusal c.taking_answer.ensures c.in_ok-taking_answer.was) in
    omega (arith, fits, c.wall_numbers-wall_numbers.ensures.0, c.load_numbers-load_numbers.ensures.0)

pub slice_bounds-read_u32s-end-2 : goal.slice_bounds-read_u32s-end-2
slice_bounds-read_u32s-end-2 c = sym (length-take-le _ _ (room (goal.at.slice_bounds-read_u32s-end-2 c).After-load_numbers-load_numbers).0)

pub slice_bounds-read_u32s-end-4 : goal.slice_bounds-read_u32s-end-4
slice_bounds-read_u32s-end-4 c = sym (length-take-le _ _ (room (goal.at.slice_bounds-read_u32s-end-4 c).After-load_numbers-load_numbers).1)

pub returns : goal.returns
unfolding entries_at
returns c =
    all_taken c.taking_answer.ensures c.in_ok-taking_answer.was c.wall_numbers-wall_numbers.ensures.0 c.load_numbers-load_numbers.ensures.0 c.entries_at.ensures.0
    c.read_u32s.ensures c.read_u32s-2.ensures

pub slice_bounds-read_u32s-end : goal.slice_bounds-read_u32s-end
slice_bounds-read_u32s-end c = (room (goal.at.slice_bounds-read_u32s-end c).After-load_numbers-load_numbers).0

pub slice_bounds-read_u32s-end-3 : goal.slice_bounds-read_u32s-end-3
slice_bounds-read_u32s-end-3 c = (room (goal.at.slice_bounds-read_u32s-end-3 c).After-load_numbers-load_numbers).1
