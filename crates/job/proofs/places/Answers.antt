-- `job::places` meets its contract. The invariant: the table is that of the entries passed.
use mathlib.Core.Path.{◌≡◌, ◌∙◌}
use native.Mathlib.Omega.{arith}
use borrow.Author.Tests.{leb-true}
use Rattle.rules.specs.JobFile.{entries}
use Rattle.job.proofs.PlacesOfLoads.{begun, one_placed, none_placed, all_placed}
use Rattle.job.proofs.places.Goals as goal
use Rattle.job.proofs.places.Goals.{then-wall-ge1+then-wall, else-wall-ge1, else-wall-ge1-via-then-wall-ge1+else-wall, else-wall-ge1-via-else-wall-ge1}

pub loop-i-preserved : goal.loop-i-preserved
loop-i-preserved c =
    let placed = c.loop-i.invariant.1 in
    let its = c.entry_at-entry.ensures in (
      omega arith,
      elim c.if-wall-ge1.branch [
        | then-wall-ge1+then-wall w ↦ rw w.table-is (one_placed _ _ _ placed _ its (omega arith) (omega arith) _ w.add_place.ensures)
        | else-wall-ge1 w ↦ rw w.table-is (none_placed _ _ _ placed _ its
            (elim w.else-wall-ge1.branch [
              | else-wall-ge1-via-then-wall-ge1+else-wall v ↦ λ low high. omega arith
              | else-wall-ge1-via-else-wall-ge1 v ↦ λ low high. omega arith
            ]))
      ],
    )

pub returns : goal.returns
unfolding entries
returns c =
    let loop = c.loop-i in
    let all : loop.i ≡ c.load_count.result = omega arith in
    all_placed _ _ _ loop.invariant.1 ∙ rw (all, c.load_count.ensures)

pub loop-i-init : goal.loop-i-init
loop-i-init c = (omega arith, begun _)

pub overflow_cast-index : goal.overflow_cast-index
overflow_cast-index c = omega (arith, leb-true)

pub offset_bounds-table-index : goal.offset_bounds-table-index
offset_bounds-table-index c = omega (arith, leb-true)

pub bounds-table-index : goal.bounds-table-index
bounds-table-index c = omega (arith, leb-true)
