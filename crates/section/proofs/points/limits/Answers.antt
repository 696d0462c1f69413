-- `section::points::limits` meets its contract, by what `needs_compression` ensures.
use Rattle.rules.specs.ToeAndStem.{needs_compression}
use Rattle.section.proofs.points.limits.Goals as goal

pub returns : goal.returns
unfolding needs_compression
returns c = rw (c.needs_compression.ensures, c.needs_compression-2.ensures)
