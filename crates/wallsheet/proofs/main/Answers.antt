-- `wallsheet::main` is safe: the text that it writes ends within the buffer.
use mathlib.Core.Path.{sym}
use lib.Seq.{length-take-le}
use Rattle.rules.proofs.Putting.{put_within}
use Rattle.wallsheet.proofs.main.Goals as goal

pub slice_bounds-text-end-3 : goal.slice_bounds-text-end-3
slice_bounds-text-end-3 c = put_within c.text-used.ensures

pub slice_bounds-write_all-end : goal.slice_bounds-write_all-end
slice_bounds-write_all-end c = sym (length-take-le _ _ (put_within c.text-used.ensures))
