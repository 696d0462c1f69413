-- `desk::rewrite` is safe: what it writes ends within the buffer.
use mathlib.Core.Path.{sym}
use lib.Seq.{length-take-le}
use Rattle.rules.proofs.Putting.{put_within}
use Rattle.desk.proofs.rewrite.Goals as goal

pub slice_bounds-file-end : goal.slice_bounds-file-end
slice_bounds-file-end g c = put_within c.rewrite-used.ensures

pub slice_bounds-write_all-end : goal.slice_bounds-write_all-end
slice_bounds-write_all-end g c = sym (length-take-le _ _ (put_within c.rewrite-used.ensures))
