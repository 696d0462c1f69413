-- `walldraw::print_drawing` is safe: the line that it writes ends within the buffer.
use mathlib.Core.Path.{sym}
use lib.Seq.{length-take-le}
use Rattle.rules.proofs.Putting.{put_within}
use Rattle.walldraw.proofs.print_drawing.Goals as goal

pub slice_bounds-line-end : goal.slice_bounds-line-end
slice_bounds-line-end g c = put_within c.drawing_text-count.ensures

pub slice_bounds-write_all-end : goal.slice_bounds-write_all-end
slice_bounds-write_all-end g c = sym (length-take-le _ _ (put_within c.drawing_text-count.ensures))
