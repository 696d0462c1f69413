-- `casebook::is_same_again` is safe: the file that it writes ends within the buffer.
use mathlib.Core.Path.{sym}
use lib.Seq.{length-take-le}
use Rattle.rules.proofs.Putting.{put_within}
use Rattle.casebook.proofs.is_same_again.Goals as goal

pub slice_bounds-file-end : goal.slice_bounds-file-end
slice_bounds-file-end c = put_within c.rewrite-count.ensures

pub slice_bounds-eq-end : goal.slice_bounds-eq-end
slice_bounds-eq-end c = sym (length-take-le _ _ (put_within c.rewrite-count.ensures))
