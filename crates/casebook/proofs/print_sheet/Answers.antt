-- `casebook::print_sheet` is safe: the text that it writes ends within the buffer.
use mathlib.Core.Path.{sym}
use lib.Seq.{length-take-le}
use Rattle.rules.proofs.Putting.{put_within}
use Rattle.casebook.proofs.print_sheet.Goals as goal

pub slice_bounds-text-end-2 : goal.slice_bounds-text-end-2
slice_bounds-text-end-2 g c = put_within c.text-count.ensures

pub slice_bounds-write_all-end : goal.slice_bounds-write_all-end
slice_bounds-write_all-end g c = sym (length-take-le _ _ (put_within c.text-count.ensures))
