-- `sheet::accepted::PlacedJob::put_texts` meets its contract. The invariant: the texts of the walls that were passed are put.
use Prim.Native.Nat.{◌≤◌, ◌*◌}
use mathlib.Core.List.{map}
use Rattle.rules.specs.SheetLine.{sheet, line_text}
use Rattle.rules.specs.Beyond.{line_room}
use Rattle.rules.proofs.Pieces.{Pieced}
use Rattle.sheet.proofs.accepted.PlacedJob.put_texts.Given as goal

abbrev pub invariant-loop-i : goal.invariant-loop-i
invariant-loop-i l = (l.used ≤ line_room * l.i) × Pieced (map line_text (sheet l.self.job.file.now)) l.initial.out l.i l.used l.out
