-- `sheet::accepted::PlacedJob::put_lines` meets its contract. The invariant: the lines of the walls that were passed are put.
use Prim.Native.Nat.{◌*◌}
use Rattle.rules.specs.SheetLine.{line_numbers, sheet}
use Rattle.rules.proofs.Pieces.{Pieced}
use Rattle.sheet.proofs.accepted.PlacedJob.put_lines.Given as goal

abbrev pub invariant-loop-i : goal.invariant-loop-i
invariant-loop-i l = Pieced (sheet l.self.job.file.now) l.initial.out l.i (line_numbers * l.i) l.out
