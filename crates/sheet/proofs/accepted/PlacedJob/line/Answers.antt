-- `sheet::accepted::PlacedJob::line` meets its contract: a wall of a job that is accepted has its line.
use mathlib.Core.Path.{◌≡◌, ap}
use native.Mathlib.Omega.{arith}
use lib.ListN.{get_or}
use Rattle.std.specs.Prelude.{[], Ok, is_ok}
use Rattle.rules.specs.SheetLine.{sheet}
use Rattle.sheet.proofs.Sheets.{line_there}
use Rattle.sheet.proofs.accepted.PlacedJob.line.Goals.{After-line}
use Rattle.sheet.proofs.accepted.PlacedJob.line.Goals as goal

worked : (c : After-line) → c.line.result ≡ Ok (get_or (sheet c.args.self.now.job.file.now) c.args.i [])
worked c =
    let placed = c.args.self.now in let job = placed.job in
    rw (c.line.ensures, c.loads_at-loads.ensures, c.wall_at-wall.ensures, placed.placed)
    (line_there job.file.now c.args.i (omega (arith, job.counted)) (rw job.accepted tt))

pub unwrap-requires : goal.unwrap-requires
unwrap-requires c = ap is_ok (worked (goal.at.unwrap-requires c).After-line)

pub returns : goal.returns
returns c = cc (c.unwrap.ensures, worked (goal.at.returns c).After-line)
