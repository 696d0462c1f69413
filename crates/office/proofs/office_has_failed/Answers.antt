-- `office::office_has_failed` meets its contract: the check is the one whose bit it is, or there is none.
use mathlib.Core.Path.{sym}
use Rattle.rules.specs.SheetLine.{checks}
use Rattle.office.proofs.Asked.{asked, of_none, no_check}
use Rattle.office.proofs.office_has_failed.Goals as goal

pub returns-in-Some : goal.returns-in-Some
returns-in-Some c = rw (c.has_failed.ensures, c.in-Some.ensures) (sym (asked c.args.failures c.in-Some.check))

pub returns-in-None : goal.returns-in-None
returns-in-None c = sym (no_check c.args.failures c.args.check checks (of_none c.args.check checks c.in-None.ensures))
