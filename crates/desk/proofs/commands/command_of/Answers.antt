-- `desk::commands::command_of` meets its contract.
use Rattle.desk.specs.Commands.{command_of}
use Rattle.desk.proofs.Words.{same_so}
use Rattle.desk.proofs.commands.command_of.Goals as goal

pub returns-then-eq : goal.returns-then-eq
unfolding command_of
returns-then-eq c = rw (← same_so, ← c.as_slice.ensures, ← c.if-eq.ensures)

pub returns-else-eq : goal.returns-else-eq
unfolding command_of
returns-else-eq c = rw (← same_so, ← c.as_slice.ensures, ← c.if-eq.ensures)
