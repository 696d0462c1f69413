-- `record::reach_of` meets its contract.
use native.Mathlib.Omega.{arith}
use borrow.Author.Tests.{eq-eqb, ne_eqb}
use Rattle.rules.specs.JobFile.{reach, is_down}
use Rattle.record.proofs.reach_of.Goals as goal

pub returns-then-load-eq0 : goal.returns-then-load-eq0
unfolding reach is_down
returns-then-load-eq0 c = simp (eq-eqb _ _ c.if-load-eq0.true) (omega arith)

pub returns-else-load-eq0 : goal.returns-else-load-eq0
unfolding reach is_down
returns-else-load-eq0 c = simp (ne_eqb _ _ c.if-load-eq0.false) (omega arith)
