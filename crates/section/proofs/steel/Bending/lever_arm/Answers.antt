-- `section::steel::Bending::lever_arm` meets its contract: it is 0.95 D where M is borne at that, and what the root gives where it isn't.
use mathlib.Core.Path.{sym, ◌∙◌}
use native.Mathlib.Omega.{arith}
use Rattle.rules.proofs.ByRoot.{at_limit, below_limit}
use Rattle.section.proofs.steel.Bending.lever_arm.Goals as goal

pub returns-then-self-limit : goal.returns-then-self-limit
returns-then-self-limit c = (c.lever_by_root.ensures.0 ∙ sym (below_limit _ _ _ (omega arith)), c.lever_by_root.ensures.1)

pub returns-else-self-limit : goal.returns-else-self-limit
returns-else-self-limit c = (sym (at_limit _ _ _ (omega arith)), omega arith)
