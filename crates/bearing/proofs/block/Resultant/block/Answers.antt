-- `bearing::block::Resultant::block` meets its contract: the tests that lead to a block are those of its case.
use mathlib.Core.Path.{sym, ◌∙◌}
use mathlib.Core.Logic.{inr}
use native.Mathlib.Omega.{arith}
use Rattle.whole.proofs.Integer.{pos-≤ℤ, pos-<ℤ}
use Rattle.rules.specs.declared.Kind.TheVariants.{Full, FromToe, FromHeel, NoBlock}
use Rattle.rules.specs.Bearing.{of_kind}
use Rattle.bearing.proofs.Cases.{made}
use Rattle.bearing.proofs.block.Resultant.block.Goals as goal

pub returns-then-m-low : goal.returns-then-m-low
returns-then-m-low c = c.from_toe.ensures ∙ sym (made _ _ _ c.args.self.within FromToe (pos-<ℤ.1 (omega arith), pos-<ℤ.1 (omega arith)))

pub returns-then-m-high : goal.returns-then-m-high
returns-then-m-high c = c.full.ensures ∙ sym (made _ _ _ c.args.self.within Full (pos-≤ℤ.1 (omega arith), pos-≤ℤ.1 (omega arith)))

pub returns-then-m-end : goal.returns-then-m-end
returns-then-m-end c =
    c.from_heel.ensures ∙ sym (made _ _ _ c.args.self.within FromHeel (pos-<ℤ.1 (omega arith), pos-<ℤ.1 (omega arith)))

pub returns-else-m-end : goal.returns-else-m-end
unfolding of_kind
returns-else-m-end c = sym (made _ _ _ c.args.self.within NoBlock (inr (pos-≤ℤ.1 (omega arith))))
