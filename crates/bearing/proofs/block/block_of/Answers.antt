-- `bearing::block::block_of` meets its contract: the block is made of what lies above 0.
use mathlib.Core.Path.{◌≡◌, sym, ap, ◌∙◌}
use borrow.Author.Rules.{rules}
use mir.Syntax.{w64}
use mir.ValLaws.{to_z-of_z}
use Rattle.whole.specs.Parts.{above_zero}
use Rattle.bearing.proofs.Cases.{none}
use Rattle.bearing.proofs.Reports.{whole_block}
use Rattle.bearing.proofs.block.block_of.Goals.{After-above_zero-force, After-above_zero-moment}
use Rattle.bearing.proofs.block.block_of.Goals as goal

-- what the two calls with a signed total give, of the total itself
force_is : (c : After-above_zero-force) → c.above_zero-force.result ≡ above_zero c.args.totals.R
force_is c = c.above_zero-force.ensures ∙ ap above_zero (to_z-of_z w64 c.args.totals.R (search rules))

moment_is : (c : After-above_zero-moment) → c.above_zero-moment.result ≡ above_zero c.args.totals.M6
moment_is c = c.above_zero-moment.ensures ∙ ap above_zero (to_z-of_z w64 c.args.totals.M6 (search rules))

pub returns-then-moment-eq0 : goal.returns-then-moment-eq0
returns-then-moment-eq0 c =
    sym (whole_block _ _ _ c.requires.0 ∙ none _ _ _ (sym (moment_is (goal.at.returns-then-moment-eq0 c).After-above_zero-moment) ∙ c.if-moment-eq0.true))
