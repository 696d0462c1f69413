-- `section::steel::steel_of` meets its contract: each of its figures is the rules', of the section's own D.
use mathlib.Core.Path.{◌≡◌, sym, ◌∙◌}
use native.Mathlib.Omega.{arith}
use Rattle.rules.specs.ToeAndStem.{twice_depth, needs_compression, required_area, steel_fails}
use Rattle.rules.proofs.Sections.{moment_most}
use Rattle.section.proofs.steel.steel_of.Goals.{After-needs_compression}
use Rattle.section.proofs.steel.steel_of.Goals as goal

-- what the rule's first test says of the section, the code has found
tested : (c : After-needs_compression)
    → let start = c.args in
    needs_compression start.m start.small.section.concrete (twice_depth start.small.section) ≡ c.needs_compression.result
tested c = rw (← c.twice_depth.ensures.0) (sym c.needs_compression.ensures)

pub returns-then-needs_compression : goal.returns-then-needs_compression
unfolding required_area steel_fails
returns-then-needs_compression c = rw (tested (goal.at.returns-then-needs_compression c).After-needs_compression ∙ c.if-needs_compression.true)

pub needed_area-needed-requires : goal.needed_area-needed-requires
needed_area-needed-requires c = (moment_most _ _ _ (omega arith) (tested (goal.at.needed_area-needed-requires c).After-needs_compression ∙ c.if-needs_compression.false), omega arith, omega arith)

pub returns : goal.returns
unfolding required_area steel_fails
returns c =
    rw (
      c.provided_area.ensures,
      c.greater-required.ensures,
      c.needed_area-needed.ensures,
      c.lever_arm.ensures.0,
      c.least_area.ensures,
      c.twice_depth.ensures.0,
      tested (goal.at.returns c).After-needs_compression ∙ c.if-needs_compression.false,
    )
