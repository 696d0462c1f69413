-- `forces::loaded::LoadedWall::held` meets its contract. A push is taken by its part above 0; whether the wall is propped is told by its kind.
use mathlib.Core.Path.{◌≡◌, ap, ◌∙◌}
use native.Mathlib.Omega.{arith}
use borrow.Author.Tests.{eq-eqb, ne_eqb}
use mir.Facts.{to_z-of_z}
use Rattle.whole.specs.Parts.{above_zero}
use Rattle.rules.specs.Forces.{friction_under, is_propped, sliding_under}
use Rattle.rules.proofs.Sizes.{passive_most, friction_most}
use Rattle.forces.proofs.Holding.{left_of, more_than}
use Rattle.forces.proofs.loaded.LoadedWall.held.Goals.{After-above_zero-push, After-friction_under-friction}
use Rattle.forces.proofs.loaded.LoadedWall.held.Goals as goal

-- what the two calls with a signed number give, of the number itself
friction_is : (c : After-friction_under-friction) → c.friction_under-friction.result ≡ friction_under c.args.self.now.wall c.args.lasting
friction_is c = c.friction_under-friction.ensures ∙ ap (friction_under _) (to_z-of_z c.ranges.lasting)

push_is : (c : After-above_zero-push) → c.above_zero-push.result ≡ above_zero c.args.pushing
push_is c = c.above_zero-push.ensures ∙ ap above_zero (to_z-of_z c.ranges.pushing)

pub overflow_add-holding : goal.overflow_add-holding
overflow_add-holding c =
    let w = c.args.self.now.within in
    omega (arith, friction_is (goal.at.overflow_add-holding c).After-friction_under-friction, passive_most w, friction_most w c.requires)

pub returns-then-field-eq-PROPPED : goal.returns-then-field-eq-PROPPED
unfolding sliding_under is_propped
returns-then-field-eq-PROPPED c =
    rw (
      c.saturating_sub.ensures,
      push_is (goal.at.returns-then-field-eq-PROPPED c).After-above_zero-push,
      friction_is (goal.at.returns-then-field-eq-PROPPED c).After-friction_under-friction,
      c.passive_force-passive.ensures,
      ← c.field.ensures.0,
      eq-eqb _ _ c.if-field-eq-PROPPED.true,
      left_of,
    )

pub returns-else-field-eq-PROPPED : goal.returns-else-field-eq-PROPPED
unfolding sliding_under is_propped
returns-else-field-eq-PROPPED c =
    rw (
      push_is (goal.at.returns-else-field-eq-PROPPED c).After-above_zero-push,
      friction_is (goal.at.returns-else-field-eq-PROPPED c).After-friction_under-friction,
      c.passive_force-passive.ensures,
      ← c.field.ensures.0,
      ne_eqb _ _ c.if-field-eq-PROPPED.false,
      more_than,
    )
