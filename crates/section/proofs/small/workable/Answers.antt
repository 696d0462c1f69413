-- `section::small::workable` meets its contract: a small section's depth can be worked, and is tested.
use mathlib.Core.Path.{refl, sym, ◌∙◌}
use Rattle.rules.specs.Beyond.{is_workable}
use Rattle.rules.proofs.Sections.{bounded}
use Rattle.section.proofs.small.workable.Goals as goal

pub returns-then-not-is_small : goal.returns-then-not-is_small
unfolding is_workable
returns-then-not-is_small c = rw (sym c.is_small.ensures ∙ c.if-not-is_small.true)

pub invariant_of-small : goal.invariant_of-small
invariant_of-small c = record { bounded = bounded c.args.section (rw (sym c.is_small.ensures ∙ c.if-not-is_small.false) tt) }

pub returns-then-section-twice_depth : goal.returns-then-section-twice_depth
unfolding is_workable
returns-then-section-twice_depth c =
    (rw (sym c.is_small.ensures ∙ c.if-not-is_small.false, ← c.twice_depth.ensures.0) c.if-section-twice_depth.true, refl)

pub returns-else-section-twice_depth : goal.returns-else-section-twice_depth
unfolding is_workable
returns-else-section-twice_depth c =
    rw (sym c.is_small.ensures ∙ c.if-not-is_small.false, ← c.twice_depth.ensures.0) c.if-section-twice_depth.false
