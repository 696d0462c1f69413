-- `forces::stem::on_stem` meets its contract. The base's top can be taken from the height of a load that reaches the stem.
use mathlib.Core.Path.{◌≡◌, sym, ◌∙◌}
use mathlib.Core.Bool.{Bool, true, false, not, ◌||◌}
use Prim.Native.Nat.{ℕ, ◌≤◌}
use borrow.Author.Tests.{not-true, ltb-false}
use lib.Dec.{ltb}
use Rattle.rules.specs.JobFile.{Load, is_down, position}
use Rattle.forces.specs.Tables.{reaches_stem, on_stem}
use Rattle.forces.proofs.stem.on_stem.Goals as goal

-- the base's top is no higher than a load that reaches the stem
above : (top : ℕ) (load : Load) → reaches_stem top load ≡ true → top ≤ position load
unfolding reaches_stem
above top load e = ltb-false (position load) top (go (is_down load) (ltb (position load) top) e)
  where
    go : (a b : Bool) → not (a || b) ≡ true → b ≡ false
    go true b e = cc
    go false b e = not-true b e

pub overflow_sub-result : goal.overflow_sub-result
overflow_sub-result c = above _ _ (sym c.reaches_stem.ensures ∙ c.if-reaches_stem.true)

pub returns-then-reaches_stem : goal.returns-then-reaches_stem
unfolding on_stem
returns-then-reaches_stem c = rw (sym c.reaches_stem.ensures ∙ c.if-reaches_stem.true)

pub returns-else-reaches_stem : goal.returns-else-reaches_stem
unfolding on_stem
returns-else-reaches_stem c = rw (sym c.reaches_stem.ensures ∙ c.if-reaches_stem.false)
