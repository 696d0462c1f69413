-- `section::small::is_small` meets its contract: its tests are those of the rules.
use mathlib.Core.Path.{◌∙◌}
use mathlib.Core.Bool.{and-true}
use mathlib.Core.List.{[], ◌∷◌}
use lib.Dec.{ltb}
use Rattle.std.proofs.Common.{rules, tests}
use Rattle.std.proofs.Math.Bool.{and_assoc}
use Rattle.std.proofs.lemmas.Iterator.{YieldsList-from_slice}
use Rattle.std.proofs.lemmas.Iterator.Search.{all_from_yields_List}
use Rattle.rules.specs.Beyond.{section_limit, is_small}
use Rattle.section.proofs.small.is_small.Goals as goal

pub returns : goal.returns
unfolding is_small
returns c =
    let s = c.args.section in
    let numbers = s.thickness ∷ s.cage.cover ∷ s.cage.bar ∷ s.cage.spacing ∷ s.cage.stress ∷ s.concrete ∷ s.steel ∷ s.least ∷ [] in
    all_from_yields_List (λ n. ltb n section_limit) _ _ c.all.result c.all.ensures.ran (YieldsList-from_slice numbers cc) (λ x b q k. search (rules, tests))
    ∙ simp (and_assoc, and-true)
