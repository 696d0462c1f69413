-- `record::wall_height` meets its contract. Three fields of 32 bits add up.
use native.Mathlib.Omega.{arith}
use borrow.Author.Rules.{rules}
use mir.Syntax.{w32}
use mir.Val.{Fits}
use Rattle.rules.specs.JobFile.{stem_height, base_thickness, crest_height, wall_height}
use Rattle.record.proofs.wall_height.Goals as goal

pub overflow_add-result : goal.overflow_add-result
unfolding crest_height
overflow_add-result c =
    let wall = c.args.wall in
    let stem : Fits w32 (stem_height wall) = search rules in
    let base : Fits w32 (base_thickness wall) = search rules in
    omega arith

pub returns : goal.returns
unfolding wall_height
returns c = omega arith
