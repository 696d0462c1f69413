-- `section::points::figures` meets its contract: what its callees ensure of each figure, computed.
use Rattle.whole.specs.Rounding.{rounded_up, rounded_down}
use Rattle.rules.specs.ToeAndStem.{bears, greatest, lever_arm, needed_area, besides, bar_area, provided_area}
use Rattle.section.proofs.points.figures.Goals as goal

pub returns : goal.returns
unfolding rounded_up rounded_down bears greatest lever_arm needed_area besides bar_area provided_area
returns c =
    let two = c in
    rw (
      two.needed_area.ensures,
      two.lever_arm-z.ensures.0,
      c.provided_area.ensures,
      c.provided_area-2.ensures,
      c.lever_arm.ensures.0,
    )
