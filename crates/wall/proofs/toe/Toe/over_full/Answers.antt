-- `wall::toe::Toe::over_full` meets its contract: the stem's front and its middle are on the base, and no pressure there is above the greatest peak.
use mathlib.Core.Path.{◌≡◌, refl, ◌∙◌}
use native.Mathlib.Omega.{arith}
use Rattle.std.proofs.Math.Logic.{∥∥₁_elim}
use Rattle.std.proofs.Props.{props}
use Rattle.rules.specs.JobFile.{base_length}
use Rattle.rules.specs.ToeAndStem.{bearing_by}
use Rattle.rules.proofs.Lines.{arm_most}
use Rattle.wall.proofs.Exact.{full_at, full_start, straight_action}
use Rattle.wall.proofs.UnderHeel.{full_ends}
use Rattle.wall.proofs.toe.Toe.over_full.Goals.{After-of_block-line}
use Rattle.wall.proofs.toe.Toe.over_full.Goals as goal

pub of_block-line-requires : goal.of_block-line-requires
of_block-line-requires c =
    let wall = c.args.self.now.wall in
    ∥∥₁_elim c.args.self.now.bears (hlevel props) (λ b. rw c.base_length.ensures.0 (full_ends b.made wall.fits c.requires refl refl))

length : (c : After-of_block-line) → c.of_block-line.result.l ≡ base_length c.args.self.now.wall.fields
length c = c.of_block-line.ensures.0 ∙ c.base_length.ensures.0

pub pressure_at-at_face-requires : goal.pressure_at-at_face-requires
pressure_at-at_face-requires c = omega (arith, length (goal.at.pressure_at-at_face-requires c).After-of_block-line, c.toe_length.ensures, arm_most c.args.self.now.wall.within)

pub pressure_at-at_middle-requires : goal.pressure_at-at_middle-requires
pressure_at-at_middle-requires c = omega (arith, length (goal.at.pressure_at-at_middle-requires c).After-of_block-line, c.twice_arm.ensures, arm_most c.args.self.now.wall.within)

pub straight-requires : goal.straight-requires
straight-requires c =
    let long = length (goal.at.straight-requires c).After-of_block-line in
    let ends = c.of_block-line.ensures in
    let arm = arm_most c.args.self.now.wall.within in
    ∥∥₁_elim c.args.self.now.bears (hlevel props)
    (λ b. (
      (full_start b c.requires long ends.1 ends.2 (omega (arith, c.base_length.ensures))).1,
      (full_at b c.requires long ends.1 ends.2 _ (omega (arith, long, c.toe_length.ensures, arm)) c.pressure_at-at_face.ensures).1,
      (full_at b c.requires long ends.1 ends.2 _ (omega (arith, long, c.twice_arm.ensures, arm)) c.pressure_at-at_middle.ensures).1,
    ))

pub returns : goal.returns
unfolding bearing_by
returns c =
    let long = length (goal.at.returns c).After-of_block-line in
    let ends = c.of_block-line.ensures in
    let arm = arm_most c.args.self.now.wall.within in
    ∥∥₁_elim c.args.self.now.bears (hlevel props)
    (λ b.
    straight_action _ _ c.toe_length.ensures.0 c.twice_arm.ensures.0
    (full_start b c.requires long ends.1 ends.2 (omega (arith, c.base_length.ensures))).0
    (full_at b c.requires long ends.1 ends.2 _ (omega (arith, long, c.toe_length.ensures, arm)) c.pressure_at-at_face.ensures).0
    (full_at b c.requires long ends.1 ends.2 _ (omega (arith, long, c.twice_arm.ensures, arm)) c.pressure_at-at_middle.ensures).0
    c.straight.ensures)
