-- `wall::members::stem_under` meets its contract: the section of a wall that fits is workable.
use Rattle.rules.proofs.Sections.{stem_workable}
use Rattle.wall.proofs.members.stem_under.Goals as goal

pub member_of-requires : goal.member_of-requires
member_of-requires c = rw c.stem_section.ensures (stem_workable _ c.args.wall.now.fits)

pub returns : goal.returns
returns c = rw c.stem_section.ensures at c.member_of.ensures
