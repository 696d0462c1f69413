-- The components as the code has them, with named fields for the columns.
use Rattle.std.specs.Prelude.{ℕ, List, map, get_or, ℤ, pos}
use Rattle.rules.specs.Forces as forces
use Rattle.rules.specs.Forces.{deadWeight, liveWeight, deadPush, livePush, vertical, horizontal, moment}
use Rattle.forces.specs.declared.component.Sort.{Sort}
use Rattle.forces.specs.declared.component.Sort.TheVariants.{DeadWeight, LiveWeight, DeadPush, LivePush}
use Rattle.forces.specs.declared.component.Column.{Column}
use Rattle.forces.specs.declared.component.Column.TheVariants.{Vertical, Horizontal, Moment}
use Rattle.forces.specs.declared.component.Component.{Component}

-- a sort's place among the weights
abbrev pub place_of : Sort → ℕ
place_of DeadWeight = 0
place_of LiveWeight = 1
place_of DeadPush = 2
place_of LivePush = 3

-- the code's name for a sort of the rules
abbrev pub sort_in_code : forces.Sort → Sort
sort_in_code deadWeight = DeadWeight
sort_in_code liveWeight = LiveWeight
sort_in_code deadPush = DeadPush
sort_in_code livePush = LivePush

-- a component of the rules as the code has it
abbrev pub in_code : forces.Component → Component
in_code c =
    record {
      sort = sort_in_code c.sort;
      vertical = get_or c.row vertical (pos 0);
      horizontal = get_or c.row horizontal (pos 0);
      moment = get_or c.row moment (pos 0);
    }

abbrev pub all_in_code : List forces.Component → List Component
all_in_code rows = map in_code rows

-- what stands in a column
abbrev pub cell : Column → Component → ℤ
cell Vertical c = c.vertical
cell Horizontal c = c.horizontal
cell Moment c = c.moment
