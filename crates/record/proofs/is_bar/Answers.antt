-- `record::is_bar` meets its contract.
use mathlib.Core.Path.{◌∙◌}
use Rattle.rules.specs.JobFile.{bars}
use Rattle.record.proofs.Places.{any_among}
use Rattle.record.proofs.is_bar.Goals as goal

pub returns : goal.returns
returns c = c.contains.ensures.value ∙ any_among c.args.n bars
