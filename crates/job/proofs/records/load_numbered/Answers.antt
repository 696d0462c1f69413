-- `job::records::load_numbered` meets its contract. A load's number is one more than its index.
use mathlib.Core.Path.{sym, ap, ◌∙◌}
use native.Mathlib.Omega.{arith}
use Rattle.rules.specs.JobFile.{load_of}
use Rattle.job.specs.Places.{load_numbered}
use Rattle.job.proofs.PlacesOfLoads.{load_at}
use Rattle.job.proofs.records.load_numbered.Goals as goal

pub returns-then-number-eq0 : goal.returns-then-number-eq0
unfolding load_numbered
returns-then-number-eq0 c = rw c.if-number-eq0.true

pub returns : goal.returns
returns c = c.load_of.ensures ∙ ap load_of c.entry_at.ensures ∙ sym (load_at _ _ (omega arith))
