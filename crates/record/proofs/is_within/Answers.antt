-- `record::is_within` meets its contract: a case for each kind of range.
use borrow.Author.Tests.{le-leb, lt-leb, lt-ltb, le-ltb}
use Rattle.rules.specs.JobFile.{within}
use Rattle.record.proofs.is_within.Goals as goal

pub returns-then-low-n : goal.returns-then-low-n
unfolding within
returns-then-low-n c wall e = rw (c.in-Between.is, le-leb _ _ c.if-low-n.true)

pub returns-else-low-n : goal.returns-else-low-n
unfolding within
returns-else-low-n c wall e = rw (c.in-Between.is, lt-leb _ _ c.if-low-n.false)

pub returns-in-UpToTop : goal.returns-in-UpToTop
unfolding within
returns-in-UpToTop c wall e = rw (c.in-UpToTop.is, c.from.ensures, e)

pub returns-then-measures-gt0 : goal.returns-then-measures-gt0
unfolding within
returns-then-measures-gt0 c wall e = rw (c.in-AlongBase.is, lt-ltb _ _ (rw e at c.if-measures-gt0.true), c.from-then-measures-gt0.ensures, e)

pub returns-else-measures-gt0 : goal.returns-else-measures-gt0
unfolding within
returns-else-measures-gt0 c wall e = rw (c.in-AlongBase.is, le-ltb _ _ (rw e at c.if-measures-gt0.false))

pub returns-then-measures-gt0-2 : goal.returns-then-measures-gt0-2
unfolding within
returns-then-measures-gt0-2 c wall e = rw (
  c.in-UnderBase.is,
  lt-ltb _ _ (rw e at c.if-measures-gt0-2.true),
  c.from-then-measures-gt0-2.ensures,
  c.from-then-measures-gt0-2-2.ensures,
  e,
)

pub returns-else-measures-gt0-2 : goal.returns-else-measures-gt0-2
unfolding within
returns-else-measures-gt0-2 c wall e = rw (c.in-UnderBase.is, le-ltb _ _ (rw e at c.if-measures-gt0-2.false))

pub returns-in-ABar : goal.returns-in-ABar
unfolding within
returns-in-ABar c wall e = rw c.in-ABar.is c.is_bar.ensures
