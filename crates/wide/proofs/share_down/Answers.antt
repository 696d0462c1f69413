-- `wide::share_down` meets its contract: the products are whole.
use Rattle.std.proofs.Common.{arith, lit≤}
use Rattle.wide.proofs.Exact.{both, exactly}
use Rattle.wide.proofs.share_down.Goals as goal

pub returns : goal.returns
returns c =
    let start = c.before.before.before.before in
    let given = start.args in
    let first = both {x = given.a} {y = given.b} (omega arith) (omega arith) c.product_of.ensures in
    let over = exactly 64 first (omega arith) (lit≤ tt) c.times.ensures in
    let under = both {x = given.m} {y = given.n} (omega arith) (omega arith) c.product_of-2.ensures in
    rw (over.same, under.same) at c.quotient_down.ensures
