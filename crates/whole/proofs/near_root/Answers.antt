-- `whole::near_root` meets its contract: the line is a guess within 2^28 + 1, and three steps make of it one within 1.
use native.Mathlib.Omega.{arith}
use Rattle.whole.proofs.Root.{second, third}
use Rattle.whole.proofs.near_root.Goals as goal

pub nearer_root-requires : goal.nearer_root-requires
nearer_root-requires c =
    let g = second c.args.n (omega arith) (omega arith) in
    rw (c.nearer_root-twice.ensures, c.nearer_root-once.ensures) (g.long, g.short)

pub returns : goal.returns
returns c =
    let g = third c.args.n (omega arith) (omega arith) in
    rw (c.nearer_root.ensures, c.nearer_root-twice.ensures, c.nearer_root-once.ensures) (g.near.least, g.near.most)
