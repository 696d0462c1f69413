-- `writing::lent::record_at` meets its contract.
use mathlib.Core.Path.{◌≡◌, ap, ◌∙◌}
use mathlib.Core.List.{List, []}
use Prim.Native.Nat.{ℕ}
use Rattle.std.proofs.Common.{rules}
use lib.ListN.{get_or}
use Rattle.job.proofs.Numbers.{chunked, in_at}
use Rattle.writing.proofs.lent.record_at.Goals as goal

pub returns : goal.returns
returns g c h =
    let chunks = c.as_chunks.ensures in
    let read : c.unwrap_or.result ≡ get_or c.as_chunks.result.0.now c.args.i [] = search rules in
    read ∙ ap (λ (records : List (List ℕ)). get_or records c.args.i []) (chunks.front ∙ chunked _ _) ∙ in_at _ _ _ h
