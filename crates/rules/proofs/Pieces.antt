-- Pieces put one behind the other into a lent buffer: the lines of a sheet, their texts, and the numbers of a file that is written.
use Prim.Native.Nat.{ℕ, zero, suc, ◌+◌, ◌*◌, ◌≤◌, ◌<◌}
use mathlib.Core.Path.{◌≡◌, refl, sym, ap, ◌∙◌}
use mathlib.Core.List.{List, [], ◌∷◌, ◌++◌, append_assoc, append-nil}
use native.Mathlib.Nat.{suc-add}
use native.Mathlib.Omega.{arith}
use lib.ListN.{length, get_or, take, length-append, length-drop}
use lib.Seq.{take_all}
use Rattle.whole.proofs.Lists.{All}
use Rattle.rules.specs.SheetLine.{joined}
use Rattle.rules.specs.Beyond.{Put}
use Rattle.rules.proofs.Putting.{behind, with_back, behind_is, no_text, then_text, put_length}

-- so many of the pieces are put, and the buffer keeps its length
pub record Pieced {A : Type 0} (pieces : List (List A)) (before : List A) (i at : ℕ) (out : List A) : Type 0 where
  pub put : Put (joined (take i pieces)) before at out
  pub kept : length out ≡ length before

module _ {A : Type 0} where
  -- pieces of one length
  pub joined_length : (n : ℕ) (pieces : List (List A)) → All (λ piece. length piece ≡ n) pieces → length (joined pieces) ≡ n * length pieces
  unfolding joined
  joined_length n [] each = omega arith
  joined_length n (p ∷ ps) each = omega (arith, length-append p (joined ps), each.0, joined_length n ps each.1)

  -- so many and one more
  joined_one_more : (pieces : List (List A)) (i : ℕ) → i < length pieces → joined (take (i + 1) pieces) ≡ joined (take i pieces) ++ get_or pieces i []
  unfolding joined
  joined_one_more [] i h = absurd (omega arith)
  joined_one_more (p ∷ ps) zero h = append-nil p
  joined_one_more (p ∷ ps) (suc i) h =
      ap (λ (n : ℕ). joined (take n (p ∷ ps))) (suc-add i 1)
      ∙ ap (λ (rest : List A). p ++ rest) (joined_one_more ps i (omega arith))
      ∙ sym (append_assoc p (joined (take i ps)) (get_or ps i []))

  module _ {pieces : List (List A)} {before : List A} where
    -- none is put yet
    pub none_put : Pieced pieces before 0 0 before
    unfolding joined
    none_put = record { put = no_text before; kept = refl }

    module _ {i at : ℕ} {out : List A} (so_far : Pieced pieces before i at out) where
      -- the part behind those has the room that is left
      pub room_behind : {room : ℕ} → at + room ≤ length before → room ≤ length (behind at out)
      room_behind h = omega (arith, so_far.kept, ap (λ (l : List A). length l) (behind_is at out), length-drop at out)

      -- the next one goes there
      pub one_further : {part : List A} {count : ℕ} → i < length pieces → at + count ≤ length before → Put (get_or pieces i []) (behind at out) count part
          → Pieced pieces before (i + 1) (at + count) (with_back at out part)
      one_further {part} {count} h room next =
          let put = then_text so_far.put next in
          record { put = rw (joined_one_more pieces i h) put; kept = put_length put (omega (arith, put.counted)) }

      -- at last all are put
      pub all_put : length pieces ≤ i → Put (joined pieces) before at out
      all_put h = rw (take_all i pieces h) at so_far.put
