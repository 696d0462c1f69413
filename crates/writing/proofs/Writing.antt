-- A job file is written, numbers as bytes, one behind the other; and how a writing ends.
use Prim.Native.Nat.{ℕ, ◌+◌, ◌*◌, ◌/◌, ◌%◌, ◌≤◌, ◌<◌}
use mathlib.Core.Path.{◌≡◌, refl, sym, ap, ◌∙◌}
use mathlib.Core.List.{List, [], ◌∷◌, ◌++◌, map}
use native.Mathlib.Nat.{mul-zero, mul-le-mul_left}
use native.Mathlib.Omega.{arith}
use lib.ListN.{length, get_or, length-map}
use lib.Seq.{ext_get_or}
use borrow.Rule.Slice.PartMut.{put_mid}
use Rattle.std.specs.List.{flat_map}
use Rattle.whole.proofs.Indexed.{mapped}
use Rattle.std.specs.Prelude.{Result, Ok, Err, ⊤}
use Rattle.rules.specs.declared.Refusal.{Refusal}
use Rattle.rules.specs.JobFile.{File}
use Rattle.rules.specs.Answered.{Answer}
use Rattle.rules.specs.SheetLine.{joined}
use Rattle.rules.specs.Beyond.{onto}
use Rattle.rules.specs.WrittenFile.{u16_bytes, u32_bytes, file_of, writing_answer, bytes_written, Writes}
use Rattle.rules.proofs.Putting.{behind, with_back, behind_is, back_is}
use Rattle.rules.proofs.Pieces.{Pieced, none_put, one_further, all_put}

-- ---- numbers of one width: so many are put as bytes, and there is room for all

pub record NumbersPut (bytes_of : ℕ → File) (size : ℕ) (numbers before : List ℕ) (k : ℕ) (out : List ℕ) : Type 0 where
  pub sized : (n : ℕ) → length (bytes_of n) ≡ size
  pub room : size * length numbers ≤ length before
  pub pieced : Pieced (map bytes_of numbers) before k (size * k) out

module _ {bytes_of : ℕ → File} {size : ℕ} {numbers before : List ℕ} where
  -- at first none
  pub no_number : ((n : ℕ) → length (bytes_of n) ≡ size) → size * length numbers ≤ length before → NumbersPut bytes_of size numbers before 0 before
  no_number sized room = record { sized = sized; room = room; pieced = rw mul-zero none_put }

  module _ {k : ℕ} {out : List ℕ} (so_far : NumbersPut bytes_of size numbers before k out) where
    module _ (inside : k < length numbers) where
      within : size * k + size ≤ length before
      within = omega (arith, so_far.room, mul-le-mul_left size inside)

      -- the next is put behind them
      pub next_number : {part : List ℕ} → part ≡ onto (bytes_of (get_or numbers k 0)) (behind (size * k) out)
          → NumbersPut bytes_of size numbers before (k + 1) (with_back (size * k) out part)
      next_number {part} put =
          let next : size * (k + 1) ≡ size * k + size = omega arith in
          let its = mapped bytes_of numbers k [] 0 inside in
          record {
            sized = so_far.sized;
            room = so_far.room;
            pieced = rw next
                (one_further so_far.pieced {part = part} (omega (arith, length-map numbers bytes_of)) within
                (record { counted = rw its (sym (so_far.sized (get_or numbers k 0))); holds = rw its put }));
          }

    -- at last all are put
    pub all_numbers : length numbers ≤ k → out ≡ onto (joined (map bytes_of numbers)) before
    all_numbers h = (all_put so_far.pieced (omega (arith, length-map numbers bytes_of))).holds

-- in the place of as many bytes there it is put alike
pub in_place : (n m : ℕ) (out bytes : List ℕ) → length bytes ≡ m → put_mid n m out bytes ≡ with_back n out (onto bytes (behind n out))
unfolding onto
in_place n m out bytes sized = rw (back_is, behind_is, sized)

-- the bytes of every number, piece by piece
flat : (pieces : List File) → flat_map (λ piece. piece) pieces ≡ joined pieces
unfolding joined
flat [] = refl
flat (piece ∷ rest) = ap (λ (behind : File). piece ++ behind) (flat rest)

pub all_bytes : (bytes_of : ℕ → File) (numbers : List ℕ) (pieces : List File) → length pieces ≡ length numbers
    → ((k : ℕ) → k < length numbers → get_or pieces k [] ≡ bytes_of (get_or numbers k 0)) → flat_map (λ piece. piece) pieces ≡ joined (map bytes_of numbers)
all_bytes bytes_of numbers pieces same each =
    let are : pieces ≡ map bytes_of numbers = ext_get_or [] pieces (map bytes_of numbers) (same ∙ sym (length-map numbers bytes_of))
    (λ k h. let l : k < length numbers = omega arith in each k l ∙ sym (mapped bytes_of numbers k [] 0 l)) in
    rw are (flat (map bytes_of numbers))

-- four bytes, each behind the lower ones
pub low_first : (n : ℕ) → n % 256 ∷ n / 256 % 256 ∷ n / 65536 % 256 ∷ n / 16777216 % 256 ∷ [] ≡ u32_bytes n
unfolding u16_bytes u32_bytes
low_first n = let top : n / 16777216 ≡ n / 65536 / 256 = omega arith in rw top

-- ---- how a writing ends

module _ {walls loads before : List ℕ} {answer : Answer} (is : answer ≡ writing_answer walls loads (length before)) where
  -- it is refused
  pub not_written : {refusal : Refusal} {written : Result ℕ Refusal} → answer ≡ Err refusal → written ≡ Err refusal → Writes walls loads before written before
  unfolding onto bytes_written
  not_written refused same = record { answered = rw (← is, refused) same; holds = rw (← is, refused) }

  -- the file is written
  pub all_written : {well : ⊤} {after : List ℕ} {n : ℕ} → answer ≡ Ok well → n ≡ length (file_of walls loads) → after ≡ onto (file_of walls loads) before
      → Writes walls loads before (Ok n) after
  unfolding bytes_written
  all_written worked counted put = record { answered = rw (← is, worked, counted); holds = rw (← is, worked) put }
