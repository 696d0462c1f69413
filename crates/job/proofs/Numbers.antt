-- Bytes past the end of a file are 0; numbers that are read one behind the other stand at their indices, and so do whole records.
use mathlib.Core.Path.{◌≡◌, refl, sym, ap, ◌∙◌}
use native.Mathlib.Nat.{add-zero, add_assoc}
use Prim.Native.Nat.{ℕ, zero, suc, ◌+◌, ◌*◌, ◌≤◌, ◌<◌}
use native.Mathlib.Omega.{arith}
use lib.ListN.{length, get_or, take, drop, replicate}
use lib.Seq.{ext_get_or, drop-drop, get_or-take, get_or-drop}
use mathlib.Core.List.{List, [], ◌∷◌}
use Rattle.std.specs.Int.{from_le_bytes, w32}
use Rattle.std.specs.Simd.{first_chunks}
use Rattle.rules.specs.WrittenFile.{record_count, record_in, records_in}
use Rattle.rules.proofs.AcceptedFile.{records_length, record_at}
use Rattle.rules.proofs.Bytes.{u32s_count}
use Rattle.std.proofs.Common.{min, ◌-◌, ◌++◌}
use Rattle.std.proofs.lemmas.Grind.{common_steps}
use Rattle.rules.specs.JobFile.{File, byte_at, u16_at, u32_at, u32s_at, records_from}

-- bytes from an index on, where the file ends before as many as are asked for: those that it has, and 0 for the others
pub near_end : (file : File) (at from n k : ℕ) → from ≡ min at (length file) → let rest = take (length file - from) (drop from file) in
    length rest < n → k < n → get_or (rest ++ drop (length rest) (replicate n 0)) k 0 ≡ byte_at file (at + k)
near_end file at from n k begins few h = grind (arith, common_steps)

-- each number stands four bytes behind the one before
pub number_at : (file : File) (at n k : ℕ) → k < n → get_or (u32s_at file at n) k 0 ≡ u32_at file (at + 4 * k)
unfolding u32s_at
number_at file at zero k h = absurd (omega arith)
number_at file at (suc n) zero h = ap (u32_at file) (omega arith)
number_at file at (suc n) (suc k) h = number_at file (at + 4) n k (omega arith) ∙ ap (u32_at file) (omega arith)

-- ---- numbers of which all bytes are there

-- whole records that are taken off the front one after the other stand at their indices
chunks_from : (fields : ℕ) (numbers : List ℕ) (i n : ℕ) → first_chunks fields n (drop (fields * i) numbers) ≡ records_from (record_in fields numbers) i n
unfolding record_in records_from
chunks_from fields numbers i zero = refl
chunks_from fields numbers i (suc n) =
    let further : fields * i + fields ≡ fields * suc i = omega arith in
    ap (λ (rest : List (List ℕ)). take fields (drop (fields * i) numbers) ∷ rest) (rw (drop-drop, further) (chunks_from fields numbers (suc i) n))

pub chunked : (fields : ℕ) (numbers : List ℕ) → first_chunks fields (record_count fields numbers) numbers ≡ records_in fields numbers
unfolding records_in
chunked fields numbers = let none : fields * 0 ≡ 0 = omega arith in rw none at (chunks_from fields numbers 0 (record_count fields numbers))

pub in_length : (fields : ℕ) (numbers : List ℕ) → length (records_in fields numbers) ≡ record_count fields numbers
unfolding records_in
in_length fields numbers = records_length (record_in fields numbers) 0 (record_count fields numbers)

pub in_at : (fields : ℕ) (numbers : List ℕ) (i : ℕ) → i < record_count fields numbers → get_or (records_in fields numbers) i [] ≡ record_in fields numbers i
unfolding records_in
in_at fields numbers i h = record_at (record_in fields numbers) 0 (record_count fields numbers) i h ∙ ap (record_in fields numbers) (omega arith)

-- a byte of a part of the file is that of the file
in_part : (file : File) (at n k : ℕ) → k < n → byte_at (take n (drop at file)) k ≡ byte_at file (at + k)
in_part file at n k h = get_or-take n (drop at file) k 0 h ∙ get_or-drop at file k 0

-- four bytes of a file are the number there
pub number_in : (file : File) (k : ℕ) → from_le_bytes w32 (record_in 4 file k) ≡ u32_at file (4 * k)
unfolding record_in u16_at u32_at
number_in file k =
    let its : (j : ℕ) → j < 4 → byte_at (take 4 (drop (4 * k) file)) j ≡ byte_at file (4 * k + j) = in_part file (4 * k) 4 in
    let first = rw add-zero at (its 0 (omega arith)) in
    simp add_assoc (omega (arith, first, its 1 (omega arith), its 2 (omega arith), its 3 (omega arith)))

-- and so are numbers of a part of the file
u32_in_part : (file : File) (at m j : ℕ) → j + 4 ≤ m → u32_at (take m (drop at file)) j ≡ u32_at file (at + j)
unfolding u16_at u32_at
u32_in_part file at m j h =
    rw (
      in_part file at m j (omega arith),
      in_part file at m (j + 1) (omega arith),
      in_part file at m (j + 2) (omega arith),
      in_part file at m (j + 2 + 1) (omega arith),
    )
    (simp add_assoc)

pub same_inside : (file : File) (at n : ℕ) → u32s_at (take (4 * n) (drop at file)) 0 n ≡ u32s_at file at n
same_inside file at n =
    let part = take (4 * n) (drop at file) in
    let counted = u32s_count part 0 n in
    ext_get_or 0 (u32s_at part 0 n) (u32s_at file at n) (counted ∙ sym (u32s_count file at n)) (λ k h.
    let l : k < n = omega (arith, counted) in
    let from : 0 + 4 * k ≡ 4 * k = omega arith in
    number_at part 0 n k l ∙ rw from (u32_in_part file at (4 * n) (4 * k) (omega arith)) ∙ sym (number_at file at n k l))
