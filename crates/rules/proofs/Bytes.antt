-- Numbers as bytes. `back`: what was written is read as the same numbers. `again`: what was read is written as the same bytes. And records, one behind the other.
use Prim.Native.Nat.{ℕ, zero, suc, ◌+◌, ◌-◌, ◌*◌, ◌/◌, ◌%◌, ◌^◌, ◌≤◌, ◌<◌}
use mathlib.Core.Path.{◌≡◌, refl, ap}
use mathlib.Core.List.{List, [], ◌∷◌, ◌++◌, map, append_assoc}
use native.Mathlib.Nat.{zero-add, add-zero, suc-add, mul-zero, mul_assoc, mul-le-mul_left, mul-div_right, mod-eq_of_lt, add-mul-mod_self_left}
use native.Mathlib.Numerals.{add-one}
use native.Mathlib.Omega.{arith}
use lib.ListN.{length, take, drop, length-append}
use lib.Seq.{take_at, drop_at, take-add, drop-drop, drop-cons, get_or-append_seam, get_or-append-add}
use Rattle.whole.proofs.Lists.{All, all_at}
use Rattle.rules.specs.JobFile.{File, byte_at, u16_at, u32_at, u32s_at, records_from, header_bytes}
use Rattle.rules.specs.SheetLine.{joined}
use Rattle.rules.specs.WrittenFile.{record_in, records_in, u16_bytes, u32_bytes, u16s_bytes, u32s_bytes, header_of, file_of}
use Rattle.rules.proofs.LongInput.{IsByte, u16_small}

-- ---- numbers of any width

-- numbers below a limit, of so many bytes each: how one is read and written, and how n are read that stand one behind the other
record Width : Type 0 where
  size : ℕ
  limit : ℕ
  number_at : File → ℕ → ℕ
  bytes_of : ℕ → File
  numbers_at : File → ℕ → ℕ → List ℕ
  sized : (n : ℕ) → length (bytes_of n) ≡ size
  back : (front : File) (n : ℕ) (rest : File) → n < limit → number_at (front ++ bytes_of n ++ rest) (length front) ≡ n
  again : (file : File) → All IsByte file → (at : ℕ) → at + size ≤ length file → bytes_of (number_at file at) ≡ take size (drop at file)
  none : (file : File) (at : ℕ) → numbers_at file at 0 ≡ []
  more : (file : File) (at n : ℕ) → numbers_at file at (suc n) ≡ number_at file at ∷ numbers_at file (at + size) n

-- what one of them has, all of a list have
module _ (w : Width) where
  open w use {size, limit, number_at, bytes_of, numbers_at, sized, back, again, none, more}

  all_sized : (numbers : List ℕ) → length (joined (map bytes_of numbers)) ≡ size * length numbers
  unfolding joined
  all_sized [] = omega arith
  all_sized (n ∷ ns) = omega (arith, length-append (bytes_of n) (joined (map bytes_of ns)), sized n, all_sized ns)

  all_back : (front : File) (numbers : List ℕ) (rest : File) → All (λ n. n < limit) numbers
      → numbers_at (front ++ joined (map bytes_of numbers) ++ rest) (length front) (length numbers) ≡ numbers
  unfolding joined
  all_back front [] rest small = rw none
  all_back front (n ∷ ns) rest small =
      let others = joined (map bytes_of ns) in
      let next : length front + size ≡ length (front ++ bytes_of n) = omega (arith, length-append front (bytes_of n), sized n) in
      rw (
        more,
        ← append_assoc front (bytes_of n) others,
        next,
        all_back (front ++ bytes_of n) ns rest small.1,
        append_assoc (front ++ bytes_of n) others rest,
        back front n (others ++ rest) small.0,
      )

  all_again : (file : File) → All IsByte file → (at n : ℕ) → at + size * n ≤ length file
      → joined (map bytes_of (numbers_at file at n)) ≡ take (size * n) (drop at file)
  unfolding joined
  all_again file bytes at zero h = rw (none, mul-zero)
  all_again file bytes at (suc n) h =
      let one_more : size * suc n ≡ size + size * n = omega arith in
      rw (
        more,
        one_more,
        take-add size (size * n) (drop at file),
        drop-drop size at file,
        again file bytes at (omega arith),
        all_again file bytes (at + size) n (omega arith),
      )

-- ---- one u16

pub u16_sized : (n : ℕ) → length (u16_bytes n) ≡ 2
unfolding u16_bytes
u16_sized n = refl

-- of any number, what is below the limit
u16_back : (front : File) (n : ℕ) (rest : File) → u16_at (front ++ u16_bytes n ++ rest) (length front) ≡ n % 65536
unfolding u16_at u16_bytes
u16_back front n rest =
    let low = n % 256 in
    let high = n / 256 % 256 in
    rw (append_assoc front (low ∷ high ∷ []) rest, get_or-append_seam front low (high ∷ rest) 0, get_or-append-add front (low ∷ high ∷ rest) 1 0) (omega arith)

u16_again : (file : File) → All IsByte file → (at : ℕ) → at + 2 ≤ length file → u16_bytes (u16_at file at) ≡ take 2 (drop at file)
unfolding u16_at u16_bytes
u16_again file bytes at h =
    let low = byte_at file at in
    let high = byte_at file (at + 1) in
    let byte = all_at IsByte 0 (omega arith) file bytes in
    let first : (low + 256 * high) % 256 ≡ low = omega (arith, byte at, add-mul-mod_self_left low 256 high) in
    let second : (low + 256 * high) / 256 ≡ high = omega (arith, byte at) in
    rw (first, second, mod-eq_of_lt (byte (at + 1)), add-one, drop-cons file at 0 (omega arith), drop-cons file (suc at) 0 (omega arith))

-- what is beyond the limit isn't written
u16_below : (low high : ℕ) → u16_bytes (low + 65536 * high) ≡ u16_bytes low
unfolding u16_bytes
u16_below low high =
    let first : (low + 65536 * high) % 256 ≡ low % 256 = omega (arith, add-mul-mod_self_left low 256 (256 * high)) in
    let second : (low + 65536 * high) / 256 ≡ low / 256 + 256 * high = omega arith in
    rw (first, second, add-mul-mod_self_left)

-- ---- one u32, which is two u16

pub u32_sized : (n : ℕ) → length (u32_bytes n) ≡ 4
unfolding u16_bytes u32_bytes
u32_sized n = refl

u32_back : (front : File) (n : ℕ) (rest : File) → n < 2 ^ 32 → u32_at (front ++ u32_bytes n ++ rest) (length front) ≡ n
unfolding u32_at u32_bytes
u32_back front n rest h =
    let low = u16_bytes n in
    let high = u16_bytes (n / 65536) in
    let next : length front + 2 ≡ length (front ++ low) = omega (arith, length-append front low, u16_sized n) in
    rw (
      ← append_assoc front low high,
      next,
      u16_back (front ++ low) (n / 65536) rest,
      append_assoc (front ++ low) high rest,
      u16_back front n (high ++ rest),
    )
    (omega arith)

u32_again : (file : File) → All IsByte file → (at : ℕ) → at + 4 ≤ length file → u32_bytes (u32_at file at) ≡ take 4 (drop at file)
unfolding u32_at u32_bytes
u32_again file bytes at h =
    let low = u16_at file at in
    let high = u16_at file (at + 2) in
    let second : (low + 65536 * high) / 65536 ≡ high = omega (arith, u16_small file bytes at) in
    rw (
      u16_below low high,
      second,
      u16_again file bytes at (omega arith),
      u16_again file bytes (at + 2) (omega arith),
      ← drop-drop 2 at file,
      ← take-add 2 2 (drop at file),
    )

-- ---- any number of them

-- n u16, one behind the other
unfoldable pub u16s_at : File → ℕ → ℕ → List ℕ
u16s_at file at zero = []
u16s_at file at (suc n) = u16_at file at ∷ u16s_at file (at + 2) n

-- numbers of 32 bits
abbrev pub Numbers : List ℕ → Type 0
Numbers = All (λ n. n < 2 ^ 32)

-- the two widths
abbrev u16 : Width
unfolding u16s_at
u16 =
    record {
      size = 2;
      limit = 2 ^ 16;
      number_at = u16_at;
      bytes_of = u16_bytes;
      numbers_at = u16s_at;
      sized = u16_sized;
      back = λ front n rest h. omega (arith, u16_back front n rest);
      again = u16_again;
      none = λ file at. refl;
      more = λ file at n. refl;
    }

abbrev u32 : Width
unfolding u32s_at
u32 =
    record {
      size = 4;
      limit = 2 ^ 32;
      number_at = u32_at;
      bytes_of = u32_bytes;
      numbers_at = u32s_at;
      sized = u32_sized;
      back = u32_back;
      again = u32_again;
      none = λ file at. refl;
      more = λ file at n. refl;
    }

-- so many bytes are written
pub u16s_length : (numbers : List ℕ) → length (u16s_bytes numbers) ≡ 2 * length numbers
unfolding u16s_bytes u16s_at
u16s_length = all_sized u16

pub u32s_length : (numbers : List ℕ) → length (u32s_bytes numbers) ≡ 4 * length numbers
unfolding u32s_bytes u32s_at
u32s_length = all_sized u32

-- the same numbers are read, wherever they stand
pub u16s_back : (front : File) (numbers : List ℕ) (rest : File) → All (λ n. n < 2 ^ 16) numbers
    → u16s_at (front ++ u16s_bytes numbers ++ rest) (length front) (length numbers) ≡ numbers
unfolding u16s_bytes u16s_at
u16s_back = all_back u16

pub u32s_back : (front : File) (numbers : List ℕ) (rest : File) → Numbers numbers
    → u32s_at (front ++ u32s_bytes numbers ++ rest) (length front) (length numbers) ≡ numbers
unfolding u32s_bytes u32s_at
u32s_back = all_back u32

-- the same bytes are written that were read
pub u16s_again : (file : File) → All IsByte file → (at n : ℕ) → at + 2 * n ≤ length file → u16s_bytes (u16s_at file at n) ≡ take (2 * n) (drop at file)
unfolding u16s_bytes u16s_at
u16s_again = all_again u16

pub u32s_again : (file : File) → All IsByte file → (at n : ℕ) → at + 4 * n ≤ length file → u32s_bytes (u32s_at file at n) ≡ take (4 * n) (drop at file)
unfolding u32s_bytes u32s_at
u32s_again = all_again u32

-- ---- parts of them

-- as many are read as were asked for
pub u32s_count : (file : File) (at n : ℕ) → length (u32s_at file at n) ≡ n
unfolding u32s_at
u32s_count file at zero = refl
u32s_count file at (suc n) = ap suc (u32s_count file (at + 4) n)

-- n, and m behind them
u32s_join : (file : File) (at n m : ℕ) → u32s_at file at (n + m) ≡ u32s_at file at n ++ u32s_at file (at + 4 * n) m
unfolding u32s_at
u32s_join file at zero m = rw (zero-add, add-zero)
u32s_join file at (suc n) m = let next : at + 4 * suc n ≡ at + 4 + 4 * n = omega arith in rw (suc-add, next, u32s_join file (at + 4) n m)

-- m of n, behind the first k
pub u32s_among : (file : File) (at n k m : ℕ) → k + m ≤ n → u32s_at file (at + 4 * k) m ≡ take m (drop k (u32s_at file at n))
u32s_among file at n k m h =
    let r = n - (k + m) in
    let those = u32s_at file (at + 4 * k) m in
    let behind = u32s_at file (at + 4 * k + 4 * m) r in
    let all : n ≡ k + (m + r) = omega arith in
    rw (
      all,
      u32s_join file at k (m + r),
      u32s_join file (at + 4 * k) m r,
      drop_at (u32s_at file at k) (those ++ behind) k (u32s_count file at k),
      take_at those behind m (u32s_count file (at + 4 * k) m),
    )

-- ---- records of so many fields, one behind the other

module _ (fields : ℕ) (file : File) (at : ℕ) where
  -- the record at an index from 0
  abbrev pub record_of : ℕ → List ℕ
  record_of i = u32s_at file (at + 4 * fields * i) fields

  -- joined, records are the numbers that stand there
  joined_from : (i n : ℕ) → joined (records_from record_of i n) ≡ u32s_at file (at + 4 * fields * i) (fields * n)
  unfolding joined records_from u32s_at
  joined_from i zero = rw mul-zero
  joined_from i (suc n) =
      let one_more : fields * suc n ≡ fields + fields * n = omega arith in
      let next : at + 4 * fields * i + 4 * fields ≡ at + 4 * fields * suc i = omega arith in
      rw (one_more, u32s_join file (at + 4 * fields * i) fields (fields * n), next, joined_from (suc i) n)

  pub joined_records : (n : ℕ) → joined (records_from record_of 0 n) ≡ u32s_at file at (fields * n)
  joined_records n = rw (joined_from 0 n, mul-zero, add-zero)

  -- and those numbers, taken as records, are the records
  again_from : (m i n : ℕ) → i + n ≤ m → records_from (record_in fields (u32s_at file at (fields * m))) i n ≡ records_from record_of i n
  unfolding records_from record_in
  again_from m i zero h = refl
  again_from m i (suc n) h =
      let within : fields * suc i ≤ fields * m = mul-le-mul_left fields (omega arith) in
      rw (again_from m (suc i) n (omega arith), ← u32s_among file at (fields * m) (fields * i) fields (omega arith), ← mul_assoc 4 fields i)

  pub records_again : 0 < fields → (n : ℕ) → records_in fields (joined (records_from record_of 0 n)) ≡ records_from record_of 0 n
  unfolding records_in
  records_again some n = rw (joined_records n, u32s_count file at (fields * n), mul-div_right n some) (again_from n 0 n (omega arith))

-- ---- the file that records make

-- the length of its header
pub header_length : (wall_count load_count : ℕ) → length (header_of wall_count load_count) ≡ header_bytes
unfolding header_of
header_length wall_count load_count = rw u16s_length

-- and its own
pub file_length : (walls loads : List ℕ) → length (file_of walls loads) ≡ header_bytes + 4 * length walls + 4 * length loads
unfolding file_of
file_length walls loads = simp (length-append, header_length, u32s_length)
