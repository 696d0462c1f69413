-- Inputs longer than any job. A program that stops reading after 65536 bytes, or later, prints and draws what it would if it read to the end.
use Rattle.rules.proofs.Replies.{refused_alike}
use Rattle.std.specs.Prelude.{is_ok, Err}
use Prim.Native.Nat.{ℕ, ◌+◌, ◌≤◌, ◌<◌}
use native.Mathlib.Omega.{arith}
use mathlib.Core.Path.{◌≡◌, refl, ap}
use mathlib.Core.Bool.{Bool, true, false, not}
use lib.Dec.{T, leb, eqb, not_T}
use lib.Ieee.Bits.{is_true, is_false}
use lib.ListN.{length, take}
use lib.Seq.{length-take-le, take_all, get_or-take}
use borrow.Author.Tests.{leb-true, leb-false, le-ltb, eq-eqb}
use Rattle.whole.proofs.Lists.{All, all_at}
use Rattle.rules.specs.declared.Refusal.TheVariants.{WrongEdition, CountOutOfRange, WrongOffset, WrongLength}
use Rattle.rules.specs.JobFile.{File, u16_at, header_bytes, this_edition, edition, whole_length, entries_at}
use Rattle.rules.specs.Answered.{refused_if, ◌or_else◌, counts_fit, offsets_fit, length_fits, first_refusal, accepted, Answer}
use Rattle.rules.specs.SheetLine.{printed}
use Rattle.rules.specs.Drawing.{answer_to_drawing, drawing_for, drawn}
use Rattle.rules.specs.WrittenFile.{file_room}
use Rattle.rules.proofs.AcceptedFile.{length_fits_lem, counts_fit_lem, walls_counted, loads_counted, ends}

-- ---- files whose length is wrong

-- what they are answered, by whether the edition is right, whether the counts are, and whether the offsets are
abbrev by_header : Bool → Bool → Bool → Answer
by_header one counted placed =
    refused_if (not one) (Err WrongEdition) or_else refused_if (not counted) (Err CountOutOfRange) or_else refused_if (not placed) (Err WrongOffset) or_else Err WrongLength

refused_by_header : (file : File) → header_bytes ≤ length file → (T (length_fits file) → ⊥)
    → first_refusal file ≡ by_header (eqb (edition file) this_edition) (counts_fit file) (offsets_fit file)
unfolding first_refusal
refused_by_header file long unfit = rw (le-ltb (length file) header_bytes, is_false (length_fits file) (not_T (length_fits file) unfit))

-- and none of them is worked
no_work : (one counted placed : Bool) → is_ok (by_header one counted placed) ≡ false
no_work true true true = refl
no_work true true false = refl
no_work true false placed = refl
no_work false counted placed = refl

-- ---- longer than any job

-- counts that are right give no greater length
too_long : (file : File) → file_room < length file → T (counts_fit file) → T (length_fits file) → ⊥
unfolding entries_at
too_long file longer counts ended = omega (arith, walls_counted file counts, loads_counted file counts, ends file ended)

-- a longer input is not accepted
pub not_accepted : (file : File) → file_room < length file → T (accepted file) → ⊥
not_accepted file longer t = too_long file longer (counts_fit_lem file t) (length_fits_lem file t)

-- and where its edition, its counts and its offsets are right, it is refused for its length
pub refused_for_length : (file : File) → file_room < length file → edition file ≡ this_edition → T (counts_fit file) → T (offsets_fit file)
    → first_refusal file ≡ Err WrongLength
refused_for_length file longer one counts offsets =
    rw (
      refused_by_header file (omega arith) (too_long file longer counts),
      eq-eqb (edition file) this_edition,
      is_true (counts_fit file),
      is_true (offsets_fit file),
    )

-- ---- what a program reads of its input: no fewer bytes than this, if there are as many

abbrev pub least_read : ℕ
least_read = 65536

abbrev pub IsByte : ℕ → Type 0
IsByte n = n < 256

-- every number of a header is below it
pub u16_small : (file : File) → All IsByte file → (at : ℕ) → u16_at file at < least_read
unfolding u16_at
u16_small file bytes at = omega (arith, all_at IsByte 0 (omega arith) file bytes at, all_at IsByte 0 (omega arith) file bytes (at + 1))

-- so that a file of as many bytes is longer than its header says
long_by_header : (file : File) → least_read ≤ length file → whole_length file < least_read
    → first_refusal file ≡ by_header (eqb (edition file) this_edition) (counts_fit file) (offsets_fit file)
long_by_header file long small = refused_by_header file (omega arith) (λ ended. omega (arith, ends file ended))

module _ (read : ℕ) (enough : least_read ≤ read) where
  -- the header is read whole
  u16_read : (file : File) (at : ℕ) → at + 1 < read → u16_at (take read file) at ≡ u16_at file at
  unfolding u16_at
  u16_read file at h = let l : at < read = omega arith in rw (get_or-take read file at, get_or-take read file (at + 1))

  counts_read : (file : File) → counts_fit (take read file) ≡ counts_fit file
  unfolding counts_fit
  counts_read file = rw (u16_read file 2 (omega arith), u16_read file 6 (omega arith))

  offsets_read : (file : File) → offsets_fit (take read file) ≡ offsets_fit file
  unfolding offsets_fit entries_at
  offsets_read file = rw (u16_read file 2 (omega arith), u16_read file 4 (omega arith), u16_read file 8 (omega arith))

  -- an input that isn't read to its end is refused, and so is what is read of it, for the same reason
  module _ (file : File) (bytes : All IsByte file) (long : read ≤ length file) where
    pub long_refused : is_ok (first_refusal file) ≡ false
    long_refused = rw (long_by_header file (omega arith) (u16_small file bytes 10)) (no_work (eqb (edition file) this_edition) (counts_fit file) (offsets_fit file))

    pub long_alike : first_refusal (take read file) ≡ first_refusal file
    long_alike =
        let start = take read file in
        let its : length start ≡ read = length-take-le read file long in
        let small = u16_small file bytes 10 in
        let same : whole_length start ≡ whole_length file = u16_read file 10 (omega arith) in
        rw (
          long_by_header start (omega arith) (omega arith),
          long_by_header file (omega arith) small,
          u16_read file 0 (omega arith),
          counts_read file,
          offsets_read file,
        )

  -- what files that are refused alike have alike, an input and what is read of it have alike
  pub read_alike : {A : Type 0} (f : File → A)
      → ((one other : File) → first_refusal one ≡ first_refusal other → is_ok (first_refusal other) ≡ false → f one ≡ f other)
      → (file : File) → All IsByte file → f (take read file) ≡ f file
  read_alike f alike file bytes = go (leb read (length file)) refl
    where
      go : (is : Bool) → leb read (length file) ≡ is → f (take read file) ≡ f file
      go true e = let long = leb-true read (length file) e in alike (take read file) file (long_alike file bytes long) (long_refused file bytes long)
      go false e = ap f (take_all read file (omega (arith, leb-false read (length file) e)))

  -- the same text is printed as if all were read
  pub printed_read : (file : File) → All IsByte file → printed (take read file) ≡ printed file
  unfolding printed
  printed_read = read_alike printed (λ one other same unworked. rw (same, unworked))

  -- and the same is drawn
  pub drawn_read : (file : File) → All IsByte file → (n : ℕ) → drawing_for (take read file) n ≡ drawing_for file n
  unfolding drawing_for answer_to_drawing
  drawn_read file bytes n = read_alike (λ file. drawing_for file n) (λ one other same unworked. rw (same, unworked) (refused_alike (first_refusal other) (drawn one n) (drawn other n) unworked)) file bytes
