-- Document 02, "#101 Write job files", as theorems: of the file that records make, of a file taken apart, and of the two calls, one behind the other.
use Rattle.std.proofs.lemmas.Bool.{false≢true}
use Rattle.rules.proofs.Replies.{gives_worked, worked_given, refusal_given}
use Rattle.rules.specs.declared.Refusal.{Refusal}
use Rattle.std.specs.Prelude.{is_ok, Result, Ok, Err, IsOkAnd}
use Prim.Native.Nat.{ℕ, ◌+◌, ◌*◌, ◌≤◌}
use mathlib.Core.Path.{◌≡◌, refl, sym, ap, ◌∙◌}
use mathlib.Core.Bool.{Bool, true, false, not, ◌||◌, and-eq-true_iff}
use mathlib.Core.List.{List, [], ◌∷◌, ◌++◌, append_assoc, append-nil}
use native.Mathlib.Nat.{mul-mod_right, mul-div_right}
use native.Mathlib.Omega.{arith}
use lib.Dec.{T, ltb}
use lib.Ieee.Bits.{is_true, is_false}
use lib.ListN.{length, get_or, take, drop, length-append}
use lib.Seq.{take_all, take-add, take-append_seam, drop-append_seam}
use borrow.Author.Tests.{leb-true, eqb-true, eq-eqb, le-ltb, ltb-false}
use Rattle.whole.proofs.Lists.{All, case}
use Rattle.rules.specs.declared.Refusal.TheVariants.{CountOutOfRange, BufferTooShort, OutputTooShort}
use Rattle.rules.specs.declared.Taken.{Taken}
use Rattle.rules.specs.JobFile.{File, u16_at, u32_at, u32s_at, this_edition, header_bytes, wall_fields, entry_fields, entry_bytes, most_walls, most_loads, edition, wall_count, first_wall_offset, load_count, first_load_offset, whole_length, entries_at, wall_at, entry_at, walls, entries}
use Rattle.rules.specs.Answered.{refused_if, counts_fit, offsets_fit, length_fits, first_refusal, accepted}
use Rattle.rules.specs.SheetLine.{joined, refusal_text}
use Rattle.rules.specs.Beyond.{onto, Put}
use Rattle.rules.specs.WrittenFile.{record_count, records_in, u16_bytes, u32_bytes, u16s_bytes, u32s_bytes, walls_end, loads_end, header_of, file_of, records_fit, records_answer, writing_answer, bytes_written, Writes, taking_answer, walls_taken, loads_taken, TakesApart, file_room, rewritten, numbers_taken}
use Rattle.rules.proofs.AcceptedFile.{first_worked, not_refused, passes, edition_is, counts_fit_lem, wall_count_lem, load_count_lem, offsets_fit_lem, length_fits_lem, ends, length_is}
use Rattle.rules.proofs.Bytes.{Numbers, u16s_at, u32s_length, u16s_back, u32s_back, u16s_again, u32s_again, u32s_count, joined_records, records_again, header_length, file_length}
use Rattle.rules.proofs.LongInput.{IsByte, least_read, read_alike}
use Rattle.rules.proofs.Points.{case_a, wall_a}

-- ---- the records of any file

-- joined, they are the numbers that stand there
pub walls_joined : (file : File) → joined (walls file) ≡ u32s_at file header_bytes (wall_fields * wall_count file)
unfolding walls wall_at
walls_joined file = joined_records wall_fields file header_bytes (wall_count file)

pub entries_joined : (file : File) → joined (entries file) ≡ u32s_at file (entries_at file) (entry_fields * load_count file)
unfolding entries entry_at
entries_joined file = joined_records entry_fields file (entries_at file) (load_count file)

-- so many
pub walls_numbers : (file : File) → length (joined (walls file)) ≡ wall_fields * wall_count file
walls_numbers file = rw (walls_joined file) (u32s_count file header_bytes (wall_fields * wall_count file))

pub entries_numbers : (file : File) → length (joined (entries file)) ≡ entry_fields * load_count file
entries_numbers file = rw (entries_joined file) (u32s_count file (entries_at file) (entry_fields * load_count file))

-- and taken as records they are the same ones
walls_again : (file : File) → records_in wall_fields (joined (walls file)) ≡ walls file
unfolding walls wall_at
walls_again file = records_again wall_fields file header_bytes (omega arith) (wall_count file)

entries_again : (file : File) → records_in entry_fields (joined (entries file)) ≡ entries file
unfolding entries entry_at
entries_again file = records_again entry_fields file (entries_at file) (omega arith) (load_count file)

-- as many as the header says
walls_there : (file : File) → record_count wall_fields (joined (walls file)) ≡ wall_count file
walls_there file = rw (walls_numbers file) (mul-div_right (wall_count file) (omega arith))

entries_there : (file : File) → record_count entry_fields (joined (entries file)) ≡ load_count file
entries_there file = rw (entries_numbers file) (mul-div_right (load_count file) (omega arith))

-- so that test 3 is the same of the records as of the file
fit_alike : (file : File) → records_fit (joined (walls file)) (joined (entries file)) ≡ counts_fit file
unfolding records_fit counts_fit
fit_alike file =
    rw (
      walls_there file,
      entries_there file,
      walls_numbers file,
      entries_numbers file,
      mul-mod_right wall_fields (wall_count file),
      mul-mod_right entry_fields (load_count file),
    )

-- ---- a file whose header is of this edition, with the offsets and the length that its counts give

abbrev RightHeader : File → Type 0
RightHeader file = (edition file ≡ this_edition) × T (offsets_fit file) × T (length_fits file)

right_header : (file : File) → T (accepted file) → RightHeader file
right_header file t = (edition_is file t, offsets_fit_lem file t, length_fits_lem file t)

-- it is no shorter than its header
header_within : (file : File) → RightHeader file → header_bytes ≤ length file
unfolding entries_at
header_within file right = omega (arith, ends file right.2)

-- it is answered as its records are
answered_alike : (file : File) → RightHeader file → first_refusal file ≡ records_answer (joined (walls file)) (joined (entries file))
unfolding first_refusal records_answer
answered_alike file right =
    rw (
      fit_alike file,
      walls_again file,
      entries_again file,
      le-ltb (length file) header_bytes (header_within file right),
      eq-eqb (edition file) this_edition right.0,
      is_true (offsets_fit file) right.1,
      is_true (length_fits file) right.2,
    )

-- the six numbers of its header are those that its counts make
abbrev header_numbers : ℕ → ℕ → List ℕ
header_numbers wall_count load_count = this_edition ∷ wall_count ∷ header_bytes ∷ load_count ∷ walls_end wall_count ∷ loads_end wall_count load_count ∷ []

header_numbers_lem : (file : File) → RightHeader file → u16s_at file 0 6 ≡ header_numbers (wall_count file) (load_count file)
unfolding offsets_fit u16s_at entries_at
header_numbers_lem file right =
    let tests = simp and-eq-true_iff at (is_true (offsets_fit file) right.1) in
    let first : first_wall_offset file ≡ header_bytes = omega (arith, eqb-true, tests) in
    let second : first_load_offset file ≡ walls_end (wall_count file) = omega (arith, eqb-true, tests) in
    let whole : whole_length file ≡ loads_end (wall_count file) (load_count file) = omega (arith, ends file right.2) in
    rw (right.0, first, second, whole)

-- and they are written as they stood
header_again : (file : File) → All IsByte file → RightHeader file → header_of (wall_count file) (load_count file) ≡ take header_bytes file
unfolding header_of
header_again file bytes right = ap u16s_bytes (sym (header_numbers_lem file right)) ∙ u16s_again file bytes 0 6 (header_within file right)

-- a list is its three parts, joined
three_parts : (file : File) (a b ab c : ℕ) → a + b ≡ ab → length file ≡ ab + c → take a file ++ take b (drop a file) ++ take c (drop ab file) ≡ file
three_parts file a b ab c seam end = rw (← take-add a b file, seam, ← take-add ab c file) (take_all (ab + c) file (omega arith))

-- "any file that the reader accepts, taken apart and written again, gives the same bytes"
pub same_bytes : (file : File) → All IsByte file → T (accepted file) → file_of (joined (walls file)) (joined (entries file)) ≡ file
unfolding file_of entries_at
same_bytes file bytes t =
    let m = wall_fields * wall_count file in
    let n = entry_fields * load_count file in
    let all : length file ≡ entries_at file + entry_bytes * load_count file = length_is file t in
    rw (
      walls_there file,
      entries_there file,
      header_again file bytes (right_header file t),
      walls_joined file,
      entries_joined file,
      u32s_again file bytes header_bytes m (omega arith),
      u32s_again file bytes (entries_at file) n (omega arith),
    )
    (three_parts file header_bytes (4 * m) (entries_at file) (4 * n) (omega arith) (omega arith))

-- ---- the file that records make

-- records that pass test 3: how many numbers they are, and how many records
counts : (ws ls : List ℕ) → T (records_fit ws ls)
    → (length ws ≡ wall_fields * record_count wall_fields ws) × (length ls ≡ entry_fields * record_count entry_fields ls)
    × (1 ≤ record_count wall_fields ws) × (record_count wall_fields ws ≤ most_walls) × (record_count entry_fields ls ≤ most_loads)
unfolding records_fit
counts ws ls fit = omega (arith, eqb-true, leb-true, simp and-eq-true_iff at (is_true (records_fit ws ls) fit))

-- their file is no longer than the longest job
file_small : (ws ls : List ℕ) → T (records_fit ws ls) → length (file_of ws ls) ≤ file_room
file_small ws ls fit = omega (arith, file_length ws ls, counts ws ls fit)

-- and where they are numbers of 32 bits
module _ (ws ls : List ℕ) (wallNumbers : Numbers ws) (loadNumbers : Numbers ls) (fit : T (records_fit ws ls)) where
  abbrev made : File
  made = file_of ws ls

  abbrev header : File
  header = header_of (record_count wall_fields ws) (record_count entry_fields ls)

  abbrev numbers : List ℕ
  numbers = header_numbers (record_count wall_fields ws) (record_count entry_fields ls)

  -- its header is read as the numbers of which it is made
  header_back : u16s_at made 0 6 ≡ numbers
  unfolding file_of header_of
  header_back =
      rw (append_assoc header (u32s_bytes ws) (u32s_bytes ls)) (u16s_back [] numbers (u32s_bytes ws ++ u32s_bytes ls) (omega (arith, counts ws ls fit)))

  header_says : (k : ℕ) → get_or (u16s_at made 0 6) k 0 ≡ get_or numbers k 0
  header_says k = ap (λ (list : List ℕ). get_or list k 0) header_back

  walls_counted : wall_count made ≡ record_count wall_fields ws
  unfolding u16s_at
  walls_counted = header_says 1

  loads_counted : load_count made ≡ record_count entry_fields ls
  unfolding u16s_at
  loads_counted = header_says 3

  -- and it is right
  offsets_back : T (offsets_fit made)
  unfolding offsets_fit u16s_at entries_at
  offsets_back =
      rw (
        eq-eqb (first_wall_offset made) header_bytes (header_says 2),
        eq-eqb (first_load_offset made) (entries_at made) (omega (arith, walls_counted, header_says 4)),
      )
      tt

  length_back : T (length_fits made)
  unfolding length_fits u16s_at entries_at
  length_back =
      rw (
        eq-eqb (whole_length made) (entries_at made + entry_bytes * load_count made) (omega (arith, walls_counted, loads_counted, header_says 5)),
        eq-eqb (whole_length made) (length made) (omega (arith, header_says 5, file_length ws ls, counts ws ls fit)),
      )
      tt

  made_right : RightHeader made
  unfolding u16s_at
  made_right = (header_says 0, offsets_back, length_back)

  -- the walls stand behind the header, and the loads behind the walls
  walls_back : joined (walls made) ≡ ws
  unfolding file_of
  walls_back =
      rw (walls_joined made, walls_counted, ← (counts ws ls fit).0) (rw header_length at (u32s_back header ws (u32s_bytes ls) wallNumbers))

  loads_start : entries_at made ≡ length (header ++ u32s_bytes ws)
  unfolding entries_at
  loads_start = simp (length-append, header_length, u32s_length) (omega (arith, walls_counted, counts ws ls fit))

  loads_back : joined (entries made) ≡ ls
  unfolding file_of
  loads_back =
      rw (entries_joined made, loads_counted, ← (counts ws ls fit).1, loads_start)
      (rw append-nil at (u32s_back (header ++ u32s_bytes ws) ls [] loadNumbers))

  -- "What it writes is read back as the same records": as numbers,
  pub read_back : (joined (walls (file_of ws ls)) ≡ ws) × (joined (entries (file_of ws ls)) ≡ ls)
  read_back = (walls_back, loads_back)

  -- and one by one
  pub records_back : (walls (file_of ws ls) ≡ records_in wall_fields ws) × (entries (file_of ws ls) ≡ records_in entry_fields ls)
  records_back = (rw walls_back at (sym (walls_again made)), rw loads_back at (sym (entries_again made)))

  -- "or refuses as the reader would": past test 3, and 9 apart, the answer is the reader's to the file that the records make
  pub reader_answers : first_refusal (file_of ws ls) ≡ records_answer ws ls
  reader_answers = rw (walls_back, loads_back) at (answered_alike made made_right)

-- ---- what is answered by a call, and what it leaves

-- records that aren't refused pass test 3
pub records_fit_lem : (ws ls : List ℕ) → T (is_ok (records_answer ws ls)) → T (records_fit ws ls)
unfolding records_answer
records_fit_lem ws ls t = passes (records_fit ws ls) CountOutOfRange (first_worked (refused_if (not (records_fit ws ls)) (Err CountOutOfRange)) _ t).0

-- where there is room, they are written, and an accepted file is taken apart
writing_works : (ws ls : List ℕ) (room : ℕ) → T (is_ok (records_answer ws ls)) → length (file_of ws ls) ≤ room → writing_answer ws ls room ≡ Ok tt
unfolding writing_answer
writing_works ws ls room t h = rw (is_true (is_ok (records_answer ws ls)) t, le-ltb room (length (file_of ws ls)) h)

taking_works : (file : File) (m n : ℕ) → T (accepted file) → length (joined (walls file)) ≤ m → length (joined (entries file)) ≤ n
    → taking_answer file m n ≡ Ok tt
unfolding taking_answer
taking_works file m n t h k =
    rw (
      is_true (accepted file) t,
      le-ltb m (wall_fields * wall_count file) (rw walls_numbers at h),
      le-ltb n (entry_fields * load_count file) (rw entries_numbers at k),
    )

-- and where they are, there was
pub written_fits : (ws ls : List ℕ) (room : ℕ) → T (is_ok (writing_answer ws ls room)) → T (records_fit ws ls) × (length (file_of ws ls) ≤ room)
unfolding writing_answer
written_fits ws ls room t =
    let long = length (file_of ws ls) in
    let past = first_worked (records_answer ws ls) _ t in
    (records_fit_lem ws ls past.0, ltb-false room long (is_false (ltb room long) (not_refused (ltb room long) OutputTooShort past.1)))

neither : (a b : Bool) → T (not (a || b)) → (a ≡ false) × (b ≡ false)
neither true b t = absurd t
neither false true t = absurd t
neither false false t = (refl, refl)

pub taken_fits : (file : File) (m n : ℕ) → T (is_ok (taking_answer file m n))
    → T (accepted file) × (wall_fields * wall_count file ≤ m) × (entry_fields * load_count file ≤ n)
unfolding taking_answer
taken_fits file m n t =
    let walled = ltb m (wall_fields * wall_count file) in
    let loaded = ltb n (entry_fields * load_count file) in
    let past = first_worked (first_refusal file) _ t in
    let room = neither walled loaded (not_refused (walled || loaded) BufferTooShort past.1) in
    (past.0, ltb-false m _ room.0, ltb-false n _ room.1)

-- a text that was put at the start of a buffer stands there
put_there : {text before after : List ℕ} {n : ℕ} → Put text before n after → take n after ≡ text
unfolding onto
put_there {text} {before} put = rw (put.counted, put.holds) (take-append_seam text (drop (length text) before))

-- where a file was written, its records aren't refused, and it stands at the start of the buffer
file_written : {ws ls before after : List ℕ} {n : ℕ} → Writes ws ls before (Ok n) after
    → T (is_ok (records_answer ws ls)) × Put (file_of ws ls) before n after
unfolding writing_answer bytes_written
file_written {ws} {ls} {before} writes =
    let given = worked_given (writing_answer ws ls (length before)) _ writes.answered in
    let worked = is_true (is_ok (writing_answer ws ls (length before))) given.0 in
    ((first_worked (records_answer ws ls) _ given.0).0, record { counted = rw worked at given.1; holds = rw worked at writes.holds })

-- where one was taken apart, it is accepted, and its records stand at the start of the buffers
pub records_taken : {file wallsBefore loadsBefore wallsAfter loadsAfter : List ℕ} {a : Taken}
    → TakesApart file wallsBefore loadsBefore (Ok a) wallsAfter loadsAfter
    → T (accepted file) × Put (joined (walls file)) wallsBefore a.walls wallsAfter × Put (joined (entries file)) loadsBefore a.loads loadsAfter
unfolding taking_answer walls_taken loads_taken numbers_taken
records_taken {file} {wallsBefore} {loadsBefore} apart =
    let given = worked_given (taking_answer file (length wallsBefore) (length loadsBefore)) _ apart.answered in
    let worked = is_true (is_ok (taking_answer file (length wallsBefore) (length loadsBefore))) given.0 in (
      (first_worked (first_refusal file) _ given.0).0,
      record { counted = rw worked at (ap (λ (taken : Taken). taken.walls) given.1); holds = rw worked at apart.walls_held },
      record { counted = rw worked at (ap (λ (taken : Taken). taken.loads) given.1); holds = rw worked at apart.loads_held },
    )

-- ---- the two calls, one behind the other

-- "What it writes is read back as the same records": into buffers with the room for them
pub written_is_read : {ws ls before after wallsBefore loadsBefore wallsAfter loadsAfter : List ℕ} {n : ℕ} {a : Result Taken Refusal}
    → Writes ws ls before (Ok n) after → Numbers ws → Numbers ls
    → TakesApart (take n after) wallsBefore loadsBefore a wallsAfter loadsAfter → length ws ≤ length wallsBefore → length ls ≤ length loadsBefore
    → IsOkAnd a (λ taken. Put ws wallsBefore taken.walls wallsAfter × Put ls loadsBefore taken.loads loadsAfter)
written_is_read {ws} {ls} {wallsBefore} {loadsBefore} {a} writes wallNumbers loadNumbers taking h k =
    let written = file_written writes in
    let fit = records_fit_lem ws ls written.0 in
    let back = read_back ws ls wallNumbers loadNumbers fit in
    let apart = rw (put_there written.1) at taking in
    let good : T (accepted (file_of ws ls)) = rw (reader_answers ws ls wallNumbers loadNumbers fit) written.0 in
    let works = taking_works (file_of ws ls) (length wallsBefore) (length loadsBefore) good (rw back.0 h) (rw back.1 k) in
    let taken : a ≡ Ok (numbers_taken (file_of ws ls) (length wallsBefore) (length loadsBefore)) = apart.answered ∙ gives_worked _ _ (rw works tt) in
    let held = records_taken (rw taken at apart) in rw taken (rw back.0 at held.1, rw back.1 at held.2)

-- a file that is taken apart is accepted, and written again into a buffer with the room it is what is printed
pub written_again : {file wallsBefore loadsBefore wallsAfter loadsAfter before after : List ℕ} {a : Taken} {w : Result ℕ Refusal}
    → TakesApart file wallsBefore loadsBefore (Ok a) wallsAfter loadsAfter
    → Writes (take a.walls wallsAfter) (take a.loads loadsAfter) before w after → length (rewritten file) ≤ length before
    → IsOkAnd w (λ n. Put (rewritten file) before n after)
unfolding rewritten
written_again {file} {before} {w} apart writing room =
    let held = records_taken apart in
    let ws = joined (walls file) in
    let ls = joined (entries file) in
    let accepts = is_true (accepted file) held.0 in
    let writes = rw (put_there held.1, put_there held.2) at writing in
    let good = rw (answered_alike file (right_header file held.0)) at held.0 in
    let works = writing_works ws ls (length before) good (rw accepts at room) in
    let written : w ≡ Ok (length (bytes_written ws ls (length before))) = writes.answered ∙ gives_worked _ _ (rw works tt) in
    rw (written, accepts) (file_written (rw written at writes)).1

-- of a job that is accepted that is the file itself,
pub rewritten_same : (file : File) → All IsByte file → T (accepted file) → rewritten file ≡ file
unfolding rewritten
rewritten_same file bytes t = rw (is_true (accepted file) t) (same_bytes file bytes t)

-- so that "any file that the reader accepts, taken apart and written again, gives the same bytes"
pub taken_is_written : {file wallsBefore loadsBefore wallsAfter loadsAfter before after : List ℕ} {a : Taken} {w : Result ℕ Refusal}
    → TakesApart file wallsBefore loadsBefore (Ok a) wallsAfter loadsAfter → All IsByte file
    → Writes (take a.walls wallsAfter) (take a.loads loadsAfter) before w after → length file ≤ length before
    → IsOkAnd w (λ n. Put file before n after)
taken_is_written {file} apart bytes writing room =
    let same = rewritten_same file bytes (records_taken apart).0 in rw same at (written_again apart writing (rw same room))

-- "Bytes after the file stay untouched,
pub untouched : {ws ls before after : List ℕ} {n : ℕ} → Writes ws ls before (Ok n) after → drop n after ≡ drop n before
unfolding onto
untouched {ws} {ls} {before} writes =
    let bytes = bytes_written ws ls (length before) in
    let counted = (worked_given (writing_answer ws ls (length before)) _ writes.answered).1 in
    rw (counted, writes.holds) (drop-append_seam bytes (drop (length bytes) before))

-- and a refusal writes none"
pub refusal_writes_none : {ws ls before after : List ℕ} {refusal : Refusal} → Writes ws ls before (Err refusal) after → after ≡ before
unfolding bytes_written onto
refusal_writes_none {ws} {ls} {before} writes =
    let refused = refusal_given (writing_answer ws ls (length before)) _ writes.answered in rw refused at writes.holds

-- no more bytes are written than the longest job has
pub written_small : {ws ls before after : List ℕ} {n : ℕ} → Writes ws ls before (Ok n) after → n ≤ file_room
unfolding writing_answer bytes_written
written_small {ws} {ls} {before} writes =
    rw (worked_given (writing_answer ws ls (length before)) _ writes.answered).1
    (case (is_ok (writing_answer ws ls (length before))) (file_of ws ls) [] (λ bytes. length bytes ≤ file_room)
    (λ t. file_small ws ls (records_fit_lem ws ls (first_worked (records_answer ws ls) _ t).0))
    (λ t. omega arith))

-- ---- a job written again, as it is printed: taken apart into buffers with the room for any

-- where they have it, the only refusals are the reader's, and the text is the refusal's
pub refusal_printed : {file wallsBefore loadsBefore wallsAfter loadsAfter : List ℕ} {refusal : Refusal}
    → TakesApart file wallsBefore loadsBefore (Err refusal) wallsAfter loadsAfter
    → wall_fields * most_walls ≤ length wallsBefore → entry_fields * most_loads ≤ length loadsBefore
    → refusal_text (Err refusal) ≡ rewritten file
unfolding taking_answer rewritten
refusal_printed {file} {wallsBefore} {loadsBefore} {refusal} apart h k = go (accepted file) refl
  where
    refused : taking_answer file (length wallsBefore) (length loadsBefore) ≡ Err refusal
    refused = refusal_given (taking_answer file (length wallsBefore) (length loadsBefore)) _ apart.answered

    go : (is : Bool) → accepted file ≡ is → refusal_text (Err refusal) ≡ rewritten file
    go true e =
        let counted = wall_count_lem file (rw e tt) in
        let loaded = load_count_lem file (rw e tt) in
        let works = taking_works file (length wallsBefore) (length loadsBefore) (rw e tt) (omega (arith, walls_numbers file)) (omega (arith, entries_numbers file)) in
        absurd (false≢true (ap is_ok (sym refused ∙ works)))
    go false e = let its : first_refusal file ≡ Err refusal = rw e at refused in rw its

-- of a job that is accepted there is room for it
pub rewritten_small : (file : File) → T (accepted file) → length (rewritten file) ≤ file_room
unfolding rewritten
rewritten_small file t = rw (is_true (accepted file) t) (file_small (joined (walls file)) (joined (entries file)) (rw (fit_alike file) (counts_fit_lem file t)))

-- and of an input longer than any job what would be if all were read
pub rewritten_read : (read : ℕ) → least_read ≤ read → (file : File) → All IsByte file → rewritten (take read file) ≡ rewritten file
unfolding rewritten
rewritten_read read enough = read_alike read enough rewritten (λ one other same unworked. rw (same, unworked))

-- ---- by computing

-- case A is what its one wall makes, byte for byte
pub written_a : file_of wall_a [] ≡ case_a
unfolding u16_at u32_at u32s_at wall_at case_a wall_a joined u16_bytes u32_bytes u16s_bytes u32s_bytes header_of file_of
written_a = refl

-- a load on wall 1: down, 650 mm from the toe, 200000 N/m dead and 1000 N/m live
pub written_load : u32s_bytes (1 ∷ 0 ∷ 650 ∷ 200000 ∷ 1000 ∷ [])
    ≡ 1 ∷ 0 ∷ 0 ∷ 0 ∷ 0 ∷ 0 ∷ 0 ∷ 0 ∷ 138 ∷ 2 ∷ 0 ∷ 0 ∷ 64 ∷ 13 ∷ 3 ∷ 0 ∷ 232 ∷ 3 ∷ 0 ∷ 0 ∷ []
unfolding joined u16_bytes u32_bytes u32s_bytes
written_load = refl
