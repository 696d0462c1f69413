-- A word read byte by byte: those passed are digits, and it is known what they make, as far as that is told apart.
use Prim.Native.Nat.{ℕ, suc, ◌+◌, ◌-◌, ◌*◌, ◌≤◌, ◌<◌, min}
use Prim.Native.Char.{code}
use mathlib.Core.Path.{◌≡◌, refl, sym, ◌∙◌, ap}
use mathlib.Core.Bool.{Bool, true, false, cond, and-false}
use mathlib.Core.List.{List, [], ◌∷◌}
use native.Mathlib.Numerals.{add-one}
use native.Mathlib.Omega.{arith}
use borrow.Author.Tests.{le-leb, lt-leb, lt-ltb, le-ltb, ne_eqb}
use lib.ListN.{length, get_or, take, drop, drop_of_length-le}
use lib.Seq.{drop-cons, length-take-le}
use Rattle.std.specs.Prelude.{Some, None, Result, Ok, Err, OkIff}
use Rattle.std.specs.Result.{result_ok, result_unwrap_or}
use Rattle.rules.specs.SheetLine.{ascii}
use Rattle.keyed.specs.Keyed.{is_digit, are_digits, is_digits, with_digits, beyond, most_digits, is_number, asked_for, has_point, greatest_angle, angle_by, angle_of, digits_behind}

-- ---- a number that is too great may be cut down before digits come behind it as well as after

unfoldable pub told : ℕ → ℕ
told n = min n beyond

pub told_small : (n : ℕ) → told n ≤ beyond
unfolding told
told_small n = omega arith

pub told_as_it_is : {n : ℕ} → n ≤ beyond → told n ≡ n
unfolding told
told_as_it_is h = omega arith

ten_told : (n d : ℕ) → told (10 * told n + d) ≡ told (10 * n + d)
unfolding told
ten_told n d = omega arith

pub cut_before : (word : List ℕ) (n : ℕ) → told (with_digits (told n) word) ≡ told (with_digits n word)
unfolding with_digits
cut_before [] n = told_as_it_is (told_small n)
cut_before (byte ∷ rest) n =
    sym (cut_before rest (10 * told n + (byte - code "0"))) ∙ ap (λ (m : ℕ). told (with_digits m rest)) (ten_told n (byte - code "0")) ∙ cut_before rest (10 * n + (byte - code "0"))

-- ---- the bytes before an index are digits, and with them behind it the number makes a value: what the word makes depends on the rest alone

pub record Passed (number : ℕ) (word : List ℕ) (value i : ℕ) : Type 0 where
  pub within : i ≤ length word
  pub digits : are_digits word ≡ are_digits (drop i word)
  pub makes : told (with_digits number word) ≡ told (with_digits value (drop i word))
  pub small : value ≤ beyond

module _ {number : ℕ} {word : List ℕ} {value i : ℕ} (passed : Passed number word value i) where
  -- the next byte
  module _ (h : i < length word) where
    pub one_more : is_digit (get_or word i 0) ≡ true → Passed number word (told (10 * value + (get_or word i 0 - code "0"))) (i + 1)
    unfolding are_digits with_digits
    one_more d =
        record {
          within = omega arith;
          digits = passed.digits ∙ rw (add-one, drop-cons word i 0 h, d);
          makes = passed.makes ∙ rw (add-one, drop-cons word i 0 h) (sym (cut_before (drop (suc i) word) (10 * value + (get_or word i 0 - code "0"))));
          small = told_small _;
        }

    pub not_all : is_digit (get_or word i 0) ≡ false → are_digits word ≡ false
    unfolding are_digits
    not_all d = passed.digits ∙ rw (drop-cons word i 0 h, d)

  -- in the end all are
  module _ (h : length word ≤ i) where
    pub all_digits : are_digits word ≡ true
    unfolding are_digits
    all_digits = passed.digits ∙ rw (drop_of_length-le word h)

    pub all_made : told (with_digits number word) ≡ value
    unfolding with_digits
    all_made = passed.makes ∙ rw (drop_of_length-le word h) (told_as_it_is passed.small)

-- ---- what was read, and what a word then is

module _ (number : ℕ) (word : List ℕ) where
  -- a value is read of digits alone, and it is what they make
  pub value_read : {v : ℕ} → digits_behind number word ≡ Some v → (is_digits word ≡ true) × (told (with_digits number word) ≡ v)
  unfolding digits_behind told
  value_read = by_test (is_digits word) (told (with_digits number word))
    where
      by_test : {v : ℕ} (b : Bool) (n : ℕ) → cond b (Some n) None ≡ Some v → (b ≡ true) × (n ≡ v)
      by_test true n e = (refl, cc)
      by_test false n e = absurd (cc)

  -- and nothing of anything else
  pub none_read : digits_behind number word ≡ None → is_digits word ≡ false
  unfolding digits_behind
  none_read = by_test (is_digits word) (min (with_digits number word) beyond)
    where
      by_test : (b : Bool) (n : ℕ) → cond b (Some n) None ≡ None → b ≡ false
      by_test true n e = absurd (cc)
      by_test false n e = refl

-- so a number is what was read, where 32 bits hold that,
module _ (word : List ℕ) where
  pub number_read : {v : ℕ} → length word ≤ most_digits → digits_behind 0 word ≡ Some v → {E : Type 0} (fits : Result ℕ E) → OkIff fits (v < beyond) v → result_ok fits ≡ asked_for word
  unfolding asked_for is_number told
  number_read {v} short e (Ok n) h =
      let read = value_read 0 word e in
      let made : with_digits 0 word ≡ n = omega (arith, read.1, h.0, h.1) in
      let small : n < beyond = omega (arith, h.0, h.1) in
      rw (le-leb _ _ short, read.0, made, lt-ltb _ _ small)
  number_read {v} short e (Err _) h =
      let read = value_read 0 word e in
      let most : beyond ≤ v = omega (arith, h) in
      rw (le-ltb (with_digits 0 word) beyond (omega (arith, read.1, most)), and-false)

  pub number_none : digits_behind 0 word ≡ None → asked_for word ≡ None
  unfolding asked_for is_number
  number_none e = rw (none_read 0 word e, and-false)

-- and an angle what was read of its tenth behind the degrees
module _ (degrees tenth : List ℕ) where
  pub angle_read : {v n : ℕ} → digits_behind 0 degrees ≡ Some v → digits_behind v tenth ≡ Some n → {E : Type 0} (fits : Result ℕ E) → OkIff fits (n < suc greatest_angle) n → Some (result_unwrap_or fits greatest_angle) ≡ angle_by degrees tenth
  unfolding angle_by told
  angle_read {v} {n} e f fits h =
      rw ((value_read 0 degrees e).0, (value_read v tenth f).0)
      (ap Some (fitted fits h ∙ sym (lesser _ _ (sym made ∙ (value_read v tenth f).1))))
    where
      made : told (with_digits v tenth) ≡ told (with_digits (with_digits 0 degrees) tenth)
      made = rw (sym (value_read 0 degrees e).1) (cut_before tenth (with_digits 0 degrees))

      lesser : (a b : ℕ) → told a ≡ b → min a greatest_angle ≡ min b greatest_angle
      lesser a b e = omega arith

      fitted : {E : Type 0} (fits : Result ℕ E) → OkIff fits (n < suc greatest_angle) n → result_unwrap_or fits greatest_angle ≡ min n greatest_angle
      fitted (Ok m) h = omega (arith, h.0, h.1)
      fitted (Err _) h = omega (arith, h)

  pub no_degrees : digits_behind 0 degrees ≡ None → angle_by degrees tenth ≡ None
  unfolding angle_by
  no_degrees e = rw (none_read 0 degrees e)

  pub no_tenth : (v : ℕ) → digits_behind v tenth ≡ None → angle_by degrees tenth ≡ None
  unfolding angle_by
  no_tenth v e = rw (none_read v tenth e, and-false)

-- ---- an angle with degrees, a point and a tenth behind it, or without

module _ (word : List ℕ) where
  pub without_degrees : length (take (length word - 2) word) ≡ 0 → angle_by word (ascii "0") ≡ angle_of word
  unfolding angle_of has_point
  without_degrees none =
      let short : length word < 3 = omega (arith, none, length-take-le (length word - 2) word (omega arith)) in
      rw (lt-leb 3 (length word) short)

  pub without_point : (get_or word (length word - 2) 0 ≡ code "." → ⊥) → angle_by word (ascii "0") ≡ angle_of word
  unfolding angle_of has_point
  without_point other = rw (ne_eqb (get_or word (length word - 2) 0) (code ".") other, and-false)

  tenth_last : 1 ≤ length word → drop (length word - 1) word ≡ get_or word (length word - 1) 0 ∷ []
  tenth_last h =
      drop-cons word (length word - 1) 0 (omega arith)
      ∙ ap (λ (l : List ℕ). get_or word (length word - 1) 0 ∷ l) (drop_of_length-le word {i = suc (length word - 1)} (omega arith))

  pub with_point : 1 ≤ length (take (length word - 2) word) → get_or word (length word - 2) 0 ≡ code "."
      → angle_by (take (length word - 2) word) (get_or word (length word - 1) 0 ∷ []) ≡ angle_of word
  unfolding angle_of has_point
  with_point some point =
      let long : 3 ≤ length word = omega (arith, some, length-take-le (length word - 2) word (omega arith)) in
      rw (le-leb 3 (length word) long, point, tenth_last (omega arith))
