-- Words as a person keys them in, byte by byte: a number, or an angle in degrees.
use Rattle.std.specs.Prelude.{ℕ, ◌+◌, ◌-◌, ◌*◌, ◌^◌, min, Bool, true, ◌&&◌, cond, List, [], ◌∷◌, leb, ltb, eqb, length, get_or, take, drop, Option, Some, None}
use Prim.Native.Char.{code}
use Rattle.rules.specs.SheetLine.{ascii}

-- ---- digits

abbrev pub is_digit : ℕ → Bool
is_digit byte = leb (code "0") byte && leb byte (code "9")

unfoldable pub are_digits : List ℕ → Bool
are_digits [] = true
are_digits (byte ∷ rest) = is_digit byte && are_digits rest

-- one at least, and nothing else
abbrev pub is_digits : List ℕ → Bool
is_digits word = leb 1 (length word) && are_digits word

-- what a number becomes with digits behind it
unfoldable pub with_digits : ℕ → List ℕ → ℕ
with_digits n [] = n
with_digits n (byte ∷ rest) = with_digits (10 * n + (byte - code "0")) rest

-- ---- a number: one to ten digits that 32 bits hold

abbrev pub beyond : ℕ
beyond = 2 ^ 32

abbrev pub most_digits : ℕ
most_digits = 10

unfoldable pub is_number : List ℕ → Bool
is_number word = leb (length word) most_digits && is_digits word && ltb (with_digits 0 word) beyond

unfoldable pub asked_for : List ℕ → Option ℕ
asked_for word = cond (is_number word) (Some (with_digits 0 word)) None

-- ---- an angle: digits, the degrees; and behind a point one more, the tenth, if at all

-- a point stands before the last byte, and something before the point
unfoldable pub has_point : List ℕ → Bool
has_point word = leb 3 (length word) && eqb (get_or word (length word - 2) 0) (code ".")

-- every angle beyond 16 bits counts as the greatest that they hold
abbrev pub greatest_angle : ℕ
greatest_angle = 65535

unfoldable pub angle_by : List ℕ → List ℕ → Option ℕ
angle_by degrees tenth =
    cond (is_digits degrees && is_digits tenth) (Some (min (with_digits (with_digits 0 degrees) tenth) greatest_angle)) None

unfoldable pub angle_of : List ℕ → Option ℕ
angle_of word = cond (has_point word) (angle_by (take (length word - 2) word) (drop (length word - 1) word)) (angle_by word (ascii "0"))

-- ---- what the code reads of digits: a number beyond 32 bits is kept as the least such

unfoldable pub digits_behind : ℕ → List ℕ → Option ℕ
digits_behind n word = cond (is_digits word) (Some (min (with_digits n word) beyond)) None
