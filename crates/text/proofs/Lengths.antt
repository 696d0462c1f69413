-- No line is longer than a line's room. Assumes nothing.
use mathlib.Core.Path.{◌≡◌}
use mathlib.Core.List.{List, [], ◌∷◌, ◌++◌}
use Prim.Native.Nat.{suc, ◌+◌, ◌*◌, ◌≤◌}
use native.Mathlib.Omega.{arith}
use lib.IntN.{ℤ, pos, negsuc}
use lib.ListN.{length, length-append}
use mir.Syntax.{w64}
use mir.Val.{SFits}
use Rattle.whole.proofs.Lists.{All}
use Rattle.rules.specs.SheetLine.{line_numbers, signed_decimal, hex_digits, line_rest, line_text}
use Rattle.rules.specs.Beyond.{number_room, line_room}
use Rattle.text.specs.Placed.{spaced_failures}
use Rattle.text.proofs.Decimals.{decimal_most}

signed_most : (z : ℤ) → SFits w64 z → length (signed_decimal z) ≤ 20
unfolding signed_decimal
signed_most (pos n) fits = omega (arith, decimal_most 18 n (omega (arith, fits.sfits)))
signed_most (negsuc n) fits = omega (arith, decimal_most 18 (suc n) (omega (arith, fits.sfits)))

rest_most : (zs : List ℤ) → All (SFits w64) zs → length (line_rest zs) ≤ number_room * length zs + 1
unfolding line_rest
rest_most [] all = omega arith
rest_most (z ∷ zs) all = omega (arith, length-append (signed_decimal z) (line_rest zs), signed_most z all.0, rest_most zs all.1)

pub line_most : (numbers : List ℤ) → length numbers ≡ line_numbers → All (SFits w64) numbers → length (line_text numbers) ≤ line_room
unfolding line_text hex_digits
line_most [] size all = omega arith
line_most (a ∷ []) size all = absurd (omega arith)
line_most (a ∷ b ∷ rest) size all =
    let front = length-append (signed_decimal a) (spaced_failures b) in
    let line = length-append (signed_decimal a ++ spaced_failures b) (line_rest rest) in
    omega (arith, signed_most a all.0, rest_most rest all.1.1)
