-- `text::letters::Line::put_hex` meets its contract. The measure is the number of places.
use Rattle.std.proofs.Common.{arith, ◌≡◌, refl, ℕ, zero, suc, ◌-◌, ◌/◌, ◌%◌, [], ◌∷◌, ◌++◌, sub-one}
use Rattle.rules.specs.SheetLine.{hex_digit, hex_digits}
use Rattle.text.proofs.Placing.{nothing, then, within}
use Rattle.text.proofs.letters.Line.+put_hex.Goals as goal

no_hex : (n : ℕ) → hex_digits 0 n ≡ []
unfolding hex_digits
no_hex n = refl

-- the last digit stands behind those of the sixteenth
last_hex : (places n : ℕ) → (places ≡ 0 → ⊥) → hex_digits places n ≡ hex_digits (places - 1) (n / 16) ++ hex_digit (n % 16) ∷ []
unfolding hex_digits
last_hex zero n some = absurd (some refl)
last_hex (suc places) n some = rw sub-one

pub returns-then-places-eq0 : goal.returns-then-places-eq0
returns-then-places-eq0 t c = rw (c.if-places-eq0.true, no_hex) nothing

pub returns : goal.returns
returns t c =
    let put = then c.put_hex.ensures (rw c.hex_digit.ensures at c.put_byte.ensures) in
    rw (last_hex c.args.places c.args.n c.if-places-eq0.false) (within put (omega (arith, put.short)))
