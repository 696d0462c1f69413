-- A text put behind what a line has, and the parts of a line, each with the space before it.
use Rattle.std.specs.Prelude.{ℕ, ◌+◌, ◌≤◌, ◌≡◌, List, ◌∷◌, ℤ, length}
use Prim.Native.Char.{code}
use Rattle.std.proofs.lemmas.List.Edits.{sets}
use Rattle.whole.specs.Parts.{above_zero}
use Rattle.rules.specs.SheetLine.{signed_decimal, hex_digits}
use Rattle.text.specs.declared.letters.Line.{Line}

-- a line has room for so many bytes more
abbrev pub HasRoom : ℕ → Line → Type 0
HasRoom n line = line.used + n ≤ length line.out.now

-- a text of at most so many bytes is put: the buffer is the one that was lent, no more of it is used than the text takes, and beyond it stands what stood there
pub record Adds (most : ℕ) (text : List ℕ) (before after : Line) : Type 0 where
  pub same_buffer : after.out.ghost_name ≡ before.out.ghost_name
  pub same_size : length after.out.now ≡ length before.out.now
  pub ends : after.used ≡ before.used + length text
  pub short : length text ≤ most
  pub holds : after.out.now ≡ sets before.out.now before.used text

abbrev pub spaced_number : ℤ → List ℕ
spaced_number z = code " " ∷ signed_decimal z

abbrev pub spaced_failures : ℤ → List ℕ
spaced_failures z = code " " ∷ hex_digits 3 (above_zero z)
