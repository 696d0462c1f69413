-- `checks::failures_of` meets its contract: each bit stands to the left of those before it, so what is joined adds up.
use mathlib.Core.Path.{◌≡◌, refl, ◌∙◌}
use mathlib.Core.Bool.{Bool, true, false, cond}
use mathlib.Core.List.{List, [], ◌∷◌}
use Prim.Native.Nat.{ℕ, suc, ◌+◌, ◌*◌, ◌^◌, ◌<◌}
use native.Mathlib.Omega.{arith}
use lib.Bits.{bit_or, or_zero_r, or_shifted_r}
use Rattle.rules.specs.SheetLine.{bits_among, fails_by, failures_by}
use Rattle.checks.proofs.failures_of.Goals as goal

-- the bits of some checks, from a place on, joined to those before and added to them
abbrev joined : ℕ → ℕ → List Bool → ℕ
joined place before [] = before
joined place before (fails ∷ rest) = joined (suc place) (bit_or before (cond fails (2 ^ place) 0)) rest

abbrev added : ℕ → ℕ → List Bool → ℕ
added place before [] = before
added place before (fails ∷ rest) = added (suc place) (before + cond fails (2 ^ place) 0) rest

one : (place before : ℕ) (fails : Bool) → before < 2 ^ place → bit_or before (cond fails (2 ^ place) 0) ≡ before + cond fails (2 ^ place) 0
one place before true h = let e : 1 * 2 ^ place ≡ 2 ^ place = omega arith in let j = rw e at (or_shifted_r 1 place before h) in omega arith
one place before false h = or_zero_r before ∙ omega arith

below : (place before : ℕ) (fails : Bool) → before < 2 ^ place → before + cond fails (2 ^ place) 0 < 2 ^ suc place
below place before true h = omega arith
below place before false h = omega arith

all : (place before : ℕ) (checks : List Bool) → before < 2 ^ place → joined place before checks ≡ added place before checks
all place before [] h = refl
all place before (fails ∷ rest) h = rw (one place before fails h) (all (suc place) (before + cond fails (2 ^ place) 0) rest (below place before fails h))

-- the nine of a wall
nine : (a b c d e f g h i : Bool)
    → bit_or
    (bit_or
    (bit_or
    (bit_or
    (bit_or (bit_or (bit_or (bit_or (cond a 1 0) (cond b 2 0)) (cond c 4 0)) (cond d 8 0)) (cond e 16 0))
    (cond f 32 0))
    (cond g 64 0))
    (cond h 128 0))
    (cond i 256 0)
    ≡ cond a 1 0 + (cond b 2 0 + (cond c 4 0 + (cond d 8 0 + (cond e 16 0 + (cond f 32 0 + (cond g 64 0 + (cond h 128 0 + (cond i 256 0 + 0))))))))
nine a b c d e f g h i = all 1 (cond a 1 0) (b ∷ c ∷ d ∷ e ∷ f ∷ g ∷ h ∷ i ∷ []) (omega (arith, below 0 0 a (omega arith))) ∙ omega arith

pub returns : goal.returns
unfolding failures_by bits_among fails_by
returns c = rw (
  c.bit_if.ensures,
  c.bit_if-2.ensures,
  c.bit_if-3.ensures,
  c.bit_if-4.ensures,
  c.bit_if-5.ensures,
  c.bit_if-6.ensures,
  c.bit_if-7.ensures,
  c.bit_if-8.ensures,
  c.bit_if-9.ensures,
  c.overturns.ensures,
  c.is_given.ensures,
  c.is_given-2.ensures,
  c.is_over_allowable-pressed.ensures,
  c.is_sheared-sheared.ensures,
) (nine _ _ _ _ _ _ _ _ _)
