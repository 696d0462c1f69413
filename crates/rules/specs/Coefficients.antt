-- Document 02, "#108 Coefficients from the angle": the sine of an angle, the coefficients K0 and Ka that it gives, and how these are printed. Angles are in tenths of a degree.
use Rattle.std.specs.Prelude.{ℕ, zero, suc, ◌+◌, ◌-◌, ◌*◌, Bool, ◌&&◌, cond, List, [], ◌∷◌, ◌++◌, leb, Option, Some, None}
use Prim.Native.Char.{code}
use Rattle.whole.specs.Rounding.{rounded_up, rounded_down, rounded_nearest}
use Rattle.rules.specs.declared.Coefficients.{Coefficients}
use Rattle.rules.specs.SheetLine.{ascii, decimal}

-- ---- sines and cosines, between bounds

-- they are counted in units of 10^-15, so many to 1
abbrev pub unit : ℕ
unit = 1000000000000000

-- an angle's sine and cosine: neither is below its `low` nor above its `high`
pub record Bounds : Type 0 where
  pub low_sine : ℕ
  pub high_sine : ℕ
  pub low_cosine : ℕ
  pub high_cosine : ℕ

-- no angle: sine 0, cosine 1
abbrev pub level : Bounds
level = record { low_sine = 0; high_sine = 0; low_cosine = unit; high_cosine = unit }

-- a tenth of a degree: sine 0.001745328365898.., cosine 0.999998476913287..
abbrev pub tenth : Bounds
tenth = record { low_sine = 1745328365898; high_sine = 1745328365899; low_cosine = 999998476913287; high_cosine = 999998476913288 }

-- an angle turned through another: sin (a + b) = sin a cos b + cos a sin b, and cos (a + b) = cos a cos b - sin a sin b. A lower bound is rounded down, an upper one up.
unfoldable pub turned_by : Bounds → Bounds → Bounds
turned_by b a =
    record {
      low_sine = rounded_down (a.low_sine * b.low_cosine + a.low_cosine * b.low_sine) unit;
      high_sine = rounded_up (a.high_sine * b.high_cosine + a.high_cosine * b.high_sine) unit;
      low_cosine = rounded_down (a.low_cosine * b.low_cosine - a.high_sine * b.high_sine) unit;
      high_cosine = rounded_up (a.high_cosine * b.high_cosine - a.low_sine * b.low_sine) unit;
    }

-- so many tenths of a degree, as far as 90 degrees
unfoldable pub turned : ℕ → Bounds
turned zero = level
turned (suc n) = turned_by tenth (turned n)

-- ---- the table's sine, in millionths rounded to the nearest; both bounds give the same one

abbrev pub million : ℕ
million = 1000000

abbrev pub in_millionths : ℕ → ℕ
in_millionths n = rounded_nearest (n * million) unit

unfoldable pub sine : ℕ → ℕ
sine angle = in_millionths (turned angle).low_sine

-- ---- what is answered

-- from 0.0 to 90.0 degrees
abbrev pub most_turned : ℕ
most_turned = 900

unfoldable pub sine_of : ℕ → Option ℕ
sine_of angle = cond (leb angle most_turned) (Some (sine angle)) None

-- K0 = 1 - sine, in thousandths rounded up
unfoldable pub at_rest : ℕ → ℕ
at_rest sine = rounded_up (1000 * (million - sine)) million

-- Ka = (1 - sine) / (1 + sine), for a smooth wall, likewise
unfoldable pub active : ℕ → ℕ
active sine = rounded_up (1000 * (million - sine)) (million + sine)

-- an angle that soil has: from 0.1 to 45.0 degrees
abbrev pub is_soil : ℕ → Bool
is_soil angle = leb 1 angle && leb angle 450

-- those that the sine of an angle makes
abbrev pub made_by : ℕ → Coefficients
made_by sine = record { rest = at_rest sine; active = active sine }

unfoldable pub coefficients_of : ℕ → Option Coefficients
coefficients_of angle = cond (is_soil angle) (Some (made_by (sine angle))) None

-- ---- as they are printed: a line with each behind its name, or the refusal

unfoldable pub named_text : ℕ → ℕ → List ℕ
named_text rest active = ascii "K0 " ++ decimal rest ++ ascii " Ka " ++ decimal active ++ code "\n" ∷ []

-- 11, with place 0
unfoldable pub refused_text : List ℕ
refused_text = ascii "refused 11 0" ++ code "\n" ∷ []

unfoldable pub coefficients_text : Option Coefficients → List ℕ
coefficients_text (Some c) = named_text c.rest c.active
coefficients_text None = refused_text
