-- Document 02, #106: areas in hundredths of mm2 beside document 01's in whole mm2. The area that a line had before is the one that it has now, rounded up, and a
-- cage that passed before still passes.
use mathlib.Core.Path.{◌≡◌, refl, sym, ◌∙◌}
use mathlib.Core.Bool.{Bool, true, false, not, ◌||◌, cond}
use Prim.Native.Nat.{ℕ, ◌*◌, max}
use native.Mathlib.Omega.{arith}
use lib.Arith.{le→nltb}
use lib.Dec.{T, ltb, nltb→le}
use Rattle.whole.specs.Rounding.{rounded_up, rounded_down}
use Rattle.whole.proofs.Rounded.{up_enough, up_of_zero, up_scaled, up_twice, up_alike, up_max, down_within, down_twice}
use Rattle.rules.specs.declared.Section.{Section}
use Rattle.rules.specs.ToeAndStem.{twice_depth, needs_compression, bears, greatest, lever_arm, needed_area, least_area, besides, bar_area, provided_area, required_area, steel_fails}

-- ---- document 01's rule, before #106: in whole mm2

unfoldable pub needed_before : ℕ → ℕ → ℕ → ℕ
needed_before M fy Z = rounded_up (200 * M) (87 * fy * Z)

unfoldable pub least_before : Section → ℕ
least_before s = rounded_up (s.least * 1000 * s.thickness) 10000

unfoldable pub provided_before : ℕ → ℕ → ℕ
provided_before bar spacing = rounded_down (bar_area bar * 1000) (100 * spacing)

unfoldable pub required_before : Section → ℕ → ℕ
required_before s M =
    cond (needs_compression M s.concrete (twice_depth s)) 0
    (max (needed_before M s.steel (lever_arm M s.concrete (twice_depth s))) (least_before s))

unfoldable pub failed_before : Section → ℕ → Bool
failed_before s M =
    needs_compression M s.concrete (twice_depth s) || ltb (provided_before s.cage.bar s.cage.spacing) (required_before s M)

-- ---- each figure of then is that of now in whole mm2: what is asked for rounded up, what is there rounded down

needed_rounded : (M fy Z : ℕ) → needed_before M fy Z ≡ rounded_up (needed_area M fy Z) 100
unfolding needed_before needed_area
needed_rounded M fy Z =
    let e : 20000 * M ≡ 200 * M * 100 = omega arith in
    rw e (sym (up_twice (200 * M * 100) (87 * fy * Z) 100 ∙ up_scaled (200 * M) (87 * fy * Z) (omega arith)))

least_rounded : (s : Section) → least_before s ≡ rounded_up (least_area s) 100
unfolding least_before least_area
least_rounded s = up_alike (s.least * 1000 * s.thickness) (s.least * s.thickness * 10) (omega arith) (omega arith) (omega arith)

pub required_rounded : (s : Section) (M : ℕ) → required_before s M ≡ rounded_up (required_area s M) 100
unfolding required_before required_area
required_rounded s M = go (needs_compression M s.concrete D)
  where
    D : ℕ
    D = twice_depth s

    Z : ℕ
    Z = lever_arm M s.concrete D

    go : (b : Bool) → cond b 0 (max (needed_before M s.steel Z) (least_before s)) ≡ rounded_up (cond b 0 (max (needed_area M s.steel Z) (least_area s))) 100
    go true = sym (up_of_zero 100)
    go false = rw (needed_rounded M s.steel Z, least_rounded s) (sym (up_max (needed_area M s.steel Z) (least_area s) 100))

pub provided_rounded : (bar spacing : ℕ) → provided_before bar spacing ≡ rounded_down (provided_area bar spacing) 100
unfolding provided_before provided_area
provided_rounded bar spacing = let e : 100 * spacing ≡ spacing * 100 = omega arith in rw e (sym (down_twice (bar_area bar * 1000) spacing 100))

-- the least is the field's part of the section, exactly: so many 10000ths of a metre's width
pub least_exact : (s : Section) → 10000 * least_area s ≡ s.least * (1000 * s.thickness * 100)
unfolding least_area
least_exact s = omega arith

-- ---- a cage that passed before still passes, whatever its section and the moment

-- where what is there is enough in whole mm2, it is enough
passes_exactly : (compression : Bool) (provided required : ℕ) → T (not (compression || ltb (rounded_down provided 100) (rounded_up required 100)))
    → T (not (compression || ltb provided required))
passes_exactly true provided required t = t
passes_exactly false provided required t =
    le→nltb provided required (omega (arith, nltb→le (rounded_down provided 100) (rounded_up required 100) t, up_enough required {b = 100} (omega arith), down_within provided 100))

pub still_passes : (s : Section) (M : ℕ) → T (not (failed_before s M)) → T (not (steel_fails s M))
unfolding failed_before steel_fails
still_passes s M =
    let provided = provided_area s.cage.bar s.cage.spacing in
    rw (required_rounded s M, provided_rounded s.cage.bar s.cage.spacing)
    (passes_exactly (needs_compression M s.concrete (twice_depth s)) provided (required_area s M))

-- but one that failed may pass. In 300 mm, bars of 12 mm at 200 give 565.45 mm2, and 59.25 kNm need 565.18: in whole mm2, 565 and 566
abbrev mesh : Section
mesh = record { thickness = 300; cage = record { cover = 40; bar = 12; spacing = 200; stress = 550 }; concrete = 35; steel = 500; least = 13 }

pub now_passes : (failed_before mesh 59250000 ≡ true) × (steel_fails mesh 59250000 ≡ false)
unfolding failed_before required_before needed_before least_before provided_before steel_fails required_area needed_area least_area provided_area twice_depth needs_compression bears greatest lever_arm besides bar_area rounded_up rounded_down
now_passes = (refl, refl)
