-- The number of the first of many that doesn't fit is one more than the place at which `position` finds it.
use mathlib.Core.Path.{◌≡◌, refl, sym}
use mathlib.Core.Bool.{Bool, true, false, not, cond}
use mathlib.Core.List.{List, [], ◌∷◌}
use Prim.Native.Nat.{ℕ, suc, ◌+◌, ◌-◌, ◌≤◌}
use native.Mathlib.Omega.{arith}
use native.Mathlib.Numerals.{add-one}
use lib.Dec.{eqb}
use lib.ListN.{length, drop, get_or}
use lib.Seq.{drop-cons}
use Rattle.std.proofs.lemmas.Bool.Decides.{nat_tests}
use Rattle.std.specs.Prelude.{Option, Some, None}
use Rattle.std.specs.List.{position_from, zip, list_any}
use Rattle.rules.specs.declared.Range.{Range}
use Rattle.rules.specs.JobFile.{Wall, Load, among, within, first_outside, load_fits}
use Rattle.rules.specs.Beyond.{first_unfit}

-- the number of a place
abbrev pub number_at : Option ℕ → Option ℕ
number_at None = None
number_at (Some place) = Some (suc place)

abbrev pub unfit : Wall → Load → Bool
unfit wall load = not (load_fits wall load)

abbrev pub outside : Wall → ℕ × Range → Bool
outside wall field = not (within wall field.1 field.0)

pub unfit_at : (wall : Wall) (place : ℕ) (loads : List Load)
    → first_unfit wall (suc place) loads ≡ number_at (position_from (unfit wall) place loads)
unfolding first_unfit
unfit_at wall place [] = refl
unfit_at wall place (load ∷ rest) =
    rw add-one
    (elim (load_fits wall load) as (λ fits. cond fits (first_unfit wall (suc (suc place)) rest) (Some (suc place))
    ≡ number_at (cond (not fits) (Some place) (position_from (unfit wall) (suc place) rest)))
    [ true ↦ unfit_at wall (suc place) rest | false ↦ refl ])

-- the ranges are gone through beside the fields
pub outside_at : (wall : Wall) (place : ℕ) (ranges : List Range) → place + length ranges ≤ length wall
    → first_outside wall (suc place) ranges ≡ number_at (position_from (outside wall) place (zip (drop place wall) ranges))
unfolding first_outside
outside_at wall place [] h = sym (none (drop place wall))
  where
    none : (rest : List ℕ) → number_at (position_from (outside wall) place (zip {X = Range} rest [])) ≡ None
    none [] = refl
    none (n ∷ rest) = refl
outside_at wall place (range ∷ rest) h =
    let k : suc place - 1 ≡ place = omega arith in
    rw (drop-cons wall place 0 (omega arith), k, add-one)
    (elim (within wall range (get_or wall place 0)) as (λ fits. cond fits (first_outside wall (suc (suc place)) rest) (Some (suc place))
    ≡ number_at (cond (not fits) (Some place) (position_from (outside wall) (suc place) (zip (drop (suc place) wall) rest))))
    [ true ↦ outside_at wall (suc place) rest (omega arith) | false ↦ refl ])

-- a number is among others where one of them equals it
pub any_among : (n : ℕ) (ms : List ℕ) → list_any (λ m. eqb m n) ms ≡ among n ms
unfolding among
any_among n [] = refl
any_among n (m ∷ ms) = let e : eqb m n ≡ eqb n m = grind (arith, nat_tests) in rw (e, any_among n ms)
