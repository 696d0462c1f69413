-- The office's demand that forces add, of what `forces_on` itself answers. The entry takes eight rows; a list of fewer loads is filled up with absent ones.
use mathlib.Core.Path.{◌≡◌, refl, ap, ◌∙◌}
use mathlib.Core.List.{List, [], ◌∷◌, ◌++◌}
use Prim.Native.Nat.{◌+◌, ◌-◌, ◌≤◌}
use native.Mathlib.Omega.{arith}
use lib.Dec.{T}
use lib.ListN.{length, replicate}
use Rattle.std.specs.Prelude.{Result, Ok}
use Rattle.rules.specs.declared.Borne.{Borne}
use Rattle.rules.specs.declared.Forces.{Forces}
use Rattle.rules.specs.declared.Refusal.{Refusal}
use Rattle.rules.specs.JobFile.{Wall, Load, most_loads_on_wall}
use Rattle.rules.specs.Beyond.{examined, fits, worked_forces, worked_bearing, forces_of}
use Rattle.rules.proofs.Additive.{Adds, forces_add}
use Rattle.rules.proofs.Absent.{Absent, fits_same, bearing_same}
use Rattle.rules.proofs.Examined.{fit, joined}
use Rattle.rules.proofs.Replies.{gives_worked}
use Rattle.forces.proofs as forces

-- a list of loads as the entry takes it
abbrev pub eight_rows : List Load → List Load
eight_rows loads = loads ++ replicate (most_loads_on_wall - length loads) (0 ∷ 0 ∷ 0 ∷ 0 ∷ [])

-- by its contract the entry answers so for a wall and a list of loads
abbrev pub Answers : Wall → List Load → Result Forces Refusal → Type 0
Answers wall loads r = forces.forces_on.Reads.Learnt tt (wall, (eight_rows loads, tt)) r (wall, (eight_rows loads, tt))

-- and of a wall that fits with them these are its forces under them
worked : (wall : Wall) (loads : List Load) → T (fits wall loads) → (r : Result Forces Refusal) → Answers wall loads r → r ≡ Ok (worked_forces wall loads)
unfolding forces_of worked_bearing
worked wall loads t r answers =
    let more = most_loads_on_wall - length loads in
    let room : length loads + more ≤ most_loads_on_wall = omega (arith, (fit wall loads t).few) in
    answers
    ∙ gives_worked (examined wall (loads ++ replicate more (0 ∷ 0 ∷ 0 ∷ 0 ∷ []))) _ (fits_same wall absent loads more room t)
    ∙ ap (λ (b : Borne). Ok b.forces) (bearing_same wall absent loads more)
  where
    absent : Absent (0 ∷ 0 ∷ 0 ∷ 0 ∷ [])
    absent = record { down = refl; at_toe = refl; dead = refl; live = refl }

-- each of the ten totals is the two added, less the bare wall's
pub record Totalled (whole one other bare : Forces) : Type 0 where
  pub in_service : Adds whole.service one.service other.service bare.service
  pub by_factors : Adds whole.factored one.factored other.factored bare.factored

-- none of the four answers is a refusal, and their totals are so
abbrev pub AddUp : Result Forces Refusal → Result Forces Refusal → Result Forces Refusal → Result Forces Refusal → Type 0
AddUp (Ok whole) (Ok one) (Ok other) (Ok bare) = Totalled whole one other bare
AddUp _ _ _ _ = ⊥

-- for one wall and two lists that are accepted when joined, in either order
pub forces_join : (wall : Wall) (first second : List Load) → T (fits wall (first ++ second)) → {one other whole turned bare : Result Forces Refusal}
    → Answers wall first one → Answers wall second other → Answers wall (first ++ second) whole → Answers wall (second ++ first) turned → Answers wall [] bare
    → AddUp whole one other bare × AddUp turned one other bare
unfolding worked_forces
forces_join wall first second t a b c d e =
    let apart = joined wall first second t in
    let add = forces_add wall first second in
    rw (
      worked wall first apart.0 _ a,
      worked wall second apart.1 _ b,
      worked wall (first ++ second) t _ c,
      worked wall (second ++ first) apart.2 _ d,
      worked wall [] (bare wall first apart.0) _ e,
    ) (
      record { in_service = add.in_service; by_factors = add.by_factors },
      record { in_service = add.in_service_turned; by_factors = add.by_factors_turned },
    )
  where
    -- a wall that fits with some loads fits with none
    bare : (wall : Wall) (loads : List Load) → T (fits wall loads) → T (fits wall [])
    bare wall loads t = (joined wall [] loads t).0
