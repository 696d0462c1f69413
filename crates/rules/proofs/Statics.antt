-- Document 02, "#107 Downstands": the levers are those of statics. A wall's face ends at the downstand's underside, and moments are taken about the base's, which lies dd above it. So
-- about the base's underside the pushes turn the wall by what they turn it about the foot of its face, less their sum times dd.
use mathlib.Core.Path.{◌≡◌, refl, ◌∙◌}
use mathlib.Core.List.{List, [], ◌∷◌, map}
use Prim.Native.Nat.{ℕ, ◌+◌, ◌*◌}
use native.Mathlib.Nat.{add-zero}
use lib.IntN.{ℤ, pos, ◌-ℤ◌, ◌*ℤ◌, *ℤ_comm}
use Rattle.whole.proofs.Integer.{*ℤ-sub, *ℤ-assoc}
use Rattle.whole.proofs.Sums.{sum_of_same, sum_of_sub, sum_of_factor, sum_of_map}
use Rattle.rules.specs.JobFile.{Wall}
use Rattle.rules.specs.Forces.{◌less◌, surcharge_push, moist_push, moist_push_below, saturated_push, water_push, Sort, deadPush, livePush, Component, across, push_rows, horizontal, moment, column_sum}

-- a push, and six times its height above the foot of the face
record Push : Type 0 where
  sort : Sort
  force : ℕ
  sixfold : ℕ

abbrev push : Sort → ℕ → ℕ → Push
push sort force sixfold = record { sort = sort; force = force; sixfold = sixfold }

abbrev row : ℕ → Push → Component
row dd p = across p.sort p.force (p.sixfold less 6 * dd)

module _ (wall : Wall) (K h hw : ℕ) where
  abbrev pushes : List Push
  pushes =
      push livePush (surcharge_push wall K h) (3 * h)
      ∷ push deadPush (moist_push wall K h hw) (2 * (h + 2 * hw))
      ∷ push deadPush (moist_push_below wall K h hw) (3 * hw)
      ∷ push deadPush (saturated_push wall K hw) (2 * hw)
      ∷ push deadPush (water_push hw) (2 * hw)
      ∷ []

  rows_are : (dd : ℕ) → push_rows wall K h hw dd ≡ map (row dd) pushes
  unfolding push_rows
  rows_are dd = refl

-- of one push, counted k times
one : (k F A B : ℤ) → k *ℤ (F *ℤ (A -ℤ B)) ≡ k *ℤ (F *ℤ A) -ℤ B *ℤ (k *ℤ F)
one k F A B = rw (*ℤ-sub F A B, *ℤ-sub k (F *ℤ A) (F *ℤ B), ← *ℤ-assoc k F B, *ℤ_comm (k *ℤ F) B)

-- of all of them, each counted in any way by its sort
pub about_underside : (weight : Sort → ℤ) (wall : Wall) (K h hw dd : ℕ)
    → column_sum weight moment (push_rows wall K h hw dd)
    ≡ column_sum weight moment (push_rows wall K h hw 0) -ℤ pos (6 * dd) *ℤ column_sum weight horizontal (push_rows wall K h hw dd)
unfolding column_sum
about_underside weight wall K h hw dd =
    let turned : ℕ → Push → ℤ = λ n p. weight p.sort *ℤ (pos p.force *ℤ (p.sixfold less 6 * n)) in
    let pushed : Push → ℤ = λ p. weight p.sort *ℤ pos p.force in
    let ps = pushes wall K h hw in
    let each : (p : Push) → turned dd p ≡ turned 0 p -ℤ pos (6 * dd) *ℤ pushed p =
    λ p. rw add-zero (one (weight p.sort) (pos p.force) (pos p.sixfold) (pos (6 * dd))) in
    rw (rows_are wall K h hw dd, rows_are wall K h hw 0, sum_of_map, sum_of_map, sum_of_map)
    (sum_of_same (turned dd) (λ p. turned 0 p -ℤ pos (6 * dd) *ℤ pushed p) ps each
    ∙ sum_of_sub (turned 0) (λ p. pos (6 * dd) *ℤ pushed p) ps
    ∙ rw (sum_of_factor (pos (6 * dd)) pushed ps))
