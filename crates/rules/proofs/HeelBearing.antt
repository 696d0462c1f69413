-- Document 02, #103: what bears on the heel of a wall in whole numbers, by the kind of the block. Each figure is one quotient, rounded down.
use mathlib.Core.Path.{◌≡◌, refl, sym, ◌∙◌}
use Prim.Native.Nat.{ℕ, zero, suc, ◌+◌, ◌-◌, ◌*◌, ◌≤◌, ◌<◌}
use native.Mathlib.Omega.{arith}
use lib.IntN.{pos}
use Rattle.whole.specs.Rounding.{rounded_down}
use Rattle.whole.proofs.Rounded.{down_of_zero}
use Rattle.rules.specs.JobFile.{Wall, stem_thickness, toe_length, heel_length, base_length}
use Rattle.rules.specs.Bearing.{carried_behind, six_moments_behind}
use Rattle.rules.specs.ToeAndStem.{twice_arm, stem_middle, twice_heel_arm, stem_back, whole_of, heel_bearing}
use Rattle.rules.proofs.Behind.{worth_whole, full_block, toe_triangle, heel_triangle, full_carried, full_turned, toe_carried, toe_turned, toe_nothing, heel_carried, heel_turned, heel_all, heel_about}

module _ (wall : Wall) (thick : 0 < stem_thickness wall) where
  abbrev l : ℕ
  l = base_length wall

  -- where the heel begins, from the toe, and its length; twice the way to the stem's middle, and twice the way on from there
  abbrev x : ℕ
  x = toe_length wall + stem_thickness wall

  abbrev lh : ℕ
  lh = heel_length wall

  abbrev X : ℕ
  X = twice_arm wall

  abbrev E : ℕ
  E = twice_heel_arm wall

  long : 0 < l
  unfolding base_length
  long = omega arith

  at_back : l * 1 ≡ x + lh
  unfolding base_length
  at_back = omega arith

  at_middle : l * 2 ≡ X + E
  unfolding base_length
  at_middle = omega arith

  one : 0 < 1
  one = omega arith

  two : 0 < 2
  two = omega arith

  -- a full block
  pub full_shear : (t g : ℕ) → (heel_bearing wall (full_block l t g)).shear ≡ rounded_down ((t * lh + g * (x + l)) * lh) (l * (20 * (l * l)))
  unfolding heel_bearing
  full_shear t g =
      let e : l * 1 ≡ l = omega arith in
      let d : 10 * (2 * 1 * 1 * (l * l * l)) ≡ l * (20 * (l * l)) = omega arith in
      rw (e, d) at (worth_whole 10 (omega arith) (full_carried l x lh 1 long one at_back t g))

  pub full_moment : (t g : ℕ) → (heel_bearing wall (full_block l t g)).moment ≡ rounded_down ((t * E + g * (X + 4 * l)) * (E * E)) (l * l * (480 * l))
  unfolding heel_bearing
  full_moment t g =
      let e : 2 * (l * 2) ≡ 4 * l = omega arith in
      let d : 6 * 10 * (2 * 2 * 2 * (l * l * l)) ≡ l * l * (480 * l) = omega arith in
      rw (e, d) at (worth_whole (6 * 10) (omega arith) (full_turned l X E 2 long two at_middle t g))

  module _ (p q : ℕ) (hp : 0 < p) (hq : 0 < q) where
    -- a triangle from the toe: what reaches past a section; where nothing does, 0
    pub toe_shear : let d = p - x * q in (heel_bearing wall (toe_triangle p q)).shear ≡ rounded_down (q * d * d) (20 * p * p)
    unfolding heel_bearing
    toe_shear = go (p - x * q) refl
      where
        go : (d : ℕ) → p - x * q ≡ d → whole_of 10 (carried_behind (pos l) (stem_back wall) (toe_triangle p q)) ≡ rounded_down (q * d * d) (20 * p * p)
        go zero e =
            let none : q * 0 * 0 ≡ 0 = omega arith in
            worth_whole 10 (omega arith) (toe_nothing l x lh 1 long one at_back p q hp hq (omega arith) {b = 1} one).0 ∙ down_of_zero _ ∙ rw none (sym (down_of_zero _))
        go (suc d) e =
            let over : 10 * (2 * 1 * 1 * (p * p)) ≡ 20 * p * p = omega arith in
            rw over at (worth_whole 10 (omega arith) (toe_carried l x lh 1 long one at_back p q hp hq (suc d) (omega arith) (omega arith)))

    pub toe_moment : let d = 2 * p - X * q in (heel_bearing wall (toe_triangle p q)).moment ≡ rounded_down (d * d * d) (480 * p * p)
    unfolding heel_bearing
    toe_moment = go (2 * p - X * q) refl
      where
        go : (d : ℕ) → 2 * p - X * q ≡ d → whole_of (6 * 10) (six_moments_behind (pos l) (stem_middle wall) (toe_triangle p q)) ≡ rounded_down (d * d * d) (480 * p * p)
        go zero e =
            worth_whole (6 * 10) (omega arith) (toe_nothing l X E 2 long two at_middle p q hp hq (omega arith) {b = 1} one).1 ∙ down_of_zero _ ∙ sym (down_of_zero _)
        go (suc d) e =
            let over : 6 * 10 * (2 * 2 * 2 * (p * p)) ≡ 480 * p * p = omega arith in
            rw over at (worth_whole (6 * 10) (omega arith) (toe_turned l X E 2 long two at_middle p q hp hq (suc d) (omega arith) (omega arith)))

    -- one from the heel, cut by the section
    pub heel_shear_cut : let u = lh * q in u < p → (heel_bearing wall (heel_triangle p q)).shear ≡ rounded_down (q * u * (2 * p - u)) (20 * p * p)
    unfolding heel_bearing
    heel_shear_cut h =
        let d = p - lh * q in
        let over : 10 * (2 * 1 * 1 * (p * p)) ≡ 20 * p * p = omega arith in
        let part : p * 1 + d ≡ 2 * p - lh * q = omega arith in
        rw (over, part) at (worth_whole 10 (omega arith) (heel_carried l x lh 1 long one at_back p q hp hq d (omega arith) (omega arith)))

    pub heel_moment_cut : let u = E * q in u < 2 * p → (heel_bearing wall (heel_triangle p q)).moment ≡ rounded_down (u * u * (6 * p - u)) (480 * p * p)
    unfolding heel_bearing
    heel_moment_cut h =
        let d = 2 * p - E * q in
        let over : 6 * 10 * (2 * 2 * 2 * (p * p)) ≡ 480 * p * p = omega arith in
        let part : 2 * (p * 2) + d ≡ 6 * p - E * q = omega arith in
        rw (over, part) at (worth_whole (6 * 10) (omega arith) (heel_turned l X E 2 long two at_middle p q hp hq d (omega arith) (omega arith)))

    -- and whole behind it
    pub heel_shear_all : p ≤ lh * q → (heel_bearing wall (heel_triangle p q)).shear ≡ rounded_down q 20
    unfolding heel_bearing
    heel_shear_all h = worth_whole 10 (omega arith) (heel_all l x lh 1 long one at_back p q hp hq (omega arith))

    pub heel_moment_all : 2 * p ≤ E * q → (heel_bearing wall (heel_triangle p q)).moment ≡ rounded_down (3 * (E * q) - 2 * p) 120
    unfolding heel_bearing
    heel_moment_all h =
        worth_whole (6 * 10) (omega arith) (heel_about l X E 2 long two at_middle p q hp hq (omega arith) {w = 3 * (E * q) - 2 * p} (omega arith))
