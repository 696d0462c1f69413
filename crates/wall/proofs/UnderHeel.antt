-- What bears on the heel, as it is worked: which block stands there, that each product fits 64 bits, and that a quotient from a wide number does.
use mathlib.Core.Path.{◌≡◌, refl, sym, ◌∙◌}
use Prim.Native.Nat.{ℕ, ◌+◌, ◌-◌, ◌*◌, ◌/◌, ◌≤◌, ◌<◌, ◌^◌, min}
use native.Mathlib.Nat.{mul-le-mul, mul-le-mul_left, div-mul-le_self}
use native.Mathlib.Omega.{arith}
use lib.Dec.{T}
use Rattle.whole.specs.Parts.{above_zero}
use Rattle.whole.specs.Rounding.{rounded_down}
use Rattle.whole.proofs.Rounded.{down_of_zero, down_nearest, nearest_least}
use Rattle.rules.specs.declared.Action.{Action}
use Rattle.rules.specs.declared.Block.{Block}
use Rattle.rules.specs.declared.Kind.{Kind}
use Rattle.rules.specs.declared.Kind.TheVariants.{Full, FromToe, FromHeel, NoBlock}
use Rattle.rules.specs.JobFile.{Wall, stem_thickness, toe_length, heel_length, base_length, wall_fits}
use Rattle.rules.specs.Bearing.{behind_by, behind, carried_behind, six_moments_behind, is_given_kind}
use Rattle.rules.specs.ToeAndStem.{twice_arm, no_action, twice_heel_arm, whole_of, heel_bearing}
use Rattle.rules.proofs.Accepted.{longest, wall_within, base_length_lem}
use Rattle.rules.proofs.Behind.{Figures, full, from_toe, from_heel, none, full_block, toe_triangle, heel_triangle}
use Rattle.rules.proofs.HeelBearing.{full_shear, full_moment}
use Rattle.wall.specs.Working.{Made, Contact, Ends}
use Rattle.wall.proofs.Contacts.{reaching}

-- a shear and a moment, as they are worked
pub action_is : {a : Action} {shear moment : ℕ} → shear ≡ a.shear → moment ≡ a.moment → record { shear = shear; moment = moment } ≡ a
action_is s m = λ i. record { shear = s i; moment = m i }

-- ---- which block it is

-- by its kind
full_shaped : {r m l : ℕ} {b : Block} → Figures r m l b → b.kind ≡ Full → b ≡ full_block l (above_zero b.toe.over) (above_zero b.heel.over)
full_shaped (full e f) told = refl
full_shaped (from_toe h k) told = cc
full_shaped (from_heel h e k) told = cc
full_shaped none told = cc

toe_shaped : {r m l : ℕ} {b : Block} → Figures r m l b → b.kind ≡ FromToe → b ≡ toe_triangle (above_zero b.contact.over) (above_zero b.contact.under)
toe_shaped (full e f) told = cc
toe_shaped (from_toe h k) told = refl
toe_shaped (from_heel h e k) told = cc
toe_shaped none told = cc

heel_shaped : {r m l : ℕ} {b : Block} → Figures r m l b → b.kind ≡ FromHeel → b ≡ heel_triangle (above_zero b.contact.over) (above_zero b.contact.under)
heel_shaped (full e f) told = cc
heel_shaped (from_toe h k) told = cc
heel_shaped (from_heel h e k) told = refl
heel_shaped none told = cc

module _ {wall : Wall} {b : Block} (made : Made wall b) where
  -- a full block, by ends t and g
  pub full_is : b.kind ≡ Full → {t g : ℕ} → t ≡ above_zero b.toe.over → g ≡ above_zero b.heel.over → b ≡ full_block (base_length wall) t g
  full_is told toe heel = rw (toe, heel) (full_shaped made.figures told)

  pub full_ends : T (wall_fits wall) → b.kind ≡ Full → {t g : ℕ} → t ≡ above_zero b.toe.over → g ≡ above_zero b.heel.over → Ends (base_length wall) t g
  full_ends fits told toe heel =
      let p = made.workable in
      let even = p.even told in
      rw (toe, heel)
      (record {
        some = omega (arith, base_length_lem (wall_within wall fits));
        long = p.long;
        toe_most = rw even.0 at p.toe_limit;
        heel_most = rw even.1 at p.heel_limit;
      })

  -- a triangle, by its contact p/q
  module _ {p q : ℕ} (over : p ≡ above_zero b.contact.over) (under : q ≡ above_zero b.contact.under) where
    pub toe_is : b.kind ≡ FromToe → b ≡ toe_triangle p q
    toe_is told = rw (over, under) (toe_shaped made.figures told)

    pub heel_is : b.kind ≡ FromHeel → b ≡ heel_triangle p q
    heel_is told = rw (over, under) (heel_shaped made.figures told)

    pub reaches : {k : Kind} → b.kind ≡ k → T (is_given_kind k) → Contact p q
    reaches told some = rw (over, under) (reaching made.workable.contact (made.workable.touches (rw told some)))

-- where there is none, nothing bears
pub none_bears : (wall : Wall) (b : Block) → b.kind ≡ NoBlock → no_action ≡ heel_bearing wall b
unfolding heel_bearing carried_behind six_moments_behind behind behind_by whole_of
none_bears wall b told = rw told (action_is (sym (down_of_zero _)) (sym (down_of_zero _)))

-- what a full block bears, worked for a wall's own lengths
far : (wall : Wall) → (2 * base_length wall - heel_length wall ≡ toe_length wall + stem_thickness wall + base_length wall)
    × (6 * base_length wall - twice_heel_arm wall ≡ twice_arm wall + 4 * base_length wall)
unfolding base_length
far wall = omega arith

pub full_action : (wall : Wall) → 0 < stem_thickness wall → (t g : ℕ) {l lh arm shear moment : ℕ} → l ≡ base_length wall → lh ≡ heel_length wall → arm ≡ twice_heel_arm wall
    → shear ≡ rounded_down ((t * lh + g * (2 * l - lh)) * lh) (l * (20 * (l * l)))
    → moment ≡ rounded_down ((t * arm + g * (6 * l - arm)) * (arm * arm)) (l * l * (480 * l))
    → record { shear = shear; moment = moment } ≡ heel_bearing wall (full_block (base_length wall) t g)
full_action wall thick t g long short mid v m =
    action_is (rw (long, short, (far wall).0) at v ∙ sym (full_shear wall thick t g)) (rw (long, mid, (far wall).1) at m ∙ sym (full_moment wall thick t g))

-- ---- how big: a full block

-- the greatest end, in parts of which l^2 make a tenth of a kN/m2
abbrev pub steepest : ℕ
steepest = 20000 * (longest * longest)

-- the line's ends, each over a length of so many bases at most
pub line_most : {l toe heel : ℕ} → Ends l toe heel → (m n : ℕ) → m ≤ 2 * l → n ≤ 6 * l → (toe * m ≤ steepest * (2 * longest)) × (heel * n ≤ steepest * (6 * longest))
line_most {l} {toe} {heel} e m n h k =
    let square = mul-le-mul e.long e.long in
    let first : toe ≤ steepest = omega (arith, e.toe_most) in
    let second : heel ≤ steepest = omega (arith, e.heel_most) in
    let short : m ≤ 2 * longest = omega (arith, e.long) in
    let far : n ≤ 6 * longest = omega (arith, e.long) in
    (mul-le-mul first short, mul-le-mul second far)

-- a share of four times the whole at most
pub share_most : (n a b : ℕ) → a ≤ 4 * b → n / b * a ≤ 4 * n
share_most n a b h = omega (arith, mul-le-mul_left (n / b) h, div-mul-le_self n b)

-- ---- a triangle

-- a quotient of which n is no less, as a wide number gives it
pub share_is : {r a : ℕ} (b n : ℕ) → a ≤ n * b → n < 2 ^ 64 - 1 → r ≡ min (rounded_down a b) (2 ^ 64 - 1) → r ≡ rounded_down a b
share_is {r} {a} b n h few e = omega (arith, down_nearest a b, nearest_least b h)

-- what reaches past a section is a part of the contact, and of twice the contact
module _ (p q d : ℕ) where
  pub tip_shear : d ≤ p → q * d * d ≤ q * (20 * p * p)
  tip_shear h = omega (arith, mul-le-mul_left q (mul-le-mul h h))

  pub tip_moment : d ≤ 2 * p → d * d * d ≤ p * (480 * p * p)
  tip_moment h = omega (arith, mul-le-mul h (mul-le-mul h h))

  pub cut_shear : d ≤ p → q * d * (2 * p - d) ≤ q * (20 * p * p)
  cut_shear h =
      let rest : 2 * p - d ≤ 2 * p = omega arith in omega (arith, mul-le-mul_left q (mul-le-mul h rest))

  pub cut_moment : d ≤ 2 * p → d * d * (6 * p - d) ≤ p * (480 * p * p)
  cut_moment h =
      let rest : 6 * p - d ≤ 6 * p = omega arith in omega (arith, mul-le-mul h (mul-le-mul h rest))
