-- Document 02, #105, beside the straight line that document 01 draws from the toe to the middle of the stem. What bears on the toe now is never more, and where the contact ends
-- at the middle of the stem the two agree but for rounding.
use mathlib.Core.Path.{◌≡◌, refl, ap, ◌∙◌}
use mathlib.Core.Bool.{Bool, true, false, cond}
use mathlib.Core.List.{List}
use Prim.Native.Nat.{ℕ, ◌+◌, ◌-◌, ◌*◌, ◌≤◌, ◌<◌}
use native.Mathlib.Nat.{mul-le-mul, mul-le-mul_right, mul-pos, le_of_mul-le-mul_right}
use native.Mathlib.Omega.{arith}
use borrow.Author.Tests.{ltb-true, ltb-false}
use lib.Dec.{T, ltb, ltb→lt}
use lib.IntN.{pos, nat_abs}
use Rattle.whole.specs.Parts.{above_zero}
use Rattle.whole.specs.Rounding.{rounded_up}
use Rattle.whole.proofs.Lists.{case}
use Rattle.whole.proofs.Rounded.{up_enough, up_tight, up_least, up_across, up_alike, up_of_zero}
use Rattle.rules.specs.declared.Fraction.{Fraction}
use Rattle.rules.specs.declared.Kind.{Kind}
use Rattle.rules.specs.declared.Kind.TheVariants.{Full, FromToe, FromHeel, NoBlock}
use Rattle.rules.specs.declared.Block.{Block}
use Rattle.rules.specs.declared.Action.{Action}
use Rattle.rules.specs.JobFile.{Wall, Load, toe_length, stem_thickness, base_length}
use Rattle.rules.specs.Bearing.{◌over◌, less_than, Same, factored_scale, reported, factored_block, is_given_kind, is_given}
use Rattle.rules.specs.ToeAndStem.{scaled, on_line, twice_arm, per_pressure, straight_shear, straight_moment, straight, plain, ended_shear, in_newtons, stem_face, stem_middle, ended_bearing, begun_bearing, no_action, bearing_by, toe_bearing}
use Rattle.rules.proofs.Accepted.{wall_within}
use Rattle.rules.proofs.Examined.{Fit}
use Rattle.rules.proofs.Pressures.{Touches, touches, factored_pressable}
use Rattle.rules.proofs.Triangles.{scaled_is, scaled_start, past, all, over_toe, about_middle, before_shear, before_moment, past_most}

-- document 01's rule, before #105: the straight line, over every block
unfoldable pub before : Kind → Wall → Block → Action
before Full wall b = straight wall (on_line b (base_length wall))
before FromToe wall b = straight wall (scaled (reported factored_scale b.toe) b.contact)
before FromHeel wall b = straight wall (λ twice. scaled (reported factored_scale b.heel) b.contact (2 * base_length wall - twice))
before NoBlock wall b = no_action

-- ---- a triangle and the line in whole numbers: the line has the pressures r, s and t at 0, lt and a

module _ (P p q : ℕ) (hp : 0 < p) (hq : 0 < q) where
  -- a pressure is rounded up, by less than one
  scaled_enough : (twice : ℕ) → P * (2 * p - q * twice) ≤ scaled P (pos p over pos q) twice * (2 * p)
  scaled_enough twice = rw (scaled_is P twice p q) (up_enough _ (omega arith))

  scaled_tight : (twice : ℕ) → scaled P (pos p over pos q) twice * (2 * p) < P * (2 * p - q * twice) + 2 * p
  scaled_tight twice = rw (scaled_is P twice p q) (up_tight _ (omega arith))

  -- where the contact has ended there is none
  scaled_end : (twice : ℕ) → 2 * p ≤ q * twice → scaled P (pos p over pos q) twice ≡ 0
  scaled_end twice h =
      let k : 2 * p - q * twice ≡ 0 = omega arith in
      let e : P * 0 ≡ 0 = omega arith in
      rw (scaled_is P twice p q, k, e) (up_of_zero _)

  all_less : {r : ℕ} (lt s : ℕ) → p ≤ lt * q → P ≤ r → rounded_up (P * p) (2 * per_pressure * q) ≤ rounded_up ((r + s) * lt) (2 * per_pressure)
  all_less lt s h k = up_across _ _ _ (omega arith) (omega (arith, mul-le-mul k h))

  over_toe_less : {r : ℕ} (lt s : ℕ) → lt * q < p → P ≤ r → P * (2 * p - q * (2 * lt)) ≤ s * (2 * p)
      → rounded_up (P * lt * (2 * p - lt * q)) (2 * per_pressure * p) ≤ rounded_up ((r + s) * lt) (2 * per_pressure)
  over_toe_less {r} lt s h k m =
      let d = p - lt * q in
      let e : 2 * p - lt * q ≡ p + d = omega arith in
      let f : 2 * p - q * (2 * lt) ≡ 2 * d = omega arith in
      let g : P * (2 * d) ≤ s * (2 * p) = rw f at m in
      rw e (up_across (P * lt * (p + d)) _ _ (omega arith) (omega (arith, mul-le-mul_right (lt * p) k, mul-le-mul_right lt g)))

  about_middle_less : {r : ℕ} (A t : ℕ) → 2 * p ≤ A * q → P ≤ r
      → rounded_up (P * p * (3 * A * q - 2 * p)) (12 * per_pressure * q * q) ≤ rounded_up ((2 * r + t) * (A * A)) (4 * 6 * per_pressure)
  about_middle_less {r} A t h k =
      let d = A * q - 2 * p in
      let e : A * q ≡ 2 * p + d = omega arith in
      let f : 3 * A * q - 2 * p ≡ 4 * p + 3 * d = omega arith in
      rw f (up_across (P * p * (4 * p + 3 * d)) _ _ (omega arith) (omega (arith, mul-le-mul_right (A * q * (A * q)) k, ap (λ (n : ℕ). P * (n * n)) e)))

  before_shear_less : (lt r s e : ℕ) → e ≤ lt * q → P * (2 * e) ≤ s * (2 * p)
      → rounded_up (P * e * e) (2 * per_pressure * 1 * 1 * q * p) ≤ rounded_up ((r + s) * lt) (2 * per_pressure)
  before_shear_less lt r s e h k = up_across _ _ _ (omega arith) (omega (arith, mul-le-mul k h))

  before_moment_less : (A r t e : ℕ) → e ≤ A * q → P * e ≤ t * (2 * p)
      → rounded_up (P * e * e * e) (6 * per_pressure * 2 * 2 * 2 * q * q * p) ≤ rounded_up ((2 * r + t) * (A * A)) (4 * 6 * per_pressure)
  before_moment_less A r t e h k = up_across _ _ _ (omega arith) (omega (arith, mul-le-mul k (mul-le-mul h h)))

-- ---- never more than before

pub record NoMore (a b : Action) : Type 0 where
  pub shear : a.shear ≤ b.shear
  pub moment : a.moment ≤ b.moment

module _ (wall : Wall) (P p q : ℕ) (hp : 0 < p) (hq : 0 < q) where
  abbrev contact : Fraction
  contact = pos p over pos q

  -- a triangle from the toe that ends at a or before
  pub ended_less : 2 * p ≤ twice_arm wall * q → NoMore (ended_bearing wall P contact) (straight wall (scaled P contact))
  unfolding ended_bearing straight straight_shear straight_moment
  ended_less h =
      let lt = toe_length wall in
      let full : P ≤ scaled P contact 0 = omega (arith, scaled_start P p q hp) in
      record {
        shear = shear (ltb (lt * q) p) refl full;
        moment = rw (about_middle P p q hp hq (twice_arm wall) h) (about_middle_less P p q hp hq (twice_arm wall) _ h full);
      }
    where
      shear : (t : Bool) → ltb (toe_length wall * q) p ≡ t → P ≤ scaled P contact 0
          → in_newtons (ended_shear (plain P) contact (stem_face wall))
          ≤ rounded_up ((scaled P contact 0 + scaled P contact (2 * toe_length wall)) * toe_length wall) (2 * per_pressure)
      shear true e full =
          let lt = toe_length wall in
          let k = ltb-true (lt * q) p e in
          rw (over_toe P p q hp hq lt k) (over_toe_less P p q hp hq lt _ k full (scaled_enough P p q hp hq (2 * lt)))
      shear false e full =
          let lt = toe_length wall in
          let k = ltb-false (lt * q) p e in
          rw (all P p q hp hq lt k) (all_less P p q hp hq lt _ k full)

  -- one from the heel
  pub begun_less : p ≤ base_length wall * q
      → NoMore (begun_bearing wall P contact) (straight wall (λ twice. scaled P contact (2 * base_length wall - twice)))
  unfolding begun_bearing straight straight_shear straight_moment base_length past
  begun_less within =
      let l = base_length wall in
      let lt = toe_length wall in
      let A = twice_arm wall in
      let m : 2 * l - 2 * lt ≡ 2 * (1 * l - lt) = omega arith in
      let doubled : 2 * p - q * (2 * l - 2 * lt) ≡ 2 * past p q l lt 1 = rw m (omega arith) in
      record {
        shear =
            rw (before_shear P p q hp hq l lt 1 (omega arith) within (omega arith))
            (before_shear_less P p q hp hq lt _ _ _ (past_most P p q hp hq l lt 1 (omega arith) within (omega arith))
            (rw doubled at (scaled_enough P p q hp hq (2 * l - 2 * lt))));
        moment =
            rw (before_moment P p q hp hq l A 2 (omega arith) within (omega arith))
            (before_moment_less P p q hp hq A _ _ _ (past_most P p q hp hq l A 2 (omega arith) within (omega arith)) (scaled_enough P p q hp hq (2 * l - A)));
      }

-- the toe's bearing is never more than document 01's straight line gave
pub never_more : (wall : Wall) (b : Block) → (T (is_given b) → Touches (base_length wall) b.contact) → NoMore (toe_bearing wall b) (before b.kind wall b)
unfolding toe_bearing bearing_by before
never_more wall b given = go b.kind given
  where
    same : {a : Action} → NoMore a a
    same = record { shear = omega arith; moment = omega arith }

    from_toe : {c : Fraction} (P : ℕ) → Touches (base_length wall) c
        → NoMore (cond (less_than c (stem_middle wall)) (ended_bearing wall P c) (straight wall (scaled P c))) (straight wall (scaled P c))
    from_toe P (touches {p} {q} hp hq within) =
        case (ltb (p * 2) (twice_arm wall * q)) _ _ (λ a. NoMore a (straight wall (scaled P (pos p over pos q))))
        (λ t. ended_less wall P p q hp hq (omega (arith, ltb→lt (p * 2) (twice_arm wall * q) t))) (λ t. same)

    from_heel : {c : Fraction} (P : ℕ) → Touches (base_length wall) c
        → NoMore (begun_bearing wall P c) (straight wall (λ twice. scaled P c (2 * base_length wall - twice)))
    from_heel P (touches {p} {q} hp hq within) = begun_less wall P p q hp hq within

    go : (k : Kind) → (T (is_given_kind k) → Touches (base_length wall) b.contact) → NoMore (bearing_by k wall b) (before k wall b)
    go Full t = same
    go FromToe t = from_toe _ (t tt)
    go FromHeel t = from_heel _ (t tt)
    go NoBlock t = same

-- under a full block document 01's rule stands, with its roundings, and so it does under a triangle from the toe that reaches a
pub full_as_before : (wall : Wall) (b : Block) → b.kind ≡ Full → toe_bearing wall b ≡ before Full wall b
unfolding toe_bearing bearing_by before
full_as_before wall b e = ap (λ k. bearing_by k wall b) e

pub reaching_as_before : (wall : Wall) (b : Block) → b.kind ≡ FromToe → less_than b.contact (stem_middle wall) ≡ false → toe_bearing wall b ≡ before FromToe wall b
unfolding toe_bearing bearing_by before
reaching_as_before wall b e h = ap (λ k. bearing_by k wall b) e ∙ rw h

-- else what a triangle bears is rounded once: it is enough, and less than one newton too much
pub rounded_once : (bearing : Fraction) → let per = per_pressure * above_zero bearing.under in 0 < per
    → (above_zero bearing.over ≤ in_newtons bearing * per) × (in_newtons bearing * per < above_zero bearing.over + per)
unfolding in_newtons
rounded_once bearing h = (up_enough _ h, up_tight _ h)

-- ---- where the contact ends at a

module _ (P p q lt : ℕ) (hp : 0 < p) (hq : 0 < q) where
  -- the moments are equal
  moments_agree : (A : ℕ) → 2 * p ≡ A * q
      → rounded_up (P * p * (3 * A * q - 2 * p)) (12 * per_pressure * q * q) ≡ rounded_up ((2 * P + 0) * (A * A)) (4 * 6 * per_pressure)
  moments_agree A e =
      let d : 3 * A * q - 2 * p ≡ 4 * p = omega arith in
      rw d (up_alike (P * p * (4 * p)) _ (omega (arith, mul-pos hq hq)) (omega arith) (omega (arith, ap (λ (n : ℕ). P * (n * n)) e)))

  -- the straight line's shear is more by no more than the rounding of its pressure s at lt makes
  shears_agree : (s : ℕ) → lt * q < p → s * (2 * p) < P * (2 * p - q * (2 * lt)) + 2 * p
      → rounded_up ((P + s) * lt) (2 * per_pressure) ≤ rounded_up (P * lt * (2 * p - lt * q)) (2 * per_pressure * p) + rounded_up lt (2 * per_pressure)
  shears_agree s h k =
      let d = p - lt * q in
      let e : 2 * p - lt * q ≡ p + d = omega arith in
      let f : 2 * p - q * (2 * lt) ≡ 2 * d = omega arith in
      let g : s * (2 * p) < P * (2 * d) + 2 * p = rw f at k in
      let t : s * p ≤ P * d + p = omega arith in
      rw e
      (up_least (2 * per_pressure)
      (le_of_mul-le-mul_right {k = p}
      (omega (arith, up_enough (P * lt * (p + d)) {b = 2 * per_pressure * p} (omega arith), mul-le-mul_right p (up_enough lt {b = 2 * per_pressure} (omega arith)), mul-le-mul_right lt t))
      hp))

-- the two agree but for the rounding of the pressure at lt, by which less than 1 N/m2 is added over half of lt
pub record Agree (lt : ℕ) (ended line : Action) : Type 0 where
  pub moment : ended.moment ≡ line.moment
  pub low : ended.shear ≤ line.shear
  pub high : line.shear ≤ ended.shear + rounded_up lt (2 * per_pressure)

pub at_middle : (wall : Wall) → 0 < stem_thickness wall → (P : ℕ) {contact : Fraction} → Touches (base_length wall) contact → Same contact (stem_middle wall)
    → Agree (toe_length wall) (ended_bearing wall P contact) (straight wall (scaled P contact))
unfolding ended_bearing straight straight_shear straight_moment
at_middle wall thick P (touches {p} {q} hp hq within) same =
    let lt = toe_length wall in
    let A = twice_arm wall in
    let e : 2 * p ≡ A * q = omega (arith, ap nat_abs same) in
    let k : lt * q < p = omega (arith, mul-pos thick hq) in
    let start = scaled_start P p q hp in
    record {
      moment = rw (about_middle P p q hp hq A (omega arith), start, scaled_end P p q hp hq A (omega arith)) (moments_agree P p q lt hp hq A e);
      low = (ended_less wall P p q hp hq (omega arith)).shear;
      high = rw (over_toe P p q hp hq lt k, start) (shears_agree P p q lt hp hq _ k (scaled_tight P p q hp hq (2 * lt)));
    }

-- ---- of an accepted wall

module _ (wall : Wall) (loads : List Load) (fit : Fit wall loads) where
  abbrev block : Block
  block = factored_block wall loads

  pub toe_never_more : NoMore (toe_bearing wall block) (before block.kind wall block)
  toe_never_more = never_more wall block (factored_pressable wall loads fit).touches

  pub toe_at_middle : T (is_given block) → Same block.contact (stem_middle wall) → (P : ℕ)
      → Agree (toe_length wall) (ended_bearing wall P block.contact) (straight wall (scaled P block.contact))
  toe_at_middle given same P = at_middle wall (omega (arith, wall_within wall fit.wall_fits)) P ((factored_pressable wall loads fit).touches given) same
