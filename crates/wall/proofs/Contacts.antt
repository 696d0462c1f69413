-- A triangle that bears a wall: its contact is the fraction of its two parts, and by these the toe's bearing is the case of the rule that it is.
use mathlib.Core.Path.{◌≡◌, refl}
use Prim.Native.Nat.{ℕ, ◌*◌, ◌≤◌, ◌<◌}
use borrow.Author.Tests.{lt-ltb, le-ltb}
use lib.Dec.{T}
use Rattle.whole.specs.Parts.{above_zero}
use Rattle.rules.specs.declared.Fraction.{Fraction}
use Rattle.rules.specs.declared.Kind.{Kind}
use Rattle.rules.specs.declared.Kind.TheVariants.{FromToe, FromHeel}
use Rattle.rules.specs.declared.Action.{Action}
use Rattle.rules.specs.declared.Pressed.{Pressed}
use Rattle.rules.specs.JobFile.{Wall, toe_length, base_length}
use Rattle.rules.specs.Bearing.{factored_scale, greatest_peak, is_given_kind}
use Rattle.rules.specs.ToeAndStem.{scaled, twice_arm, straight, plain, ended_shear, ended_moment, begun_shear, begun_moment, in_newtons, ended_bearing, begun_bearing, bearing_by}
use Rattle.rules.proofs.Pressures.{Reaches, Touches, touches, reports, reported_most}
use Rattle.wall.specs.Working.{Bears, fraction, begins, Contact}

-- ---- a contact

exact : {l : ℕ} {c : Fraction} → Touches l c → c ≡ fraction (above_zero c.over) (above_zero c.under)
exact (touches hp hq within) = refl

pub reaching : {l : ℕ} {c : Fraction} → Reaches c → Touches l c → Contact (above_zero c.over) (above_zero c.under)
reaching r (touches hp hq within) = record { over_some = hp; under_some = hq; over_most = r.over_most; under_most = r.under_most }

based : {l : ℕ} {c : Fraction} → Touches l c → above_zero c.over ≤ l * above_zero c.under
based (touches hp hq within) = within

-- ---- a block that is given, with a contact of p by q

module _ {wall : Wall} {pressed : Pressed} (bears : Bears wall pressed) {p q : ℕ} (over : p ≡ above_zero pressed.block.contact.over)
    (under : q ≡ above_zero pressed.block.contact.under) where
  touching : {k : Kind} → pressed.block.kind ≡ k → T (is_given_kind k) → Touches (base_length wall) pressed.block.contact
  touching told some = bears.pressable.touches (rw told some)

  is_fraction : {k : Kind} → pressed.block.kind ≡ k → T (is_given_kind k) → pressed.block.contact ≡ fraction p q
  is_fraction told some = rw (over, under) (exact (touching told some))

  -- a triangle from the toe: its peak stands on it; it ends before the stem's middle, or reaches that
  module _ (told : pressed.block.kind ≡ FromToe) where
    pub toe_stands : (pressed.toe ≤ greatest_peak) × Contact p q × (p ≤ base_length wall * q)
    toe_stands = (
      rw (reports factored_scale bears.reports).0 (reported_most bears.pressable).0,
      rw (over, under) (reaching bears.pressable.contact (touching told tt)),
      rw (over, under) (based (touching told tt)),
    )

    pub ended : p * 2 < twice_arm wall * q → bearing_by FromToe wall pressed.block ≡ ended_bearing wall pressed.toe (fraction p q)
    unfolding bearing_by
    ended h = rw (is_fraction told tt, lt-ltb (p * 2) (twice_arm wall * q) h, (reports factored_scale bears.reports).0)

    pub reached : twice_arm wall * q ≤ p * 2 → bearing_by FromToe wall pressed.block ≡ straight wall (scaled pressed.toe (fraction p q))
    unfolding bearing_by
    reached h = rw (is_fraction told tt, le-ltb (p * 2) (twice_arm wall * q) h, (reports factored_scale bears.reports).0)

  -- one from the heel
  module _ (told : pressed.block.kind ≡ FromHeel) where
    pub heel_stands : (pressed.heel ≤ greatest_peak) × Contact p q × (p ≤ base_length wall * q)
    heel_stands = (
      rw (reports factored_scale bears.reports).1 (reported_most bears.pressable).1,
      rw (over, under) (reaching bears.pressable.contact (touching told tt)),
      rw (over, under) (based (touching told tt)),
    )

    pub begun : bearing_by FromHeel wall pressed.block ≡ begun_bearing wall pressed.heel (fraction p q)
    unfolding bearing_by
    begun = rw (is_fraction told tt, (reports factored_scale bears.reports).1)

-- ---- a shear and a moment, as they are worked for a wall's own lengths

module _ (wall : Wall) (P p q : ℕ) {lt A shear moment : ℕ} (face : lt ≡ toe_length wall) (middle : A ≡ twice_arm wall) where
  pub ended_action : shear ≡ in_newtons (ended_shear (plain P) (fraction p q) (plain lt)) → moment ≡ in_newtons (ended_moment (plain P) (fraction p q) (fraction A 2))
      → ◌≡◌ {A = Action} (record { shear = shear; moment = moment }) (ended_bearing wall P (fraction p q))
  unfolding ended_bearing
  ended_action v m = rw (v, m, face, middle)

  pub begun_action : {l : ℕ} → l ≡ base_length wall → shear ≡ in_newtons (begun_shear (plain P) (fraction p q) (begins l p q) (plain lt))
      → moment ≡ in_newtons (begun_moment (plain P) (fraction p q) (begins l p q) (fraction A 2))
      → ◌≡◌ {A = Action} (record { shear = shear; moment = moment }) (begun_bearing wall P (fraction p q))
  unfolding begun_bearing
  begun_action long v m = rw (v, m, face, middle, long)
