-- What the factored block of an accepted wall is at a point: its figures are not negative and small, its contact is above 0 and within the base, and no pressure
-- is above the greatest peak.
use mathlib.Core.Path.{◌≡◌, refl, ap}
use mathlib.Core.List.{List}
use Prim.Native.Nat.{ℕ, ◌+◌, ◌-◌, ◌*◌, ◌≤◌, ◌<◌}
use native.Mathlib.Nat.{mul-le-mul, mul-le-mul_left, mul-le-mul_right, le_trans}
use native.Mathlib.Omega.{arith}
use lib.Dec.{T, leb, leb→le, lit<}
use lib.IntN.{ℤ, pos, ◌+ℤ◌, ◌*ℤ◌}
use lib.Signed.{◌≤ℤ◌, ◌<ℤ◌, le_z_yes}
use Rattle.whole.specs.Parts.{above_zero}
use Rattle.whole.proofs.Integer.{itself, diff_mul, above_diff, above_most, above_sub, lt_parts, pos-≤ℤ, *ℤ-nonneg, Whole, whole, is_whole, Above, above, is_above}
use Rattle.whole.proofs.Lists.{case}
use Rattle.whole.proofs.Rounded.{up_enough, up_least}
use Rattle.rules.specs.declared.Fraction.{Fraction}
use Rattle.rules.specs.declared.Kind.{Kind}
use Rattle.rules.specs.declared.Kind.TheVariants.{Full, FromToe, FromHeel, NoBlock}
use Rattle.rules.specs.declared.Block.{Block}
use Rattle.rules.specs.declared.Pressed.{Pressed}
use Rattle.rules.specs.JobFile.{Wall, Load, base_length}
use Rattle.rules.specs.Bearing.{of_kind, factored_scale, reported, peak, greatest_peak, given, block_under, factored_block, is_given, pressed_by}
use Rattle.rules.specs.ToeAndStem.{scaled, on_line}
use Rattle.rules.proofs.Accepted.{wall_within, longest, base_length_lem}
use Rattle.rules.proofs.Examined.{Fit, fits_of}
use Rattle.rules.proofs.Sizes.{heaviest_factored, factored_sized}
use Rattle.rules.proofs.Carries.{Bears, given_has, factored_bears}

-- a contact of M6 over 2R, or of N over 2R, where R is below `heavy`
pub record ReachesUnder (heavy : ℕ) (contact : Fraction) : Type 0 where
  pub over : pos 0 ≤ℤ contact.over
  pub under : pos 0 ≤ℤ contact.under
  pub over_most : above_zero contact.over ≤ 2 * heavy * longest
  pub under_most : above_zero contact.under ≤ 2 * heavy

-- as a factored triangle has it
abbrev pub Reaches : Fraction → Type 0
Reaches contact = ReachesUnder heaviest_factored contact

-- a contact of p/q on a base of length l: a match puts the two numbers in its place
pub data Touches (l : ℕ) : Fraction → Type 0 where
  touches : {p q : ℕ} → 0 < p → 0 < q → p ≤ l * q → Touches l (record { over = pos p; under = pos q })

-- a block on a base of length l whose pressure at a point can be worked
pub record Pressable (l : ℕ) (b : Block) : Type 0 where
  pub long : l ≤ longest
  pub toe : pos 0 ≤ℤ b.toe.over
  pub heel : pos 0 ≤ℤ b.heel.over
  pub toe_limit : factored_scale * above_zero b.toe.over ≤ greatest_peak * above_zero b.toe.under
  pub heel_limit : factored_scale * above_zero b.heel.over ≤ greatest_peak * above_zero b.heel.under
  pub even : b.kind ≡ Full → (b.toe.under ≡ pos (l * l)) × (b.heel.under ≡ pos (l * l))
  pub contact : Reaches b.contact
  pub touches : T (is_given b) → Touches l b.contact

-- the pressures of a block that reports them
pub reports : (scale : ℕ) {p : Pressed} → p ≡ pressed_by scale p.block
    → (p.toe ≡ reported scale p.block.toe) × (p.heel ≡ reported scale p.block.heel)
unfolding pressed_by
reports scale e = (ap (λ p. p.toe) e, ap (λ p. p.heel) e)

-- the pressures that a block reports are no more than the greatest peak
abbrev pub WithinPeak : ℕ → Block → Type 0
WithinPeak scale b = (reported scale b.toe ≤ greatest_peak) × (reported scale b.heel ≤ greatest_peak)

-- those of a block that is given are, and where it isn't there are none
pub given_most : (scale : ℕ) (b : Block) → WithinPeak scale (given scale b)
unfolding given peak reported
given_most scale b =
    case (leb (peak scale b) greatest_peak) _ _ (WithinPeak scale) (λ t. let k = leb→le (peak scale b) greatest_peak t in omega arith)
    (λ t. (up_least 1 (omega arith), up_least 1 (omega arith)))

-- ---- the contact of a block

-- one that is above 0 and within the base
touching : {l : ℕ} {p q : ℤ} → Above p → Above q → p ≤ℤ (pos l *ℤ q) → Touches l (record { over = p; under = q })
touching (above p hp) (above q hq) within = touches hp hq (pos-≤ℤ.0 within)

within_base : {l heavy : ℕ} {p q : ℤ} → l ≤ longest → Above p → Above q → p ≤ℤ (pos l *ℤ q) → above_zero q ≤ 2 * heavy
    → ReachesUnder heavy (record { over = p; under = q })
within_base long (above p hp) (above q hq) short most =
    let least : (n : ℕ) → pos 0 ≤ℤ pos n = λ n. pos-≤ℤ.1 (omega arith) in
    record { over = least p; under = least q; over_most = omega (arith, mul-le-mul long most, pos-≤ℤ.0 short); under_most = most }

module _ (R M6 : ℤ) (l heavy : ℕ) (light : R <ℤ pos heavy) (some : 0 < heavy) (long : l ≤ longest) where
  bearing : (b : Block) → above_zero b.contact.under ≤ 2 * heavy → Bears R M6 (pos l) b → ReachesUnder heavy b.contact
  bearing b most bears = within_base long (is_above bears.some) (is_above bears.straight.proper.contact) bears.within most

  -- that of a triangle stands over 2R
  double : above_zero (pos 2 *ℤ R) ≤ 2 * heavy
  double = omega (arith, above_diff _ (diff_mul (pos 2) R (itself (pos 2)) (itself R)), above_most R light)

  -- so it is of the block of each kind, which bears R and M6 where it is given
  pub contact_of : (k : Kind) → (T (is_given (of_kind k R M6 (pos l))) → Bears R M6 (pos l) (of_kind k R M6 (pos l)))
      → ReachesUnder heavy (of_kind k R M6 (pos l)).contact
  unfolding of_kind
  contact_of Full bears = bearing _ (omega arith) (bears tt)
  contact_of FromToe bears = bearing _ double (bears tt)
  contact_of FromHeel bears = bearing _ double (bears tt)
  contact_of NoBlock bears = record { over = le_z_yes tt; under = le_z_yes tt; over_most = omega arith; under_most = omega arith }

-- ---- the factored block

-- what reports no more than the greatest peak is no more
limit : (p : Fraction) → pos 0 <ℤ p.under → reported factored_scale p ≤ greatest_peak
    → factored_scale * above_zero p.over ≤ greatest_peak * above_zero p.under
unfolding reported
limit p some h =
    let under : 0 < above_zero p.under = omega (arith, lt_parts some) in
    le_trans (up_enough _ under) (mul-le-mul_right (above_zero p.under) h)

module _ (R M6 : ℤ) (l : ℕ) (light : R <ℤ pos heaviest_factored) (long : l ≤ longest) where
  -- a block is Pressable where it reports no more than the greatest peak and, if it is given, bears R and M6
  abbrev Given : Block → Type 0
  Given b = WithinPeak factored_scale b → (T (is_given b) → Bears R M6 (pos l) b) → Pressable l b

  contact : (k : Kind) → (T (is_given (of_kind k R M6 (pos l))) → Bears R M6 (pos l) (of_kind k R M6 (pos l))) → Reaches (of_kind k R M6 (pos l)).contact
  contact = contact_of R M6 l heaviest_factored light (lit< tt) long

  -- it takes only that its contact reaches, and that its ends are over l^2 where it is full
  pressed : (b : Block) → Reaches b.contact → (b.kind ≡ Full → (b.toe.under ≡ pos (l * l)) × (b.heel.under ≡ pos (l * l)))
      → WithinPeak factored_scale b → Bears R M6 (pos l) b → Pressable l b
  pressed b contact even most bears =
      let proper = bears.straight.proper in
      record {
        long = long;
        toe = bears.toe;
        heel = bears.heel;
        toe_limit = limit b.toe proper.toe most.0;
        heel_limit = limit b.heel proper.heel most.1;
        even = even;
        contact = contact;
        touches = λ t. touching (is_above bears.some) (is_above proper.contact) bears.within;
      }

  -- so is the block of each kind; where there is none, its zeros are
  of_kind_lem : (k : Kind) → Given (of_kind k R M6 (pos l))
  unfolding of_kind
  of_kind_lem Full most bears = pressed _ (contact Full bears) (λ e. (refl, refl)) most (bears tt)
  of_kind_lem FromToe most bears = pressed _ (contact FromToe bears) (λ e. (cc, cc)) most (bears tt)
  of_kind_lem FromHeel most bears = pressed _ (contact FromHeel bears) (λ e. (cc, cc)) most (bears tt)
  of_kind_lem NoBlock most bears =
      record {
        long = long;
        toe = le_z_yes tt;
        heel = le_z_yes tt;
        toe_limit = omega arith;
        heel_limit = omega arith;
        even = λ e. (cc, cc);
        contact = contact NoBlock bears;
        touches = λ t. absurd t;
      }

-- the factored block of an accepted wall is Pressable, given or not
pub factored_pressable : (wall : Wall) (loads : List Load) → Fit wall loads → Pressable (base_length wall) (factored_block wall loads)
unfolding factored_block block_under
factored_pressable wall loads fit =
    let s = factored_sized wall loads fit in
    let long = (base_length_lem (wall_within wall fit.wall_fits)).1 in
    given_has (Given _ _ (base_length wall) s.R long) factored_scale _ _ _ (of_kind_lem _ _ (base_length wall) s.R long) (given_most factored_scale _)
    (factored_bears wall loads (fits_of wall loads fit))

-- ---- at a point

-- a Pressable block reports no more than the greatest peak
pub reported_most : {l : ℕ} {b : Block} → Pressable l b → WithinPeak factored_scale b
unfolding reported
reported_most p = (up_least _ p.toe_limit, up_least _ p.heel_limit)

-- the part in contact is at most all of it
pub scaled_most : (greatest away : ℕ) {contact : Fraction} → Reaches contact → scaled greatest contact away ≤ greatest
unfolding scaled
scaled_most greatest away {contact} c =
    up_least _ (mul-le-mul_left greatest (above_sub (pos 2 *ℤ contact.over) (*ℤ-nonneg c.under ((pos-≤ℤ {b = away}).1 (omega arith)))))

-- on a line between two ends over q, neither of them above the greatest peak, nothing is
between : (l m n q : ℕ) {t g : ℤ} → m + n ≡ l → Whole t → Whole g → factored_scale * above_zero t ≤ greatest_peak * q
    → factored_scale * above_zero g ≤ greatest_peak * q → factored_scale * above_zero (t *ℤ pos m +ℤ g *ℤ pos n) ≤ greatest_peak * (l * q)
between l m n q e (whole t) (whole g) h k = rw (← e) (omega (arith, mul-le-mul_right m h, mul-le-mul_right n k))

pub line_most : {l : ℕ} {b : Block} → Pressable l b → b.kind ≡ Full → (twice : ℕ) → twice ≤ 2 * l → on_line b l twice ≤ greatest_peak
unfolding on_line
line_most {l} {b} p full twice h =
    let under = p.even full in
    let limits = between (2 * l) (2 * l - twice) twice (l * l) (omega arith) (is_whole p.toe) (is_whole p.heel) in
    up_least _ (rw under.0 (limits (rw under.0 at p.toe_limit) (rw under.1 at p.heel_limit)))
