-- Document 02, #105: a triangle under the base, cut at a section. The bearing shear is exactly what its part in front of the section carries, and the bearing
-- moment exactly the moment of that part about the section. Fractions are compared by `Same`: nothing is rounded here.
use mathlib.Core.Path.{◌≡◌, refl, ap}
use mathlib.Core.Bool.{true, false}
use Prim.Native.Nat.{ℕ, ◌+◌, ◌-◌, ◌*◌, ◌<◌}
use native.Mathlib.Nat.{mul-pos}
use native.Mathlib.Omega.{arith}
use lib.IntN.{pos, ◌*ℤ◌}
use lib.Signed.{◌<ℤ◌}
use Rattle.whole.specs.Parts.{above_zero, below_zero}
use Rattle.whole.proofs.Integer.{Diff, itself, diff_sub, diff_mul, diff_eq, lt_z_true, pos_less, pos-≤ℤ, pos-<ℤ}
use Rattle.rules.specs.declared.Fraction.{Fraction}
use Rattle.rules.specs.declared.Kind.TheVariants.{Full, FromToe}
use Rattle.rules.specs.declared.Block.{Block}
use Rattle.rules.specs.Bearing.{◌over◌, minus, times, divided_by, less_than, Same, StraightLine, carried, six_moments}
use Rattle.rules.specs.ToeAndStem.{plain, ended_shear, ended_moment, begun_shear, begun_moment}

-- ---- the parts

-- all of a triangle of peak P and contact c
abbrev pub triangle : Fraction → Fraction → Block
triangle P c = record { kind = FromToe; toe = P; heel = plain 0; contact = c }

-- its part over lt, where it reaches past lt: there it has fallen to P x (c - lt) / c
abbrev pub part_over : Fraction → Fraction → Fraction → Block
part_over P c lt = record { kind = Full; toe = P; heel = times P (divided_by (minus c lt) c); contact = lt }

-- the part before x of one that begins at z and has risen to P over c, seen from x: a triangle that falls from P x (x - z) / c to 0 over x - z
abbrev pub part_before : Fraction → Fraction → Fraction → Fraction → Block
part_before P c z x = triangle (times P (divided_by (minus x z) c)) (minus x z)

-- the moment of a triangle about its own end, for which the length of the base isn't read
abbrev pub own_moment : Block → Fraction
own_moment b = divided_by (six_moments (pos 0) b) (plain 6)

-- and about a section at a: all that it carries, at a, less that
abbrev pub moment_about : Fraction → Block → Fraction
moment_about a b = minus (times a (carried b)) (own_moment b)

-- ---- peaks, contacts and distances: fractions of natural numbers

pub data Ratio : Fraction → Type 0 where
  ratio : (a b : ℕ) → 0 < b → Ratio (pos a over pos b)

-- what a difference has over its line, in the parts of the two products
minus_diff : (a b : Fraction)
    → Diff (minus a b).over (above_zero (a.over *ℤ b.under) + below_zero (b.over *ℤ a.under)) (below_zero (a.over *ℤ b.under) + above_zero (b.over *ℤ a.under))
minus_diff a b = diff_sub (itself (a.over *ℤ b.under)) (itself (b.over *ℤ a.under))

-- a difference is one, where it is above 0
pub difference : {a b : Fraction} → Ratio a → Ratio b → less_than b a ≡ true → Ratio (minus a b)
difference (ratio i j hj) (ratio p q hq) h =
    let less : p * j < i * q = pos-<ℤ.0 (lt_z_true h) in
    rw (pos_less (i * q) (p * j) (i * q - p * j) (omega arith)) (ratio (i * q - p * j) (j * q) (mul-pos hj hq))

-- ---- a triangle from the toe

-- where it ends at lt or before, the shear is what all of it carries
pub shear_of_all : {P c lt : Fraction} → Ratio P → Ratio c → Ratio lt → less_than lt c ≡ false → Same (ended_shear P c lt) (carried (triangle P c))
unfolding ended_shear
shear_of_all (ratio m n _) (ratio p q _) (ratio i j _) h = rw h (ap pos (omega arith))

-- where it reaches past lt, the shear is what its part over lt carries
pub shear_of_part : {P c lt : Fraction} → Ratio P → Ratio c → Ratio lt → less_than lt c ≡ true → Same (ended_shear P c lt) (carried (part_over P c lt))
unfolding ended_shear
shear_of_part (ratio m n _) (ratio p q _) (ratio i j _) h =
    let less : i * q < p * j = pos-<ℤ.0 (lt_z_true h) in
    let d : ℕ = p * j - i * q in
    rw (h, pos_less (p * j) (i * q) d (omega arith), pos_less (2 * p * j) (i * (1 * q)) (p * j + d) (omega arith)) (ap pos (omega arith))

-- the moment is that of all of it about a
pub moment_of_all : {P c a : Fraction} → Ratio P → Ratio c → Ratio a → Same (ended_moment P c a) (moment_about a (triangle P c))
unfolding ended_moment
moment_of_all {P} {c} {a} (ratio m n _) (ratio p q _) (ratio i j _) =
    let b = triangle P c in
    diff_eq (diff_mul _ _ (diff_mul _ _ (itself (times P (divided_by c (plain 2))).over) (minus_diff a (divided_by c (plain 3)))) (itself (moment_about a b).under))
    (diff_mul _ _ (minus_diff (times a (carried b)) (own_moment b)) (itself (ended_moment P c a).under)) (omega arith)

-- ---- a triangle from the heel, which begins at z

-- a shear and a moment are what a triangle carries, and its moment about its own end
pub record Exact (shear moment : Fraction) (b : Block) : Type 0 where
  pub carries : Same shear (carried b)
  pub turns : Same moment (own_moment b)

-- those of one that has risen over d
risen : {P c d : Fraction} → Ratio P → Ratio c → Ratio d
    → Exact (divided_by (times P (times d d)) (times (plain 2) c)) (divided_by (times P (times d (times d d))) (times (plain 6) c)) (triangle (times P (divided_by d c)) d)
risen (ratio m n _) (ratio p q _) (ratio i j _) = record { carries = ap pos (omega arith); turns = ap pos (omega arith) }

-- where it begins before x, they are those of its part before x
pub part_before_lem : {P c z x : Fraction} → Ratio P → Ratio c → Ratio z → Ratio x → less_than z x ≡ true
    → Exact (begun_shear P c z x) (begun_moment P c z x) (part_before P c z x)
unfolding begun_shear begun_moment
part_before_lem isP isC isZ isX h = rw h (risen isP isC (difference isX isZ h))

-- where it begins at x or past it, there is none
pub none_before : (P c z x : Fraction) → less_than z x ≡ false → (begun_shear P c z x ≡ plain 0) × (begun_moment P c z x ≡ plain 0)
unfolding begun_shear begun_moment
none_before P c z x h = (rw h, rw h)

-- what it has risen to at x is on its straight line, which is 0 at l - c and P at l
pub risen_at : {P c l x : Fraction} → Ratio P → Ratio c → Ratio l → Ratio x
    → Same (part_before P c (minus l c) x).toe (times P (divided_by (minus c (minus l x)) c))
risen_at {P} {c} {l} {x} (ratio m n _) (ratio p q _) (ratio a b _) (ratio i j _) =
    let same : (minus x (minus l c)).over ≡ (minus c (minus l x)).over =
    diff_eq (diff_sub (itself (pos (i * (b * q)))) (diff_mul _ _ (minus_diff l c) (itself (pos j))))
    (diff_sub (itself (pos (p * (b * j)))) (diff_mul _ _ (minus_diff l x) (itself (pos q)))) (omega arith) in
    let under : n * (q * (b * j) * p) ≡ n * (j * (b * q) * p) = omega arith in
    rw (same, under)

-- ---- each part is a straight-line block on the length that it lies under

pub over_straight : {P c : Fraction} (lt : ℕ) → Ratio P → Ratio c → less_than (plain lt) c ≡ true → StraightLine (pos lt) (part_over P c (plain lt))
over_straight lt (ratio m n hn) (ratio p q hq) h =
    let less : lt * q < p * 1 = pos-<ℤ.0 (lt_z_true h) in
    let some : 0 < p = omega arith in
    rw (pos_less (p * 1) (lt * q) (p - lt * q) (omega arith))
    record {
      proper = record { toe = pos-<ℤ.1 hn; heel = pos-<ℤ.1 (mul-pos hn (mul-pos (mul-pos hq (omega arith)) some)); contact = pos-<ℤ.1 (omega arith) };
      shaped = record { toe = pos-≤ℤ.1 (omega arith); heel = pos-≤ℤ.1 (omega arith); contact = refl };
    }

pub before_straight : {P c z : Fraction} (x : ℕ) → Ratio P → Ratio c → Ratio z → pos 0 <ℤ c.over → pos 0 <ℤ z.over → less_than z (plain x) ≡ true
    → StraightLine (pos x) (part_before P c z (plain x))
before_straight x (ratio m n hn) (ratio p q hq) (ratio k u hu) hc hz h =
    let less : k * 1 < x * u = pos-<ℤ.0 (lt_z_true h) in
    let some : 0 < k = pos-<ℤ.0 hz in
    rw (pos_less (x * u) (k * 1) (x * u - k) (omega arith))
    record {
      proper = record { toe = pos-<ℤ.1 (mul-pos hn (mul-pos (mul-pos (omega arith) hu) (pos-<ℤ.0 hc))); heel = pos-<ℤ.1 (omega arith); contact = pos-<ℤ.1 (omega arith) };
      shaped = record { falls = refl; some = pos-<ℤ.1 (omega arith); short = pos-<ℤ.1 (omega arith) };
    }
