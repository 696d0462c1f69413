-- Document 02, #103: the part of a block behind a section, in whole numbers. What it carries, and what it turns about the section, are fractions of small numbers; with the
-- part before the section, they make R and M6.
use mathlib.Core.Path.{◌≡◌, refl, ap}
use mathlib.Core.Logic.{◌↔◌, inl, ⊎_elim, dite}
use mathlib.Core.Bool.{true, false}
use mathlib.Core.List.{List}
use Prim.Native.Nat.{ℕ, ◌+◌, ◌-◌, ◌*◌, ◌≤◌, ◌<◌}
use native.Mathlib.Nat.{mul-pos, eq_of_mul-eq-mul_right, one-mul}
use native.Mathlib.Decide.{dec_lt}
use native.Mathlib.Omega.{arith}
use borrow.Author.Tests.{lt-ltb, le-ltb}
use lib.Dec.{T, leb}
use lib.IntN.{ℤ, pos, negsuc, ◌-ℤ◌}
use lib.Signed.{◌<ℤ◌}
use Rattle.whole.specs.Parts.{above_zero}
use Rattle.whole.specs.Rounding.{rounded_down}
use Rattle.whole.proofs.Integer.{pos_less, pos-≤ℤ, pos-<ℤ, ≤ℤ-or-<ℤ, Above, above, is_above}
use Rattle.whole.proofs.Lists.{case}
use Rattle.whole.proofs.Rounded.{down_alike}
use Rattle.rules.specs.declared.Fraction.{Fraction}
use Rattle.rules.specs.declared.Kind.{Kind}
use Rattle.rules.specs.declared.Kind.TheVariants.{Full, FromToe, FromHeel, NoBlock}
use Rattle.rules.specs.declared.Block.{Block}
use Rattle.rules.specs.declared.Totals.{Totals}
use Rattle.rules.specs.JobFile.{Wall, Load, stem_thickness, toe_length, heel_length, base_length}
use Rattle.rules.specs.Forces.{factored}
use Rattle.rules.specs.Bearing.{◌over◌, over_one, plus, times, less_than, Same, kind_of, no_block, of_kind, block_of, peak, greatest_peak, given, factored_scale, block_under, factored_block, is_given, length_behind, behind_by, behind, carried_behind, six_moments_behind}
use Rattle.rules.specs.ToeAndStem.{twice_arm, stem_middle, twice_heel_arm, stem_back, whole_of}
use Rattle.rules.proofs.Accepted.{wall_within, base_length_lem}
use Rattle.rules.proofs.Examined.{Fit}
use Rattle.rules.proofs.Sizes.{factored_sized}
use Rattle.rules.proofs.Carries.{Makes, kind_makes}

-- ---- a fraction that is worth a/b

pub record Worth (f : Fraction) (a b : ℕ) : Type 0 where
  pub upper : f.over ≡ pos (above_zero f.over)
  pub lower : f.under ≡ pos (above_zero f.under)
  pub some : 0 < above_zero f.under
  pub by : 0 < b
  pub same : above_zero f.over * b ≡ a * above_zero f.under

-- it is rounded as a/b is
pub worth_whole : {f : Fraction} {a b : ℕ} (n : ℕ) → 0 < n → Worth f a b → whole_of n f ≡ rounded_down a (n * b)
unfolding whole_of
worth_whole {f} {a} n few w =
    down_alike (above_zero f.over) a (mul-pos few w.some) (mul-pos few w.by) (omega (arith, ap (λ (k : ℕ). n * k) w.same))

-- ---- a block as R and M6 make it

-- a full block on a base of length l, by its two ends; and the triangles of contact p/q, whose peak is q^2/p
abbrev pub full_block : ℕ → ℕ → ℕ → Block
full_block l t g = record { kind = Full; toe = pos t over pos (l * l); heel = pos g over pos (l * l); contact = over_one (pos l) }

abbrev pub toe_triangle : ℕ → ℕ → Block
toe_triangle p q = record { kind = FromToe; toe = pos (q * q) over pos p; heel = over_one (pos 0); contact = pos p over pos q }

abbrev pub heel_triangle : ℕ → ℕ → Block
heel_triangle p q = record { kind = FromHeel; toe = over_one (pos 0); heel = pos (q * q) over pos p; contact = pos p over pos q }

-- a block that R and M6 make is one of these: a match puts it in its place
pub data Figures (r m l : ℕ) : Block → Type 0 where
  full : {t g : ℕ} → t + m ≡ 4 * r * l → m ≡ g + 2 * r * l → Figures r m l (full_block l t g)
  from_toe : 0 < m → m ≤ l * (2 * r) → Figures r m l (toe_triangle m (2 * r))
  from_heel : {n : ℕ} → 0 < n → n + m ≡ 6 * r * l → n ≤ l * (2 * r) → Figures r m l (heel_triangle n (2 * r))
  none : Figures r m l no_block

of_made : (r m l : ℕ) → 0 < r → 0 < m → (k : Kind) → Makes k (pos r) (pos m) (pos l) → Figures r m l (of_kind k (pos r) (pos m) (pos l))
unfolding of_kind
of_made r m l hr hm Full h =
    let low = pos-≤ℤ.0 h.0 in
    let high = pos-≤ℤ.0 h.1 in
    let t = 4 * r * l - m in
    let g = m - 2 * r * l in
    rw (pos_less (4 * r * l) m t (omega arith), pos_less m (2 * r * l) g (omega arith)) (full {t = t} {g = g} (omega arith) (omega arith))
of_made r m l hr hm FromToe h =
    let double : 4 * r * r ≡ 2 * r * (2 * r) = omega arith in rw double (from_toe hm (omega (arith, pos-<ℤ.0 h.1)))
of_made r m l hr hm FromHeel h =
    let n = 6 * r * l - m in
    let less = pos-<ℤ.0 h.1 in
    let double : 4 * r * r ≡ 2 * r * (2 * r) = omega arith in
    rw (double, pos_less (6 * r * l) m n (omega arith)) (from_heel {n = n} (omega arith) (omega arith) (omega (arith, pos-<ℤ.0 h.0)))
of_made r m l hr hm NoBlock h = none

-- so it is of every block that R and M6 make and that is given
pub given_figures : (scale : ℕ) (R M6 : ℤ) (l : ℕ) → pos 0 <ℤ R → 0 < l
    → Figures (above_zero R) (above_zero M6) l (given scale (block_of R M6 (pos l)))
unfolding given block_of of_kind
given_figures scale R M6 l hR hl =
    case (leb (peak scale (block_of R M6 (pos l))) greatest_peak) _ _ (Figures (above_zero R) (above_zero M6) l)
    (λ low. ⊎_elim (λ h. rw ((makes NoBlock).1 (inl h)) none) (λ h. made (is_above hR) (is_above h) (kind_of R M6 (pos l)) ((makes _).0 refl)) (≤ℤ-or-<ℤ M6 (pos 0)))
    (λ high. none)
  where
    makes : (k : Kind) → (kind_of R M6 (pos l) ≡ k) ↔ Makes k R M6 (pos l)
    makes = kind_makes R M6 (pos l) hR (pos-<ℤ.1 hl)

    made : {R M6 : ℤ} → Above R → Above M6 → (k : Kind) → Makes k R M6 (pos l)
        → Figures (above_zero R) (above_zero M6) l (of_kind k R M6 (pos l))
    made (above r hr) (above m hm) k h = of_made r m l hr hm k h

-- ---- behind a section that stands i/j from the toe, with k/j left to the heel's end

module _ (l i k j : ℕ) (hl : 0 < l) (hj : 0 < j) (cut : l * j ≡ i + k) where
  abbrev x : Fraction
  x = pos i over pos j

  left : pos (l * j) -ℤ pos (i * 1) ≡ pos k
  left = pos_less (l * j) (i * 1) k (omega arith)

  -- powers that its denominators have
  L : 0 < l * l * l
  L = mul-pos (mul-pos hl hl) hl

  J : 0 < j * j * j
  J = mul-pos (mul-pos hj hj) hj

  L7 : 0 < l * l * l * (l * l * l * l)
  L7 = mul-pos L (mul-pos L hl)

  -- a full block
  module _ (t g : ℕ) where
    pub full_carried : Worth (carried_behind (pos l) x (full_block l t g)) ((t * k + g * (i + l * j)) * k) (2 * j * j * (l * l * l))
    unfolding carried_behind behind behind_by
    full_carried =
        rw left
        (record { upper = refl; lower = refl; some = omega (arith, mul-pos L7 J); by = omega (arith, mul-pos (mul-pos hj hj) L); same = omega arith })

    pub full_turned : Worth (six_moments_behind (pos l) x (full_block l t g)) ((t * k + g * (i + 2 * (l * j))) * (k * k)) (j * j * j * (l * l * l))
    unfolding six_moments_behind behind behind_by
    full_turned =
        rw left
        (record { upper = refl; lower = refl; some = omega (arith, mul-pos L7 (mul-pos J hj)); by = mul-pos J L; same = omega arith })

  -- triangles of contact p/q
  module _ (p q : ℕ) (hp : 0 < p) (hq : 0 < q) where
    P : 0 < p * p
    P = mul-pos hp hp

    Q : 0 < q * q
    Q = mul-pos hq hq

    -- one from the toe reaches d parts past the section, of which j times q make a mm
    module _ (d : ℕ) (some : 0 < d) (reach : p * j ≡ i * q + d) where
      past : less_than x (toe_triangle p q).contact ≡ true
      past = lt-ltb (i * q) (p * j) (omega arith)

      rest : pos (p * j) -ℤ pos (i * q) ≡ pos d
      rest = pos_less (p * j) (i * q) d reach

      pub toe_carried : Worth (carried_behind (pos l) x (toe_triangle p q)) (q * d * d) (2 * j * j * (p * p))
      unfolding carried_behind behind behind_by
      toe_carried =
          rw (past, rest)
          (record { upper = refl; lower = refl; some = omega (arith, mul-pos (mul-pos P Q) (mul-pos hj hj)); by = omega (arith, mul-pos (mul-pos hj hj) P); same = omega arith })

      pub toe_turned : Worth (six_moments_behind (pos l) x (toe_triangle p q)) (d * d * d) (j * j * j * (p * p))
      unfolding six_moments_behind behind behind_by
      toe_turned =
          rw (past, rest)
          (record { upper = refl; lower = refl; some = omega (arith, mul-pos (mul-pos P (mul-pos Q hq)) J); by = mul-pos J P; same = omega arith })

    -- or it doesn't
    module _ (short : p * j ≤ i * q) where
      ended : less_than x (toe_triangle p q).contact ≡ false
      ended = le-ltb (i * q) (p * j) short

      pub toe_nothing : {b : ℕ} → 0 < b → Worth (carried_behind (pos l) x (toe_triangle p q)) 0 b × Worth (six_moments_behind (pos l) x (toe_triangle p q)) 0 b
      unfolding carried_behind six_moments_behind behind behind_by
      toe_nothing hb =
          rw ended (
            record { upper = refl; lower = refl; some = omega arith; by = hb; same = omega arith },
            record { upper = refl; lower = refl; some = omega arith; by = hb; same = omega arith },
          )

    -- one from the heel reaches d parts before the section
    module _ (d : ℕ) (some : 0 < d) (reach : p * j ≡ k * q + d) where
      before : less_than (length_behind (pos l) x) (heel_triangle p q).contact ≡ true
      before = rw left (lt-ltb (k * q) (p * (1 * j)) (omega arith))

      part : pos (p * (1 * j)) -ℤ pos (k * q) ≡ pos d
      part = pos_less (p * (1 * j)) (k * q) d (omega arith)

      pub heel_carried : Worth (carried_behind (pos l) x (heel_triangle p q)) (q * (k * q) * (p * j + d)) (2 * j * j * (p * p))
      unfolding carried_behind behind behind_by
      heel_carried =
          rw (before, left, part)
          (record { upper = refl; lower = refl; some = omega (arith, mul-pos (mul-pos P hp) (mul-pos hq (mul-pos hj hj))); by = omega (arith, mul-pos (mul-pos hj hj) P); same = omega arith })

      pub heel_turned : Worth (six_moments_behind (pos l) x (heel_triangle p q)) (k * q * (k * q) * (2 * (p * j) + d)) (j * j * j * (p * p))
      unfolding six_moments_behind behind behind_by
      heel_turned =
          rw (before, left, part)
          (record { upper = refl; lower = refl; some = omega (arith, mul-pos (mul-pos P hp) (mul-pos hq J)); by = mul-pos J P; same = omega arith })

    -- or it stands behind it whole
    module _ (short : p * j ≤ k * q) where
      contained : less_than (length_behind (pos l) x) (heel_triangle p q).contact ≡ false
      contained = rw left (le-ltb (k * q) (p * (1 * j)) (omega arith))

      pub heel_all : Worth (carried_behind (pos l) x (heel_triangle p q)) q 2
      unfolding carried_behind behind behind_by
      heel_all = rw contained (record { upper = refl; lower = refl; some = omega (arith, mul-pos hp hq); by = omega arith; same = omega arith })

      pub heel_about : {w : ℕ} → 3 * (k * q) ≡ p * j + w → Worth (six_moments_behind (pos l) x (heel_triangle p q)) w j
      unfolding six_moments_behind behind behind_by
      heel_about {w} arm =
          rw (contained, left, pos_less (3 * k * q) (p * (1 * (1 * j))) w (omega arith))
          (record { upper = refl; lower = refl; some = omega (arith, mul-pos hp (mul-pos Q hj)); by = hj; same = omega arith })

-- ---- with the part before the section

-- a block seen from the other end
abbrev pub mirrored_kind : Kind → Kind
mirrored_kind Full = Full
mirrored_kind FromToe = FromHeel
mirrored_kind FromHeel = FromToe
mirrored_kind NoBlock = NoBlock

abbrev pub mirrored : Block → Block
mirrored b = record { kind = mirrored_kind b.kind; toe = b.heel; heel = b.toe; contact = b.contact }

-- the base is cut at x. Both parts carry R; about the section they turn against each other, and with R at the section they make M6.
pub record Cut (R M6 l : ℤ) (x : Fraction) (b : Block) : Type 0 where
  pub carries : Same (plus (carried_behind l x b) (carried_behind l (length_behind l x) (mirrored b))) (over_one R)
  pub turns :
      Same (plus (over_one M6) (six_moments_behind l (length_behind l x) (mirrored b)))
      (plus (six_moments_behind l x b) (times (times (over_one (pos 6)) x) (over_one R)))

-- by what the parts are worth, all over one number
plus_worth : {f g : Fraction} {a c b : ℕ} (r : ℕ) → Worth f a b → Worth g c b → a + c ≡ r * b → Same (plus f g) (over_one (pos r))
plus_worth {f} {g} {a} {c} {b} r v w e =
    let F = above_zero f.over in
    let F' = above_zero f.under in
    let G = above_zero g.over in
    let G' = above_zero g.under in
    rw (v.upper, v.lower, w.upper, w.lower)
    (ap pos
    (eq_of_mul-eq-mul_right b v.by ((F * G' + G * F') * 1) (r * (F' * G'))
    (omega (arith, ap (λ (n : ℕ). n * G') v.same, ap (λ (n : ℕ). n * F') w.same, ap (λ (n : ℕ). n * (F' * G')) e))))

turn_worth : {f g : Fraction} {a c b : ℕ} (r m i j : ℕ) → Worth f a b → Worth g c b → (m * b + c) * j ≡ a * j + 6 * i * r * b
    → Same (plus (over_one (pos m)) g) (plus f (times (times (over_one (pos 6)) (pos i over pos j)) (over_one (pos r))))
turn_worth {f} {g} {a} {c} {b} r m i j v w e =
    let F = above_zero f.over in
    let F' = above_zero f.under in
    let G = above_zero g.over in
    let G' = above_zero g.under in
    rw (v.upper, v.lower, w.upper, w.lower)
    (ap pos
    (eq_of_mul-eq-mul_right b v.by ((m * G' + G * 1) * (F' * (1 * j * 1))) ((F * (1 * j * 1) + 6 * i * r * F') * (1 * G'))
    (omega (arith, ap (λ (n : ℕ). n * (G' * j)) v.same, ap (λ (n : ℕ). n * (F' * j)) w.same, ap (λ (n : ℕ). n * (F' * G')) e))))

-- the sums that come out: of squares and of cubes
squares : (v d n : ℕ) → n ≡ v + d → d * d + v * (n + d) ≡ n * n
squares v d n e = rw e (omega arith)

cubes : (v d n : ℕ) → n ≡ v + d → n * n * n + v * v * (2 * n + d) ≡ d * d * d + 3 * v * (n * n)
cubes v d n e = rw e (omega arith)

line_squares : (t g i k n : ℕ) → n ≡ i + k → (t * k + g * (i + n)) * k + (g * i + t * (k + n)) * i ≡ (t + g) * (n * n)
line_squares t g i k n e = rw e (omega arith)

line_cubes : (t g i k n : ℕ) → n ≡ i + k
    → (t + 2 * g) * (n * n * n) + (g * i + t * (k + 2 * n)) * (i * i) ≡ (t * k + g * (i + 2 * n)) * (k * k) + 3 * i * (t + g) * (n * n)
line_cubes t g i k n e = rw e (omega arith)

line_turns : (t g i k j r l m : ℕ) → l * j ≡ i + k → t + g ≡ 2 * r * l → m ≡ t + 2 * g
    → (m * (j * j * j * (l * l * l)) + (g * i + t * (k + 2 * (l * j))) * (i * i)) * j ≡ (t * k + g * (i + 2 * (l * j))) * (k * k) * j + 6 * i * r * (j * j * j * (l * l * l))
line_turns t g i k j r l m at both all =
    let N : j * j * j * (l * l * l) ≡ l * j * (l * j) * (l * j) = omega arith in
    let E : 3 * i * (t + g) * (l * j * (l * j)) * j ≡ 6 * i * r * (l * j * (l * j) * (l * j)) = rw both (omega arith) in
    rw (N, all) (scaled_by _ _ _ _ (line_cubes t g i k (l * j) at) E)
  where
    scaled_by : (s c e f : ℕ) → s ≡ c + e → e * j ≡ f → s * j ≡ c * j + f
    scaled_by s c e f h w = omega (arith, ap (λ (z : ℕ). z * j) h)

-- a block that R and M6 make, cut at any section of the base
module _ (r m l i k j : ℕ) (hr : 0 < r) (hl : 0 < l) (hj : 0 < j) (at : l * j ≡ i + k) where
  abbrev section : Fraction
  section = pos i over pos j

  -- seen from the heel's end, the section stands k/j from it
  other : length_behind (pos l) section ≡ (pos k over pos j)
  other = rw (left l i k j hl hj at, one-mul j)

  back : l * j ≡ k + i
  back = omega arith

  abbrev q : ℕ
  q = 2 * r

  double : 0 < q
  double = omega arith

  full_cut : {t g : ℕ} → t + m ≡ 4 * r * l → m ≡ g + 2 * r * l → Cut (pos r) (pos m) (pos l) section (full_block l t g)
  full_cut {t} {g} e f =
      let both : t + g ≡ 2 * r * l = omega arith in
      let all : m ≡ t + 2 * g = omega arith in
      let n = l * j in
      record {
        carries =
            rw other
            (plus_worth r (full_carried l i k j hl hj at t g) (full_carried l k i j hl hj back g t)
            (omega (arith, line_squares t g i k n at, ap (λ (z : ℕ). z * (n * n)) both)));
        turns =
            rw other
            (turn_worth r m i j (full_turned l i k j hl hj at t g) (full_turned l k i j hl hj back g t)
            (line_turns t g i k j r l m at both all));
      }

  -- a triangle from the toe, of contact m/2r, which reaches past the section or doesn't
  module _ (hm : 0 < m) where
    toe_cut : Cut (pos r) (pos m) (pos l) section (toe_triangle m q)
    toe_cut = dite (dec_lt (i * q) (m * j)) (λ h. reaching (m * j - i * q) (omega arith) (omega arith)) (λ h. ended (omega arith))
      where
        reaching : (d : ℕ) → 0 < d → m * j ≡ i * q + d → Cut (pos r) (pos m) (pos l) section (toe_triangle m q)
        reaching d hd e =
            record {
              carries =
                  rw other
                  (plus_worth r (toe_carried l i k j hl hj at m q hm double d hd e) (heel_carried l k i j hl hj back m q hm double d hd e)
                  (omega (arith, ap (λ (z : ℕ). q * z) (squares (i * q) d (m * j) e))));
              turns =
                  rw other
                  (turn_worth r m i j (toe_turned l i k j hl hj at m q hm double d hd e) (heel_turned l k i j hl hj back m q hm double d hd e)
                  (omega (arith, ap (λ (z : ℕ). z * j) (cubes (i * q) d (m * j) e))));
            }

        ended : m * j ≤ i * q → Cut (pos r) (pos m) (pos l) section (toe_triangle m q)
        ended h =
            let w = 3 * (i * q) - m * j in
            record {
              carries =
                  rw other
                  (plus_worth r (toe_nothing l i k j hl hj at m q hm double h (omega arith)).0 (heel_all l k i j hl hj back m q hm double h) (omega arith));
              turns =
                  rw other
                  (turn_worth r m i j (toe_nothing l i k j hl hj at m q hm double h hj).1 (heel_about l k i j hl hj back m q hm double h {w = w} (omega arith))
                  (let g : m * j + w ≡ 3 * (i * q) = omega arith in omega (arith, ap (λ (z : ℕ). z * j) g)));
            }

  -- one from the heel, of contact n/2r
  module _ {n : ℕ} (hn : 0 < n) (sum : n + m ≡ 6 * r * l) where
    -- M6 in parts of the section
    moment : n * j + m * j ≡ 3 * (i * q) + 3 * (k * q)
    moment = omega (arith, ap (λ (z : ℕ). z * j) sum, ap (λ (z : ℕ). 6 * r * z) at)

    heel_cut : Cut (pos r) (pos m) (pos l) section (heel_triangle n q)
    heel_cut = dite (dec_lt (k * q) (n * j)) (λ h. reaching (n * j - k * q) (omega arith) (omega arith)) (λ h. contained (omega arith))
      where
        reaching : (d : ℕ) → 0 < d → n * j ≡ k * q + d → Cut (pos r) (pos m) (pos l) section (heel_triangle n q)
        reaching d hd e =
            record {
              carries =
                  rw other
                  (plus_worth r (heel_carried l i k j hl hj at n q hn double d hd e) (toe_carried l k i j hl hj back n q hn double d hd e)
                  (omega (arith, ap (λ (z : ℕ). q * z) (squares (k * q) d (n * j) e))));
              turns =
                  rw other
                  (turn_worth r m i j (heel_turned l i k j hl hj at n q hn double d hd e) (toe_turned l k i j hl hj back n q hn double d hd e)
                  (omega (arith, ap (λ (z : ℕ). z * j) (cubes (k * q) d (n * j) e), ap (λ (z : ℕ). z * (n * j * (n * j)) * j) moment)));
            }

        contained : n * j ≤ k * q → Cut (pos r) (pos m) (pos l) section (heel_triangle n q)
        contained h =
            let w = 3 * (k * q) - n * j in
            let g : n * j + w ≡ 3 * (k * q) = omega arith in
            record {
              carries =
                  rw other
                  (plus_worth r (heel_all l i k j hl hj at n q hn double h) (toe_nothing l k i j hl hj back n q hn double h (omega arith)).0 (omega arith));
              turns =
                  rw other
                  (turn_worth r m i j (heel_about l i k j hl hj at n q hn double h {w = w} (omega arith)) (toe_nothing l k i j hl hj back n q hn double h hj).1
                  (omega (arith, ap (λ (z : ℕ). z * j) moment, ap (λ (z : ℕ). z * j) g)));
            }

  -- every block that is given
  pub cut : {b : Block} → Figures r m l b → T (is_given b) → Cut (pos r) (pos m) (pos l) section b
  cut (full e f) given = full_cut e f
  cut (from_toe hm short) given = toe_cut hm
  cut (from_heel hn sum short) given = heel_cut hn sum
  cut none given = absurd given

-- one that is given has an M6 above 0
some_moment : {r m l : ℕ} {b : Block} → 0 < r → 0 < l → Figures r m l b → T (is_given b) → 0 < m
some_moment {r} {m} {l} hr hl (full e f) given = omega (arith, mul-pos hr hl)
some_moment hr hl (from_toe hm short) given = hm
some_moment {r} {m} {l} hr hl (from_heel hn sum short) given = omega (arith, mul-pos hr hl)
some_moment hr hl none given = absurd given

-- ---- of an accepted wall

module _ (wall : Wall) (loads : List Load) (fit : Fit wall loads) where
  abbrev total : Totals
  total = factored wall loads

  abbrev l : ℕ
  l = base_length wall

  abbrev block : Block
  block = factored_block wall loads

  long : 0 < l
  long = omega (arith, base_length_lem (wall_within wall fit.wall_fits))

  pub factored_figures : Figures (above_zero total.R) (above_zero total.M6) l block
  unfolding factored_block block_under
  factored_figures = let s = factored_sized wall loads fit in given_figures factored_scale total.R total.M6 l s.some long

  -- the factored block, cut at any section of the base
  pub block_cut : T (is_given block) → (i k j : ℕ) → 0 < j → l * j ≡ i + k → Cut total.R total.M6 (pos l) (pos i over pos j) block
  block_cut given i k j hj at =
      let s = factored_sized wall loads fit in
      let weight = is_above s.some in
      let moment = some_moment (above_some weight) long factored_figures given in
      go weight (natural moment) (λ (r : 0 < above_zero total.R). cut _ _ l i k j r long hj at factored_figures given)
    where
      above_some : {z : ℤ} → Above z → 0 < above_zero z
      above_some (above n h) = h

      natural : {z : ℤ} → 0 < above_zero z → Above z
      natural {z = pos n} h = above n h
      natural {z = negsuc n} h = absurd (omega arith)

      go : {R M6 : ℤ} → Above R → Above M6 → (0 < above_zero R → Cut (pos (above_zero R)) (pos (above_zero M6)) (pos l) (pos i over pos j) block)
          → Cut R M6 (pos l) (pos i over pos j) block
      go (above r hr) (above m hm) c = c hr

  -- where the heel begins, and at the middle of the stem
  pub cut_at_heel : T (is_given block) → Cut total.R total.M6 (pos l) (stem_back wall) block × Cut total.R total.M6 (pos l) (stem_middle wall) block
  unfolding base_length
  cut_at_heel given = (
    block_cut given (toe_length wall + stem_thickness wall) (heel_length wall) 1 (omega arith) (omega arith),
    block_cut given (twice_arm wall) (twice_heel_arm wall) 2 (omega arith) (omega arith),
  )
