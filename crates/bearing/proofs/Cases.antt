-- Which block R and M6 make on a base of length l, where all three are whole numbers, and its figures in whole numbers.
use mathlib.Core.Path.{◌≡◌, refl, ap}
use mathlib.Core.Logic.{◌↔◌}
use Prim.Native.Nat.{ℕ, ◌-◌, ◌*◌, ◌≤◌, ◌<◌}
use native.Mathlib.Omega.{arith}
use lib.IntN.{pos}
use Rattle.whole.proofs.Integer.{pos-<ℤ, pos_sub}
use Rattle.rules.specs.declared.Kind.{Kind}
use Rattle.rules.specs.declared.Kind.TheVariants.{Full, FromHeel}
use Rattle.rules.specs.Bearing.{◌over◌, over_one, is_none, kind_of, no_block, of_kind, block_of}
use Rattle.rules.proofs.Carries.{Makes, kind_makes}
use Rattle.bearing.specs.Within.{Within}

module _ (R M6 l : ℕ) where
  pub none : M6 ≡ 0 → block_of (pos R) (pos M6) (pos l) ≡ no_block
  unfolding is_none kind_of of_kind block_of
  none e = rw e

  -- ---- the kind is that whose case M6 falls in, and the other way round

  kind : Within R l → (k : Kind) → (kind_of (pos R) (pos M6) (pos l) ≡ k) ↔ Makes k (pos R) (pos M6) (pos l)
  kind w = kind_makes (pos R) (pos M6) (pos l) (pos-<ℤ.1 w.force.0) (pos-<ℤ.1 w.length.0)

  pub its_case : Within R l → Makes (kind_of (pos R) (pos M6) (pos l)) (pos R) (pos M6) (pos l)
  its_case w = (kind w (kind_of (pos R) (pos M6) (pos l))).0 refl

  pub made : Within R l → (k : Kind) → Makes k (pos R) (pos M6) (pos l) → block_of (pos R) (pos M6) (pos l) ≡ of_kind k (pos R) (pos M6) (pos l)
  unfolding block_of
  made w k h = ap (λ (k : Kind). of_kind k (pos R) (pos M6) (pos l)) ((kind w k).1 h)

  -- ---- the figures that are differences

  pub full_figures : 2 * R * l ≤ M6 → M6 ≤ 4 * R * l
      → of_kind Full (pos R) (pos M6) (pos l)
      ≡ record { kind = Full; toe = pos (4 * R * l - M6) over pos (l * l); heel = pos (M6 - 2 * R * l) over pos (l * l); contact = over_one (pos l) }
  unfolding of_kind
  full_figures low high = rw (pos_sub {a = 4 * R * l} {b = M6} high, pos_sub {a = M6} {b = 2 * R * l} low)

  pub heel_figures : M6 < 6 * R * l
      → of_kind FromHeel (pos R) (pos M6) (pos l)
      ≡ record { kind = FromHeel; toe = over_one (pos 0); heel = pos (4 * R * R) over pos (6 * R * l - M6); contact = pos (6 * R * l - M6) over pos (2 * R) }
  unfolding of_kind
  heel_figures short = rw (pos_sub {a = 6 * R * l} {b = M6} (omega arith))
