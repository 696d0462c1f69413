-- What is reported of a block: its scaled figures fit, and the block is given or not by the greater of its pressures.
use mathlib.Core.Path.{◌≡◌, refl, ap}
use Prim.Native.Nat.{ℕ, zero, suc, ◌*◌, ◌≤◌, ◌<◌, ◌^◌, max}
use native.Mathlib.Nat.{mul-le-mul, mul-zero}
use native.Mathlib.Omega.{arith}
use borrow.Author.Tests.{lt-leb, le-leb}
use lib.IntN.{ℤ, pos, negsuc}
use lib.Signed.{◌≤ℤ◌}
use Rattle.whole.specs.Parts.{above_zero}
use Rattle.whole.specs.Rounding.{rounded_up}
use Rattle.whole.proofs.Integer.{pos-≤ℤ, pos-<ℤ, nonneg_above_zero}
use Rattle.rules.specs.declared.Kind.{Kind}
use Rattle.rules.specs.declared.Kind.TheVariants.{Full, FromToe, FromHeel, NoBlock}
use Rattle.rules.specs.declared.Block.{Block}
use Rattle.rules.specs.Bearing.{is_none, kind_of, no_block, of_kind, block_of, over_one, reported, peak, greatest_peak, given, pressed_by}
use Rattle.rules.proofs.Carries.{Makes}
use Rattle.bearing.specs.Within.{Scaled, Reportable}
use Rattle.bearing.proofs.Bounds.{bounds}
use Rattle.bearing.proofs.Cases.{none, its_case, full_figures, heel_figures}

-- the block is made of what lies above 0: where M6 doesn't, there is none
pub whole_block : (R M6 : ℤ) (l : ℕ) → pos 0 ≤ℤ R → block_of R M6 (pos l) ≡ block_of (pos (above_zero R)) (pos (above_zero M6)) (pos l)
unfolding is_none kind_of of_kind block_of
whole_block R (pos m) l h = ap (λ (z : ℤ). block_of z (pos m) (pos l)) (nonneg_above_zero h)
whole_block R (negsuc m) l h = refl

-- ---- the scaled figures

-- where there is no block they are 0
nothing : (scale : ℕ) → Reportable scale no_block
nothing scale = record { toe = omega arith; heel = omega arith }

-- whatever its kind is, they are no more than 4Rl or 4R^2
module _ (scale R M6 l : ℕ) (s : Scaled scale R l) where
  along : (n : ℕ) → n ≤ 4 * R * l → scale * n < 2 ^ 63
  along n h = omega (arith, bounds s.within, mul-le-mul s.small h)

  of_kind_lem : (k : Kind) → Makes k (pos R) (pos M6) (pos l) → Reportable scale (of_kind k (pos R) (pos M6) (pos l))
  unfolding of_kind
  of_kind_lem Full h =
      rw (full_figures R M6 l (pos-≤ℤ.0 h.0) (pos-≤ℤ.0 h.1))
      (record { toe = along _ (omega arith); heel = along _ (omega (arith, pos-≤ℤ.0 h.1)) })
  of_kind_lem FromToe h = record { toe = s.square; heel = omega arith }
  of_kind_lem FromHeel h = rw (heel_figures R M6 l (pos-<ℤ.0 h.1)) (record { toe = omega arith; heel = s.square })
  of_kind_lem NoBlock h = nothing scale

-- those of any block fit
fits : (scale R M6 l : ℕ) → (0 < M6 → Scaled scale R l) → Reportable scale (block_of (pos R) (pos M6) (pos l))
unfolding block_of
fits scale R zero l s = rw (none R 0 l refl) (nothing scale)
fits scale R (suc m) l s =
    let w = s (omega arith) in of_kind_lem scale R (suc m) l w (kind_of (pos R) (pos (suc m)) (pos l)) (its_case R (suc m) l w.within)

pub reportable : (scale l : ℕ) (R M6 : ℤ) → pos 0 ≤ℤ R → (0 < above_zero M6 → Scaled scale (above_zero R) l)
    → Reportable scale (block_of R M6 (pos l))
reportable scale l R M6 h s = rw (whole_block R M6 l h) (fits scale (above_zero R) (above_zero M6) l s)

-- ---- given or not, by the greater of two pressures

none_reported : (scale : ℕ) → reported scale (over_one (pos 0)) ≡ 0
unfolding reported rounded_up
none_reported scale = rw (mul-zero scale)

module _ (scale : ℕ) (b : Block) (toe heel : ℕ) (left : toe ≡ reported scale b.toe) (right : heel ≡ reported scale b.heel) where
  pub is_given_lem : max toe heel ≤ greatest_peak → record { block = b; toe = toe; heel = heel } ≡ pressed_by scale (given scale b)
  unfolding peak given pressed_by
  is_given_lem h = rw (left, right, le-leb (peak scale b) greatest_peak (rw (left, right) at h))

  pub not_given : greatest_peak < max toe heel → record { block = no_block; toe = 0; heel = 0 } ≡ pressed_by scale (given scale b)
  unfolding peak given pressed_by
  not_given h = rw (lt-leb (peak scale b) greatest_peak (rw (left, right) at h), none_reported scale)
