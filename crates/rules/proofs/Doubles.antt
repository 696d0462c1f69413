-- Document 01, "The bearing block": the whole numbers that a drawing divides are held exactly by doubles.
use mathlib.Core.Path.{◌≡◌}
use mathlib.Core.List.{List}
use Prim.Native.Nat.{◌^◌}
use native.Mathlib.Omega.{arith}
use lib.Dec.{T, le→leb, lt→ltb, lit<}
use lib.Ieee.{binary64, of_int, to_signed, in_float}
use lib.Ieee.Back.{positive_back, negative_back}
use lib.IntN.{ℤ, pos, negsuc, nat_abs, ◌*ℤ◌}
use Rattle.whole.proofs.Integer.{nonneg_above_zero, ≤ℤ-of-<ℤ, abs_less, abs_mul}
use Rattle.rules.specs.declared.Block.{Block}
use Rattle.rules.specs.declared.Totals.{Totals}
use Rattle.rules.specs.JobFile.{Wall, Load, base_length}
use Rattle.rules.specs.Forces.{service}
use Rattle.rules.specs.Bearing.{block_of, service_scale, reported, block_under, service_block, is_given}
use Rattle.rules.proofs.Accepted.{wall_within, base_length_lem}
use Rattle.rules.proofs.Carries.{Bears, given_has, service_bears}
use Rattle.rules.proofs.Examined.{Fit, fits_of}
use Rattle.rules.proofs.Pressures.{ReachesUnder, contact_of, given_most}
use Rattle.rules.proofs.Sizes.{Small, heaviest, service_sized}

-- what is divided of a wall's totals, and what by
pub record Divided (t : Totals) : Type 0 where
  pub R : Small (nat_abs t.R)
  pub H : Small (nat_abs t.H)
  pub M6 : Small (nat_abs t.M6)
  pub sixfold : Small (nat_abs (pos 6 *ℤ t.R))

-- and of its block
pub record Shaped (b : Block) : Type 0 where
  pub toe : Small (reported service_scale b.toe)
  pub heel : Small (reported service_scale b.heel)
  pub over : Small (nat_abs b.contact.over)
  pub under : Small (nat_abs b.contact.under)

-- ---- a small number is below 2^53, up to which doubles leave none out

pub held : (z : ℤ) → Small (nat_abs z) → T (in_float binary64 z)
unfolding in_float
held (pos n) h = le→leb n (2 ^ 53) (omega arith)
held (negsuc n) h = lt→ltb n (2 ^ 53) (omega arith)

-- so that, made a double and read back, it is the same number
pub read_back : (z : ℤ) → Small (nat_abs z) → to_signed 63 (of_int binary64 z) ≡ z
read_back (pos n) h = (positive_back binary64 63 n (held (pos n) h) (omega arith)).1
read_back (negsuc n) h = (negative_back binary64 63 n (held (negsuc n) h) (omega arith)).1

-- ---- a wall that fits with its loads

-- its totals in service
pub divided : (wall : Wall) (loads : List Load) → Fit wall loads → Divided (service wall loads)
divided wall loads fit =
    let s = service_sized wall loads fit in
    let R = abs_less (≤ℤ-of-<ℤ s.some) s.R in
    record {
      R = omega arith;
      H = abs_less s.H.0 s.H.1;
      M6 = s.M6;
      sixfold = omega (arith, abs_mul (pos 6) (service wall loads).R);
    }

-- its service block, given or not
pub shaped : (wall : Wall) (loads : List Load) → Fit wall loads → Shaped (service_block wall loads)
unfolding service_block block_under
shaped wall loads fit =
    let s = service_sized wall loads fit in
    let R = (service wall loads).R in
    let M6 = (service wall loads).M6 in
    let long = base_length_lem (wall_within wall fit.wall_fits) in
    let pressed = given_most service_scale (block_of R M6 (pos (base_length wall))) in
    let contact =
    given_has (λ b. (T (is_given b) → Bears R M6 (pos (base_length wall)) b) → ReachesUnder heaviest b.contact) service_scale R M6 (pos (base_length wall))
    (contact_of R M6 (base_length wall) heaviest s.R (lit< tt) long.1) (service_bears wall loads (fits_of wall loads fit))
    in
    record {
      toe = omega arith;
      heel = omega arith;
      over = rw (nonneg_above_zero contact.over) (omega (arith, contact.over_most));
      under = rw (nonneg_above_zero contact.under) (omega (arith, contact.under_most));
    }
