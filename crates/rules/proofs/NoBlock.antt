-- Document 01, "The bearing block": where no block is given, and so where bits 8 and 16 of the failures are set.
use mathlib.Core.Path.{◌≡◌, refl}
use mathlib.Core.Logic.Iff
use mathlib.Core.Logic.{◌↔◌, ◌⊎◌, inl, inr, ⊎_elim}
use mathlib.Core.List.{List}
use Prim.Native.Nat.{ℕ, ◌<◌}
use native.Mathlib.Omega.{arith}
use lib.Dec.{T, leb, leb→le, nleb→lt}
use lib.IntN.{ℤ, pos, ◌*ℤ◌}
use lib.Signed.{◌≤ℤ◌, ◌<ℤ◌}
use Rattle.whole.proofs.Integer.{pos-<ℤ}
use Rattle.whole.proofs.Lists.{case}
use Rattle.rules.specs.declared.Check.TheVariants.{NoServiceBlock, NoFactoredBlock}
use Rattle.rules.specs.declared.Kind.TheVariants.{NoBlock}
use Rattle.rules.specs.declared.Totals.{Totals}
use Rattle.rules.specs.JobFile.{Wall, Load, base_length}
use Rattle.rules.specs.Forces.{service, factored}
use Rattle.rules.specs.Bearing.{no_block, block_of, service_scale, factored_scale, peak, greatest_peak, given, block_under, service_block, factored_block}
use Rattle.rules.specs.SheetLine.{failures, is_set}
use Rattle.rules.proofs.Accepted.{wall_within, base_length_lem}
use Rattle.rules.proofs.Bits.{bits}
use Rattle.rules.proofs.Carries.{kind_makes, of_its_kind}
use Rattle.rules.proofs.Examined.{Fit}
use Rattle.rules.proofs.Sizes.{Sized, heaviest, heaviest_factored, service_sized, factored_sized}

-- totals give no block on a wall's base, by one of three causes: M6 is at most 0, or at least 6Rl, or the reported peak of the block that they make exceeds 2000000
abbrev pub NoBlockBy : ℕ → Wall → Totals → Type 0
NoBlockBy scale wall t =
    let l = pos (base_length wall) in
    ((t.M6 ≤ℤ pos 0) ⊎ ((pos 6 *ℤ t.R *ℤ l) ≤ℤ t.M6)) ⊎ (2000000 < peak scale (block_of t.R t.M6 l))

-- R and M6 make none just by the first two
none_made : (R M6 l : ℤ) → pos 0 <ℤ R → pos 0 <ℤ l → ((block_of R M6 l).kind ≡ NoBlock) ↔ ((M6 ≤ℤ pos 0) ⊎ ((pos 6 *ℤ R *ℤ l) ≤ℤ M6))
unfolding block_of
none_made R M6 l hR hl = rw of_its_kind (kind_makes R M6 l hR hl NoBlock)

-- ---- a wall that fits with its loads

module _ (wall : Wall) (loads : List Load) (fit : Fit wall loads) where
  none_given : (scale most : ℕ) (t : Totals) → Sized most t → ((block_under scale t wall).kind ≡ NoBlock) ↔ NoBlockBy scale wall t
  unfolding block_under given
  none_given scale most t s =
      let block = block_of t.R t.M6 (pos (base_length wall)) in
      let long = base_length_lem (wall_within wall fit.wall_fits) in
      let none = none_made t.R t.M6 (pos (base_length wall)) s.some (pos-<ℤ.1 (omega arith)) in
      case (leb (peak scale block) greatest_peak) block no_block (λ b. (b.kind ≡ NoBlock) ↔ NoBlockBy scale wall t)
      (λ low. (λ e. inl (none.0 e), ⊎_elim none.1 (λ over. absurd (omega (arith, leb→le (peak scale block) greatest_peak low)))))
      (λ high. (λ e. inr (nleb→lt (peak scale block) greatest_peak high), λ h. refl))

  -- no service block is given just where the totals in service give none
  pub no_service_block : ((service_block wall loads).kind ≡ NoBlock) ↔ NoBlockBy service_scale wall (service wall loads)
  unfolding service_block
  no_service_block = none_given service_scale heaviest (service wall loads) (service_sized wall loads fit)

  -- and no factored block where the factored totals give none
  pub no_factored_block : ((factored_block wall loads).kind ≡ NoBlock) ↔ NoBlockBy factored_scale wall (factored wall loads)
  unfolding factored_block
  no_factored_block = none_given factored_scale heaviest_factored (factored wall loads) (factored_sized wall loads fit)

  -- so bit 8 is set just there, and bit 16
  pub bit_8 : T (is_set (failures wall loads) NoServiceBlock) ↔ NoBlockBy service_scale wall (service wall loads)
  bit_8 = Iff.trans (bits wall loads NoServiceBlock) no_service_block

  pub bit_16 : T (is_set (failures wall loads) NoFactoredBlock) ↔ NoBlockBy factored_scale wall (factored wall loads)
  bit_16 = Iff.trans (bits wall loads NoFactoredBlock) no_factored_block
