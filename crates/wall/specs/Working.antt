-- A wall as the code works it: from what bears it, which `bearing` answers with.
use Rattle.std.specs.Prelude.{◌≡◌, ℕ, ◌*◌, ◌≤◌, ◌<◌, pos}
use Rattle.rules.specs.declared.Block.{Block}
use Rattle.rules.specs.declared.Borne.{Borne}
use Rattle.rules.specs.declared.Fraction.{Fraction}
use Rattle.rules.specs.declared.Pressed.{Pressed}
use Rattle.rules.specs.declared.WorkedWall.{WorkedWall}
use Rattle.rules.specs.JobFile.{Wall, base_length}
use Rattle.rules.specs.Bearing.{minus, factored_scale, greatest_peak, pressed_by}
use Rattle.rules.specs.ToeAndStem.{plain, stem_section, member_under, toe_under, heel_under}
use Rattle.rules.proofs.Accepted.{longest}
use Rattle.rules.proofs.Sizes.{heaviest_factored}
use Rattle.rules.proofs.Pressures.{Pressable}
use Rattle.rules.proofs.Behind.{Figures}

-- a factored block as some R and M6 make it, with figures that can be worked
pub record Made (wall : Wall) (b : Block) : Type 0 where
  pub weight : ℕ
  pub moment : ℕ
  pub figures : Figures weight moment (base_length wall) b
  pub workable : Pressable (base_length wall) b

-- a factored block with the pressures that it reports, small enough for the toe to be worked over it
pub record Bears (wall : Wall) (factored : Pressed) : Type 0 where
  pub reports : factored ≡ pressed_by factored_scale factored.block
  pub pressable : Pressable (base_length wall) factored.block
  pub made : Made wall factored.block

-- a fraction of two whole numbers
abbrev pub fraction : ℕ → ℕ → Fraction
fraction over under = record { over = pos over; under = pos under }

-- where a triangle from the heel begins, on a base of length l
abbrev pub begins : ℕ → ℕ → ℕ → Fraction
begins l over under = minus (plain l) (fraction over under)

-- a triangle's contact, over and under, with which its bearing can be worked
pub record Contact (over under : ℕ) : Type 0 where
  pub over_some : 0 < over
  pub under_some : 0 < under
  pub over_most : over ≤ 2 * heaviest_factored * longest
  pub under_most : under ≤ 2 * heaviest_factored

-- a full block's two ends, of which l^2 make a tenth of a kN/m2: neither is above the greatest peak
pub record Ends (l toe heel : ℕ) : Type 0 where
  pub some : 0 < l
  pub long : l ≤ longest
  pub toe_most : factored_scale * toe ≤ greatest_peak * (l * l)
  pub heel_most : factored_scale * heel ≤ greatest_peak * (l * l)

unfoldable pub worked_over : Wall → Borne → WorkedWall
worked_over wall borne =
    record {
      totals = borne.forces.service;
      sliding = borne.forces.sliding;
      service = borne.service;
      factored = borne.factored;
      toe = toe_under wall borne.factored.block;
      stem = member_under (stem_section wall) borne.forces.stem;
      heel = heel_under wall borne.factored.block;
    }
