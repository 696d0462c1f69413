-- What is answered of any wall, where it is worked and where it is refused.
use mathlib.Core.Path.{◌≡◌, refl, sym}
use mathlib.Core.Bool.{true, false, and-false}
use mathlib.Core.List.{List}
use Prim.Native.Nat.{ℕ, ◌<◌}
use borrow.Author.Tests.{lt-ltb}
use lib.Dec.{ltb}
use Rattle.std.specs.Prelude.{Ok, Err}
use Rattle.rules.specs.declared.Block.{Block}
use Rattle.rules.specs.declared.Borne.{Borne}
use Rattle.rules.specs.declared.Refusal.{Refusal}
use Rattle.rules.specs.JobFile.{Wall, Load, toe_length, heel_length}
use Rattle.rules.specs.Bearing.{is_given, pressed_by}
use Rattle.rules.specs.ToeAndStem.{toe_worked, toe_action, toe_section, member_under, no_member, toe_under, toe, stem, fill_on_heel, heel_worked, heel_action, heel_section, heel_under, heel}
use Rattle.rules.specs.SheetLine.{worked_wall, line}
use Rattle.rules.specs.Beyond.{examined, worked_forces, worked_bearing, bearing_of, line_of}
use Rattle.rules.proofs.Examined.{Fit, fit, fits_of}
use Rattle.rules.proofs.Replies.{gives_worked, worked_given, refusal_given}
use Rattle.rules.proofs.Behind.{factored_figures}
use Rattle.rules.proofs.Pressures.{factored_pressable}
use Rattle.wall.specs.Working.{Bears, worked_over}

-- a toe is worked where there is one, and a block under it
module _ (wall : Wall) (b : Block) where
  pub no_toe : toe_length wall ≡ 0 → toe_under wall b ≡ no_member
  unfolding toe_under toe_worked
  no_toe e = rw e

  pub no_bearing : is_given b ≡ false → toe_under wall b ≡ no_member
  unfolding toe_under toe_worked
  no_bearing e = rw (e, and-false (ltb 0 (toe_length wall)))

  pub toe_worked_lem : 0 < toe_length wall → is_given b ≡ true → toe_under wall b ≡ member_under (toe_section wall) (toe_action wall b)
  unfolding toe_under toe_worked
  toe_worked_lem some e = rw (lt-ltb 0 (toe_length wall) some, e)

-- and so is a heel
module _ (wall : Wall) (b : Block) where
  pub no_heel : heel_length wall ≡ 0 → heel_under wall b ≡ no_member
  unfolding heel_under heel_worked
  no_heel e = rw e

  pub no_heel_bearing : is_given b ≡ false → heel_under wall b ≡ no_member
  unfolding heel_under heel_worked
  no_heel_bearing e = rw (e, and-false (ltb 0 (heel_length wall)))

  pub heel_worked_lem : 0 < heel_length wall → is_given b ≡ true → heel_under wall b ≡ member_under (heel_section wall) (heel_action wall b)
  unfolding heel_under heel_worked
  heel_worked_lem some e = rw (lt-ltb 0 (heel_length wall) some, e)

module _ (wall : Wall) (loads : List Load) (fit : Fit wall loads) where
  -- what bears a wall that fits bears its toe and its heel
  pub bears : Bears wall (worked_bearing wall loads).factored
  unfolding worked_bearing pressed_by
  bears =
      let press = factored_pressable wall loads fit in
      record { reports = refl; pressable = press; made = record { weight = _; moment = _; figures = factored_figures wall loads fit; workable = press } }

-- its fill is the rule's, and the wall is worked from it
module _ (wall : Wall) (loads : List Load) where
  pub fills : (worked_bearing wall loads).forces.fill ≡ fill_on_heel wall
  unfolding worked_bearing worked_forces
  fills = refl

  pub worked_is : worked_over wall (worked_bearing wall loads) ≡ worked_wall wall loads
  unfolding worked_over worked_wall worked_bearing worked_forces pressed_by toe stem heel
  worked_is = refl

-- ---- refused or not

module _ (wall : Wall) (loads : List Load) where
  -- where there are forces and blocks, the wall fits with its loads, and they are the rule's
  pub fitted : {borne : Borne} → Ok borne ≡ bearing_of wall loads → Fit wall loads × (borne ≡ worked_bearing wall loads)
  unfolding bearing_of
  fitted e = let given = worked_given (examined wall loads) (worked_bearing wall loads) e in (fit wall loads given.0, given.1)

  pub line_worked : Fit wall loads → (n : ℕ) → Ok (line n wall loads) ≡ line_of n wall loads
  unfolding line_of
  line_worked f n = sym (gives_worked (examined wall loads) (line n wall loads) (fits_of wall loads f))

  pub examined_refused : {refusal : Refusal} → Err refusal ≡ bearing_of wall loads → examined wall loads ≡ Err refusal
  unfolding bearing_of
  examined_refused e = refusal_given (examined wall loads) (worked_bearing wall loads) e
