-- The office's demand that the ground carries the forces, of what `blocks` itself answers: a block that is given is never negative, stays on the base, carries exactly R at exactly M6,
-- and no other straight-line block does.
use mathlib.Core.Path.{◌≡◌, refl}
use mathlib.Core.List.{List}
use lib.Dec.{T}
use lib.IntN.{pos}
use Rattle.std.specs.Prelude.{Result, Ok, Err, IfOk}
use Rattle.rules.specs.declared.Borne.{Borne}
use Rattle.rules.specs.declared.Refusal.{Refusal}
use Rattle.rules.specs.declared.Pressed.{Pressed}
use Rattle.rules.specs.declared.Totals.{Totals}
use Rattle.rules.specs.JobFile.{Wall, Load, base_length}
use Rattle.rules.specs.Answered.{Answer, ◌gives◌}
use Rattle.rules.specs.Bearing.{is_given, pressed_by}
use Rattle.rules.specs.Beyond.{examined, fits, worked_forces, worked_bearing, bearing_of}
use Rattle.rules.proofs.Carries.{Bears, service_bears, factored_bears}
use Rattle.bearing.proofs as bearing

-- by its contract the entry answers so for a wall and its rows of loads
abbrev pub Answers : Wall → List Load → Result Borne Refusal → Type 0
Answers wall loads r = bearing.blocks.Reads.Learnt tt (wall, (loads, tt)) r (wall, (loads, tt))

-- where a block is given, it bears these totals
abbrev pub BornBy : Wall → Totals → Pressed → Type 0
BornBy wall t p = T (is_given p.block) → Bears t.R t.M6 (pos (base_length wall)) p.block

-- in service and factored, whatever is asked of it; a refusal has no block
pub blocks_carry : (wall : Wall) (loads : List Load) {r : Result Borne Refusal} → Answers wall loads r
    → IfOk r (λ b. BornBy wall b.forces.service b.service × BornBy wall b.forces.factored b.factored)
unfolding bearing_of worked_bearing worked_forces pressed_by
blocks_carry wall loads answers = rw answers (go (examined wall loads) refl)
  where
    go : (answer : Answer) → examined wall loads ≡ answer
        → IfOk (answer gives worked_bearing wall loads) (λ b. BornBy wall b.forces.service b.service × BornBy wall b.forces.factored b.factored)
    go (Ok well) e = let t : T (fits wall loads) = rw e tt in (service_bears wall loads t, factored_bears wall loads t)
    go (Err refusal) e = tt
