-- `sheet::drawing` meets its contract: each answer follows from the tests that led to it.
use mathlib.Core.Path.{◌≡◌, sym, ◌∙◌}
use mathlib.Core.Bool.{true, and-false}
use Prim.Native.Nat.{ℕ, suc, ◌<◌}
use native.Mathlib.Omega.{arith}
use borrow.Author.Tests.{lt-leb}
use borrow.Author.Rules.{rules}
use Rattle.std.specs.Prelude.{Result, Err}
use Rattle.rules.specs.declared.Refusal.{Refusal}
use Rattle.rules.specs.declared.Refusal.TheVariants.{NoSuchWall}
use Rattle.rules.specs.declared.Drawn.{Drawn}
use Rattle.rules.specs.JobFile.{File, wall_count}
use Rattle.rules.specs.Answered.{first_refusal, accepted}
use Rattle.rules.specs.Drawing.{Draws}
use Rattle.rules.proofs.AcceptedFile.{walls_length}
use Rattle.rules.proofs.Drawings.{refused_drawing, no_such_wall, wall_drawn}
use Rattle.sheet.proofs.drawing.Goals as goal

refused : {file : File} {n : ℕ} {refusal : Refusal} {answer : Result Drawn Refusal} → first_refusal file ≡ Err refusal → answer ≡ Err refusal → Draws file n answer
refused first is = record { answered = is ∙ sym (refused_drawing _ _ first) }

pub returns-in_err-accepted : goal.returns-in_err-accepted
returns-in_err-accepted c = refused c.in_err-accepted.ensures (search rules)

pub returns-in-Some : goal.returns-in-Some
returns-in-Some c =
    let job = c.in_ok-accepted.accepted in
    let number : suc c.in-Some.i ≡ c.args.wall = omega (arith, c.in-Some.ensures) in
    record { answered = rw c.drawn.ensures (sym (wall_drawn _ (rw job.accepted tt) _ (omega (arith, job.counted, c.if-i-accepted.true))) ∙ rw (number, c.in_ok-accepted.ensures)) }

-- there is none before the first wall, and none past the last
module _ {file : File} (good : accepted file ≡ true) (n : ℕ) where
  pub before_first : n < 1 → Draws file n (Err (NoSuchWall n))
  before_first h = record { answered = sym (no_such_wall file n good (rw (lt-leb 1 n h))) }

  pub past_last : wall_count file < n → Draws file n (Err (NoSuchWall n))
  past_last h = record { answered = sym (no_such_wall file n good (rw (walls_length, lt-leb n (wall_count file) h, and-false))) }

pub returns-in_default : goal.returns-in_default
returns-in_default c =
    let job = c.in_ok-accepted.accepted in
    let same = c.in_ok-accepted.ensures in
    let counted = rw same at job.counted in
    past_last (rw same at job.accepted) c.args.wall (omega (arith, counted, c.in-Some.ensures, c.if-i-accepted.false))

pub returns-in_default-2 : goal.returns-in_default-2
returns-in_default-2 c =
    let job = c.in_ok-accepted.accepted in
    before_first (rw c.in_ok-accepted.ensures at job.accepted) c.args.wall (omega (arith, c.in_default.ensures))
