-- Document 01, "What is answered": how great an answer's number can be, that 0 is no refusal's, and what an answer gives.
use Rattle.std.specs.Prelude.{◌≡◌, refl, false, true, eqb, T, Ok, Err, is_ok, is_err}
use Rattle.std.specs.Result.{result_unwrap_or, result_map_both}
use Rattle.std.proofs.Common.{sym, ap}
use Rattle.std.proofs.lemmas.Bool.{true≢false, false≢true}
use Prim.Native.Nat.{◌<◌}
use native.Mathlib.Omega.{arith}
use Rattle.rules.specs.declared.Refusal.{Refusal}
use Rattle.rules.specs.declared.Refusal.TheVariants.{TooShort, WrongEdition, CountOutOfRange, WrongOffset, WrongLength, WallOutOfRange, LoadOutOfRange, NinthLoad, BufferTooShort, OutputTooShort, NoSuchWall}
use Rattle.rules.specs.Answered.{Answer, number, ◌gives◌}

-- 18 is the last number in the table of refusals
pub number_below : (answer : Answer) → number answer < 19
number_below (Ok well) = omega arith
number_below (Err TooShort) = omega arith
number_below (Err WrongEdition) = omega arith
number_below (Err CountOutOfRange) = omega arith
number_below (Err WrongOffset) = omega arith
number_below (Err WrongLength) = omega arith
number_below (Err (WallOutOfRange wall field)) = omega arith
number_below (Err (LoadOutOfRange load)) = omega arith
number_below (Err (NinthLoad load)) = omega arith
number_below (Err BufferTooShort) = omega arith
number_below (Err OutputTooShort) = omega arith
number_below (Err (NoSuchWall wall)) = omega arith

-- 0 is the number of none
pub no_number : (answer : Answer) → eqb (number answer) 0 ≡ is_ok answer
no_number (Ok well) = refl
no_number (Err TooShort) = refl
no_number (Err WrongEdition) = refl
no_number (Err CountOutOfRange) = refl
no_number (Err WrongOffset) = refl
no_number (Err WrongLength) = refl
no_number (Err (WallOutOfRange wall field)) = refl
no_number (Err (LoadOutOfRange load)) = refl
no_number (Err (NinthLoad load)) = refl
no_number (Err BufferTooShort) = refl
no_number (Err OutputTooShort) = refl
no_number (Err (NoSuchWall wall)) = refl

-- ---- what an answer gives

module _ {A : Type 0} where
  -- where all is well, what is worked
  pub gives_worked : (answer : Answer) (worked : A) → T (is_ok answer) → (answer gives worked) ≡ Ok worked
  gives_worked (Ok well) worked t = refl
  gives_worked (Err refusal) worked t = absurd t

  -- where there is a refusal, that, whatever would be worked
  pub gives_refusal : (answer : Answer) (worked : A) → is_ok answer ≡ false → is_err (answer gives worked) ≡ true
  gives_refusal (Ok well) worked e = sym e
  gives_refusal (Err refusal) worked e = refl

  pub refused_alike : (answer : Answer) (one other : A) → is_ok answer ≡ false → (answer gives one) ≡ (answer gives other)
  refused_alike (Ok well) one other e = absurd (true≢false e)
  refused_alike (Err refusal) one other e = refl

  -- and the other way round: what is given is what was worked, and a refusal is the answer's
  pub worked_given : (answer : Answer) (worked : A) {given : A} → Ok given ≡ (answer gives worked) → T (is_ok answer) × (given ≡ worked)
  worked_given (Ok well) worked {given} e = (tt, ap (λ result. result_unwrap_or result given) e)
  worked_given (Err refusal) worked e = absurd (true≢false (ap is_ok e))

  pub refusal_given : (answer : Answer) (worked : A) {refusal : Refusal} → Err refusal ≡ (answer gives worked) → answer ≡ Err refusal
  refusal_given (Ok well) worked e = absurd (false≢true (ap is_ok e))
  refusal_given (Err refusal) worked e = sym (ap (result_map_both (λ _. tt) (λ refusal. refusal)) e)
