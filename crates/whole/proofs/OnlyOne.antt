-- No second answer fits a contract, and what is lent ends in one way; and the contract asks nothing of a caller. Nothing is said here a second time: each theorem names what
-- the prover itself reads off a function, its signature (`ended`), its `requires` (`Reads.Asked`) and its `ensures` (`Reads.Learnt`).
--     Free ended Asked          any call may be made
--     Once ended Asked Learnt   and two outcomes of one call that both fit are equal
--     OnceLent ended own ..     the same of a function for any type, of which Rust itself asks that what the type borrows is still lent
--     by_equation               of a function that is lent nothing to write, whose answer equals a value
--     agree                     what equals a value is the only one that does
--     lent, past, also          last values that differ in a parameter alone: `lent` at that parameter, and a `past` for each in front of it, or an `also` where that differs too
use mathlib.Core.Path.{◌≡◌, refl, sym, ◌∙◌}
use contract.Lifetimes.{Lfts}
use denote.Triple.Entry.{Args, Res}
use denote.Triple.Clauses.{Ended, Lasts, AtExit, at_exit}

-- what is asked of a call's arguments
abbrev pub Asks : Ended → Type 1
Asks F = (κs : Lfts F.signature.lifetimes) → Args F.signature κs → Type 0

-- what is said of its arguments, its result and its parameters at exit
abbrev pub Said : Ended → Type 1
Said F = (κs : Lfts F.signature.lifetimes) → Args F.signature κs → Res F.signature κs → AtExit F κs → Type 0

-- an outcome is a result and the last values: the contents of each buffer that was lent to be written, and nothing of any other parameter
abbrev pub OnlyOne : (F : Ended) → Said F → Type 0
OnlyOne F Fits =
    (κs : Lfts F.signature.lifetimes) (given : Args F.signature κs) (one other : Res F.signature κs) (after next : Lasts F κs given) →
    Fits κs given one (at_exit F κs given after) → Fits κs given other (at_exit F κs given next) → (one ≡ other) × (after ≡ next)

abbrev pub Free : (F : Ended) → Asks F → Type 0
Free F Asked = (κs : Lfts F.signature.lifetimes) (given : Args F.signature κs) → Asked κs given

abbrev pub Once : (F : Ended) → Asks F → Said F → Type 0
Once F Asked Fits = Free F Asked × OnlyOne F Fits

abbrev pub OnceLent : (F : Ended) → Asks F → Asks F → Said F → Type 0
OnceLent F Own Asked Fits = ((κs : Lfts F.signature.lifetimes) (given : Args F.signature κs) → Own κs given → Asked κs given) × OnlyOne F Fits

pub agree : {A : Type 0} {value one other : A} → one ≡ value → other ≡ value → one ≡ other
agree is its = is ∙ sym its

pub by_equation : {A B : Type 0} {value one other : A} {after : B} → one ≡ value → other ≡ value → (one ≡ other) × (after ≡ after)
by_equation is its = (agree is its, refl)

pub lent : {A B : Type 0} {one other : A} {rest : B} → one ≡ other → ◌≡◌ {A = A × B} (one, rest) (other, rest)
lent {rest = rest} same = λ i. (same i, rest)

pub past : {A B : Type 0} {first : A} {one other : B} → one ≡ other → ◌≡◌ {A = A × B} (first, one) (first, other)
past {first = first} same = λ i. (first, same i)

pub also : {A B : Type 0} {one other : A} {rest next : B} → one ≡ other → rest ≡ next → ◌≡◌ {A = A × B} (one, rest) (other, next)
also same behind = λ i. (same i, behind i)
