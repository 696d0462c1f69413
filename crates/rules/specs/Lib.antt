-- Document 01, a file for each of its headings that has rules, in its order; then the drawing. What document 01 has no word for stands in `Beyond` alone. Behind it a file for each
-- request of document 02 that has landed and has rules of its own: `WrittenFile` is #101. A request that changes rules of document 01 stands where they stand: #102 in `Answered`, #105 and #106 in `ToeAndStem`, #103 in `JobFile`,
-- `Bearing`, `ToeAndStem` and `SheetLine`, #107 in `JobFile`, `Forces` and `Bearing`.
--
-- How to read them. A name with arguments behind it is applied to them: `stem_weight wall`. The line above a definition gives the types of its arguments and, behind
-- the last arrow, of its result; `abbrev` and `unfoldable` say only how proofs may open it. A definition of several lines goes by the cases of an argument. `let x = a in b` is b with a for x, and `λ x. b` a function of x.
-- Numbers: ℕ are the whole numbers from 0, without bound; a difference is 0 where it would be negative, `suc n` is n + 1 and `max` the greater of two. ℤ are the signed ones: `pos n` is n, `negsuc n` is -(n + 1),
-- and `+ℤ`, `-ℤ`, `*ℤ`, `≤ℤ`, `<ℤ` are theirs. A rounded division is one of `whole`'s three; only a printed digit, a bit of the failures, a byte and a count of records take the quotient `/` and the rest `%`.
-- Tests: `leb a b` is a <= b, `ltb a b` a < b, `eqb a b` a = b, and `le_z`, `lt_z` the first two in ℤ; `&&`, `||` and `not` join them, and `T t` is the fact that t holds.
-- `cond t a b` is a where t holds, and else b; `elim t [ true ↦ a | false ↦ b ]` is the same. `≡` says that two things are equal, and `⊥` is what never holds.
-- Lists: `a ∷ b ∷ []` has two elements, `++` joins, `length` counts, `map f` applies f to each; `get_or list i d` is the element at index i, from 0, and d past the end;
-- `take n list` is the first n, `drop n list` leaves them out, and `replicate n a` is n times a. `record { .. }` gives each part of a thing by name, and `x.part` takes one out.
pub mod JobFile
pub mod Answered
pub mod Forces
pub mod Bearing
pub mod ToeAndStem
pub mod SheetLine
pub mod Drawing
pub mod Beyond
pub mod WrittenFile
pub mod Coefficients
