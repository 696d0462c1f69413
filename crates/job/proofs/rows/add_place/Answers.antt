-- `job::rows::add_place` meets its contract. The invariant: the places passed are taken, and the number goes among those behind them.
use mathlib.Core.Path.{◌≡◌, refl, sym, ◌∙◌}
use mathlib.Core.List.{List, ◌∷◌, ◌++◌, append-nil}
use Prim.Native.Nat.{ℕ, zero, suc, ◌≤◌, ◌<◌}
use native.Mathlib.Omega.{arith}
use native.Mathlib.Numerals.{add-one}
use lib.ListN.{length, get_or, take, drop, set, drop_of_length-le}
use Rattle.std.proofs.lemmas.List.{set-get_or}
use lib.Seq.{take_all, take-suc, drop-cons, append_snoc, set_split}
use Rattle.job.specs.Places.{with_place}
use Rattle.job.proofs.rows.add_place.Goals as goal

-- a place that is taken stays
past : (place : ℕ) (rest : List ℕ) (number : ℕ) → (place ≡ 0 → ⊥) → with_place (place ∷ rest) number ≡ place ∷ with_place rest number
unfolding with_place
past zero rest number taken = absurd (taken refl)
past (suc k) rest number taken = refl

-- one place is looked at, and then those behind it
module _ (row : List ℕ) (k number : ℕ) (h : k < length row) where
  stops : get_or row k 0 ≡ 0 → take k row ++ with_place (drop k row) number ≡ set row k number
  unfolding with_place
  stops free = rw (drop-cons row k 0 h, free, set_split row k number h)

  goes_on : (get_or row k 0 ≡ 0 → ⊥)
      → take k row ++ with_place (drop k row) number ≡ take (suc k) row ++ with_place (drop (suc k) row) number
  goes_on taken = rw (drop-cons row k 0 h, past _ _ number taken, take-suc row k 0 h, append_snoc)

pub loop-place-init : goal.loop-place-init
loop-place-init c = (c.told-row, refl)

pub loop-place-preserved : goal.loop-place-preserved
loop-place-preserved c =
    let loop = c.loop-place in
    let i = loop.place-index in
    let h : i < length loop.row = omega arith in
    rw set-get_or (loop.invariant.0, rw add-one (loop.invariant.1 ∙ goes_on loop.row i _ h c.if-place-eq0.false))

pub returns-then-place-eq0 : goal.returns-then-place-eq0
returns-then-place-eq0 c =
    let loop = c.loop-place in
    let h : loop.place-index < length loop.row = omega arith in
    sym (loop.invariant.1 ∙ stops loop.row loop.place-index _ h c.if-place-eq0.true)

pub returns : goal.returns
unfolding with_place
returns c =
    let loop = c.loop-place in
    let end : length loop.row ≤ loop.place-index = omega arith in
    sym (loop.invariant.1 ∙ rw (drop_of_length-le loop.row end, take_all loop.place-index loop.row end, append-nil))
