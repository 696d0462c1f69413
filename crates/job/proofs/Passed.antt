-- Entries are passed one after the other, and a table with a row for each wall goes along: in it stands what is made of the entries passed.
use mathlib.Core.Path.{◌≡◌, refl, sym, ◌∙◌}
use mathlib.Core.Bool.{Bool, true, false}
use mathlib.Core.List.{List, [], ◌∷◌, ◌++◌}
use Prim.Native.Nat.{ℕ, suc, ◌+◌, ◌<◌}
use native.Mathlib.Omega.{arith}
use borrow.Author.Tests.{eqb-true, eqb-false}
use lib.Dec.{eqb}
use lib.ListN.{length, get_or, set, replicate, length-set, length-replicate, get_or-replicate}
use lib.Seq.{get_or-set_same, get_or-set_other}
use Rattle.rules.specs.JobFile.{Entry, records_from, wall_of}
use Rattle.rules.proofs.AcceptedFile.{records_more}

-- the entries before an index, where it is said which stands at each
abbrev pub passed_loads : (ℕ → Entry) → ℕ → List Entry
passed_loads entry_at i = records_from entry_at 0 i

-- the next one stands behind them
pub one_more : (entry_at : ℕ → Entry) (i : ℕ) → passed_loads entry_at (suc i) ≡ passed_loads entry_at i ++ entry_at i ∷ []
one_more entry_at i = let k : 0 + i ≡ i = omega arith in rw (records_more, k)

-- a table of so many rows, the first of them a wall's with a number: each has what is made of the entries for its wall
pub record Kept {A : Type 0} (made : List Entry → ℕ → A) (first size : ℕ) (d : A) (es : List Entry) (table : List A) : Type 0 where
  pub rows : length table ≡ size
  pub row : (k : ℕ) → k < size → get_or table k d ≡ made es (first + k)

module _ {A : Type 0} {made : List Entry → ℕ → A} {first size : ℕ} {d : A} where
  -- before the first entry all rows are alike
  pub none_kept : (none : A) → ((n : ℕ) → none ≡ made [] n) → Kept made first size d [] (replicate size none)
  none_kept none same = record { rows = length-replicate size none; row = λ k h. get_or-replicate size k none d h ∙ same (first + k) }

  -- where an entry makes no difference to any wall but its own
  module _ (others : (es : List Entry) (e : Entry) (n : ℕ) → (wall_of e ≡ n → ⊥) → made (es ++ e ∷ []) n ≡ made es n)
      {es : List Entry} {table : List A} (kept : Kept made first size d es table) (e : Entry) where
    -- the row of its wall is made anew
    pub one_kept : (k : ℕ) (new : A) → k < size → first + k ≡ wall_of e → new ≡ made (es ++ e ∷ []) (wall_of e) → Kept made first size d (es ++ e ∷ []) (set table k new)
    one_kept k new h its same = record { rows = length-set table k new ∙ kept.rows; row = λ j. row j (eqb j k) refl }
      where
        row : (j : ℕ) (here : Bool) → eqb j k ≡ here → j < size → get_or (set table k new) j d ≡ made (es ++ e ∷ []) (first + j)
        row j true here l = rw (eqb-true j k here, its) (get_or-set_same table k new d (omega (arith, kept.rows)) ∙ same)
        row j false here l =
            get_or-set_other table k j new d (eqb-false j k here)
            ∙ kept.row j l
            ∙ sym (others es e (first + j) (λ same. eqb-false j k here (omega arith)))

    -- and none where its wall has no row
    pub still_kept : ((k : ℕ) → k < size → first + k ≡ wall_of e → ⊥) → Kept made first size d (es ++ e ∷ []) table
    still_kept out = record { rows = kept.rows; row = λ k h. kept.row k h ∙ sym (others es e (first + k) (λ same. out k h (sym same))) }
