-- The sums that the code makes are those of the rules: its components and weights, and its bounds.
use mathlib.Core.Path.{◌≡◌, refl, sym, ◌∙◌}
use mathlib.Core.Bool.{Bool}
use mathlib.Core.List.{List, [], ◌∷◌}
use Prim.Native.Nat.{ℕ, zero, suc, ◌*◌, ◌≤◌, ◌<◌, ◌^◌}
use lib.Dec.{T, leb, leb→le}
use lib.IntN.{ℤ, pos, nat_abs, ◌*ℤ◌}
use lib.ListN.{get_or}
use lib.Signed.{mag}
use mir.Syntax.{w64}
use mir.Val.{of_z, to_z}
use mir.ValLaws.{to_z-of_z}
use Rattle.whole.specs.Sum.{sum_to}
use Rattle.whole.proofs.Integer.{abs_weighted}
use Rattle.whole.proofs.Sums.{sum_to_abs, sum_of_map, sum_of_same}
use Rattle.rules.specs.Forces as forces
use Rattle.rules.specs.Forces.{deadWeight, liveWeight, deadPush, livePush, vertical, horizontal, moment, column_sum, restores, overturns, totals}
use Rattle.rules.proofs.Moments.{balances, one_sum}
use Rattle.rules.proofs.Accepted.{both, every}
use Rattle.rules.proofs.Sizes.{greatest_cell}
use Rattle.forces.specs.declared.component.Column.{Column}
use Rattle.forces.specs.declared.component.Column.TheVariants.{Vertical, Horizontal, Moment}
use Rattle.forces.specs.declared.component.Component.{Component}
use Rattle.forces.specs.declared.sums.TotalWeights.{TotalWeights}
use Rattle.forces.specs.Components.{in_code, all_in_code, place_of, sort_in_code, cell}
use Rattle.forces.specs.Sorts.{weights_of, nothing_here, weighted, weighted_sum, Small, Light, AllLight, total_weights, totals_by}

-- ---- the sums
weight_at : (weight : forces.Sort → ℤ) (sort : forces.Sort) → get_or (weights_of weight) (place_of (sort_in_code sort)) (pos 0) ≡ weight sort
weight_at weight deadWeight = refl
weight_at weight liveWeight = refl
weight_at weight deadPush = refl
weight_at weight livePush = refl

-- a column's place in a row of the rules
abbrev pub place_in_row : Column → ℕ
place_in_row Vertical = vertical
place_in_row Horizontal = horizontal
place_in_row Moment = moment

cell_at : (column : Column) (c : forces.Component) → cell column (in_code c) ≡ get_or c.row (place_in_row column) (pos 0)
cell_at Vertical c = refl
cell_at Horizontal c = refl
cell_at Moment c = refl

module _ (rows : List forces.Component) {table : List Component} (tabled : table ≡ all_in_code rows) where
  -- a column's sum, by a list that has each sort's weight at its place
  pub column_summed : (weight : forces.Sort → ℤ) {weights : List ℤ} (column : Column) → weights ≡ weights_of weight
      → weighted_sum table weights column ≡ column_sum weight (place_in_row column) rows
  unfolding weighted_sum column_sum
  column_summed weight column e =
      rw (tabled, e)
      (sum_of_map (weighted (weights_of weight) column) in_code rows
      ∙ sum_of_same _ _ rows (λ c. rw (weight_at weight c.sort, cell_at column c)))

  -- the five totals
  pub totals_summed : (counts : forces.Sort → ℤ) {weights : TotalWeights} → weights ≡ total_weights counts
      → totals_by table weights ≡ totals counts rows
  unfolding totals_by totals
  totals_summed counts e =
      rw e
      (λ i. record {
        R = column_summed counts Vertical refl i;
        H = column_summed counts Horizontal refl i;
        Mrest = column_summed (λ s. counts s *ℤ restores s) Moment refl i;
        Mot = column_summed (λ s. counts s *ℤ overturns s) Moment refl i;
        M6 = (column_summed (λ s. counts s *ℤ balances s) Moment refl ∙ sym (one_sum counts rows)) i;
      })

-- ---- the bounds
-- where every element passes a test, what stands at an index does, and what is read behind the end if it passes too
every_at : {A : Type 0} (p : A → Bool) (d : A) → T (p d) → (xs : List A) → T (every p xs) → (i : ℕ) → T (p (get_or xs i d))
every_at p d t [] all i = t
every_at p d t (x ∷ xs) all zero = (both (p x) (every p xs) all).0
every_at p d t (x ∷ xs) all (suc i) = every_at p d t xs (both (p x) (every p xs) all).1 i

abbrev is_light : ℤ → Bool
is_light weight = leb (nat_abs weight) 16

-- that weights are light is a test that computes
pub light : {weights : List ℤ} → T (every is_light weights) → Light weights
light {weights} t = record { at_most = λ i. leb→le (nat_abs (get_or weights i (pos 0))) 16 (every_at is_light (pos 0) tt weights t i) }

pub all_light : {weights : TotalWeights} → T (every is_light weights.counted) → T (every is_light weights.restored) → T (every is_light weights.overturned)
    → T (every is_light weights.balanced) → AllLight weights
all_light c r o b = record { counted = light c; restored = light r; overturned = light o; balanced = light b }

module _ {table : List Component} {weights : List ℤ} (small : Small table) (light : Light weights) (column : Column) where
  -- the sum of the first n components
  pub sum_within : (n : ℕ) → nat_abs (sum_to (λ i. weighted weights column (get_or table i nothing_here)) n) ≤ n * (16 * greatest_cell)
  sum_within n =
      sum_to_abs (λ i. weighted weights column (get_or table i nothing_here)) n
      (λ i h. let c = get_or table i nothing_here in
      abs_weighted (get_or weights (place_of c.sort) (pos 0)) (cell column c) (light.at_most (place_of c.sort)) ((small.each i).cells column))

-- a sum that fits is read back from its bits
pub read_back : {sum z : ℤ} → sum ≡ z → mag sum < 2 ^ 63 → to_z w64 (of_z w64 sum) ≡ z
read_back {sum} e h = to_z-of_z w64 sum (record { sfits = h }) ∙ e
