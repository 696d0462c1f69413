-- `forces::sums::column_sum` meets its contract. The invariant: the sum is that of the components passed.
use mathlib.Core.Path.{◌≡◌, refl, sym, ◌∙◌}
use mathlib.Core.List.{List}
use Prim.Native.Nat.{ℕ, ◌*◌, ◌≤◌}
use native.Mathlib.Omega.{arith}
use native.Mathlib.Numerals.{add-one}
use lib.IntN.{ℤ, pos, nat_abs, ◌+ℤ◌, ◌*ℤ◌}
use lib.ListN.{get_or}
use mir.Syntax.{w64}
use mir.Val.{SFits, of_z, to_z}
use mir.ValLaws.{to_z-of_z}
use Rattle.whole.specs.Sum.{sum_to}
use Rattle.whole.proofs.Integer.{abs_add, abs_weighted, fits_abs, back}
use Rattle.whole.proofs.Sums.{sum_of_sum_to}
use Rattle.rules.proofs.Sizes.{greatest_cell}
use Rattle.forces.specs.declared.component.Column.{Column}
use Rattle.forces.specs.declared.component.Component.{Component}
use Rattle.forces.specs.Components as components_of
use Rattle.forces.specs.Components.{place_of}
use Rattle.forces.specs.Tables.{components}
use Rattle.forces.specs.Sorts.{nothing_here, weighted, weighted_sum}
use Rattle.forces.proofs.Summed.{sum_within}
use Rattle.forces.proofs.sums.column_sum.Invariants.{Passed}
use Rattle.forces.proofs.sums.column_sum.Goals as goal

-- what is read back of a number's bits
abbrev read : ℤ → ℤ
read z = to_z w64 (of_z w64 z)

-- the next component's weight times its cell fits, and so does that on the sum; each is read back as it is
module _ {table : List Component} {weights : List ℤ} {column : Column} {sum : ℤ} {i : ℕ} (passed : Passed table weights column sum i) where
  abbrev next_one : Component
  next_one = get_or table i nothing_here

  abbrev weight : ℤ
  weight = get_or weights (place_of next_one.sort) (pos 0)

  abbrev cell : ℤ
  cell = components_of.cell column next_one

  abbrev summed : ℤ
  summed = sum_to (λ i. weighted weights column (get_or table i nothing_here)) i

  -- none of these is great, and nor is the product
  sizes : (nat_abs weight ≤ 16) × (nat_abs cell ≤ greatest_cell) × (nat_abs (weight *ℤ cell) ≤ 16 * greatest_cell) × (nat_abs summed ≤ components * (16 * greatest_cell))
  sizes =
      let light = passed.light.at_most (place_of next_one.sort) in
      let small = (passed.small.each i).cells column in
      (light, small, abs_weighted weight cell light small, omega (arith, sum_within passed.small passed.light column i))

  product : read weight *ℤ read cell ≡ weight *ℤ cell
  product = rw (back weight (omega (arith, sizes)), back cell (omega (arith, sizes)))

  product_fits : SFits w64 (read weight *ℤ read cell)
  product_fits = rw product (fits_abs (weight *ℤ cell) (omega (arith, sizes)))

  next : sum +ℤ read (read weight *ℤ read cell) ≡ summed +ℤ weight *ℤ cell
  next = rw (passed.same, product, back (weight *ℤ cell) (omega (arith, sizes)))

  next_fits : SFits w64 (sum +ℤ read (read weight *ℤ read cell))
  next_fits = rw next (fits_abs (summed +ℤ weight *ℤ cell) (omega (arith, abs_add summed (weight *ℤ cell), sizes)))

  all_summed : components ≤ i → sum ≡ weighted_sum table weights column
  unfolding weighted_sum
  all_summed h =
      let all : i ≡ components = omega arith in
      passed.same ∙ rw (all, ← passed.all) (sym (sum_of_sum_to (weighted weights column) nothing_here table))

pub loop-component-init : goal.loop-component-init
unfolding sum_to
loop-component-init c = record { all = c.told-table; within = omega arith; small = c.requires.0; light = c.requires.1; same = refl }

pub overflow_mul-sum : goal.overflow_mul-sum
overflow_mul-sum c = rw (c.place.ensures, c.in_column.ensures) (product_fits c.loop-component.invariant)

pub overflow_add-sum : goal.overflow_add-sum
overflow_add-sum c = rw (c.place.ensures, c.in_column.ensures) (next_fits c.loop-component.invariant)

pub loop-component-preserved : goal.loop-component-preserved
unfolding sum_to
loop-component-preserved c =
    let passed = c.loop-component.invariant in
    record {
      all = passed.all;
      within = omega arith;
      small = passed.small;
      light = passed.light;
      same = rw (add-one, c.place.ensures, c.in_column.ensures) (to_z-of_z w64 _ (next_fits passed) ∙ next passed);
    }

pub returns : goal.returns
returns c = all_summed c.loop-component.invariant (omega arith)
