-- Document 01, "Forces": M6 is Mrest less Mot, plus surcharge and live loads down. So it is one weighted sum: the moment of what rests on the wall, less that of what pushes it.
use mathlib.Core.Path.{◌≡◌, sym, ◌∙◌}
use mathlib.Core.List.{List}
use lib.IntN.{ℤ, pos, ◌+ℤ◌, ◌-ℤ◌, ◌*ℤ◌}
use lib.ListN.{get_or}
use Rattle.whole.proofs.Integer.{*ℤ-+ℤ, *ℤ-sub, +ℤ-*ℤ, sub-*ℤ}
use Rattle.whole.proofs.Sums.{sum_of_same, sum_of_add, sum_of_sub}
use Rattle.rules.specs.Forces.{Sort, Component, moment, column_sum, restores, overturns, rests, moment_of, totals}

-- what M6 takes, with its sign
abbrev pub balances : Sort → ℤ
balances sort = restores sort -ℤ overturns sort +ℤ rests sort

-- a product of a difference and more, part by part
apart : (k a b c m : ℤ) → k *ℤ (a -ℤ b +ℤ c) *ℤ m ≡ k *ℤ a *ℤ m -ℤ k *ℤ b *ℤ m +ℤ k *ℤ c *ℤ m
apart k a b c m = rw (*ℤ-+ℤ k (a -ℤ b) c, *ℤ-sub k a b, +ℤ-*ℤ (k *ℤ a -ℤ k *ℤ b) (k *ℤ c) m, sub-*ℤ (k *ℤ a) (k *ℤ b) m)

module _ (counts : Sort → ℤ) (rows : List Component) where
  abbrev share : (Sort → ℤ) → Component → ℤ
  share picks c = counts c.sort *ℤ picks c.sort *ℤ get_or c.row moment (pos 0)

  pub one_sum : (totals counts rows).M6 ≡ moment_of counts balances rows
  unfolding totals column_sum
  one_sum =
      sym
      (sum_of_same (share balances) (λ c. share restores c -ℤ share overturns c +ℤ share rests c) rows (λ c. apart (counts c.sort) (restores c.sort) (overturns c.sort) (rests c.sort) (get_or c.row moment (pos 0)))
      ∙ sum_of_add (λ c. share restores c -ℤ share overturns c) (share rests) rows
      ∙ rw (sum_of_sub (share restores) (share overturns) rows))
