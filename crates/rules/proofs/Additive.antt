-- Document 01, "Forces": forces add. The totals for two joined lists of loads are the two totals added less the bare wall's, exactly; any order of the
-- loads gives equal totals; and a load of no newtons adds nothing. All of it in service and factored, and of any wall and any lists: that they are
-- accepted is not asked. `Perm first second` says that the one list is the other in some order.
use mathlib.Core.Path.{◌≡◌}
use mathlib.Core.List.{List, [], ◌∷◌, ◌++◌, append-nil, Perm, perm_append_comm}
use Prim.Native.Nat.{ℕ}
use native.Mathlib.Nat.{zero-mul}
use lib.IntN.{ℤ, pos, ◌+ℤ◌, ◌-ℤ◌, ◌*ℤ◌, +ℤ_assoc, +ℤ_comm, +ℤ_idr, +ℤ-neg_ℤ_cancel, *ℤ-zero}
use lib.ListN.{get_or, get_or-map}
use Rattle.whole.specs.Sum.{sum_of}
use Rattle.whole.proofs.Lists.{case}
use Rattle.whole.proofs.Sums.{sum_of_add, sum_of_joined, sum_of_map, sum_of_reordered}
use Rattle.rules.specs.declared.Totals.{Totals}
use Rattle.rules.specs.JobFile.{Wall, Load, active_coefficient, rest_coefficient, is_down, dead_load, live_load}
use Rattle.rules.specs.Forces.{Sort, deadWeight, liveWeight, deadPush, livePush, Component, load_row, dead_row, live_row, load_table, table, vertical, horizontal, moment, column_sum, once, tenths, restores, overturns, moment_of, totals, service, factored, lasting_weight, sliding_of}
use Rattle.rules.proofs.Moments.{balances, one_sum}

-- what stands in both of two sums counts once where they are joined
counted_once : (b s t : ℤ) → b +ℤ (s +ℤ t) ≡ (b +ℤ s) +ℤ (b +ℤ t) -ℤ b
counted_once b s t = rw (+ℤ_comm b t, ← +ℤ_assoc (b +ℤ s) t b, +ℤ-neg_ℤ_cancel, +ℤ_assoc)

-- a part of no newtons has a row of zeros
empty_row : (heavy push : Sort) (part : Load → ℕ) (load : Load) → part load ≡ 0 → (load_row heavy push part load).row ≡ pos 0 ∷ pos 0 ∷ pos 0 ∷ []
unfolding load_row
empty_row heavy push part load e =
    rw e (case (is_down load) _ _ (λ (c : Component). c.row ≡ pos 0 ∷ pos 0 ∷ pos 0 ∷ []) (λ down. rw zero-mul) (λ across. rw zero-mul))

-- ---- the sum of any column, with its rows weighted in any way, at any K
module _ (weight : Sort → ℤ) (column K : ℕ) (wall : Wall) where
  -- the wall's sum under some loads
  abbrev pub sum_under : List Load → ℤ
  sum_under loads = column_sum weight column (table K wall loads)

  abbrev cell : Component → ℤ
  cell c = weight c.sort *ℤ get_or c.row column (pos 0)

  -- what a load adds to it: its dead row, and its live row
  share : Load → ℤ
  share load = cell (dead_row load) +ℤ cell (live_row load)

  -- the bare wall's sum, and every load's share
  shares : (loads : List Load) → sum_under loads ≡ sum_under [] +ℤ sum_of share loads
  unfolding column_sum table load_table share
  shares loads = simp (append-nil, sum_of_joined, sum_of_map, sum_of_add (λ load. cell (dead_row load)) (λ load. cell (live_row load)))

  -- under joined lists it is the two sums added less the bare wall's
  pub column_adds : (first second : List Load) → sum_under (first ++ second) ≡ sum_under first +ℤ sum_under second -ℤ sum_under []
  column_adds first second =
      rw (shares (first ++ second), shares first, shares second, sum_of_joined) (counted_once (sum_under []) (sum_of share first) (sum_of share second))

  -- any order of the loads gives the same sum
  pub column_any_order : {first second : List Load} → Perm first second → sum_under first ≡ sum_under second
  column_any_order {first} {second} p = cc (shares first, shares second, sum_of_reordered share p)

  empty_cell : (heavy push : Sort) (part : Load → ℕ) (load : Load) → part load ≡ 0 → cell (load_row heavy push part load) ≡ pos 0
  empty_cell heavy push part load e =
      rw (empty_row heavy push part load e, get_or-map (λ (n : ℕ). pos 0) (0 ∷ 0 ∷ 0 ∷ []) column 0)
      (*ℤ-zero (weight (load_row heavy push part load).sort))

  -- a load of no newtons leaves it as it is
  pub column_idle : (loads : List Load) (load : Load) → dead_load load ≡ 0 → live_load load ≡ 0 → sum_under (loads ++ load ∷ []) ≡ sum_under loads
  unfolding sum_of share dead_row live_row
  column_idle loads load d l =
      let dead = empty_cell deadWeight deadPush dead_load load d in
      let live = empty_cell liveWeight livePush live_load load l in
      rw (shares (loads ++ load ∷ []), shares loads, sum_of_joined, dead, live, +ℤ_idr (sum_of share loads))

-- ---- joined lists

-- the whole is the first and the second added, less the bare wall's
pub record Adds (whole first second bare : Totals) : Type 0 where
  pub R : whole.R ≡ first.R +ℤ second.R -ℤ bare.R
  pub H : whole.H ≡ first.H +ℤ second.H -ℤ bare.H
  pub Mrest : whole.Mrest ≡ first.Mrest +ℤ second.Mrest -ℤ bare.Mrest
  pub Mot : whole.Mot ≡ first.Mot +ℤ second.Mot -ℤ bare.Mot
  pub M6 : whole.M6 ≡ first.M6 +ℤ second.M6 -ℤ bare.M6

-- the totals add, however their rows count and at any K
module _ (counts : Sort → ℤ) (K : ℕ) (wall : Wall) (first second : List Load) where
  abbrev under : List Load → Totals
  under loads = totals counts (table K wall loads)

  by_rows : Adds (under (first ++ second)) (under first) (under second) (under [])
  unfolding totals
  by_rows =
      record {
        R = column_adds counts vertical K wall first second;
        H = column_adds counts horizontal K wall first second;
        Mrest = column_adds (λ s. counts s *ℤ restores s) moment K wall first second;
        Mot = column_adds (λ s. counts s *ℤ overturns s) moment K wall first second;
        M6 = rw (sum (first ++ second), sum first, sum second, sum []) (column_adds (λ s. counts s *ℤ balances s) moment K wall first second);
      }
    where
      sum : (loads : List Load) → (under loads).M6 ≡ moment_of counts balances (table K wall loads)
      sum loads = one_sum counts (table K wall loads)

-- in service
pub service_adds : (wall : Wall) (first second : List Load)
    → Adds (service wall (first ++ second)) (service wall first) (service wall second) (service wall [])
unfolding service
service_adds wall = by_rows once (active_coefficient wall) wall

-- and factored
pub factored_adds : (wall : Wall) (first second : List Load)
    → Adds (factored wall (first ++ second)) (factored wall first) (factored wall second) (factored wall [])
unfolding factored
factored_adds wall = by_rows tenths (rest_coefficient wall) wall

-- ---- lists that give the same

-- equal totals, in service and factored, and so the same of sliding
pub record Alike (wall : Wall) (first second : List Load) : Type 0 where
  pub service : service wall first ≡ service wall second
  pub factored : factored wall first ≡ factored wall second
  pub sliding : sliding_of wall first ≡ sliding_of wall second

-- it is enough that every sum of a column is the same
alike : (wall : Wall) (first second : List Load)
    → ((weight : Sort → ℤ) (column K : ℕ) → sum_under weight column K wall first ≡ sum_under weight column K wall second) → Alike wall first second
unfolding totals service factored sliding_of lasting_weight
alike wall first second same = record { service = simp same; factored = simp same; sliding = simp same }

-- loads in any order
pub any_order : (wall : Wall) {first second : List Load} → Perm first second → Alike wall first second
any_order wall {first} {second} p = alike wall first second (λ weight column K. column_any_order weight column K wall p)

-- two joined lists in either order
pub either_order : (wall : Wall) (first second : List Load) → Alike wall (first ++ second) (second ++ first)
either_order wall first second = any_order wall (perm_append_comm first second)

-- a load of no newtons adds nothing
pub idle : (wall : Wall) (loads : List Load) (load : Load) → dead_load load ≡ 0 → live_load load ≡ 0 → Alike wall (loads ++ load ∷ []) loads
idle wall loads load d l = alike wall (loads ++ load ∷ []) loads (λ weight column K. column_idle weight column K wall loads load d l)

-- ---- the demand in one: the totals for two lists of loads joined, in either order, in service and factored

pub record Joined (wall : Wall) (first second : List Load) : Type 0 where
  pub in_service : Adds (service wall (first ++ second)) (service wall first) (service wall second) (service wall [])
  pub in_service_turned : Adds (service wall (second ++ first)) (service wall first) (service wall second) (service wall [])
  pub by_factors : Adds (factored wall (first ++ second)) (factored wall first) (factored wall second) (factored wall [])
  pub by_factors_turned : Adds (factored wall (second ++ first)) (factored wall first) (factored wall second) (factored wall [])

pub forces_add : (wall : Wall) (first second : List Load) → Joined wall first second
forces_add wall first second =
    let turned = either_order wall second first in
    record {
      in_service = service_adds wall first second;
      in_service_turned = rw turned.service (service_adds wall first second);
      by_factors = factored_adds wall first second;
      by_factors_turned = rw turned.factored (factored_adds wall first second);
    }
