-- Document 02, "#108 Coefficients from the angle": what is proved over the whole table of sines. Two tests are computed over it, one of each angle and one of each step to the next; laws turn them
-- into the rules.
use mathlib.Core.Path.{◌≡◌, refl, ◌∙◌, sym, ap, subst}
use mathlib.Core.Bool.{Bool, true, ◌&&◌}
use mathlib.Core.List.{List, [], ◌∷◌, map}
use Prim.Native.Nat.{ℕ, zero, suc, ◌+◌, ◌-◌, ◌*◌, ◌≤◌, ◌<◌}
use native.Mathlib.Omega.{arith}
use native.Mathlib.Nat.{le_trans, le_antisymm, mul-le-mul_left, mul-le-mul_right}
use lib.Dec.{T, leb, eqb, leb→le, eqb→eq}
use lib.ListN.{length, get_or, get_or-map}
use denote.Bor.{Bor}
use borrow.Author.Tests.{le-leb, lt-leb}
use Rattle.std.specs.Prelude.{Option, Some, None}
use Rattle.std.specs.Option.{option_copied}
use Rattle.std.specs.Slice.{IsItemAt}
use Rattle.whole.specs.Rounding.{rounded_up, rounded_down, rounded_nearest}
use Rattle.whole.proofs.Rounded.{nearest_mono}
use Rattle.rules.specs.Coefficients.{Bounds, unit, level, tenth, turned_by, turned, million, in_millionths, most_turned, sine, sine_of}
use Rattle.rules.proofs.Accepted.{both}

-- ---- facts, each with a test of it that can be computed

pub record Tested : Type 1 where
  pub Fact : Type 0
  pub test : Bool
  pub so : T test → Fact

infix 30 ◌at_most◌
abbrev ◌at_most◌ : ℕ → ℕ → Tested
m at_most n = record { Fact = m ≤ n; test = leb m n; so = leb→le m n }

infix 30 ◌equals◌
abbrev ◌equals◌ : ℕ → ℕ → Tested
m equals n = record { Fact = m ≡ n; test = eqb m n; so = eqb→eq m n }

infixr 20 ◌and◌
abbrev ◌and◌ : Tested → Tested → Tested
a and b = record { Fact = a.Fact × b.Fact; test = a.test && b.test; so = λ t. let h = both a.test b.test t in (a.so h.0, b.so h.1) }

-- neither of two numbers is more than so much above the other
abbrev within : ℕ → ℕ → ℕ → Tested
within most m n = m at_most n + most and n at_most m + most

-- a rule at so many numbers from one on
unfoldable all_from : (ℕ → Tested) → ℕ → ℕ → Bool
all_from rule n zero = true
all_from rule n (suc count) = (rule n).test && all_from rule (suc n) count

module _ (rule : ℕ → Tested) where
  each_from : (n count : ℕ) → T (all_from rule n count) → (k : ℕ) → k < count → (rule (n + k)).Fact
  unfolding all_from
  each_from n zero t k h = absurd (omega arith)
  each_from n (suc count) t zero h = subst (λ (m : ℕ). (rule m).Fact) (omega arith) ((rule n).so (both (rule n).test (all_from rule (suc n) count) t).0)
  each_from n (suc count) t (suc k) h =
      subst (λ (m : ℕ). (rule m).Fact) {x = suc n + k} (omega arith) (each_from (suc n) count (both (rule n).test (all_from rule (suc n) count) t).1 k (omega arith))

  each : (count : ℕ) → T (all_from rule 0 count) → (n : ℕ) → n < count → (rule n).Fact
  each count t n h = subst (λ (m : ℕ). (rule m).Fact) {x = 0 + n} (omega arith) (each_from 0 count t n h)

-- ---- the bounds of so many angles, each a tenth of a degree further

unfoldable pub bounds_from : Bounds → ℕ → List Bounds
bounds_from b zero = []
bounds_from b (suc count) = b ∷ bounds_from (turned_by tenth b) count

bounds_from_lem : (n count k : ℕ) → k < count → get_or (bounds_from (turned n) count) k level ≡ turned (n + k)
unfolding bounds_from turned
bounds_from_lem n zero k h = absurd (omega arith)
bounds_from_lem n (suc count) zero h = ap turned {x = n} {y = n + 0} (omega arith)
bounds_from_lem n (suc count) (suc k) h = bounds_from_lem (suc n) count k (omega arith) ∙ ap turned {x = suc n + k} {y = n + suc k} (omega arith)

-- those of the whole table
unfoldable pub angles : List Bounds
angles = bounds_from level (suc most_turned)

at_angle : (n : ℕ) → n ≤ most_turned → get_or angles n level ≡ turned n
unfolding angles turned
at_angle n h = bounds_from_lem 0 (suc most_turned) n (omega arith) ∙ ap turned {x = 0 + n} {y = n} (omega arith)

abbrev pub nearest : Bounds → ℕ
nearest b = in_millionths b.low_sine

-- a table of the nearest millionths has the sine of each angle
pub in_table : (sines : List ℕ) → sines ≡ map nearest angles → (n : ℕ) → n ≤ most_turned → get_or sines n 0 ≡ sine n
unfolding sine rounded_nearest
in_table sines e n h = ap (λ (l : List ℕ). get_or l n 0) e ∙ get_or-map nearest angles n level ∙ ap nearest (at_angle n h)

-- so what is looked up in it is the sine of an angle, and nothing past its end
pub looked_up : (sines : List ℕ) → sines ≡ map nearest angles → length sines ≡ suc most_turned
    → (n : ℕ) (found : Option (Bor ℕ)) → IsItemAt sines n found → option_copied found ≡ sine_of n
unfolding sine_of
looked_up sines e long n (Some x) h =
    let low : n ≤ most_turned = omega (arith, h.3.0, long) in
    rw (le-leb n most_turned low) (ap Some (h.4 (omega arith) 0 ∙ in_table sines e n low))
looked_up sines e long n None h = let past : most_turned < n = omega (arith, h.3, long) in rw (lt-leb n most_turned past)

-- ---- the two rules

-- of an angle and its complement: both bounds of the sine are rounded to the same number, and the squares add up
unfoldable entry : Bounds → Bounds → Tested
entry b complement =
    in_millionths b.high_sine equals nearest b
    and within 1414214 (nearest b * nearest b + nearest complement * nearest complement) (million * million)

-- of an angle, its complement and the next angle: the sine doesn't fall, and turning through a tenth of a degree makes it, to the millionth
unfoldable step : Bounds → Bounds → Bounds → Tested
step b complement next =
    nearest b at_most nearest next
    and nearest b * tenth.high_cosine + nearest complement * tenth.high_sine at_most nearest next * unit + unit
    and nearest next * unit at_most nearest b * tenth.low_cosine + nearest complement * tenth.low_sine + unit

-- ---- both hold at every angle of the table

abbrev entry_in : List Bounds → ℕ → Tested
entry_in list n = entry (get_or list n level) (get_or list (most_turned - n) level)

abbrev step_in : List Bounds → ℕ → Tested
step_in list n = step (get_or list n level) (get_or list (most_turned - n) level) (get_or list (suc n) level)

all_entries : T (all_from (entry_in angles) 0 (suc most_turned))
unfolding all_from entry angles bounds_from turned_by rounded_up rounded_down rounded_nearest
all_entries = tt

all_steps : T (all_from (step_in angles) 0 most_turned)
unfolding all_from step angles bounds_from turned_by rounded_up rounded_down rounded_nearest
all_steps = tt

entry_at_lem : (n : ℕ) → n ≤ most_turned → (entry (turned n) (turned (most_turned - n))).Fact
entry_at_lem n h = rw (at_angle n h, at_angle (most_turned - n) (omega arith)) at (each (entry_in angles) (suc most_turned) all_entries n (omega arith))

step_at : (n : ℕ) → n < most_turned → (step (turned n) (turned (most_turned - n)) (turned (suc n))).Fact
step_at n h =
    rw (at_angle n (omega arith), at_angle (most_turned - n) (omega arith), at_angle (suc n) (omega arith)) at
    (each (step_in angles) most_turned all_steps n h)

-- ---- so, of the table: "it begins at 0, ends at 1000000, never falls,

pub begins : sine 0 ≡ 0
unfolding sine turned rounded_nearest
begins = refl

pub ends : sine most_turned ≡ million
unfolding sine angles bounds_from turned_by rounded_up rounded_down rounded_nearest
ends = sym (ap nearest (at_angle most_turned (omega arith))) ∙ refl

pub never_falls : (n : ℕ) → n < most_turned → sine n ≤ sine (suc n)
unfolding sine step
never_falls n h = (step_at n h).0

-- and the squares of entries for an angle and its complement add to 10^12 within 1414214"

-- neither of two numbers is more than so much above the other
abbrev pub Within : ℕ → ℕ → ℕ → Type 0
Within most a b = (a ≤ b + most) × (b ≤ a + most)

pub squares : (n : ℕ) → n ≤ most_turned → Within 1414214 (sine n * sine n + sine (most_turned - n) * sine (most_turned - n)) (million * million)
unfolding sine entry
squares n h = (entry_at_lem n h).1

-- ---- beyond that: an entry is the nearest number of millionths to its sine, wherever between its bounds that is;

pub rounded : (n : ℕ) → n ≤ most_turned → (x : ℕ) → (turned n).low_sine ≤ x → x ≤ (turned n).high_sine → in_millionths x ≡ sine n
unfolding sine entry
rounded n h x low high =
    le_antisymm (rw (entry_at_lem n h).0 at (nearest_mono unit (mul-le-mul_right million high))) (nearest_mono unit (mul-le-mul_right million low))

-- and turning through a tenth of a degree makes the next entry of it, to the millionth, wherever between their bounds the sine and the cosine of that are
pub turns : (n : ℕ) → n < most_turned → (s c : ℕ) → tenth.low_sine ≤ s → s ≤ tenth.high_sine → tenth.low_cosine ≤ c → c ≤ tenth.high_cosine
    → Within unit (sine n * c + sine (most_turned - n) * s) (sine (suc n) * unit)
unfolding sine step
turns n h s c s-low s-high c-low c-high =
    let most = (step_at n h).1.0 in
    let least = (step_at n h).1.1 in (
      omega (arith, most, mul-le-mul_left (sine n) c-high, mul-le-mul_left (sine (most_turned - n)) s-high),
      omega (arith, least, mul-le-mul_left (sine n) c-low, mul-le-mul_left (sine (most_turned - n)) s-low),
    )

-- ---- and so a sine is no more than that of a greater angle, nor than 1

pub grows : (m n : ℕ) → m ≤ n → n ≤ most_turned → sine m ≤ sine n
grows m n h top = subst (λ (k : ℕ). sine m ≤ sine k) {x = m + (n - m)} (omega arith) (by_steps (n - m) (omega arith))
  where
    by_steps : (d : ℕ) → m + d ≤ most_turned → sine m ≤ sine (m + d)
    by_steps zero k = subst (λ (k : ℕ). sine m ≤ sine k) {x = m} (omega arith) (omega arith)
    by_steps (suc d) k = subst (λ (k : ℕ). sine m ≤ sine k) {x = suc (m + d)} (omega arith) (le_trans (by_steps d (omega arith)) (never_falls (m + d) (omega arith)))

pub at_most_one : (n : ℕ) → n ≤ most_turned → sine n ≤ million
at_most_one n h = rw ends at (grows n most_turned h (omega arith))

-- ---- an angle of the table has a sine, that one

pub known : (n : ℕ) → n ≤ most_turned → sine_of n ≡ Some (sine n)
unfolding sine_of
known n h = rw (le-leb n most_turned h)
