-- What it tells of a wall that its fields fit: each of the 38 lies in its range. One law serves all of them, since the ranges stand in a table.
-- And what it tells of a load that it fits its wall.
use Rattle.std.proofs.lemmas.Bool.{false≢true}
use Rattle.std.specs.Prelude.{Option, None, Some, is_none}
use mathlib.Core.Path.{◌≡◌, refl, sym, subst, ap}
use mathlib.Core.Bool.{Bool, true, false, ◌&&◌, ◌||◌, cond, and-eq-true_iff}
use mathlib.Core.List.{List, [], ◌∷◌}
use Prim.Native.Nat.{ℕ, zero, suc, ◌+◌, ◌-◌, ◌≤◌, ◌<◌}
use native.Mathlib.Omega.{arith}
use lib.Dec.{T, leb, ltb, eqb, leb→le, le→leb, ltb→lt, eqb→eq}
use lib.Ieee.Bits.{is_true}
use lib.ListN.{length, get_or}
use borrow.Author.Tests.{leb-true, le-leb}
use Rattle.rules.specs.declared.Range.{Range}
use Rattle.rules.specs.declared.Range.TheVariants.{Between, UpToTop, AlongBase, UnderBase, ABar}
use Rattle.rules.specs.JobFile.{Wall, Load, wall_fields, bars, among, has_downstand, within, base_length, crest_height, wall_height, downstand_position, downstand_thickness, field, ranges, first_outside, first_bad_field, wall_fits, direction, position, dead_load, live_load, greatest_load, reach, load_fits}
use Rattle.rules.specs.ToeAndStem.{bar_areas}

-- ---- tests

pub both : (a b : Bool) → T (a && b) → T a × T b
both true b t = (tt, t)
both false b t = absurd t

pub either : {P : Type 0} (a b : Bool) → T (a || b) → (T a → P) → (T b → P) → P
either true b t f g = f tt
either false b t f g = g t

abbrev pub every : {A : Type 0} → (A → Bool) → List A → Bool
every p [] = true
every p (m ∷ ms) = p m && every p ms

-- what each of some numbers has, a number among them has
among_has : (p : ℕ → Bool) (n : ℕ) (ms : List ℕ) → T (every p ms) → T (among n ms) → T (p n)
unfolding among
among_has p n [] all t = absurd t
among_has p n (m ∷ ms) all t =
    let h = both (p m) (every p ms) all in
    either (eqb n m) (among n ms) t (λ e. subst (λ (k : ℕ). T (p k)) (sym (eqb→eq n m e)) h.0) (among_has p n ms h.1)

-- ---- every field of a wall that fits

passed : (b : Bool) (rest : Option ℕ) (number : ℕ) → cond b rest (Some number) ≡ None → T b × (rest ≡ None)
passed true rest number e = (tt, e)
passed false rest number e = absurd (false≢true (ap is_none e))

-- where none from a number on is outside its range, each is within
inside : (wall : Wall) (number : ℕ) (rs : List Range) → first_outside wall (suc number) rs ≡ None
    → (i : ℕ) → i < length rs → T (within wall (get_or rs i ABar) (get_or wall (number + i) 0))
unfolding first_outside
inside wall number [] e i h = absurd (omega arith)
inside wall number (r ∷ rs) e zero h =
    let k : suc number - 1 ≡ number + 0 = omega arith in
    rw k at (passed (within wall r (field wall (suc number))) _ _ e).0
inside wall number (r ∷ rs) e (suc i) h =
    let k : suc number + i ≡ number + suc i = omega arith in
    rw k at (inside wall (suc number) rs (passed (within wall r (field wall (suc number))) _ _ e).1 i (omega arith))

-- a wall that fits has no field out of range
pub no_bad_field : (wall : Wall) → T (wall_fits wall) → first_bad_field wall ≡ None
unfolding wall_fits
no_bad_field wall = go (first_bad_field wall)
  where
    go : (bad : Option ℕ) → T (is_none bad) → bad ≡ None
    go None t = refl
    go (Some field) t = absurd t

-- the field at an index, which is its number less 1
pub field_within : (wall : Wall) → T (wall_fits wall) → (i : ℕ) → i < wall_fields → T (within wall (get_or ranges i ABar) (get_or wall i 0))
unfolding first_bad_field
field_within wall fits i h =
    let k : 0 + i ≡ i = omega arith in rw k at (inside wall 0 ranges (no_bad_field wall fits) i h)

-- a number lies between two others, both included
abbrev pub Lies : ℕ → ℕ → ℕ → Type 0
Lies low high n = (low ≤ n) × (n ≤ high)

-- what it says of a number that it is in a range
abbrev pub InRange : Wall → Range → ℕ → Type 0
InRange wall (Between low high) n = Lies low high n
InRange wall UpToTop n = n ≤ wall_height wall
InRange wall AlongBase n = T (within wall AlongBase n)
InRange wall (UnderBase low high) n = T (within wall (UnderBase low high) n)
InRange wall ABar n = T (among n bars)

pub in_range : (wall : Wall) (range : Range) (n : ℕ) → T (within wall range n) → InRange wall range n
unfolding within
in_range wall (Between low high) n t = omega (arith, leb-true, simp and-eq-true_iff at (is_true (leb low n && leb n high) t))
in_range wall UpToTop n t = leb→le n (wall_height wall) t
in_range wall AlongBase n t = t
in_range wall (UnderBase low high) n t = t
in_range wall ABar n t = t

pub within_range : (wall : Wall) (range : Range) (n : ℕ) → InRange wall range n → T (within wall range n)
unfolding within
within_range wall (Between low high) n lies = rw (le-leb low n lies.0, le-leb n high lies.1) tt
within_range wall UpToTop n below = le→leb n (wall_height wall) below
within_range wall AlongBase n t = t
within_range wall (UnderBase low high) n t = t
within_range wall ABar n t = t

-- the range of a field, by its number, and what is known of the field
abbrev pub range_of : ℕ → Range
range_of number = get_or ranges (number - 1) ABar

abbrev pub Ranged : Wall → ℕ → Type 0
Ranged wall number = InRange wall (range_of number) (field wall number)

pub ranged : (wall : Wall) → T (wall_fits wall) → (number : ℕ) → T (ltb (number - 1) wall_fields) → Ranged wall number
ranged wall fits number h = in_range wall (range_of number) (field wall number) (field_within wall fits (number - 1) (ltb→lt (number - 1) wall_fields h))

-- ---- limits, all of which follow from the table

-- the thickest bar
abbrev pub thickest : ℕ
thickest = get_or bars (length bars - 1) 0

abbrev pub highest : Range → ℕ
highest (Between low high) = high
highest UpToTop = 0
highest AlongBase = 0
highest (UnderBase low high) = high
highest ABar = thickest

-- the greatest that a field can be, by its number; fields 9 and 37 have no number of their own
abbrev pub most : ℕ → ℕ
most number = highest (range_of number)

-- the longest base has a toe, a stem and a heel of the greatest lengths, the highest wall such a stem, base and downstand; its crest stands no higher above the base than stem and base allow
abbrev pub longest : ℕ
longest = most 4 + most 3 + most 5

abbrev pub tallest : ℕ
tallest = most 2 + most 6 + most 36

-- no bar is thicker than the thickest, and each diameter has an area
pub bar_most : (bar : ℕ) → T (among bar bars) → bar ≤ thickest
bar_most bar t = leb→le bar thickest (among_has (λ n. leb n thickest) bar bars tt t)

pub areas_for_bars : length bar_areas ≡ length bars
areas_for_bars = refl

-- a downstand stands under the base; without one, both of its fields are 0
abbrev pub Downstand : Wall → Type 0
Downstand wall = (downstand_thickness wall ≤ most 38) × (downstand_position wall + downstand_thickness wall ≤ base_length wall)

downstand_within : (wall : Wall) → Ranged wall 37 → Ranged wall 38 → Downstand wall
unfolding within
downstand_within wall along under = go (downstand_position wall) (downstand_thickness wall) (has_downstand wall) along under
  where
    go : (ld td : ℕ) (has : Bool) → T (cond has (leb ld (base_length wall)) (eqb ld 0))
        → T (cond has (leb 100 td && leb td (most 38) && leb (ld + td) (base_length wall)) (eqb td 0)) → (td ≤ most 38) × (ld + td ≤ base_length wall)
    go ld td true a u = omega (arith, leb-true, simp and-eq-true_iff at (is_true (leb 100 td && leb td (most 38) && leb (ld + td) (base_length wall)) u))
    go ld td false a u = omega (arith, eqb→eq ld 0 a, eqb→eq td 0 u)

-- the fields of a wall that its forces read, each in its range
pub record WallWithin (wall : Wall) : Type 0 where
  pub stem_height : Ranged wall 2
  pub stem_thickness : Ranged wall 3
  pub toe_length : Ranged wall 4
  pub heel_length : Ranged wall 5
  pub base_thickness : Ranged wall 6
  pub cover : Ranged wall 7
  pub excavation : Ranged wall 8
  pub water : Ranged wall 9
  pub stem_density : Ranged wall 10
  pub base_density : Ranged wall 11
  pub moist_density : Ranged wall 12
  pub saturated_density : Ranged wall 13
  pub soil_density : Ranged wall 14
  pub active : Ranged wall 15
  pub rest : Ranged wall 16
  pub passive : Ranged wall 17
  pub tangent : Ranged wall 18
  pub surcharge : Ranged wall 20
  pub downstand_depth : Ranged wall 36
  pub downstand : Downstand wall

pub wall_within : (wall : Wall) → T (wall_fits wall) → WallWithin wall
wall_within wall fits =
    let of = ranged wall fits in
    record {
      stem_height = of 2 tt;
      stem_thickness = of 3 tt;
      toe_length = of 4 tt;
      heel_length = of 5 tt;
      base_thickness = of 6 tt;
      cover = of 7 tt;
      excavation = of 8 tt;
      water = of 9 tt;
      stem_density = of 10 tt;
      base_density = of 11 tt;
      moist_density = of 12 tt;
      saturated_density = of 13 tt;
      soil_density = of 14 tt;
      active = of 15 tt;
      rest = of 16 tt;
      passive = of 17 tt;
      tangent = of 18 tt;
      surcharge = of 20 tt;
      downstand_depth = of 36 tt;
      downstand = downstand_within wall (of 37 tt) (of 38 tt);
    }

-- the base's length and the wall's height, by those of their parts
pub base_length_lem : {wall : Wall} → WallWithin wall → Lies 200 longest (base_length wall)
unfolding base_length
base_length_lem w = omega arith

pub wall_height_lem : {wall : Wall} → WallWithin wall → wall_height wall ≤ tallest
unfolding wall_height crest_height
wall_height_lem w = omega arith

pub crest_height_lem : {wall : Wall} → WallWithin wall → crest_height wall ≤ tallest
unfolding crest_height
crest_height_lem w = omega arith

-- ---- a load that fits

-- each of its four numbers lies in its range
pub record LoadWithin (wall : Wall) (load : Load) : Type 0 where
  pub way : direction load ≤ 1
  pub place : position load ≤ reach wall load
  pub dead : dead_load load ≤ greatest_load
  pub live : live_load load ≤ greatest_load

pub load_within : (wall : Wall) (load : Load) → T (load_fits wall load) → LoadWithin wall load
unfolding load_fits
load_within wall load fits = omega (arith, leb-true, simp and-eq-true_iff at (is_true (load_fits wall load) fits))
