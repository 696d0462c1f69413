-- Sections: those of an accepted wall are workable, and what is known of a workable one.
use mathlib.Core.Path.{◌≡◌}
use mathlib.Core.Bool.{true, false, ◌&&◌, and-eq-true_iff}
use Prim.Native.Nat.{ℕ, ◌-◌, ◌*◌, ◌≤◌, ◌<◌}
use native.Mathlib.Nat.{mul-le-mul, mul-le-mul_right}
use native.Mathlib.Omega.{arith}
use borrow.Author.Tests.{le-leb, lt-ltb, ltb-true, ltb-false}
use lib.Dec.{T, leb, ltb, leb→le}
use lib.Ieee.Bits.{is_true}
use Rattle.whole.proofs.Lists.{case}
use Rattle.whole.specs.Rounding.{rounded_up}
use Rattle.whole.proofs.Rounded.{up_least}
use Rattle.rules.specs.declared.Section.{Section}
use Rattle.rules.specs.JobFile.{Wall, toe_bar, stem_bar, heel_bar, wall_fits}
use Rattle.rules.specs.Forces.{squared}
use Rattle.rules.specs.ToeAndStem.{section_of, toe_section, stem_section, heel_section, twice_depth, needs_compression, lever_arm, needed_area, least_area, required_area}
use Rattle.rules.specs.Beyond.{section_limit, is_small, is_workable}
use Rattle.rules.proofs.Accepted.{both, ranged, bar_most}
use Rattle.rules.proofs.Lever.{toe_depth, stem_depth, heel_depth, HasLever, deep_lever}
use Rattle.rules.proofs.Sizes.{Small}

-- each number of a section is below the limit
pub record Bounded (s : Section) : Type 0 where
  pub thickness : s.thickness < section_limit
  pub cover : s.cage.cover < section_limit
  pub bar : s.cage.bar < section_limit
  pub spacing : s.cage.spacing < section_limit
  pub stress : s.cage.stress < section_limit
  pub concrete : s.concrete < section_limit
  pub steel : s.steel < section_limit
  pub least : s.least < section_limit

-- ---- the tests of a section

pub bounded : (s : Section) → T (is_small s) → Bounded s
unfolding is_small
bounded s t = omega (arith, ltb-true, simp and-eq-true_iff at (is_true (is_small s) t))

small : {s : Section} → Bounded s → is_small s ≡ true
unfolding is_small
small b = rw (of b.thickness, of b.cover, of b.bar, of b.spacing, of b.stress, of b.concrete, of b.steel, of b.least)
  where
    of : {n m : ℕ} → n < m → ltb n m ≡ true
    of {n} {m} h = lt-ltb n m h

workable : {s : Section} → Bounded s → 1 ≤ s.steel → 2 ≤ twice_depth s → T (is_workable s)
unfolding is_workable
workable {s} b strong deep = rw (small b, le-leb 1 s.steel strong, le-leb 2 (twice_depth s) deep) tt

-- ---- the sections of an accepted wall: no number of the table of ranges comes near the limit

module _ (wall : Wall) (fits : T (wall_fits wall)) where
  abbrev Low : ℕ → Type 0
  Low n = n < section_limit

  -- a section has its own thickness and cage, and the wall's materials
  own : {t c b s v : ℕ} → Low t → Low c → Low b → Low s → Low v
      → let section = section_of wall t (record { cover = c; bar = b; spacing = s; stress = v }) in 2 ≤ twice_depth section → T (is_workable section)
  own thick covered bar spaced stressed deep =
      let of = ranged wall fits in
      workable
      (record {
        thickness = thick;
        cover = covered;
        bar = bar;
        spacing = spaced;
        stress = stressed;
        concrete = omega (arith, of 21 tt);
        steel = omega (arith, of 22 tt);
        least = omega (arith, of 23 tt);
      })
      (omega (arith, of 22 tt)) deep

  pub toe_workable : T (is_workable (toe_section wall))
  toe_workable =
      let of = ranged wall fits in
      own (omega (arith, of 6 tt)) (omega (arith, of 24 tt)) (omega (arith, bar_most (toe_bar wall) (of 25 tt))) (omega (arith, of 26 tt)) (omega (arith, of 30 tt))
      (toe_depth wall fits)

  pub stem_workable : T (is_workable (stem_section wall))
  stem_workable =
      let of = ranged wall fits in
      own (omega (arith, of 3 tt)) (omega (arith, of 27 tt)) (omega (arith, bar_most (stem_bar wall) (of 28 tt))) (omega (arith, of 29 tt)) (omega (arith, of 31 tt))
      (stem_depth wall fits)

  pub heel_workable : T (is_workable (heel_section wall))
  heel_workable =
      let of = ranged wall fits in
      own (omega (arith, of 6 tt)) (omega (arith, of 32 tt)) (omega (arith, bar_most (heel_bar wall) (of 33 tt))) (omega (arith, of 34 tt)) (omega (arith, of 35 tt))
      (heel_depth wall fits)

-- ---- what a workable section gives

-- its numbers are bounded, its steel has some strength, and wherever no compression steel is needed its lever arm keeps the three tests
pub record Workable (s : Section) : Type 0 where
  pub bounded : Bounded s
  pub strong : 1 ≤ s.steel
  pub lever : HasLever s

pub of_workable : (s : Section) → T (is_workable s) → Workable s
unfolding is_workable
of_workable s t =
    let last = both (is_small s && leb 1 s.steel) (leb 2 (twice_depth s)) t in
    let first = both (is_small s) (leb 1 s.steel) last.0 in
    record {
      bounded = bounded s first.0;
      strong = leb→le 1 s.steel first.1;
      lever = deep_lever s (leb→le 2 (twice_depth s) last.1);
    }

-- twice the depth is at most twice the limit
abbrev pub deepest : ℕ
deepest = 2 * section_limit

pub depth_most : {s : Section} → Bounded s → twice_depth s ≤ deepest
unfolding twice_depth
depth_most b = omega arith

-- the concrete's strength and D, of such a section
pub record Within (fcu D : ℕ) : Type 0 where
  pub strength : fcu ≤ section_limit
  pub depth : D ≤ deepest

-- the greatest moment that any such section bears without compression steel
abbrev pub greatest_moment : ℕ
greatest_moment = 39 * section_limit * squared deepest

pub moment_most : (M fcu D : ℕ) → Within fcu D → needs_compression M fcu D ≡ false → M ≤ greatest_moment
unfolding needs_compression
moment_most M fcu D w e = omega (arith, ltb-false (39 * fcu * squared D) M e, mul-le-mul w.strength (mul-le-mul w.depth w.depth))

-- a moment that the concrete bears at a lever arm Z needs no more steel there than this
needed_most : (M fcu fy Z rest : ℕ) → M ≤ 225 * fcu * Z * rest → fcu ≤ section_limit → rest ≤ deepest → 1 ≤ fy
    → rounded_up (20000 * M) (87 * fy * Z) ≤ 4500000 * (section_limit * deepest)
needed_most M fcu fy Z rest bears strength depth strong =
    up_least (87 * fy * Z) (omega (arith, mul-le-mul_right Z (mul-le-mul strength depth), mul-le-mul_right Z strong))

-- the steel that it requires
pub required_most : (s : Section) → T (is_workable s) → (M : ℕ) → Small (required_area s M)
unfolding required_area needed_area least_area
required_most s t M =
    let w = of_workable s t in
    let fcu = s.concrete in
    let D = twice_depth s in
    let Z = lever_arm M fcu D in
    let few = mul-le-mul (lt→le w.bounded.least) (lt→le w.bounded.thickness) in
    case (needs_compression M fcu D) _ _ Small (λ h. omega arith)
    (λ h. omega (arith, needed_most M fcu s.steel Z (D - Z) (w.lever M h).strong (omega arith) (omega (arith, depth_most w.bounded)) w.strong))
  where
    lt→le : {a b : ℕ} → a < b → a ≤ b
    lt→le h = omega arith
