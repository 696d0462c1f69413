-- Document 01, "The sheet line": what the word of failures tells. A bit is set just where the words of its check hold, and no other bit is ever set.
use mathlib.Core.Path.{◌≡◌, refl, ◌∙◌}
use mathlib.Core.Logic.Iff
use mathlib.Core.Logic.{◌↔◌, ◌≢◌, ◌⊎◌, inl, inr, ⊎_elim, dite}
use mathlib.Core.Bool.{Bool, true, false, not, ◌&&◌, ◌||◌, cond, and_assoc, or_assoc}
use mathlib.Core.List.{List, [], ◌∷◌, map}
use Prim.Native.Nat.{ℕ, zero, suc, ◌+◌, ◌*◌, ◌/◌, ◌%◌, ◌^◌, ◌≤◌, ◌<◌, max}
use native.Mathlib.Nat.{div-div-eq-div-mul, zero-div}
use native.Mathlib.Decide.{dec_lt}
use native.Mathlib.Omega.{arith}
use borrow.Author.Tests.{eq-eqb, ne_eqb, le-ltb}
use lib.Arith.{lt→nleb, le→nltb}
use lib.Dec.{T, ltb, leb, eqb, T_not, ltb→lt, lt→ltb, nltb→le, nleb→lt}
use lib.IntN.{ℤ, pos}
use lib.ListN.{length, get_or}
use lib.Signed.{lt_z, ◌<ℤ◌, lt_z_yes}
use Rattle.whole.specs.Rounding.{rounded_up}
use Rattle.rules.specs.declared.Check.{Check}
use Rattle.rules.specs.declared.Check.TheVariants.{Slides, Overturns, OverAllowable, NoServiceBlock, NoFactoredBlock, ToeSteel, StemSteel, Sheared, HeelSteel}
use Rattle.rules.specs.declared.Kind.{Kind}
use Rattle.rules.specs.declared.Kind.TheVariants.{Full, FromToe, FromHeel, NoBlock}
use Rattle.rules.specs.declared.Section.{Section}
use Rattle.rules.specs.declared.Member.{Member}
use Rattle.rules.specs.declared.Totals.{Totals}
use Rattle.rules.specs.JobFile.{Wall, Load, kind, toe_length, heel_length, allowable_bearing}
use Rattle.rules.specs.Forces.{squared, service, passive, friction, is_propped, sliding_under, sliding_of}
use Rattle.rules.specs.Bearing.{service_scale, reported, no_block, of_kind, block_of, given, block_under, service_block, factored_block, is_given_kind, pressed_by}
use Rattle.rules.specs.ToeAndStem.{toe_worked, toe_action, stem_action, heel_worked, heel_action, toe_section, stem_section, heel_section, twice_depth, needs_compression, provided_area, required_area, steel_fails, shear_fails, member_under, no_member, toe_under, toe, stem, heel_under, heel}
use Rattle.rules.specs.SheetLine.{worked_wall, fails_by, fails, bit, checks, bits_among, failures_by, failures, is_set}

-- ---- binary digits

-- a number by its digits, the lowest first
abbrev by_digits : List Bool → ℕ
by_digits [] = 0
by_digits (d ∷ ds) = cond d 1 0 + 2 * by_digits ds

at_most_one : (d : Bool) → cond d 1 0 ≤ 1
at_most_one true = omega arith
at_most_one false = omega arith

doubled : (k : ℕ) → 2 ^ suc k ≡ 2 * 2 ^ k
doubled k = omega arith

digit : (ds : List Bool) (k : ℕ) → by_digits ds / 2 ^ k % 2 ≡ cond (get_or ds k false) 1 0
digit [] k = rw (zero-div (2 ^ k))
digit (d ∷ ds) zero = omega (arith, at_most_one d)
digit (d ∷ ds) (suc k) =
    let half : by_digits (d ∷ ds) / 2 ≡ by_digits ds = omega (arith, at_most_one d) in
    rw (doubled, ← div-div-eq-div-mul, half) (digit ds k)

digits_below : (ds : List Bool) → by_digits ds < 2 ^ length ds
digits_below [] = omega arith
digits_below (d ∷ ds) = omega (arith, at_most_one d, doubled (length ds), digits_below ds)

-- ---- the bits of the checks that a test picks

-- the bits of checks are n, 2n, 4n and so on
abbrev Doubling : ℕ → List Check → Type 0
Doubling n [] = Unit
Doubling n (check ∷ rest) = (bit check ≡ n) × Doubling (2 * n) rest

doubling : Doubling 1 checks
doubling = (refl, (refl, (refl, (refl, (refl, (refl, (refl, (refl, (refl, tt)))))))))

module _ (picks : Check → Bool) where
  -- so the bits that are picked are digits, each in its place
  digits_of : (n : ℕ) (list : List Check) → Doubling n list → bits_among list picks ≡ n * by_digits (map picks list)
  unfolding bits_among
  digits_of n [] h = omega arith
  digits_of n (check ∷ rest) h = rw h.0 (omega (arith, weighed (picks check), digits_of (2 * n) rest h.1))
    where
      weighed : (d : Bool) → cond d n 0 ≡ n * cond d 1 0
      weighed true = omega arith
      weighed false = omega arith

  -- each digit tells whether the check in its place is picked
  digit_picked : (k : ℕ) → eqb (bits_among checks picks / 2 ^ k % 2) 1 ≡ get_or (map picks checks) k false
  digit_picked k =
      let e : bits_among checks picks ≡ by_digits (map picks checks) = omega (arith, digits_of 1 checks doubling) in
      rw (e, digit (map picks checks) k) (is_one (get_or (map picks checks) k false))
    where
      is_one : (d : Bool) → eqb (cond d 1 0) 1 ≡ d
      is_one true = refl
      is_one false = refl

  bit_picked : (check : Check) → is_set (bits_among checks picks) check ≡ picks check
  unfolding is_set
  bit_picked Slides = digit_picked 0
  bit_picked Overturns = digit_picked 1
  bit_picked OverAllowable = digit_picked 2
  bit_picked NoServiceBlock = digit_picked 3
  bit_picked NoFactoredBlock = digit_picked 4
  bit_picked ToeSteel = digit_picked 5
  bit_picked StemSteel = digit_picked 6
  bit_picked Sheared = digit_picked 7
  bit_picked HeelSteel = digit_picked 8

  -- a digit that is set is that of a check that is picked
  check_at : (n : ℕ) (list : List Check) → Doubling n list → (k : ℕ) → T (get_or (map picks list) k false)
      → (check : Check) × (bit check ≡ n * 2 ^ k) × T (picks check)
  check_at n [] h k t = absurd t
  check_at n (check ∷ rest) h zero t = (check, omega arith, t)
  check_at n (check ∷ rest) h (suc k) t =
      let e : n * 2 ^ suc k ≡ 2 * n * 2 ^ k = rw doubled (omega arith) in rw e (check_at (2 * n) rest h.1 k t)

-- ---- what document 01 says of each check

-- steel fails under a moment M: compression steel would be needed, or less is provided than required
abbrev pub SteelShort : Section → ℕ → Type 0
SteelShort s M = (39 * s.concrete * squared (twice_depth s) < M) ⊎ (provided_area s.cage.bar s.cage.spacing < required_area s M)

-- a shear breaks one of its three tests
abbrev pub ShearBroken : Section → ℕ → Type 0
ShearBroken s shear =
    let D = twice_depth s in
    (s.cage.stress * D ≤ 2 * shear) ⊎ (5000 * D < 2 * shear) ⊎ (64 * s.concrete * squared (1000 * D) < 100 * squared (2 * shear))

-- the toe is checked: there is one, and a factored block under it
abbrev pub ToeChecked : Wall → List Load → Type 0
ToeChecked wall loads = (0 < toe_length wall) × ((factored_block wall loads).kind ≢ NoBlock)

-- and so is the heel
abbrev pub HeelChecked : Wall → List Load → Type 0
HeelChecked wall loads = (0 < heel_length wall) × ((factored_block wall loads).kind ≢ NoBlock)

abbrev pub Stated : Check → Wall → List Load → Type 0
Stated Slides wall loads = (kind wall ≢ 1) × (pos (passive wall + friction wall loads) <ℤ (service wall loads).H)
Stated Overturns wall loads = (service wall loads).Mrest <ℤ (service wall loads).Mot
Stated OverAllowable wall loads =
    (1000 * allowable_bearing wall < reported service_scale (service_block wall loads).toe)
    ⊎ (1000 * allowable_bearing wall < reported service_scale (service_block wall loads).heel)
Stated NoServiceBlock wall loads = (service_block wall loads).kind ≡ NoBlock
Stated NoFactoredBlock wall loads = (factored_block wall loads).kind ≡ NoBlock
Stated ToeSteel wall loads = ToeChecked wall loads × SteelShort (toe_section wall) (toe_action wall (factored_block wall loads)).moment
Stated StemSteel wall loads = SteelShort (stem_section wall) (stem_action wall loads).moment
Stated Sheared wall loads =
    (ToeChecked wall loads × ShearBroken (toe_section wall) (toe_action wall (factored_block wall loads)).shear)
    ⊎ ShearBroken (stem_section wall) (stem_action wall loads).shear
    ⊎ (HeelChecked wall loads × ShearBroken (heel_section wall) (heel_action wall (factored_block wall loads)).shear)
Stated HeelSteel wall loads = HeelChecked wall loads × SteelShort (heel_section wall) (heel_action wall (factored_block wall loads)).moment

-- ---- tests and the facts that they decide

-- a test is passed just where a fact holds
record Passed (test : Bool) (Fact : Type 0) : Type 0 where
  passed : T test ↔ Fact

is_less : {m n : ℕ} → Passed (ltb m n) (m < n)
is_less {m} {n} = record { passed = (ltb→lt m n, lt→ltb m n) }

is_less_ℤ : {a b : ℤ} → Passed (lt_z a b) (a <ℤ b)
is_less_ℤ = record { passed = (lt_z_yes, λ h. h.lt) }

less_than_either : {n a b : ℕ} → Passed (ltb n (max a b)) ((n < a) ⊎ (n < b))
less_than_either {n} {a} {b} =
    let less : (n < max a b) ↔ ((n < a) ⊎ (n < b)) = (λ h. dite (dec_lt n a) inl (λ k. inr (omega arith)), ⊎_elim (λ h. omega arith) (λ h. omega arith)) in
    record { passed = Iff.trans is_less.passed less }

not_less : {m n : ℕ} → Passed (not (ltb m n)) (n ≤ m)
not_less {m} {n} = record { passed = (nltb→le m n, le→nltb m n) }

not_most : {m n : ℕ} → Passed (not (leb m n)) (n < m)
not_most {m} {n} = record { passed = (nleb→lt m n, lt→nleb m n) }

not_equal : {m n : ℕ} → Passed (not (eqb m n)) (m ≢ n)
not_equal {m} {n} = record { passed = (λ t e. T_not (eqb m n) t (rw (eq-eqb m n e) tt), λ h. rw (ne_eqb m n h) tt) }

not_given : {k : Kind} → Passed (not (is_given_kind k)) (k ≡ NoBlock)
not_given {k} = record { passed = (none k, λ e. rw e tt) }
  where
    none : (k : Kind) → T (not (is_given_kind k)) → k ≡ NoBlock
    none Full t = absurd t
    none FromToe t = absurd t
    none FromHeel t = absurd t
    none NoBlock t = refl

-- tests made of tests
unless : {A : Type 0} {a : Bool} → Passed (not a) A → Passed a (A → ⊥)
unless {a = true} f = record { passed = (λ t. f.passed.1, λ n. tt) }
unless {a = false} f = record { passed = (λ t. absurd t, λ n. n (f.passed.0 tt)) }

module _ {A B : Type 0} where
  or : {a b : Bool} → Passed a A → Passed b B → Passed (a || b) (A ⊎ B)
  or {a = true} f g = record { passed = (λ t. inl (f.passed.0 tt), λ s. tt) }
  or {a = false} f g = record { passed = (λ t. inr (g.passed.0 t), ⊎_elim (λ x. absurd (f.passed.1 x)) g.passed.1) }

  and : {a b : Bool} → Passed a A → Passed b B → Passed (a && b) (A × B)
  and {a = true} f g = record { passed = (λ t. (f.passed.0 tt, g.passed.0 t), λ p. g.passed.1 p.1) }
  and {a = false} f g = record { passed = (λ t. absurd t, λ p. f.passed.1 p.0) }

-- ---- each check

steel_short : (s : Section) (M : ℕ) → Passed (steel_fails s M) (SteelShort s M)
unfolding steel_fails needs_compression
steel_short s M = or is_less is_less

not_both : (a b : Bool) → not (a && b) ≡ not a || not b
not_both true b = refl
not_both false b = refl

shear_broken : (s : Section) (shear : ℕ) → Passed (shear_fails s shear) (ShearBroken s shear)
unfolding shear_fails
shear_broken s shear = rw (and_assoc, not_both, not_both) (or not_less (or not_most not_most))

-- a check of a member that may not be there: it isn't made of one that isn't
check_if : (check : Member → Bool) → check no_member ≡ false → (b : Bool) (m : Member) → check (cond b m no_member) ≡ (b && check m)
check_if check e true m = refl
check_if check e false m = e

module _ (wall : Wall) (loads : List Load) where
  toe_checked : Passed (toe_worked wall (factored_block wall loads)) (ToeChecked wall loads)
  unfolding toe_worked
  toe_checked = and is_less (unless not_given)

  heel_checked : Passed (heel_worked wall (factored_block wall loads)) (HeelChecked wall loads)
  unfolding heel_worked
  heel_checked = and is_less (unless not_given)

  -- so each check's test is passed just where its words hold
  decided : (check : Check) → Passed (fails check wall loads) (Stated check wall loads)
  unfolding worked_wall fails_by pressed_by sliding_of sliding_under is_propped toe toe_under stem heel heel_under member_under
  decided Slides = and not_equal is_less_ℤ
  decided Overturns = is_less_ℤ
  decided OverAllowable = less_than_either
  decided NoServiceBlock = not_given
  decided NoFactoredBlock = not_given
  decided ToeSteel = rw (check_if (λ m. m.steel.fails) refl) (and toe_checked (steel_short _ _))
  decided StemSteel = steel_short _ _
  decided Sheared =
      rw (or_assoc, check_if (λ m. m.sheared) refl (toe_worked wall _), check_if (λ m. m.sheared) refl (heel_worked wall _)) (or (and toe_checked (shear_broken _ _)) (or (shear_broken _ _) (and heel_checked (shear_broken _ _))))
  decided HeelSteel = rw (check_if (λ m. m.steel.fails) refl) (and heel_checked (steel_short _ _))

  pub stated : (check : Check) → T (fails check wall loads) ↔ Stated check wall loads
  stated check = (decided check).passed

  -- the checks that fail
  abbrev failing : Check → Bool
  failing check = fails check wall loads

  -- a check's bit is set just where its words hold
  pub bits : (check : Check) → T (is_set (failures wall loads) check) ↔ Stated check wall loads
  unfolding failures_by
  bits check = rw (bit_picked failing check) (stated check)

  -- failures are two bytes, of which three hex digits show all
  pub two_bytes : failures wall loads < 512
  unfolding failures_by
  two_bytes = omega (arith, digits_of failing 1 checks doubling, digits_below (map failing checks))

  -- and a bit that is set is that of a check whose words hold
  pub nothing_else : (k : ℕ) → failures wall loads / 2 ^ k % 2 ≡ 1 → (check : Check) × (bit check ≡ 2 ^ k) × Stated check wall loads
  unfolding failures_by
  nothing_else k e =
      let found = check_at failing 1 checks doubling k (rw (← digit_picked failing k, e) tt) in (found.0, omega arith, (stated found.0).0 found.2)

-- ---- a block that isn't given

-- it has no figure
nothing : (b : Bool) (k : Kind) (R M6 l : ℤ) → (cond b (of_kind k R M6 l) no_block).kind ≡ NoBlock → cond b (of_kind k R M6 l) no_block ≡ no_block
unfolding of_kind
nothing false k R M6 l e = refl
nothing true Full R M6 l e = cc
nothing true FromToe R M6 l e = cc
nothing true FromHeel R M6 l e = cc
nothing true NoBlock R M6 l e = refl

-- its pressures are 0
pub no_pressure : (scale : ℕ) (t : Totals) (wall : Wall) → (block_under scale t wall).kind ≡ NoBlock
    → (reported scale (block_under scale t wall).toe ≡ 0) × (reported scale (block_under scale t wall).heel ≡ 0)
unfolding block_under given block_of reported rounded_up
no_pressure scale t wall e = rw (nothing _ _ _ _ _ e) (omega arith)

-- so no service pressure is over the allowable where no service block is given
pub clear_without_block : (wall : Wall) (loads : List Load) → T (is_set (failures wall loads) NoServiceBlock)
    → is_set (failures wall loads) OverAllowable ≡ false
unfolding failures_by service_block worked_wall fails_by pressed_by
clear_without_block wall loads t =
    let none = no_pressure service_scale (service wall loads) wall ((bits wall loads NoServiceBlock).0 t) in
    bit_picked (failing wall loads) OverAllowable ∙ rw (none.0, none.1) (le-ltb (1000 * allowable_bearing wall) 0 (omega arith))
