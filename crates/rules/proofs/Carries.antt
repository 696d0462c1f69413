-- Document 01, "The bearing block": a block that is given is never negative, stays on the base, carries exactly the vertical total at exactly its
-- moment, and no other straight-line block does. The cases of M6 leave nothing out and overlap nowhere. Where M6 isn't above 0, or isn't below 6Rl, no block
-- would do.
use Rattle.rules.proofs.Replies.{gives_worked, gives_refusal}
use Rattle.std.specs.Prelude.{Ok, is_err}
use mathlib.Core.Path.{◌≡◌, refl, sym, ap, ◌∙◌}
use mathlib.Core.Logic.{◌↔◌, ◌⊎◌, inl, inr, ⊎_elim}
use mathlib.Core.Bool.{Bool, true, false, not, ◌&&◌, ◌||◌, cond}
use mathlib.Core.List.{List, [], ◌∷◌}
use Prim.Native.Nat.{ℕ, suc, ◌+◌, ◌*◌, ◌<◌}
use native.Mathlib.Nat.{mul-pos, mul-lt-mul_of_pos_right, eq_of_mul-eq-mul_right, le_of_mul-le-mul_right, lt_of_mul-lt-mul_right}
use native.Mathlib.Omega.{arith}
use lib.Dec.{T, leb}
use lib.IntN.{ℤ, pos, negsuc, nat_abs, ◌+ℤ◌, ◌-ℤ◌, ◌*ℤ◌, +ℤ_idr, +ℤ_comm, -ℤ-+ℤ_cancel, zero-*ℤ, *ℤ_comm}
use lib.Signed.{le_z, ◌≤ℤ◌, ◌<ℤ◌, ≤ℤ_refl, <ℤ-≤ℤ_trans, clash_ℤ, le_z_yes, lt_z_yes}
use Rattle.whole.specs.Parts.{above_zero, below_zero}
use Rattle.whole.proofs.Integer.{itself, diff_sub, diff_mul, diff_eq, eq_diff, diff_le, diff_lt, lt_diff, lt_parts, *ℤ-idr, ≤ℤ-of-<ℤ, ≤ℤ-trans, ≤ℤ-<ℤ-trans, <ℤ-trans, le_le_z, lt_le_z, lt_z_le_z, ≤ℤ-or-<ℤ, pos-≤ℤ, pos-<ℤ, sub_nonneg, Whole, whole, is_whole, Above, above, is_above, nonneg_factor}
use Rattle.whole.proofs.Lists.{case}
use Rattle.rules.specs.declared.Fraction.{Fraction}
use Rattle.rules.specs.declared.Kind.{Kind}
use Rattle.rules.specs.declared.Kind.TheVariants.{Full, FromToe, FromHeel, NoBlock}
use Rattle.rules.specs.declared.Block.{Block}
use Rattle.rules.specs.declared.Totals.{Totals}
use Rattle.rules.specs.JobFile.{Wall, Load, base_length}
use Rattle.rules.specs.Forces.{service, factored}
use Rattle.rules.specs.Bearing.{◌over◌, over_one, plus, minus, times, Same, Proper, Triangle, HasKind, StraightLine, carried, six_moments_as, six_moments, SameBlock, is_none, is_full, is_from_toe, is_from_heel, kind_of, no_block, of_kind, block_of, service_scale, factored_scale, peak, greatest_peak, given, block_under, service_block, factored_block, is_given_kind, is_given}
use Rattle.rules.specs.Beyond.{fits, worked_bearing, bearing_of, examined}
use Rattle.rules.proofs.Accepted.{wall_within, base_length_lem}
use Rattle.rules.proofs.Examined.{fit}
use Rattle.rules.proofs.Sizes.{service_sized, factored_sized}

-- ---- what is proved of a block

-- a straight-line block with neither end negative, and its contact above 0 and at most l; it carries R and turns M6, and no other one does
pub record Bears (R M6 l : ℤ) (b : Block) : Type 0 where
  pub straight : StraightLine l b
  pub toe : pos 0 ≤ℤ b.toe.over
  pub heel : pos 0 ≤ℤ b.heel.over
  pub some : pos 0 <ℤ b.contact.over
  pub within : b.contact.over ≤ℤ (l *ℤ b.contact.under)
  pub carries : Same (carried b) (over_one R)
  pub turns : Same (six_moments l b) (over_one M6)
  pub only : (other : Block) → StraightLine l other → Same (carried other) (over_one R) → Same (six_moments l other) (over_one M6) → SameBlock other b

-- R and M6 make a block of this kind on a base of length l
abbrev pub Makes : Kind → ℤ → ℤ → ℤ → Type 0
Makes Full R M6 l = ((pos 2 *ℤ R *ℤ l) ≤ℤ M6) × (M6 ≤ℤ (pos 4 *ℤ R *ℤ l))
Makes FromToe R M6 l = (pos 0 <ℤ M6) × (M6 <ℤ (pos 2 *ℤ R *ℤ l))
Makes FromHeel R M6 l = ((pos 4 *ℤ R *ℤ l) <ℤ M6) × (M6 <ℤ (pos 6 *ℤ R *ℤ l))
Makes NoBlock R M6 l = (M6 ≤ℤ pos 0) ⊎ ((pos 6 *ℤ R *ℤ l) ≤ℤ M6)

-- how many tests are passed
abbrev pub trues : List Bool → ℕ
trues [] = 0
trues (true ∷ rest) = suc (trues rest)
trues (false ∷ rest) = trues rest

-- ---- what a block carries, by its two ends and its contact

abbrev bearing : Fraction → Fraction → Fraction → Fraction
bearing t g c = times (times (plus t g) c) (pos 1 over pos 2)

-- it is the same seen from the heel
turned : (R : ℤ) (b : Block) → Same (carried b) (over_one R) ↔ Same (bearing b.heel b.toe b.contact) (over_one R)
turned R b =
    let s = +ℤ_comm (b.toe.over *ℤ b.heel.under) (b.heel.over *ℤ b.toe.under) in
    let m = *ℤ_comm b.toe.under b.heel.under in
    (λ e. rw (s, m) at e, λ e. rw (s, m) e)

-- ---- triangles

-- in natural numbers: one of peak a/x and contact p/q, which is short of l, carries R
data Carrying : ℤ → ℤ → Fraction → Fraction → Type 0 where
  carrying : {R l a x p q : ℕ} → 0 < R → 0 < x → 0 < p → 0 < q → p < l * q → a * p ≡ R * (x * q * 2)
      → Carrying (pos R) (pos l) (pos a over pos x) (pos p over pos q)

-- a straight-line one that does: its far end adds nothing
peak_carries : {R l : ℤ} (t far c : Fraction) → pos 0 <ℤ R → pos 0 <ℤ l → pos 0 <ℤ t.under → pos 0 <ℤ far.under → pos 0 <ℤ c.under
    → Triangle l far c → Same (bearing t far c) (over_one R) → Carrying R l t c
peak_carries t far c hR hl ht hf hc s e =
    let fallen = sym (*ℤ-idr far.over) ∙ s.falls ∙ zero-*ℤ far.under in
    go t.over (is_above hR) (is_above hl) (is_above ht) (is_above hf) (is_above s.some) (is_above hc) s.short
    (simp (fallen, zero-*ℤ, +ℤ_idr, *ℤ-idr) at e)
  where
    go : (a : ℤ) {R l x y p q : ℤ} → Above R → Above l → Above x → Above y → Above p → Above q → p <ℤ (l *ℤ q)
        → a *ℤ y *ℤ p ≡ R *ℤ (x *ℤ y *ℤ q *ℤ pos 2) → Carrying R l (a over x) (p over q)
    go (pos a) (above R hR) (above l hl) (above x hx) (above y hy) (above p hp) (above q hq) s e =
        carrying hR hx hp hq (pos-<ℤ.0 s) (eq_of_mul-eq-mul_right y hy (a * p) (R * (x * q * 2)) (omega (arith, ap nat_abs e)))
    go (negsuc a) (above R hR) (above l hl) (above x hx) (above y hy) (above p hp) (above q hq) s e =
        absurd (nonneg_factor {a = negsuc a} hy (nonneg_factor hp (rw e (pos-≤ℤ.1 (omega arith))))).le

-- where six times its moment about its own end is N, R and N make a triangle there, and it has its figures
triangle_figures : (N : ℤ) {R l : ℤ} {t c : Fraction} → Carrying R l t c → Same (times t (times c c)) (over_one N)
    → Makes FromToe R N l × Same t (pos 4 *ℤ R *ℤ R over N) × Same c (N over pos 2 *ℤ R)
triangle_figures (negsuc n) (carrying hR hx hp hq s e) t =
    absurd (nonneg_factor {a = negsuc n} (mul-pos hx (mul-pos hq hq)) (rw (← t) (pos-≤ℤ.1 (omega arith)))).le
triangle_figures (pos n) (carrying {R = R} {l = l} {a = a} {x = x} {p = p} {q = q} hR hx hp hq s e) t =
    let f : a * (p * p) * 1 ≡ n * (x * (q * q)) = ap nat_abs t in
    let contact : p * (2 * R) ≡ n * q = eq_of_mul-eq-mul_right (x * q) (mul-pos hx hq) _ _ (omega (arith, ap (λ (k : ℕ). k * p) e)) in
    let peak : a * n ≡ 4 * R * R * x = eq_of_mul-eq-mul_right q hq _ _ (omega (arith, ap (λ (k : ℕ). a * k) contact, ap (λ (k : ℕ). k * R) e)) in
    let some : 0 < n = lt_of_mul-lt-mul_right q (omega (arith, mul-pos hp hR)) in
    let short : n < 2 * R * l = lt_of_mul-lt-mul_right q (omega (arith, mul-lt-mul_of_pos_right {k = R} s hR)) in
    ((pos-<ℤ.1 some, pos-<ℤ.1 short), ap pos peak, ap pos contact)

-- it turns M6 about the far end of the base where it turns 6Rl − M6 about its own
mirror : (M6 : ℤ) {R l : ℤ} {t c : Fraction} → Carrying R l t c
    → Same (times (times t c) (minus (over_one (pos 3 *ℤ l)) c)) (over_one M6) ↔ Same (times t (times c c)) (over_one (pos 6 *ℤ R *ℤ l -ℤ M6))
mirror M6 (carrying {R = R} {l = l} {a = a} {x = x} {p = p} {q = q} hR hx hp hq s e) =
    let f = ap (λ (k : ℕ). k * (3 * l * q)) e in
    let far = diff_mul _ _ (diff_mul _ _ (itself (pos (a * p))) (diff_sub (itself (pos (3 * l * q))) (itself (pos (p * 1))))) (itself (pos 1)) in
    let far-M6 = diff_mul M6 _ (itself M6) (itself (pos (x * q * (1 * q)))) in
    let own-N = diff_mul _ _ (diff_sub (itself (pos (6 * R * l))) (itself M6)) (itself (pos (x * (q * q)))) in
    (λ t. diff_eq (itself _) own-N (omega (arith, eq_diff far far-M6 t)), λ t. diff_eq far far-M6 (omega (arith, eq_diff (itself _) own-N t)))

-- what holds of the one that R and N make, seen from its own end
record Stands (R N l : ℤ) (t c : Fraction) : Type 0 where
  peak : pos 0 ≤ℤ t.over
  under : pos 0 <ℤ c.under
  shaped : Triangle l (over_one (pos 0)) c
  natural : Carrying R l t c
  carries : Same (bearing t (over_one (pos 0)) c) (over_one R)
  turns : Same (times t (times c c)) (over_one N)

stands : {R N l : ℤ} → Above R → Above N → Above l → N <ℤ (pos 2 *ℤ R *ℤ l) → Stands R N l (pos 4 *ℤ R *ℤ R over N) (N over pos 2 *ℤ R)
stands (above R hR) (above n hn) (above l hl) s =
    let short : n < l * (2 * R) = omega (arith, pos-<ℤ.0 s) in
    record {
      peak = pos-≤ℤ.1 (omega arith);
      under = pos-<ℤ.1 (omega arith);
      shaped = record { falls = refl; some = pos-<ℤ.1 hn; short = pos-<ℤ.1 short };
      natural = carrying {a = 4 * R * R} {q = 2 * R} hR hn hn (omega arith) short (omega arith);
      carries = ap pos (omega arith);
      turns = ap pos (omega arith);
    }

-- ---- blocks under all of l

-- where w + v x is u x, v is at most u and w is (u − v) x
end : (u v : ℤ) {w x : ℕ} → 0 < x → w + (above_zero v + below_zero u) * x ≡ (above_zero u + below_zero v) * x
    → (v ≤ℤ u) × (pos w ≡ (u -ℤ v) *ℤ pos x)
end u v {w} {x} h e =
    let n = diff_mul (u -ℤ v) (pos x) (diff_sub (itself u) (itself v)) (itself (pos x)) in
    (diff_le v u (itself v) (itself u) (le_of_mul-le-mul_right {k = x} (omega arith) h), diff_eq (itself (pos w)) n (omega arith))

-- where one carries R and turns M6, they make a full block, and it has its figures
full_figures : (M6 p : ℤ) {R l a x b y q : ℤ} → Above R → Above l → Above x → Above y → Above q → Whole a → Whole b → Same (p over q) (over_one l)
    → Same (bearing (a over x) (b over y) (p over q)) (over_one R)
    → Same (times (plus (a over x) (times (over_one (pos 2)) (b over y))) (over_one (l *ℤ l))) (over_one M6)
    → Makes Full R M6 l × Same (a over x) (pos 4 *ℤ R *ℤ l -ℤ M6 over l *ℤ l) × Same (b over y) (M6 -ℤ pos 2 *ℤ R *ℤ l over l *ℤ l)
full_figures M6 p (above R hR) (above l hl) (above x hx) (above y hy) (above q hq) (whole a) (whole b) h c t =
    let e : (a * y + b * x) * (l * q) * 1 * 1 ≡ R * (x * y * q * 2) = ap nat_abs (rw (sym (*ℤ-idr p) ∙ h) at c) in
    let f : (a * y + b * x) * l ≡ 2 * R * x * y = eq_of_mul-eq-mul_right q hq _ _ (omega arith) in
    let g = ap (λ (k : ℕ). k * l) f in
    let m = eq_diff (itself _) (diff_mul M6 _ (itself M6) (itself (pos (x * (1 * y) * 1)))) t in
    let toe = end (pos (4 * R * l)) M6 {w = a * (l * l)} hx (eq_of_mul-eq-mul_right y hy _ _ (omega arith)) in
    let heel = end M6 (pos (2 * R * l)) {w = b * (l * l)} hy (eq_of_mul-eq-mul_right x hx _ _ (omega arith)) in
    ((heel.0, toe.0), toe.1, heel.1)

-- the one of ends A/l² and B/l² carries R and turns M6, where A is 4Rl − M6 and B is M6 − 2Rl
full_carries : {R M6 l A B : ℤ} → Above R → Above l → Whole A → Whole B → A +ℤ M6 ≡ pos 4 *ℤ R *ℤ l → M6 ≡ B +ℤ pos 2 *ℤ R *ℤ l
    → (pos 0 <ℤ (l *ℤ l)) × Same (bearing (A over l *ℤ l) (B over l *ℤ l) (over_one l)) (over_one R)
    × Same (times (plus (A over l *ℤ l) (times (over_one (pos 2)) (B over l *ℤ l))) (over_one (l *ℤ l))) (over_one M6)
full_carries (above R hR) (above l hl) (whole a) (whole b) e f =
    let by : (m : ℕ) → (a + (b + 2 * R * l)) * m ≡ 4 * R * l * m = λ m. ap (λ (z : ℤ). nat_abs z * m) (rw f at e) in
    rw f (pos-<ℤ.1 (mul-pos hl hl), ap pos (omega (arith, by (l * l * l))), ap pos (omega (arith, by (l * l * l * l))))

-- ---- the cases

abbrev tests : ℤ → ℤ → ℤ → List Bool
tests R M6 l = is_none R M6 l ∷ is_full R M6 l ∷ is_from_toe R M6 l ∷ is_from_heel R M6 l ∷ []

-- 0, 2Rl, 4Rl and 6Rl stand in this order
abbrev Order : ℤ → ℤ → Type 0
Order R l =
    (pos 0 <ℤ (pos 2 *ℤ R *ℤ l)) × ((pos 2 *ℤ R *ℤ l) <ℤ (pos 4 *ℤ R *ℤ l)) × ((pos 4 *ℤ R *ℤ l) <ℤ (pos 6 *ℤ R *ℤ l)) × (pos 0 <ℤ (pos 4 *ℤ R *ℤ l))
    × (pos 0 <ℤ (pos 6 *ℤ R *ℤ l))

spread : {R l : ℤ} → Above R → Above l → Order R l
spread (above R hR) (above l hl) =
    let h = mul-pos hR hl in (pos-<ℤ.1 (omega arith), pos-<ℤ.1 (omega arith), pos-<ℤ.1 (omega arith), pos-<ℤ.1 (omega arith), pos-<ℤ.1 (omega arith))

-- M6 makes a triangle from the heel where 6Rl − M6 makes one from the toe
across : (M6 : ℤ) {R l : ℤ} → Above R → Above l → Makes FromToe R (pos 6 *ℤ R *ℤ l -ℤ M6) l ↔ Makes FromHeel R M6 l
across M6 (above R hR) (above l hl) =
    let n = diff_sub (itself (pos (6 * R * l))) (itself M6) in (
      λ h. (
        diff_lt _ _ (itself _) (itself _) (omega (arith, lt_diff _ _ n (itself _) h.1)),
        diff_lt _ _ (itself _) (itself _) (omega (arith, lt_diff _ _ (itself (pos 0)) n h.0)),
      ),
      λ h. (diff_lt _ _ (itself _) n (omega (arith, lt_parts h.1)), diff_lt _ _ n (itself _) (omega (arith, lt_parts h.0))),
    )

-- R and M6 make a block of some kind, or none
made : (R M6 l : ℤ) → (k : Kind) × Makes k R M6 l
made R M6 l =
    ⊎_elim (λ none. (NoBlock, inl none))
    (λ some. ⊎_elim
    (λ h. ⊎_elim (λ k. (Full, (h, k))) (λ k. ⊎_elim (λ far. (NoBlock, inr far)) (λ near. (FromHeel, (k, near))) (≤ℤ-or-<ℤ (pos 6 *ℤ R *ℤ l) M6))
    (≤ℤ-or-<ℤ M6 (pos 4 *ℤ R *ℤ l)))
    (λ h. (FromToe, (some, h)))
    (≤ℤ-or-<ℤ (pos 2 *ℤ R *ℤ l) M6))
    (≤ℤ-or-<ℤ M6 (pos 0))

module _ (R M6 l : ℤ) (hR : pos 0 <ℤ R) (hl : pos 0 <ℤ l) where
  order : Order R l
  order = spread (is_above hR) (is_above hl)

  -- the four tests that are not strict decide the others
  decided : (n f g e : Bool) → le_z M6 (pos 0) ≡ n → le_z (pos 2 *ℤ R *ℤ l) M6 ≡ f → le_z M6 (pos 4 *ℤ R *ℤ l) ≡ g → le_z (pos 6 *ℤ R *ℤ l) M6 ≡ e
      → (kind_of R M6 l ≡ cond (n || e) NoBlock (cond (f && g) Full (cond (not n && not f) FromToe (cond (not g && not e) FromHeel NoBlock))))
      × (trues (tests R M6 l) ≡ trues ((n || e) ∷ (f && g) ∷ (not n && not f) ∷ (not g && not e) ∷ []))
  unfolding kind_of is_none is_full is_from_toe is_from_heel
  decided n f g e hn hf hg he =
      let all : tests R M6 l ≡ (n || e) ∷ (f && g) ∷ (not n && not f) ∷ (not g && not e) ∷ [] =
      rw (lt_z_le_z (pos 0) M6, lt_z_le_z M6 (pos 2 *ℤ R *ℤ l), lt_z_le_z (pos 4 *ℤ R *ℤ l) M6, lt_z_le_z M6 (pos 6 *ℤ R *ℤ l), hn, hf, hg, he) in
      (cc, ap trues all)

  -- the kind that is made is the one that is chosen, by the one test that is passed
  chosen : (k : Kind) → Makes k R M6 l → (kind_of R M6 l ≡ k) × (trues (tests R M6 l) ≡ 1)
  chosen Full h =
      decided false true true false (lt_le_z (<ℤ-≤ℤ_trans order.0 h.0)) (le_le_z h.0) (le_le_z h.1) (lt_le_z (≤ℤ-<ℤ-trans h.1 order.2))
  chosen FromToe h =
      let low = <ℤ-trans h.1 order.1 in
      decided false false true false (lt_le_z h.0) (lt_le_z h.1) (le_le_z (≤ℤ-of-<ℤ low)) (lt_le_z (<ℤ-trans low order.2))
  chosen FromHeel h =
      decided false true false false (lt_le_z (<ℤ-trans order.3 h.0)) (le_le_z (≤ℤ-of-<ℤ (<ℤ-trans order.1 h.0))) (lt_le_z h.0) (lt_le_z h.1)
  chosen NoBlock (inl h) =
      decided true false true false (le_le_z h) (lt_le_z (≤ℤ-<ℤ-trans h order.0)) (le_le_z (≤ℤ-trans h (≤ℤ-of-<ℤ order.3))) (lt_le_z (≤ℤ-<ℤ-trans h order.4))
  chosen NoBlock (inr h) =
      let high = <ℤ-≤ℤ_trans order.2 h in
      decided false true false true (lt_le_z (<ℤ-≤ℤ_trans order.4 h)) (le_le_z (≤ℤ-of-<ℤ (<ℤ-trans order.1 high))) (lt_le_z high) (le_le_z h)

  -- a kind is chosen where R and M6 make a block of it, and nowhere else
  pub kind_makes : (k : Kind) → (kind_of R M6 l ≡ k) ↔ Makes k R M6 l
  kind_makes k = let m = made R M6 l in (λ e. rw (sym (chosen m.0 m.1).0 ∙ e) at m.1, λ h. (chosen k h).0)

  -- the cases leave nothing out and overlap nowhere
  pub exactly_one : trues (is_none R M6 l ∷ is_full R M6 l ∷ is_from_toe R M6 l ∷ is_from_heel R M6 l ∷ []) ≡ 1
  exactly_one = let m = made R M6 l in (chosen m.0 m.1).1

  -- ---- the one block

  -- a straight-line block that carries R and turns M6 is of the kind that they make, and has its figures
  figures : (other : Block) → Proper other → (k : Kind) → other.kind ≡ k → HasKind k l other → Same (carried other) (over_one R)
      → Same (six_moments_as k (over_one l) other) (over_one M6) → Makes k R M6 l × SameBlock other (of_kind k R M6 l)
  unfolding of_kind
  figures other h Full e s c t =
      let f =
      full_figures M6 other.contact.over (is_above hR) (is_above hl) (is_above h.toe) (is_above h.heel) (is_above h.contact) (is_whole s.toe)
      (is_whole s.heel) s.contact c t in
      (f.0, record { kind = e; toe = f.1; heel = f.2; contact = s.contact })
  figures other h FromToe e s c t =
      let f = triangle_figures M6 (peak_carries other.toe other.heel other.contact hR hl h.toe h.heel h.contact s c) t in
      (f.0, record { kind = e; toe = f.1; heel = s.falls; contact = f.2 })
  figures other h FromHeel e s c t =
      let w = peak_carries other.heel other.toe other.contact hR hl h.heel h.toe h.contact s ((turned R other).0 c) in
      let f = triangle_figures (pos 6 *ℤ R *ℤ l -ℤ M6) w ((mirror M6 w).0 t) in
      ((across M6 (is_above hR) (is_above hl)).0 f.0, record { kind = e; toe = s.falls; heel = f.1; contact = f.2 })
  figures other h NoBlock e s c t = absurd s

  -- so it is the block of that kind
  sole : (k : Kind) → Makes k R M6 l → (other : Block) → StraightLine l other → Same (carried other) (over_one R)
      → Same (six_moments l other) (over_one M6) → SameBlock other (of_kind k R M6 l)
  sole k h other s c t =
      let f = figures other s.proper other.kind refl s.shaped c t in
      rw (sym (chosen k h).0 ∙ (chosen other.kind f.0).0) f.1

  -- where M6 is not above 0, or not below 6Rl, no straight-line block would do
  pub none_bears : Makes NoBlock R M6 l → (other : Block) → StraightLine l other → Same (carried other) (over_one R)
      → Same (six_moments l other) (over_one M6) → ⊥
  unfolding of_kind
  none_bears h other s c t = rw (sole NoBlock h other s c t).kind at s.shaped

  -- the block of the kind that is made bears
  bears : (k : Kind) → T (is_given_kind k) → Makes k R M6 l → Bears R M6 l (of_kind k R M6 l)
  unfolding of_kind
  bears Full g h =
      let toe = sub_nonneg h.1 in
      let heel = sub_nonneg h.0 in
      let w = full_carries (is_above hR) (is_above hl) (is_whole toe) (is_whole heel) (-ℤ-+ℤ_cancel _ M6) (sym (-ℤ-+ℤ_cancel M6 (pos 2 *ℤ R *ℤ l))) in
      record {
        straight = record { proper = record { toe = w.0; heel = w.0; contact = lt_z_yes tt }; shaped = record { toe = toe; heel = heel; contact = refl } };
        toe = toe;
        heel = heel;
        some = hl;
        within = rw (*ℤ-idr l) (≤ℤ_refl l);
        carries = w.1;
        turns = w.2;
        only = sole Full h;
      }
  bears FromToe g h =
      let w = stands (is_above hR) (is_above h.0) (is_above hl) h.1 in
      record {
        straight = record { proper = record { toe = h.0; heel = lt_z_yes tt; contact = w.under }; shaped = w.shaped };
        toe = w.peak;
        heel = le_z_yes tt;
        some = h.0;
        within = ≤ℤ-of-<ℤ w.shaped.short;
        carries = w.carries;
        turns = w.turns;
        only = sole FromToe h;
      }
  bears FromHeel g h =
      let own = (across M6 (is_above hR) (is_above hl)).1 h in
      let w = stands (is_above hR) (is_above own.0) (is_above hl) own.1 in
      record {
        straight = record { proper = record { toe = lt_z_yes tt; heel = own.0; contact = w.under }; shaped = w.shaped };
        toe = le_z_yes tt;
        heel = w.peak;
        some = own.0;
        within = ≤ℤ-of-<ℤ w.shaped.short;
        carries = (turned R (of_kind FromHeel R M6 l)).1 w.carries;
        turns = (mirror M6 w.natural).1 w.turns;
        only = sole FromHeel h;
      }
  bears NoBlock g h = absurd g

  -- the block that R and M6 make bears, where they make one; and that is where M6 is above 0 and below 6Rl
  pub block_bears : T (is_given_kind (kind_of R M6 l)) → Bears R M6 l (block_of R M6 l)
  unfolding block_of
  block_bears some = bears (kind_of R M6 l) some ((kind_makes (kind_of R M6 l)).0 refl)

  pub some_made : T (is_given_kind (kind_of R M6 l)) ↔ (pos 0 <ℤ M6) × (M6 <ℤ (pos 6 *ℤ R *ℤ l))
  some_made = (λ t. by (kind_of R M6 l) t ((kind_makes (kind_of R M6 l)).0 refl), λ h. of h (made R M6 l))
    where
      by : (k : Kind) → T (is_given_kind k) → Makes k R M6 l → (pos 0 <ℤ M6) × (M6 <ℤ (pos 6 *ℤ R *ℤ l))
      by Full t h = (<ℤ-≤ℤ_trans order.0 h.0, ≤ℤ-<ℤ-trans h.1 order.2)
      by FromToe t h = (h.0, <ℤ-trans (<ℤ-trans h.1 order.1) order.2)
      by FromHeel t h = (<ℤ-trans order.3 h.0, h.1)
      by NoBlock t h = absurd t

      of : (pos 0 <ℤ M6) × (M6 <ℤ (pos 6 *ℤ R *ℤ l)) → (k : Kind) × Makes k R M6 l → T (is_given_kind (kind_of R M6 l))
      of within (Full, h) = rw (chosen Full h).0 tt
      of within (FromToe, h) = rw (chosen FromToe h).0 tt
      of within (FromHeel, h) = rw (chosen FromHeel h).0 tt
      of within (NoBlock, inl h) = clash_ℤ within.0 h
      of within (NoBlock, inr h) = clash_ℤ within.1 h

-- what the block of each kind has, the one that is given has; where it isn't given, it is the one of no kind
pub given_has : (P : Block → Type 0) (scale : ℕ) (R M6 l : ℤ) → ((k : Kind) → P (of_kind k R M6 l)) → P (given scale (block_of R M6 l))
unfolding given block_of of_kind
given_has P scale R M6 l each = case (leb (peak scale (block_of R M6 l)) greatest_peak) _ _ P (λ low. each (kind_of R M6 l)) (λ high. each NoBlock)

-- the block of a kind is of that kind
pub of_its_kind : (k : Kind) (R M6 l : ℤ) → (of_kind k R M6 l).kind ≡ k
unfolding of_kind
of_its_kind Full R M6 l = refl
of_its_kind FromToe R M6 l = refl
of_its_kind FromHeel R M6 l = refl
of_its_kind NoBlock R M6 l = refl

-- a block that is given is one that is made
given_made : (scale : ℕ) (R M6 l : ℤ) (P : Block → Type 0) → (T (is_given_kind (kind_of R M6 l)) → P (block_of R M6 l))
    → T (is_given (given scale (block_of R M6 l))) → P (given scale (block_of R M6 l))
unfolding given block_of
given_made scale R M6 l P made =
    case (leb (peak scale (block_of R M6 l)) greatest_peak) (block_of R M6 l) no_block (λ b. T (is_given b) → P b)
    (λ low t. made (rw (of_its_kind (kind_of R M6 l) R M6 l) at t)) (λ high t. absurd t)

-- so it bears
pub given_bears : (scale : ℕ) (R M6 l : ℤ) → pos 0 <ℤ R → pos 0 <ℤ l → T (is_given (given scale (block_of R M6 l))) → Bears R M6 l (given scale (block_of R M6 l))
given_bears scale R M6 l hR hl = given_made scale R M6 l (Bears R M6 l) (block_bears R M6 l hR hl)

-- and M6 is above 0 and below 6Rl
pub given_within : (scale : ℕ) (R M6 l : ℤ) → pos 0 <ℤ R → pos 0 <ℤ l → T (is_given (given scale (block_of R M6 l))) → (pos 0 <ℤ M6) × (M6 <ℤ (pos 6 *ℤ R *ℤ l))
given_within scale R M6 l hR hl = given_made scale R M6 l (λ b. (pos 0 <ℤ M6) × (M6 <ℤ (pos 6 *ℤ R *ℤ l))) (some_made R M6 l hR hl).0

-- ---- an accepted wall: some weight rests on its base

module _ (wall : Wall) (loads : List Load) (accepted : T (fits wall loads)) where
  long : pos 0 <ℤ pos (base_length wall)
  long = let l = base_length_lem (wall_within wall (fit wall loads accepted).wall_fits) in pos-<ℤ.1 (omega arith)

  -- R is above 0, in service and factored
  pub service_above : pos 0 <ℤ (service wall loads).R
  service_above = (service_sized wall loads (fit wall loads accepted)).some

  pub factored_above : pos 0 <ℤ (factored wall loads).R
  factored_above = (factored_sized wall loads (fit wall loads accepted)).some

  -- R meets the base between its ends, where a block is given
  abbrev pub OnBase : Totals → Type 0
  OnBase t = (pos 0 <ℤ t.M6) × (t.M6 <ℤ (pos 6 *ℤ t.R *ℤ pos (base_length wall)))

  pub service_on_base : T (is_given (service_block wall loads)) → OnBase (service wall loads)
  unfolding service_block block_under
  service_on_base = given_within service_scale _ _ _ service_above long

  pub factored_on_base : T (is_given (factored_block wall loads)) → OnBase (factored wall loads)
  unfolding factored_block block_under
  factored_on_base = given_within factored_scale _ _ _ factored_above long

  -- the service block, where it is given, bears the totals in service
  pub service_bears : T (is_given (service_block wall loads))
      → Bears (service wall loads).R (service wall loads).M6 (pos (base_length wall)) (service_block wall loads)
  unfolding service_block block_under
  service_bears = given_bears service_scale _ _ _ service_above long

  -- and the factored block the factored totals
  pub factored_bears : T (is_given (factored_block wall loads))
      → Bears (factored wall loads).R (factored wall loads).M6 (pos (base_length wall)) (factored_block wall loads)
  unfolding factored_block block_under
  factored_bears = given_bears factored_scale _ _ _ factored_above long

-- ---- what is answered of one wall with its loads

-- where they fit, the forces and the blocks are those of the wall under its loads
pub worked_blocks : (wall : Wall) (loads : List Load) → fits wall loads ≡ true → bearing_of wall loads ≡ Ok (worked_bearing wall loads)
unfolding bearing_of
worked_blocks wall loads e = gives_worked (examined wall loads) (worked_bearing wall loads) (rw e tt)

-- where they are refused, no block is given
pub refused_blocks : (wall : Wall) (loads : List Load) → fits wall loads ≡ false → is_err (bearing_of wall loads) ≡ true
unfolding bearing_of
refused_blocks wall loads e = gives_refusal (examined wall loads) (worked_bearing wall loads) e
