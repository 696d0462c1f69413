-- The laws of `sum_to`, a sum over the indices below a number, and of `sum_of`, a sum over the elements of a list. Assumes nothing.
use mathlib.Core.Path.{◌≡◌, refl, sym, ap, ◌∙◌}
use mathlib.Core.List.{List, [], ◌∷◌, ◌++◌, map, Perm, Permᴰ}
use mathlib.Core.Logic.{⊎_elim}
use Prim.Native.Nat.{ℕ, zero, suc, ◌+◌, ◌*◌, ◌≤◌, ◌<◌}
use native.Mathlib.Nat.{add-zero, add-suc, eq-or-lt_of_le}
use native.Mathlib.Omega.{arith}
use Rattle.std.proofs.lemmas.Int.{ints}
use lib.IntN.{ℤ, pos, nat_abs, ◌+ℤ◌, ◌-ℤ◌, ◌*ℤ◌, +ℤ_assoc, +ℤ_comm, *ℤ-zero, ℤ_set}
use lib.ListN.{get_or, length}
use lib.Signed.{◌≤ℤ◌, ◌<ℤ◌, ≤ℤ_refl}
use Rattle.whole.specs.Sum.{sum_to, sum_of}
use Rattle.whole.proofs.Integer.{*ℤ-+ℤ, abs_add}

-- ---- over indices
-- equal terms give equal sums
pub sum_to_same : (f g : ℕ → ℤ) (n : ℕ) → ((i : ℕ) → i < n → f i ≡ g i) → sum_to f n ≡ sum_to g n
unfolding sum_to
sum_to_same f g zero h = refl
sum_to_same f g (suc n) h = cc (sum_to_same f g n (λ i k. h i (omega arith)), h n (omega arith))

-- a sum of sums, and of differences
pub sum_to_add : (f g : ℕ → ℤ) (n : ℕ) → sum_to (λ i. f i +ℤ g i) n ≡ sum_to f n +ℤ sum_to g n
unfolding sum_to
sum_to_add f g zero = refl
sum_to_add f g (suc n) = omega (arith, ints, sum_to_add f g n)

pub sum_to_sub : (f g : ℕ → ℤ) (n : ℕ) → sum_to (λ i. f i -ℤ g i) n ≡ sum_to f n -ℤ sum_to g n
unfolding sum_to
sum_to_sub f g zero = refl
sum_to_sub f g (suc n) = omega (arith, ints, sum_to_sub f g n)

-- a factor that is the same in every term comes out
pub sum_to_factor : (k : ℤ) (f : ℕ → ℤ) (n : ℕ) → sum_to (λ i. k *ℤ f i) n ≡ k *ℤ sum_to f n
unfolding sum_to
sum_to_factor k f zero = sym (*ℤ-zero k)
sum_to_factor k f (suc n) = ap (λ z. z +ℤ k *ℤ f n) (sum_to_factor k f n) ∙ sym (*ℤ-+ℤ k (sum_to f n) (f n))

-- terms that are all 0 sum to 0
pub sum_to_zeros : (f : ℕ → ℤ) (n : ℕ) → ((i : ℕ) → i < n → f i ≡ pos 0) → sum_to f n ≡ pos 0
unfolding sum_to
sum_to_zeros f zero h = refl
sum_to_zeros f (suc n) h = cc (sum_to_zeros f n (λ i k. h i (omega arith)), h n (omega arith))

-- the indices below m + n are those below m, and then n more
pub sum_to_joined : (f : ℕ → ℤ) (m n : ℕ) → sum_to f (m + n) ≡ sum_to f m +ℤ sum_to (λ i. f (m + i)) n
unfolding sum_to
sum_to_joined f m zero = rw add-zero (omega (arith, ints))
sum_to_joined f m (suc n) = rw add-suc (omega (arith, ints, sum_to_joined f m n))

-- a bound of every term, n times over, bounds the sum
pub sum_to_abs : (f : ℕ → ℤ) {b : ℕ} (n : ℕ) → ((i : ℕ) → i < n → nat_abs (f i) ≤ b) → nat_abs (sum_to f n) ≤ n * b
unfolding sum_to
sum_to_abs f zero h = omega arith
sum_to_abs f (suc n) h = omega (arith, abs_add (sum_to f n) (f n), sum_to_abs f n (λ i k. h i (omega arith)), h n (omega arith))

-- ordered terms give ordered sums, and terms that are not negative a sum that is not
pub sum_to_mono : (f g : ℕ → ℤ) (n : ℕ) → ((i : ℕ) → i < n → f i ≤ℤ g i) → sum_to f n ≤ℤ sum_to g n
unfolding sum_to
sum_to_mono f g zero h = ≤ℤ_refl (pos 0)
sum_to_mono f g (suc n) h = omega (arith, ints, sum_to_mono f g n (λ i k. h i (omega arith)), h n (omega arith))

pub sum_to_nonneg : (f : ℕ → ℤ) (n : ℕ) → ((i : ℕ) → i < n → pos 0 ≤ℤ f i) → pos 0 ≤ℤ sum_to f n
unfolding sum_to
sum_to_nonneg f zero h = ≤ℤ_refl (pos 0)
sum_to_nonneg f (suc n) h = omega (arith, ints, sum_to_nonneg f n (λ i k. h i (omega arith)), h n (omega arith))

-- where besides one term is less, the sum is less
pub sum_to_less : (f g : ℕ → ℤ) (n k : ℕ) → ((i : ℕ) → i < n → f i ≤ℤ g i) → k < n → f k <ℤ g k → sum_to f n <ℤ sum_to g n
unfolding sum_to
sum_to_less f g zero k h below less = absurd (omega arith)
sum_to_less f g (suc n) k h below less =
    ⊎_elim
    (λ (e : suc k ≡ suc n). let same : k ≡ n = omega arith in omega (arith, ints, rw same at less, sum_to_mono f g n (λ i l. h i (omega arith))))
    (λ (l : suc k < suc n). omega (arith, ints, sum_to_less f g n k (λ i l. h i (omega arith)) (omega arith) less, h n (omega arith)))
    (eq-or-lt_of_le below)

-- the first term apart, where the definition takes the last
pub sum_to_first : (f : ℕ → ℤ) (n : ℕ) → sum_to f (suc n) ≡ f 0 +ℤ sum_to (λ i. f (suc i)) n
unfolding sum_to
sum_to_first f zero = omega (arith, ints)
sum_to_first f (suc n) = omega (arith, ints, sum_to_first f n)

-- ---- over a list: the same laws
module _ {A : Type 0} where
  pub sum_of_same : (f g : A → ℤ) (xs : List A) → ((x : A) → f x ≡ g x) → sum_of f xs ≡ sum_of g xs
  unfolding sum_of
  sum_of_same f g [] h = refl
  sum_of_same f g (x ∷ xs) h = cc (h x, sum_of_same f g xs h)

  pub sum_of_add : (f g : A → ℤ) (xs : List A) → sum_of (λ x. f x +ℤ g x) xs ≡ sum_of f xs +ℤ sum_of g xs
  unfolding sum_of
  sum_of_add f g [] = refl
  sum_of_add f g (x ∷ xs) = omega (arith, ints, sum_of_add f g xs)

  pub sum_of_sub : (f g : A → ℤ) (xs : List A) → sum_of (λ x. f x -ℤ g x) xs ≡ sum_of f xs -ℤ sum_of g xs
  unfolding sum_of
  sum_of_sub f g [] = refl
  sum_of_sub f g (x ∷ xs) = omega (arith, ints, sum_of_sub f g xs)

  pub sum_of_factor : (k : ℤ) (f : A → ℤ) (xs : List A) → sum_of (λ x. k *ℤ f x) xs ≡ k *ℤ sum_of f xs
  unfolding sum_of
  sum_of_factor k f [] = sym (*ℤ-zero k)
  sum_of_factor k f (x ∷ xs) = ap (λ z. k *ℤ f x +ℤ z) (sum_of_factor k f xs) ∙ sym (*ℤ-+ℤ k (f x) (sum_of f xs))

  pub sum_of_zeros : (f : A → ℤ) (xs : List A) → ((x : A) → f x ≡ pos 0) → sum_of f xs ≡ pos 0
  unfolding sum_of
  sum_of_zeros f [] h = refl
  sum_of_zeros f (x ∷ xs) h = cc (h x, sum_of_zeros f xs h)

  pub sum_of_joined : (f : A → ℤ) (xs ys : List A) → sum_of f (xs ++ ys) ≡ sum_of f xs +ℤ sum_of f ys
  unfolding sum_of
  sum_of_joined f [] ys = omega (arith, ints)
  sum_of_joined f (x ∷ xs) ys = omega (arith, ints, sum_of_joined f xs ys)

  pub sum_of_map : {B : Type 0} (f : A → ℤ) (g : B → A) (xs : List B) → sum_of f (map g xs) ≡ sum_of (λ x. f (g x)) xs
  unfolding sum_of
  sum_of_map f g [] = refl
  sum_of_map f g (x ∷ xs) = ap (λ z. f (g x) +ℤ z) (sum_of_map f g xs)

  -- in any order the elements have the same sum
  pub sum_of_reordered : (f : A → ℤ) {xs ys : List A} → Perm xs ys → sum_of f xs ≡ sum_of f ys
  unfolding sum_of
  sum_of_reordered f {xs} {ys} = ∥∥₁_rec (ℤ_set (sum_of f xs) (sum_of f ys)) go
    where
      go : {xs ys : List A} → Permᴰ xs ys → sum_of f xs ≡ sum_of f ys
      go Permᴰ.nil = refl
      go (Permᴰ.cons e p) = cc (e, go p)
      go (Permᴰ.swap {a} {b} {l = l} d e) = cc (d, e, +ℤ_assoc (f a) (f b) (sum_of f l), +ℤ_comm (f a) (f b), +ℤ_assoc (f b) (f a) (sum_of f l))
      go (Permᴰ.trans p q) = go p ∙ go q

  pub sum_of_abs : (f : A → ℤ) {b : ℕ} (xs : List A) → ((x : A) → nat_abs (f x) ≤ b) → nat_abs (sum_of f xs) ≤ length xs * b
  unfolding sum_of
  sum_of_abs f [] h = omega arith
  sum_of_abs f (x ∷ xs) h = omega (arith, abs_add (f x) (sum_of f xs), h x, sum_of_abs f xs h)

  pub sum_of_mono : (f g : A → ℤ) (xs : List A) → ((x : A) → f x ≤ℤ g x) → sum_of f xs ≤ℤ sum_of g xs
  unfolding sum_of
  sum_of_mono f g [] h = ≤ℤ_refl (pos 0)
  sum_of_mono f g (x ∷ xs) h = omega (arith, ints, h x, sum_of_mono f g xs h)

  pub sum_of_nonneg : (f : A → ℤ) (xs : List A) → ((x : A) → pos 0 ≤ℤ f x) → pos 0 ≤ℤ sum_of f xs
  unfolding sum_of
  sum_of_nonneg f [] h = ≤ℤ_refl (pos 0)
  sum_of_nonneg f (x ∷ xs) h = omega (arith, ints, h x, sum_of_nonneg f xs h)

  -- a list's sum is that of its elements by their indices; d is never reached
  pub sum_of_sum_to : (f : A → ℤ) (d : A) (xs : List A) → sum_of f xs ≡ sum_to (λ i. f (get_or xs i d)) (length xs)
  unfolding sum_of sum_to
  sum_of_sum_to f d [] = refl
  sum_of_sum_to f d (x ∷ xs) = ap (λ z. f x +ℤ z) (sum_of_sum_to f d xs) ∙ sym (sum_to_first (λ i. f (get_or (x ∷ xs) i d)) (length xs))

  -- by those indices: where no element's term is greater, and one's is less, the sum is less
  pub sum_of_less : (f g : A → ℤ) (d : A) (xs : List A) (k : ℕ) → ((i : ℕ) → f (get_or xs i d) ≤ℤ g (get_or xs i d)) → k < length xs
      → f (get_or xs k d) <ℤ g (get_or xs k d) → sum_of f xs <ℤ sum_of g xs
  sum_of_less f g d xs k h below less = rw (sum_of_sum_to f d xs, sum_of_sum_to g d xs) (sum_to_less _ _ _ k (λ i _. h i) below less)
