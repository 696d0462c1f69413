-- Lists by their indices: what stands at an index of joined and of mapped lists, and an array that is filled up to an index. Assumes nothing.
use mathlib.Core.Path.{◌≡◌, refl, sym, ◌∙◌}
use mathlib.Core.List.{List, ◌++◌, map}
use Prim.Native.Nat.{ℕ, ◌+◌, ◌≤◌, ◌<◌}
use native.Mathlib.Omega.{arith}
use native.Mathlib.Numerals.{add-one}
use lib.ListN.{length, get_or, take, set, length-append, length-map, length-set}
use Rattle.std.proofs.lemmas.List.{get_or-map}
use lib.Seq.{take_all, take-suc, take-suc-set, get_or-append-add}

module _ {A : Type 0} where
  -- ---- at an index
  -- behind the first list stands the second
  pub past : (xs ys : List A) (d : A) (i j : ℕ) → i ≡ length xs + j → get_or (xs ++ ys) i d ≡ get_or ys j d
  past xs ys d i j k = rw k (get_or-append-add xs ys j d)

  -- of a mapped list that which the other list has there is mapped
  pub mapped : {B : Type 0} (f : B → A) (xs : List B) (i : ℕ) (d : A) (e : B) → i < length xs → get_or (map f xs) i d ≡ f (get_or xs i e)
  mapped f xs i d e h = get_or-map f xs i e d h

  -- a list of m, and behind it one of n, mapped in one way and then in another
  module _ {B : Type 0} (first : List A) (f g : B → A) (xs : List B) (m n : ℕ) (before : length first ≡ m) (there : length xs ≡ n) where
    front : length (first ++ map f xs) ≡ m + n
    front = rw (length-append, length-map, before, there)

    pub joined_length : length (first ++ map f xs ++ map g xs) ≡ m + n + n
    joined_length = rw (length-append (first ++ map f xs) (map g xs), front, length-map, there)

  -- ---- filled
  -- an array of n agrees with a list up to an index
  pub record Filled (goal : List A) (n i : ℕ) (xs : List A) : Type 0 where
    pub whole : length goal ≡ n
    pub within : i ≤ n
    pub size : length xs ≡ n
    pub same : take i xs ≡ take i goal

  -- at first it need not agree anywhere
  pub none_filled : {goal xs : List A} {n : ℕ} → length goal ≡ n → length xs ≡ n → Filled goal n 0 xs
  none_filled h k = record { whole = h; within = omega arith; size = k; same = refl }

  -- the next element is stored
  pub one_more : {goal xs : List A} {n i : ℕ} {x : A} (d : A) → Filled goal n i xs → i < n → x ≡ get_or goal i d → Filled goal n (i + 1) (set xs i x)
  one_more {goal} {xs} {n} {i} {x} d filled h e =
      let inside : i < length xs = omega arith in
      let there : i < length goal = omega arith in
      record {
        whole = filled.whole;
        within = omega arith;
        size = length-set xs i x ∙ filled.size;
        same = rw (add-one, take-suc-set xs i x inside, take-suc goal i d there, filled.same, e);
      }

  -- in the end all are
  pub all_filled : {goal xs : List A} {n i : ℕ} → Filled goal n i xs → n ≤ i → xs ≡ goal
  all_filled {goal} {xs} {n} {i} filled h = sym (take_all i xs (omega arith)) ∙ filled.same ∙ take_all i goal (omega arith)
