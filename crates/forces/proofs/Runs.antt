-- An array that is filled behind a front that is in place, two at a time: with the next of one list, and behind that list's room the next of another that is as long.
-- Assumes nothing.
use mathlib.Core.Path.{◌≡◌, refl, sym, ◌∙◌}
use mathlib.Core.List.{List, ◌++◌, map}
use Prim.Native.Nat.{ℕ, suc, ◌+◌, ◌≤◌, ◌<◌}
use native.Mathlib.Omega.{arith}
use native.Mathlib.Nat.{add-zero}
use native.Mathlib.Numerals.{add-one}
use lib.ListN.{length, get_or, take, drop, set, length-append, length-drop, length-map, length-set}
use lib.Seq.{length-take-le, take_at, take_all, take-suc, take-suc-set, take-set-le, drop-set-lt, drop-set-add, take-add}
use Rattle.whole.proofs.Indexed.{past, mapped}

module _ {A : Type 0} where
  -- in an array of s stand behind a front of m elements i of each of two lists of n
  pub record TwoRuns (front one two : List A) (s m n i : ℕ) (xs : List A) : Type 0 where
    pub of_front : length front ≡ m
    pub of_one : length one ≡ n
    pub of_two : length two ≡ n
    pub within : i ≤ n
    pub room : m + n + n ≤ s
    pub size : length xs ≡ s
    pub lower : take (m + i) xs ≡ take (m + i) (front ++ one)
    pub upper : take i (drop (m + n) xs) ≡ take i two

  -- at first the front alone does
  pub front_alone : {one two xs : List A} {s m n : ℕ} → length one ≡ n → length two ≡ n → m + n + n ≤ s → length xs ≡ s
      → TwoRuns (take m xs) one two s m n 0 xs
  front_alone {one} {xs = xs} {m = m} h k room size =
      let front = length-take-le m xs (omega arith) in
      record {
        of_front = front;
        of_one = h;
        of_two = k;
        within = omega arith;
        room = room;
        size = size;
        lower = rw (add-zero, take_at (take m xs) one m front);
        upper = refl;
      }

  module _ {front one two xs : List A} {s m n i : ℕ} (runs : TwoRuns front one two s m n i xs) where
    -- the next of each is stored
    module _ (d : A) (a b : ℕ) (x y : A) (h : i < n) (k : a ≡ m + i) (l : b ≡ m + n + i) where
      lower_next : x ≡ get_or one i d → take (m + (i + 1)) (set (set xs a x) b y) ≡ take (m + (i + 1)) (front ++ one)
      lower_next e =
          let next : m + (i + 1) ≡ suc a = omega arith in
          rw (
            next,
            take-set-le (suc a) (set xs a x) b y (omega arith),
            take-suc-set xs a x (omega arith),
            take-suc (front ++ one) a d (rw length-append (omega arith)),
            past front one d a i (omega arith),
            k,
            runs.lower,
            e,
          )

      upper_next : y ≡ get_or two i d → take (i + 1) (drop (m + n) (set (set xs a x) b y)) ≡ take (i + 1) two
      upper_next e =
          rw (
            l,
            drop-set-add (m + n) (set xs a x) i y,
            drop-set-lt (m + n) xs a x (omega arith),
            add-one,
            take-suc-set (drop (m + n) xs) i y (rw length-drop (omega arith)),
            take-suc two i d (omega arith),
            runs.upper,
            e,
          )

      pub next_two : x ≡ get_or one i d → y ≡ get_or two i d → TwoRuns front one two s m n (i + 1) (set (set xs a x) b y)
      next_two e f =
          record {
            of_front = runs.of_front;
            of_one = runs.of_one;
            of_two = runs.of_two;
            within = omega arith;
            room = runs.room;
            size = length-set (set xs a x) b y ∙ length-set xs a x ∙ runs.size;
            lower = lower_next e;
            upper = upper_next f;
          }

    -- in the end all are, and where there is no more room they are the array
    pub both_stored : n ≤ i → take (m + n + n) xs ≡ front ++ one ++ two
    both_stored h =
        let all : i ≡ n = omega arith in
        let low = rw all at runs.lower ∙ take_all (m + n) (front ++ one) (rw length-append (omega arith)) in
        let up = rw all at runs.upper ∙ take_all n two (omega arith) in
        rw (take-add (m + n) n xs, low, up)

    pub all_stored : n ≤ i → s ≡ m + n + n → xs ≡ front ++ one ++ two
    all_stored h e = sym (take_all (m + n + n) xs (omega arith)) ∙ both_stored h

  -- where the two are made of one list, by f and by g
  module _ {B : Type 0} (f g : B → A) (zs : List B) {s m n : ℕ} where
    pub none_made : {xs : List A} → length zs ≡ n → m + n + n ≤ s → length xs ≡ s → TwoRuns (take m xs) (map f zs) (map g zs) s m n 0 xs
    none_made all = front_alone (length-map zs f ∙ all) (length-map zs g ∙ all)

    pub next_made : {front xs : List A} {i : ℕ} → TwoRuns front (map f zs) (map g zs) s m n i xs → (d : A) (z : B) (a b : ℕ) (x y : A)
        → i < n → a ≡ m + i → b ≡ m + n + i → x ≡ f (get_or zs i z) → y ≡ g (get_or zs i z)
        → TwoRuns front (map f zs) (map g zs) s m n (i + 1) (set (set xs a x) b y)
    next_made {i = i} runs d z a b x y h k l e e' =
        let inside : i < length zs = omega (arith, length-map zs f) in
        next_two runs d a b x y h k l (e ∙ sym (mapped f zs i d z inside)) (e' ∙ sym (mapped g zs i d z inside))
