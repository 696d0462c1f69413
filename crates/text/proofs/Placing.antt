-- Texts put one behind the other into a line. Assumes nothing.
use mathlib.Core.Path.{◌≡◌, refl, sym, ap, ◌∙◌}
use mathlib.Core.List.{List, [], ◌∷◌, ◌++◌, append_assoc}
use Prim.Native.Nat.{ℕ, suc, ◌+◌, ◌≤◌}
use native.Mathlib.Nat.{add-zero, add-suc, suc-add}
use native.Mathlib.Omega.{arith}
use borrow.Rule.Slice.PartMut.{put_mid}
use lib.ListN.{length, set, length-append}
use lib.Seq.{sets, sets-eq, drop-drop}
use Rattle.rules.specs.Beyond.{onto, Put}
use Rattle.text.specs.declared.letters.Line.{Line}
use Rattle.text.specs.Placed.{Adds}

sets_joined : (before : List ℕ) (at : ℕ) (one two : List ℕ) → sets (sets before at one) (at + length one) two ≡ sets before at (one ++ two)
sets_joined before at [] two = ap (λ n. sets before n two) (add-zero at)
sets_joined before at (b ∷ one) two =
    ap (λ n. sets (sets (set before at b) (suc at) one) n two) (add-suc at (length one) ∙ sym (suc-add at (length one)))
    ∙ sets_joined (set before at b) (suc at) one two

-- a word copied into its part of the buffer
pub copied : (before part word : List ℕ) (at k : ℕ) → part ≡ word → k ≡ length word → at + length word ≤ length before → put_mid at k before part ≡ sets before at word
copied before part word at k same size room = rw (same, size, sets-eq word before at room, append_assoc, drop-drop)

-- nothing
pub nothing : {most : ℕ} {line : Line} → Adds most [] line line
nothing = record { same_buffer = refl; same_size = refl; ends = omega arith; short = omega arith; holds = refl }

module _ {most : ℕ} {text : List ℕ} {before after : Line} (put : Adds most text before after) where
  -- a second one behind it
  pub then : {room : ℕ} {two : List ℕ} {last : Line} → Adds room two after last → Adds (most + room) (text ++ two) before last
  then {two = two} behind =
      record {
        same_buffer = behind.same_buffer ∙ put.same_buffer;
        same_size = behind.same_size ∙ put.same_size;
        ends = omega (arith, put.ends, behind.ends, length-append text two);
        short = omega (arith, put.short, behind.short, length-append text two);
        holds =
            behind.holds
            ∙ ap (λ (l : List ℕ). sets l after.used two) put.holds
            ∙ ap (λ n. sets (sets before.out.now before.used text) n two) put.ends
            ∙ sets_joined before.out.now before.used text two;
      }

  -- in another room that it doesn't pass
  pub within : {room : ℕ} → length text ≤ room → Adds room text before after
  within h = record { same_buffer = put.same_buffer; same_size = put.same_size; ends = put.ends; short = h; holds = put.holds }

  -- in a line that was new, when its buffer is back
  pub finished : {whole held : List ℕ} → before.used ≡ 0 → before.out.now ≡ whole → held ≡ after.out.now → most ≤ length whole → Put text whole after.used held
  unfolding onto
  finished {whole} {held} new as_it_was back room =
      record {
        counted = omega (arith, put.ends, new);
        holds = let size : 0 + length text ≡ length text = omega arith in back ∙ put.holds ∙ rw (new, as_it_was) (sets-eq text whole 0 (omega (arith, put.short)) ∙ rw size);
      }
