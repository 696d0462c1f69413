-- What document 01 has no word for, and the entries answer all the same: one wall with its loads by itself, a section that can't be worked, what a refused wall is answered with, a text in a
-- lent buffer, and the printed drawing.
use Rattle.rules.specs.declared.Member.{Member}
use Rattle.rules.specs.declared.Refusal.{Refusal}
use Rattle.std.specs.Prelude.{ℕ, suc, ◌*◌, ◌≡◌, Bool, not, ◌&&◌, cond, List, [], ◌∷◌, ◌++◌, map, leb, ltb, length, drop, Float, is_ok, Result, Ok, Err, Option, Some, None, ℤ}
use Prim.Native.Char.{code}
use Rattle.std.specs.Float.{binary64}
use Rattle.std.specs.Float.Ieee.{to_bits}
use Rattle.rules.specs.declared.Action.{Action}
use Rattle.rules.specs.declared.Refusal.TheVariants.{LoadOutOfRange, NinthLoad}
use Rattle.rules.specs.declared.Borne.{Borne}
use Rattle.rules.specs.declared.Drawn.{Drawn}
use Rattle.rules.specs.declared.Forces.{Forces}
use Rattle.rules.specs.declared.Section.{Section}
use Rattle.rules.specs.declared.Shape.{Shape}
use Rattle.rules.specs.declared.Shape.TheVariants.{Whole, ToeTriangle, HeelTriangle, Nothing}
use Rattle.rules.specs.JobFile.{File, Wall, Load, Entry, most_walls, most_loads_on_wall, load_fits}
use Rattle.rules.specs.Answered.{refused_if, ◌or_else◌, first_bad_wall, first_bad_load, Answer, ◌gives◌}
use Rattle.rules.specs.Forces.{service, factored, sliding_of}
use Rattle.rules.specs.Bearing.{service_scale, factored_scale, service_block, factored_block, pressed_by}
use Rattle.rules.specs.ToeAndStem.{stem_action, fill_on_heel, twice_depth, member_under}
use Rattle.rules.specs.SheetLine.{line_numbers, line, ascii, hex_digits, refusal_text, printed}

-- ---- one wall with its loads, which are numbered from 1: it is answered as a file would be that has just these, its header apart

abbrev pub alone : Load → Entry
alone load = 1 ∷ load

unfoldable pub examined : Wall → List Load → Answer
examined wall loads = first_bad_wall 1 (wall ∷ []) or_else first_bad_load (wall ∷ []) [] 1 (map alone loads)

abbrev pub fits : Wall → List Load → Bool
fits wall loads = is_ok (examined wall loads)

-- the number of the first of a wall's loads that doesn't fit it, the first of them having a number
unfoldable pub first_unfit : Wall → ℕ → List Load → Option ℕ
first_unfit wall number [] = None
first_unfit wall number (load ∷ rest) = cond (load_fits wall load) (first_unfit wall (suc number) rest) (Some number)

-- 6 and 7 of the load with a number: whether it fits, and how many were passed on its wall
abbrev pub load_answer : Bool → ℕ → ℕ → Answer
load_answer isFit passed number = refused_if (not isFit) (Err (LoadOutOfRange number)) or_else refused_if (leb most_loads_on_wall passed) (Err (NinthLoad number))

-- ---- its forces, or the refusal

unfoldable pub worked_forces : Wall → List Load → Forces
worked_forces wall loads =
    record {
      service = service wall loads;
      factored = factored wall loads;
      sliding = sliding_of wall loads;
      stem = stem_action wall loads;
      fill = fill_on_heel wall;
    }

unfoldable pub forces_of : Wall → List Load → Result Forces Refusal
forces_of wall loads = examined wall loads gives worked_forces wall loads

-- ---- its forces and the blocks that bear its totals

unfoldable pub worked_bearing : Wall → List Load → Borne
worked_bearing wall loads =
    record {
      forces = worked_forces wall loads;
      service = pressed_by service_scale (service_block wall loads);
      factored = pressed_by factored_scale (factored_block wall loads);
    }

unfoldable pub bearing_of : Wall → List Load → Result Borne Refusal
bearing_of wall loads = examined wall loads gives worked_bearing wall loads

-- ---- its line with the number that it is given, or the refusal

unfoldable pub line_of : ℕ → Wall → List Load → Result (List ℤ) Refusal
line_of n wall loads = examined wall loads gives line n wall loads

-- ---- any section: one that can be worked has numbers that can be multiplied, steel of some strength, and depth enough for a lever arm

abbrev pub section_limit : ℕ
section_limit = 8192

unfoldable pub is_small : Section → Bool
is_small s =
    ltb s.thickness section_limit
    && ltb s.cage.cover section_limit
    && ltb s.cage.bar section_limit
    && ltb s.cage.spacing section_limit
    && ltb s.cage.stress section_limit
    && ltb s.concrete section_limit
    && ltb s.steel section_limit
    && ltb s.least section_limit

unfoldable pub is_workable : Section → Bool
is_workable s = is_small s && leb 1 s.steel && leb 2 (twice_depth s)

unfoldable pub verdict_of : Section → Action → Option Member
verdict_of s a = cond (is_workable s) (Some (member_under s a)) None

-- ---- a text in a lent buffer

-- room for any number with what stands behind it: a sign, 19 digits, and a space or the end of the line
abbrev pub number_room : ℕ
number_room = 21

-- room for a line, and for the lines of as many walls as a job may have
abbrev pub line_room : ℕ
line_room = number_room * line_numbers

abbrev pub sheet_room : ℕ
sheet_room = line_room * most_walls

-- what a buffer holds after a text was put at its start: beyond it what stood there
unfoldable pub onto : {A : Type 0} → List A → List A → List A
onto text before = text ++ drop (length text) before

-- a text is put whole where the buffer has the room for any such text, and otherwise nothing is
unfoldable pub fitting : ℕ → List ℕ → List ℕ → List ℕ
fitting room text before = cond (leb room (length before)) text []

-- a text at the start of a lent buffer: how many bytes of it are used, and what it holds after
pub record Put {A : Type 0} (text before : List A) (count : ℕ) (after : List A) : Type 0 where
  pub counted : count ≡ length text
  pub holds : after ≡ onto text before

-- what is put for a job
abbrev pub Prints : File → List ℕ → ℕ → List ℕ → Type 0
Prints file before = Put (fitting sheet_room (printed file) before) before

-- ---- the printed drawing, in hex: the shape's name and every figure's bits, or the refusal

unfoldable pub shape_name : Shape → List ℕ
shape_name (Whole toe heel) = ascii "whole"
shape_name (ToeTriangle peak contact) = ascii "toe"
shape_name (HeelTriangle peak contact) = ascii "heel"
shape_name Nothing = ascii "nothing"

unfoldable pub shape_figures : Shape → List Float
shape_figures (Whole toe heel) = toe ∷ heel ∷ []
shape_figures (ToeTriangle peak contact) = peak ∷ contact ∷ []
shape_figures (HeelTriangle peak contact) = peak ∷ contact ∷ []
shape_figures Nothing = []

unfoldable pub figures : Drawn → List Float
figures d = d.drawing.R ∷ d.drawing.H ∷ d.drawing.distance ∷ shape_figures d.shape

-- a double's bits
unfoldable pub figure_text : Float → List ℕ
figure_text x = hex_digits 16 (to_bits binary64 x)

-- figures, a space before each
unfoldable pub figures_text : List Float → List ℕ
figures_text [] = []
figures_text (x ∷ rest) = code " " ∷ figure_text x ++ figures_text rest

unfoldable pub drawn_text : Drawn → List ℕ
drawn_text d = shape_name d.shape ++ figures_text (figures d) ++ code "\n" ∷ []

unfoldable pub drawing_text : Result Drawn Refusal → List ℕ
drawing_text (Ok d) = drawn_text d
drawing_text (Err refusal) = refusal_text (Err refusal)
