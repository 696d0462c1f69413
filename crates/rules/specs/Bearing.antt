-- Document 01, "The bearing block": straight-line blocks and what they carry, the one that R, M6 and l make, and the pressures that are reported.
-- N over mm, on a metre's run, is kN/m2, so R over l needs no scale: pressures are in kN/m2 or, where R is in tenths of a newton, in tenths of that. Contacts are in mm.
use Rattle.std.specs.Prelude.{ℕ, ◌*◌, max, ◌≡◌, Bool, true, false, ◌&&◌, ◌||◌, cond, List, leb, ℤ, pos, ◌+ℤ◌, ◌-ℤ◌, ◌*ℤ◌, ◌≤ℤ◌, ◌<ℤ◌}
use Rattle.std.specs.Int.Signed.{le_z, lt_z}
use Rattle.whole.specs.Parts.{above_zero}
use Rattle.whole.specs.Rounding.{rounded_up}
use Rattle.rules.specs.declared.Totals.{Totals}
use Rattle.rules.specs.declared.Fraction.{Fraction}
use Rattle.rules.specs.declared.Kind.{Kind}
use Rattle.rules.specs.declared.Kind.TheVariants.{Full, FromToe, FromHeel, NoBlock}
use Rattle.rules.specs.declared.Block.{Block}
use Rattle.rules.specs.declared.Pressed.{Pressed}
use Rattle.rules.specs.JobFile.{Wall, Load, base_length}
use Rattle.rules.specs.Forces.{service, factored}

-- ---- fractions

-- it binds weaker than sums and products
infix 5 ◌over◌
abbrev pub ◌over◌ : ℤ → ℤ → Fraction
a over b = record { over = a; under = b }

abbrev pub over_one : ℤ → Fraction
over_one a = a over pos 1

abbrev pub plus : Fraction → Fraction → Fraction
plus a b = a.over *ℤ b.under +ℤ b.over *ℤ a.under over a.under *ℤ b.under

abbrev pub minus : Fraction → Fraction → Fraction
minus a b = a.over *ℤ b.under -ℤ b.over *ℤ a.under over a.under *ℤ b.under

abbrev pub times : Fraction → Fraction → Fraction
times a b = a.over *ℤ b.over over a.under *ℤ b.under

abbrev pub divided_by : Fraction → Fraction → Fraction
divided_by a b = a.over *ℤ b.under over a.under *ℤ b.over

-- less, multiplied out
abbrev pub less_than : Fraction → Fraction → Bool
less_than a b = lt_z (a.over *ℤ b.under) (b.over *ℤ a.under)

-- equal, multiplied out
abbrev pub Same : Fraction → Fraction → Type 0
Same a b = a.over *ℤ b.under ≡ b.over *ℤ a.under

-- ---- any straight-line block, on a base of length l

-- its figures are over whole numbers above 0
pub record Proper (b : Block) : Type 0 where
  pub toe : pos 0 <ℤ b.toe.under
  pub heel : pos 0 <ℤ b.heel.under
  pub contact : pos 0 <ℤ b.contact.under

-- it lies under all of l, and neither end is negative
pub record FullBlock (l : ℤ) (b : Block) : Type 0 where
  pub toe : pos 0 ≤ℤ b.toe.over
  pub heel : pos 0 ≤ℤ b.heel.over
  pub contact : Same b.contact (over_one l)

-- it starts at one end and has fallen to 0 where the contact ends, short of the far end. What it carries tells the sign of its peak.
pub record Triangle (l : ℤ) (far contact : Fraction) : Type 0 where
  pub falls : Same far (over_one (pos 0))
  pub some : pos 0 <ℤ contact.over
  pub short : contact.over <ℤ (l *ℤ contact.under)

-- what it takes to be of a kind; no straight-line block is of none
abbrev pub HasKind : Kind → ℤ → Block → Type 0
HasKind Full l b = FullBlock l b
HasKind FromToe l b = Triangle l b.heel b.contact
HasKind FromHeel l b = Triangle l b.toe b.contact
HasKind NoBlock l b = ⊥

pub record StraightLine (l : ℤ) (b : Block) : Type 0 where
  pub proper : Proper b
  pub shaped : HasKind b.kind l b

-- what it carries: (t + g) x c / 2
abbrev pub carried : Block → Fraction
carried b = times (times (plus b.toe b.heel) b.contact) (pos 1 over pos 2)

-- six times its moment about the toe, on a base of length l, which need not be whole
abbrev pub six_moments_as : Kind → Fraction → Block → Fraction
six_moments_as Full l b = times (plus b.toe (times (over_one (pos 2)) b.heel)) (times l l)
six_moments_as FromToe l b = times b.toe (times b.contact b.contact)
six_moments_as FromHeel l b = times (times b.heel b.contact) (minus (times (over_one (pos 3)) l) b.contact)
six_moments_as NoBlock l b = over_one (pos 0)

abbrev pub six_moments : ℤ → Block → Fraction
six_moments l b = six_moments_as b.kind (over_one l) b

-- of one kind, with equal fractions
pub record SameBlock (a b : Block) : Type 0 where
  pub kind : a.kind ≡ b.kind
  pub toe : Same a.toe b.toe
  pub heel : Same a.heel b.heel
  pub contact : Same a.contact b.contact

-- ---- the block that R and M6 make on a base of length l

-- R acts in front of the toe or at it, or (#107 of document 02) behind the heel's end or at it
unfoldable pub is_none : ℤ → ℤ → ℤ → Bool
is_none R M6 l = le_z M6 (pos 0) || le_z (pos 6 *ℤ R *ℤ l) M6

unfoldable pub is_full : ℤ → ℤ → ℤ → Bool
is_full R M6 l = le_z (pos 2 *ℤ R *ℤ l) M6 && le_z M6 (pos 4 *ℤ R *ℤ l)

unfoldable pub is_from_toe : ℤ → ℤ → ℤ → Bool
is_from_toe R M6 l = lt_z (pos 0) M6 && lt_z M6 (pos 2 *ℤ R *ℤ l)

unfoldable pub is_from_heel : ℤ → ℤ → ℤ → Bool
is_from_heel R M6 l = lt_z (pos 4 *ℤ R *ℤ l) M6 && lt_z M6 (pos 6 *ℤ R *ℤ l)

-- no block goes first, so that nothing is made of totals that are 0
unfoldable pub kind_of : ℤ → ℤ → ℤ → Kind
kind_of R M6 l =
    cond (is_none R M6 l) NoBlock
    (cond (is_full R M6 l) Full (cond (is_from_toe R M6 l) FromToe (cond (is_from_heel R M6 l) FromHeel NoBlock)))

abbrev pub no_block : Block
no_block = record { kind = NoBlock; toe = over_one (pos 0); heel = over_one (pos 0); contact = over_one (pos 0) }

unfoldable pub of_kind : Kind → ℤ → ℤ → ℤ → Block
of_kind Full R M6 l =
    record { kind = Full; toe = pos 4 *ℤ R *ℤ l -ℤ M6 over l *ℤ l; heel = M6 -ℤ pos 2 *ℤ R *ℤ l over l *ℤ l; contact = over_one l }
of_kind FromToe R M6 l =
    record { kind = FromToe; toe = pos 4 *ℤ R *ℤ R over M6; heel = over_one (pos 0); contact = M6 over pos 2 *ℤ R }
of_kind FromHeel R M6 l =
    let N = pos 6 *ℤ R *ℤ l -ℤ M6 in
    record { kind = FromHeel; toe = over_one (pos 0); heel = pos 4 *ℤ R *ℤ R over N; contact = N over pos 2 *ℤ R }
of_kind NoBlock R M6 l = no_block

unfoldable pub block_of : ℤ → ℤ → ℤ → Block
block_of R M6 l = of_kind (kind_of R M6 l) R M6 l

-- ---- the part of a block behind a section (#103 of document 02), which stands x from the toe: a straight-line block by itself, on the length that is left of the base

-- the length that is left
abbrev pub length_behind : ℤ → Fraction → Fraction
length_behind l x = minus (over_one l) x

-- the pressure at the section, on the line between a full block's ends
abbrev pub on_line_at : ℤ → Fraction → Block → Fraction
on_line_at l x b = divided_by (plus (times b.toe (length_behind l x)) (times b.heel x)) (over_one l)

-- what a peak has fallen to at a distance from it, within its contact
abbrev pub fallen : Fraction → Fraction → Fraction → Fraction
fallen peak contact distance = divided_by (times peak (minus contact distance)) contact

-- a full block is cut at the section. A triangle from the toe has a part there where it reaches past the section. One from the heel is cut where it reaches the section, and else stands there whole.
unfoldable pub behind_by : Kind → ℤ → Fraction → Block → Block
behind_by Full l x b = record { kind = Full; toe = on_line_at l x b; heel = b.heel; contact = length_behind l x }
behind_by FromToe l x b =
    cond (less_than x b.contact)
    (record { kind = FromToe; toe = fallen b.toe b.contact x; heel = over_one (pos 0); contact = minus b.contact x })
    no_block
behind_by FromHeel l x b =
    let e = length_behind l x in
    cond (less_than e b.contact) (record { kind = Full; toe = fallen b.heel b.contact e; heel = b.heel; contact = e }) b
behind_by NoBlock l x b = no_block

unfoldable pub behind : ℤ → Fraction → Block → Block
behind l x b = behind_by b.kind l x b

-- what it carries, and six times its moment about the section
unfoldable pub carried_behind : ℤ → Fraction → Block → Fraction
carried_behind l x b = carried (behind l x b)

unfoldable pub six_moments_behind : ℤ → Fraction → Block → Fraction
six_moments_behind l x b = let part = behind l x b in six_moments_as part.kind (length_behind l x) part

-- ---- the reported pressures

-- N/m2 in a kN/m2, and in a tenth of one
abbrev pub service_scale : ℕ
service_scale = 1000

abbrev pub factored_scale : ℕ
factored_scale = 100

-- a pressure in N/m2, rounded up
unfoldable pub reported : ℕ → Fraction → ℕ
reported scale pressure = rounded_up (scale * above_zero pressure.over) (above_zero pressure.under)

unfoldable pub peak : ℕ → Block → ℕ
peak scale b = max (reported scale b.toe) (reported scale b.heel)

-- in N/m2; a block that reports more isn't given
abbrev pub greatest_peak : ℕ
greatest_peak = 2000000

unfoldable pub given : ℕ → Block → Block
given scale b = cond (leb (peak scale b) greatest_peak) b no_block

unfoldable pub block_under : ℕ → Totals → Wall → Block
block_under scale t wall = given scale (block_of t.R t.M6 (pos (base_length wall)))

unfoldable pub service_block : Wall → List Load → Block
service_block wall loads = block_under service_scale (service wall loads) wall

unfoldable pub factored_block : Wall → List Load → Block
factored_block wall loads = block_under factored_scale (factored wall loads) wall

-- is there a block?
abbrev pub is_given_kind : Kind → Bool
is_given_kind Full = true
is_given_kind FromToe = true
is_given_kind FromHeel = true
is_given_kind NoBlock = false

abbrev pub is_given : Block → Bool
is_given b = is_given_kind b.kind

-- ---- a block with the pressures that it reports, which are 0 where it isn't given

unfoldable pub pressed_by : ℕ → Block → Pressed
pressed_by scale b = record { block = b; toe = reported scale b.toe; heel = reported scale b.heel }
