-- Rows of absent loads behind a wall's own: an absent load has nothing but zeros, it fits any wall, and no figure of the wall tells that it is there.
use Rattle.rules.proofs.Replies.{gives_worked}
use Rattle.std.specs.Prelude.{Ok}
use mathlib.Core.Path.{◌≡◌, refl, sym, ap, ◌∙◌}
use mathlib.Core.List.{List, [], ◌∷◌, ◌++◌, append-nil}
use Prim.Native.Nat.{ℕ, zero, suc, ◌+◌, ◌≤◌}
use lib.Dec.{T}
use lib.Ieee.Bits.{is_true}
use lib.ListN.{length, replicate}
use lib.Seq.{append_snoc}
use Rattle.rules.specs.JobFile.{Wall, Load, most_loads_on_wall, direction, position, dead_load, live_load, is_down}
use Rattle.rules.specs.Forces.{Component}
use Rattle.rules.specs.Bearing.{service_block, factored_block}
use Rattle.rules.specs.ToeAndStem.{stem_load_rows, stem_load_table, stem_table, stem_action, toe, stem, heel}
use Rattle.rules.specs.SheetLine.{worked_wall, numbers_by, line}
use Rattle.rules.specs.Beyond.{fits, worked_forces, worked_bearing, bearing_of, line_of, examined}
use Rattle.rules.proofs.Additive.{idle}
use Rattle.rules.proofs.Carries.{worked_blocks}
use Rattle.rules.proofs.Examined.{fit, fits_of, absent_fits, filled}

pub record Absent (load : Load) : Type 0 where
  pub down : direction load ≡ 0
  pub at_toe : position load ≡ 0
  pub dead : dead_load load ≡ 0
  pub live : live_load load ≡ 0

-- what one load more leaves as it is, any number of them does
repeated : {A : Type 0} (f : List Load → A) (load : Load) → ((loads : List Load) → f (loads ++ load ∷ []) ≡ f loads)
    → (n : ℕ) (loads : List Load) → f (loads ++ replicate n load) ≡ f loads
repeated f load one zero loads = ap f (append-nil loads)
repeated f load one (suc n) loads =
    ap f (sym (append_snoc loads load (replicate n load))) ∙ repeated f load one n (loads ++ load ∷ []) ∙ one loads

module _ (wall : Wall) {load : Load} (absent : Absent load) where
  -- it bears on no stem
  stem_table_lem : (loads : List Load) → stem_load_table wall (loads ++ load ∷ []) ≡ stem_load_table wall loads
  unfolding stem_load_table stem_load_rows is_down
  stem_table_lem [] = rw absent.down
  stem_table_lem (first ∷ rest) = ap (λ (rows : List Component). stem_load_rows wall first ++ rows) (stem_table_lem rest)

  one_more : (loads : List Load)
      → (worked_wall wall (loads ++ load ∷ []) ≡ worked_wall wall loads) × (worked_bearing wall (loads ++ load ∷ []) ≡ worked_bearing wall loads)
  unfolding worked_wall worked_bearing worked_forces service_block factored_block toe stem heel stem_action stem_table
  one_more loads =
      let same = idle wall loads load absent.dead absent.live in
      rw (same.service, same.factored, same.sliding, stem_table_lem loads) (refl, refl)

  module _ (loads : List Load) (n : ℕ) where
    -- the wall is worked as it is under its own loads: each force, each block, the toe, the stem and the heel
    pub worked_same : worked_wall wall (loads ++ replicate n load) ≡ worked_wall wall loads
    worked_same = repeated (worked_wall wall) load (λ these. (one_more these).0) n loads

    pub bearing_same : worked_bearing wall (loads ++ replicate n load) ≡ worked_bearing wall loads
    bearing_same = repeated (worked_bearing wall) load (λ these. (one_more these).1) n loads

    pub line_same : (number : ℕ) → line number wall (loads ++ replicate n load) ≡ line number wall loads
    unfolding line
    line_same number = ap (numbers_by number wall) worked_same

    module _ (room : length loads + n ≤ most_loads_on_wall) (worked : T (fits wall loads)) where
      -- it fits with them, where its own loads leave the room
      pub fits_same : T (fits wall (loads ++ replicate n load))
      fits_same =
          let suits = absent_fits wall load absent.down absent.at_toe absent.dead absent.live in
          fits_of wall (loads ++ replicate n load) (filled wall loads n load suits room (fit wall loads worked))

      -- so what is answered of it with them is what the rules work of it under its own loads
      pub borne_with : bearing_of wall (loads ++ replicate n load) ≡ Ok (worked_bearing wall loads)
      borne_with = worked_blocks wall (loads ++ replicate n load) (is_true (fits wall (loads ++ replicate n load)) fits_same) ∙ ap Ok bearing_same

      pub line_with : (number : ℕ) → line_of number wall (loads ++ replicate n load) ≡ Ok (line number wall loads)
      unfolding line_of
      line_with number = gives_worked (examined wall (loads ++ replicate n load)) _ fits_same ∙ ap Ok (line_same number)
