-- `writing::lent::Lent::put_file` meets its contract: the walls are put behind the header, and the loads behind them.
use Prim.Native.Nat.{ℕ, ◌+◌, ◌*◌, ◌≤◌}
use mathlib.Core.Path.{◌≡◌, sym, ◌∙◌}
use mathlib.Core.List.{List, ◌++◌}
use native.Mathlib.Omega.{arith}
use lib.Dec.{T}
use lib.ListN.{length}
use Rattle.rules.specs.JobFile.{header_bytes, wall_fields, entry_fields, most_walls, most_loads}
use Rattle.rules.specs.Beyond.{Put, onto}
use Rattle.rules.specs.WrittenFile.{records_fit, record_count, header_of, file_of, u32s_bytes}
use Rattle.rules.proofs.Putting.{behind, with_back, then_text, put_within, put_length, room_left}
use Rattle.rules.proofs.Bytes.{u32s_length, header_length, file_length}
use Rattle.job.proofs.Numbers.{in_length}
use Rattle.writing.proofs.LentRecords.{few_records}
use Rattle.writing.proofs.lent.Lent.put_file.Goals as goal

few : (walls loads : List ℕ) → T (records_fit walls loads) → (record_count wall_fields walls ≤ most_walls) × (record_count entry_fields loads ≤ most_loads)
few walls loads fit = few_records walls loads fit

room : (walls loads out : List ℕ) → length (file_of walls loads) ≤ length out → header_bytes + 4 * length walls + 4 * length loads ≤ length out
room walls loads out fits = omega (arith, file_length walls loads)

abbrev header : List ℕ → List ℕ → List ℕ
header walls loads = header_of (record_count wall_fields walls) (record_count entry_fields loads)

-- the header is put, the walls behind it, and the loads behind them
module _ (walls loads : List ℕ) {w l : ℕ} {out after : List ℕ}
    (ws : w ≡ record_count wall_fields walls) (ls : l ≡ record_count entry_fields loads) (held : after ≡ onto (header_of w l) out) where
  headed : Put (header walls loads) out header_bytes after
  headed = record { counted = sym (header_length (record_count wall_fields walls) (record_count entry_fields loads)); holds = rw (ws, ls) at held }

  walled : {part : List ℕ} → part ≡ onto (u32s_bytes walls) (behind header_bytes after)
      → Put (header walls loads ++ u32s_bytes walls) out (header_bytes + 4 * length walls) (with_back header_bytes after part)
  walled put = then_text headed (record { counted = sym (u32s_length walls); holds = put })

  filed : {part rest : List ℕ} → part ≡ onto (u32s_bytes walls) (behind header_bytes after)
      → rest ≡ onto (u32s_bytes loads) (behind (header_bytes + 4 * length walls) (with_back header_bytes after part))
      → Put (file_of walls loads) out (header_bytes + 4 * length walls + 4 * length loads)
      (with_back (header_bytes + 4 * length walls) (with_back header_bytes after part) rest)
  unfolding file_of
  filed put more = then_text (walled put) (record { counted = sym (u32s_length loads); holds = more })

pub put_header-requires : goal.put_header-requires
put_header-requires c =
    let walls = c.args.self.now.walls.now in
    let loads = c.args.self.now.loads.now in
    omega (arith, few walls loads c.args.self.now.fit, in_length wall_fields walls, in_length entry_fields loads, room walls loads c.args.out.now c.requires)

pub put_u32s-requires : goal.put_u32s-requires
put_u32s-requires c =
    room_left (headed c.args.self.now.walls.now c.args.self.now.loads.now (c.wall_count.ensures ∙ in_length _ _) (c.entry_count.ensures ∙ in_length _ _) c.put_header.ensures)
    (omega (arith, room c.args.self.now.walls.now c.args.self.now.loads.now c.args.out.now c.requires))

pub put_u32s-requires-2 : goal.put_u32s-requires-2
put_u32s-requires-2 c =
    room_left (walled c.args.self.now.walls.now c.args.self.now.loads.now (c.wall_count.ensures ∙ in_length _ _) (c.entry_count.ensures ∙ in_length _ _) c.put_header.ensures c.put_u32s.ensures)
    (omega (arith, room c.args.self.now.walls.now c.args.self.now.loads.now c.args.out.now c.requires))

pub slice_bounds-put_u32s-count : goal.slice_bounds-put_u32s-count
slice_bounds-put_u32s-count c =
    put_within (headed c.args.self.now.walls.now c.args.self.now.loads.now (c.wall_count.ensures ∙ in_length _ _) (c.entry_count.ensures ∙ in_length _ _) c.put_header.ensures)

pub slice_bounds-put_u32s-start : goal.slice_bounds-put_u32s-start
slice_bounds-put_u32s-start c =
    put_within (headed c.args.self.now.walls.now c.args.self.now.loads.now (c.wall_count.ensures ∙ in_length _ _) (c.entry_count.ensures ∙ in_length _ _) c.put_header.ensures)

pub slice_bounds-put_u32s-count-2 : goal.slice_bounds-put_u32s-count-2
slice_bounds-put_u32s-count-2 c =
    put_within (walled c.args.self.now.walls.now c.args.self.now.loads.now (c.wall_count.ensures ∙ in_length _ _) (c.entry_count.ensures ∙ in_length _ _) c.put_header.ensures c.put_u32s.ensures)

pub slice_bounds-put_u32s-start-2 : goal.slice_bounds-put_u32s-start-2
slice_bounds-put_u32s-start-2 c =
    put_within (walled c.args.self.now.walls.now c.args.self.now.loads.now (c.wall_count.ensures ∙ in_length _ _) (c.entry_count.ensures ∙ in_length _ _) c.put_header.ensures c.put_u32s.ensures)

pub shape_of-out : goal.shape_of-out
shape_of-out c =
    put_length (filed c.args.self.now.walls.now c.args.self.now.loads.now (c.wall_count.ensures ∙ in_length _ _) (c.entry_count.ensures ∙ in_length _ _) c.put_header.ensures c.put_u32s.ensures c.put_u32s-2.ensures) c.requires

pub returns : goal.returns
returns c =
    (filed c.args.self.now.walls.now c.args.self.now.loads.now (c.wall_count.ensures ∙ in_length _ _) (c.entry_count.ensures ∙ in_length _ _) c.put_header.ensures c.put_u32s.ensures c.put_u32s-2.ensures).holds
