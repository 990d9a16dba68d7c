use Rattle.std.proofs.Common.{◌<◌, ◌+◌, ℤ, Option, Some, length, arith, ap, sym, ◌∙◌, rules, FitsSigned, w64}
use Rattle.std.specs.Prelude.{slice_get}
use Rattle.std.specs.Option.{option_map}
use Rattle.std.proofs.lemmas.Int.{to_z-of_z}
use Rattle.mesh_trail.specs.Noted.{noted}
use Rattle.mesh_trail.specs.Kept.{kept_row, row_at}
use Rattle.mesh_trail.specs.declared.table.Kept.{Kept}
use Rattle.mesh_trail.proofs.MapNotes.{mapped-map_notes, some-map_notes, noted_is, none_not}
use Rattle.mesh_trail.proofs.Copies.{read_at}
use Rattle.mesh_trail.proofs.Tables.{row_value}
use Rattle.mesh_trail.proofs.table.Table.value.Goals as goal

-- the number stands within the rows
pub index-requires : goal.index-requires
index-requires g c =
    let t = c.self.inside in
    let less : c.args.k < t.width = rw (← c.self.view_is) at c.requires.within in
    let within = c.self.invariant.within c.args.name c.in-Some.kept
    (noted_is t.map.names c.args.name c.in-Some.kept (sym c.record.ensures ∙ c.in-Some.is)) in
    omega arith

pub overflow_add-kept : goal.overflow_add-kept
overflow_add-kept g c =
    let t = c.self.inside in
    let less : c.args.k < t.width = rw (← c.self.view_is) at c.requires.within in
    let within = c.self.invariant.within c.args.name c.in-Some.kept
    (noted_is t.map.names c.args.name c.in-Some.kept (sym c.record.ensures ∙ c.in-Some.is)) in
    omega arith

pub returns-in-Some : goal.returns-in-Some
returns-in-Some g c =
    let t = c.self.inside in
    let row = kept_row {B = g.row.B.Denot} t.width t.values.items in
    let less : c.args.k < t.width = rw (← c.self.view_is) at c.requires.within in
    let within = c.self.invariant.within c.args.name c.in-Some.kept
    (noted_is t.map.names c.args.name c.in-Some.kept (sym c.record.ensures ∙ c.in-Some.is)) in
    let place : c.in-Some.kept.row + c.args.k < length t.values.items = omega arith in
    let fits : FitsSigned w64 c.index.result.now = search rules in
    let read = read_at t.values.items (c.in-Some.kept.row + c.args.k) c.index.result.now place c.index.ensures in
    rw (← c.self.view_is, to_z-of_z w64 c.index.result.now fits)
    (mapped-map_notes row (λ r. slice_get r.1 c.args.k) t.map.names c.args.name _
    (ap (λ (o : Option (Kept g.row.B.Denot)). option_map (λ k. slice_get (row_at t.width t.values.items k.row) c.args.k)
    o) (sym c.record.ensures ∙ c.in-Some.is)
    ∙ ap (λ (o : Option ℤ). Some o) (row_value t.width t.values.items c.in-Some.kept c.args.k _ less read)))

pub returns-in-None : goal.returns-in-None
returns-in-None g c =
    let t = c.self.inside in
    let row = kept_row {B = g.row.B.Denot} t.width t.values.items in
    none_not (noted t.map.names c.args.name) (sym c.record.ensures ∙ c.in-None.is)
    (some-map_notes row t.map.names c.args.name (rw (← c.self.view_is) at c.requires.there))
