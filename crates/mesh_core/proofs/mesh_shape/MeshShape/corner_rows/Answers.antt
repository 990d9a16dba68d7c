use Rattle.std.proofs.Common.{ℕ, ◌*◌, length, sym, ap, ◌∙◌}
use Rattle.std.specs.List.{flat_map}
use Rattle.mesh_model.specs.declared.names.Kind.TheVariants.{Corners}
use Rattle.mesh_model.specs.declared.records.CornerRec.{CornerRec}
use Rattle.mesh_model.specs.Table.{at}
use Rattle.mesh_model.specs.Complex.{Complex, corners_of, width}
use Rattle.mesh_records.specs.ReadOff.{NameLists}
use Rattle.mesh_core.specs.Seen.{now}
use Rattle.mesh_records.proofs.Elements.{name_live}
use Rattle.mesh_records.proofs.Examples.{face_of_name}
use Rattle.mesh_records.proofs.ReadBack.{loops_count, all_rows_read}
use Rattle.mesh_core.proofs.mesh_shape.MeshShape.corner_rows.Goals as goal

pub slot_of_face-face-requires : goal.slot_of_face-face-requires
slot_of_face-face-requires c = face_of_name c.self.inside.store c.self.inside.next _ (now c.args.self.now) c.args.f.0
    (ap now c.self.view_is) c.requires.there

pub rows_into-requires-clause-cycles : goal.rows_into-requires-clause-cycles
rows_into-requires-clause-cycles c = c.self.invariant.whole.cycles.cycles

pub rows_into-requires-clause-live : goal.rows_into-requires-clause-live
rows_into-requires-clause-live c = name_live c.self.invariant.whole.records.named.faces c.args.f.0 c.slot_of_face-face.result
    c.slot_of_face-face.ensures

pub rows_into-requires-clause-rows : goal.rows_into-requires-clause-rows
rows_into-requires-clause-rows c = c.self.invariant.whole.values.rows

pub rows_into-requires-clause-table : goal.rows_into-requires-clause-table
rows_into-requires-clause-table c = c.self.invariant.whole.values.loops

pub rows_into-requires-clause-room : goal.rows_into-requires-clause-room
rows_into-requires-clause-room c =
    let lists : NameLists = record { materials = c.self.inside.materials; libraries = c.self.inside.libraries } in
    c.requires.room ∙ sym (ap (λ (x : Complex). length (corners_of (at x.faces c.args.f.0)) * width x Corners)
    (ap now c.self.view_is))
    ∙ ap (λ (k : ℕ). k * width (now (record {
      stored = c.self.inside.store;
      next = c.self.inside.next;
      lists = lists;
      base = c.args.self.now.base;
      notes = c.args.self.now.notes;
    })) Corners)
    (sym (loops_count c.self.inside.store c.self.inside.next lists c.self.invariant.whole c.args.f.0
    c.slot_of_face-face.result c.slot_of_face-face.ensures))

pub returns : goal.returns
returns c =
    let lists : NameLists = record { materials = c.self.inside.materials; libraries = c.self.inside.libraries } in
    c.rows_into.ensures
    ∙ all_rows_read c.self.inside.store c.self.inside.next lists c.self.invariant.whole c.args.f.0 c.slot_of_face-face.result
    c.slot_of_face-face.ensures
    ∙ ap (λ (x : Complex). flat_map (λ (k : CornerRec). k.vals) (corners_of (at x.faces c.args.f.0)))
    (ap now c.self.view_is)
