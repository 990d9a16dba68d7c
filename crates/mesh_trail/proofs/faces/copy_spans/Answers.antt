use Rattle.std.proofs.Common.{length, sym, ap, ◌∙◌}
use Rattle.mesh_trail.specs.Kept.{KeptRows, kept_row, face_of}
use Rattle.mesh_trail.specs.declared.faces.Span.{Span}
use Rattle.mesh_trail.proofs.MapNotes.{map_notes-twice}
use Rattle.mesh_trail.proofs.FaceNotes.{kept_spans}
use Rattle.mesh_trail.proofs.faces.copy_spans.Goals as goal

pub copy_map-requires-clause-stored : goal.copy_map-requires-clause-stored
copy_map-requires-clause-stored c =
    let t = c.table.inside in
    kept_spans (length c.args.corners.now.corners) c.args.corners.now.longest t.width t.values.items t.map.names
    (rw (← c.table.view_is) at c.requires.stored)

pub returns-clause-names : goal.returns-clause-names
returns-clause-names c =
    let t = c.table.inside in
    let corners = c.args.corners.now.corners in
    let wide = c.requires.wide ∙ ap (λ (k : KeptRows Span). k.width) (sym c.table.view_is) in
    rw (← c.table.view_is) (rw (c.deref.ensures.value, wide) at c.in_ok-copy_map.ensures.names
    ∙ sym (map_notes-twice (kept_row t.width t.values.items) (face_of corners) t.map.names))
