use Rattle.std.proofs.Common.{[], ap, ◌∙◌}
use Rattle.mesh_model.specs.ChangeSet.{ChangeSet, same_vert, same_edge, same_face}
use Rattle.mesh_model.specs.ChangeSetNotes.{notes_between}
use Rattle.mesh_trail.specs.Pasts.{no_changes, widths_of}
use Rattle.mesh_trail.proofs.past.Past.from_nothing.Goals as goal

pub note_new_verts-requires-clause-wide : goal.note_new_verts-requires-clause-wide
note_new_verts-requires-clause-wide g c = c.new-past.ensures.widths ∙ ap widths_of c.bare-nothing.ensures.empty

pub note_new_verts-requires-clause-first : goal.note_new_verts-requires-clause-first
note_new_verts-requires-clause-first g c = ap (λ (p : ChangeSet). p.verts) c.new-past.ensures.changes

pub note_new_edges-requires-clause-wide : goal.note_new_edges-requires-clause-wide
note_new_edges-requires-clause-wide g c =
    c.note_new_verts.ensures.widths ∙ c.new-past.ensures.widths ∙ ap widths_of c.bare-nothing.ensures.empty

pub note_new_edges-requires-clause-first : goal.note_new_edges-requires-clause-first
note_new_edges-requires-clause-first g c = ap (λ (p : ChangeSet). p.edges) c.in_ok-note_new_verts.ensures.ok
    ∙ ap (λ (p : ChangeSet). p.edges) c.new-past.ensures.changes

pub note_new_faces-requires-clause-wide : goal.note_new_faces-requires-clause-wide
note_new_faces-requires-clause-wide g c =
    c.note_new_edges.ensures.widths ∙ c.note_new_verts.ensures.widths ∙ c.new-past.ensures.widths
    ∙ ap widths_of c.bare-nothing.ensures.empty

pub note_new_faces-requires-clause-first : goal.note_new_faces-requires-clause-first
note_new_faces-requires-clause-first g c = ap (λ (p : ChangeSet). p.faces) c.in_ok-note_new_edges.ensures.ok
    ∙ ap (λ (p : ChangeSet). p.faces) c.in_ok-note_new_verts.ensures.ok
    ∙ ap (λ (p : ChangeSet). p.faces) c.new-past.ensures.changes

pub returns-clause-changes : goal.returns-clause-changes
returns-clause-changes g c =
    let a = g.S.Shape.complex c.args.now.now in
    let V = notes_between same_vert [] a.verts in
    let E = notes_between same_edge [] a.edges in
    let F = notes_between same_face [] a.faces in
    c.in_ok-note_new_faces.ensures.ok
    ∙ ap (λ (p : ChangeSet). let r : ChangeSet = record p { faces = F } in r) c.in_ok-note_new_edges.ensures.ok
    ∙ ap (λ (p : ChangeSet). let r : ChangeSet = record p { edges = E; faces = F } in r)
    c.in_ok-note_new_verts.ensures.ok
    ∙ ap (λ (p : ChangeSet). let r : ChangeSet = record p { verts = V; edges = E; faces = F } in r)
    (c.new-past.ensures.changes ∙ ap no_changes c.bare-nothing.ensures.empty)

pub returns-clause-widths : goal.returns-clause-widths
returns-clause-widths g c =
    c.note_new_faces.ensures.widths ∙ c.note_new_edges.ensures.widths ∙ c.note_new_verts.ensures.widths
    ∙ c.new-past.ensures.widths ∙ ap widths_of c.bare-nothing.ensures.empty
