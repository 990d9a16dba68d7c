use Rattle.std.proofs.Common.{sym, ap, ◌∙◌, subst, arith}
use Rattle.mesh_model.specs.ChangeSet.{ChangeSet}
use Rattle.mesh_model.specs.ChangeSetNotes.{Notes}
use Rattle.mesh_model.specs.declared.records.VertRec.{VertRec}
use Rattle.mesh_model.specs.declared.records.EdgeRec.{EdgeRec}
use Rattle.mesh_model.specs.declared.records.Counters.{Counters}
use Rattle.mesh_trail.specs.Between.{AreNoted, StaysAt}
use Rattle.mesh_trail.proofs.Leading.{begins_at_now}
use Rattle.mesh_trail.proofs.Noting.{trims_to}
use Rattle.mesh_trail.proofs.past.Past.between.Goals as goal

pub note_verts-requires-clause-stays : goal.note_verts-requires-clause-stays
note_verts-requires-clause-stays g c =
    let b = g.B.Shape.complex c.args.before.now in
    let S = λ (p : ChangeSet). StaysAt p b in
    let first = begins_at_now b in
    subst S (sym c.new-past.ensures.changes) (record { leads = first.0; whole = first.1 })

pub note_edges-requires-clause-stays : goal.note_edges-requires-clause-stays
note_edges-requires-clause-stays g c = c.in_ok-note_verts.ensures.ok.stays

pub note_faces-requires-clause-stays : goal.note_faces-requires-clause-stays
note_faces-requires-clause-stays g c = c.in_ok-note_edges.ensures.ok.stays

pub note_edges-requires-clause-wide : goal.note_edges-requires-clause-wide
note_edges-requires-clause-wide g c = c.note_verts.ensures.widths ∙ c.new-past.ensures.widths

pub note_faces-requires-clause-wide : goal.note_faces-requires-clause-wide
note_faces-requires-clause-wide g c =
    c.note_edges.ensures.widths ∙ c.note_verts.ensures.widths ∙ c.new-past.ensures.widths

pub trim-requires : goal.trim-requires
trim-requires g c =
    c.note_faces.ensures.widths ∙ c.note_edges.ensures.widths ∙ c.note_verts.ensures.widths
    ∙ c.new-past.ensures.widths ∙ c.requires

pub returns-clause-changes : goal.returns-clause-changes
returns-clause-changes g c =
    let b = g.B.Shape.complex c.args.before.now in
    let a = g.A.Shape.complex c.args.after.now in
    let v = c.in_ok-note_verts.ensures.ok in
    let e = c.in_ok-note_edges.ensures.ok in
    let f = c.in_ok-note_faces.ensures.ok in
    let V = λ (m : Notes VertRec). AreNoted m c.greater.result in
    let E = λ (m : Notes EdgeRec). AreNoted m c.greater-2.result in
    let verts = ap (λ (p : ChangeSet). p.verts) f.rest ∙ ap (λ (p : ChangeSet). p.verts) e.rest in
    let edges = ap (λ (p : ChangeSet). p.edges) f.rest in
    let bv = ap (λ (n : Counters). n.verts) c.counters-was.ensures.counters in
    let be = ap (λ (n : Counters). n.edges) c.counters-was.ensures.counters in
    let bf = ap (λ (n : Counters). n.faces) c.counters-was.ensures.counters in
    let av = ap (λ (n : Counters). n.verts) c.counters-is.ensures.counters in
    let ae = ap (λ (n : Counters). n.edges) c.counters-is.ensures.counters in
    let af = ap (λ (n : Counters). n.faces) c.counters-is.ensures.counters in
    let g1 = c.greater.ensures.a in
    let h1 = c.greater.ensures.b in
    let g2 = c.greater-2.ensures.a in
    let h2 = c.greater-2.ensures.b in
    let g3 = c.greater-3.ensures.a in
    let h3 = c.greater-3.ensures.b in
    c.in_ok-made.ensures.changes ∙ c.trim.ensures.changes
    ∙ trims_to c.note_faces.new.past.changes b a c.greater.result c.greater-2.result c.greater-3.result f.stays
    (subst V (sym verts) v.noted) (subst E (sym edges) e.noted) f.noted (omega arith) (omega arith) (omega arith)
    (omega arith) (omega arith) (omega arith)

pub returns-clause-widths : goal.returns-clause-widths
returns-clause-widths g c =
    c.in_ok-made.ensures.widths ∙ c.trim.ensures.widths ∙ c.note_faces.ensures.widths ∙ c.note_edges.ensures.widths
    ∙ c.note_verts.ensures.widths ∙ c.new-past.ensures.widths
