use Rattle.std.proofs.Common.{◌≡◌, ℕ, refl, ◌∙◌, subst, arith}
use Rattle.mesh_trail.specs.Between.{NotesFaces}
use Rattle.mesh_trail.proofs.Noting.{begins_faces, notes_one_face}
use Rattle.mesh_trail.proofs.between.note_faces.Goals as goal

pub loop-n-init : goal.loop-n-init
loop-n-init g c = record {
  notes = begins_faces c.args.past.now.changes (g.S.Shape.complex c.args.shape.now) c.requires.stays;
  widths = refl;
}

pub note_face-requires : goal.note_face-requires
note_face-requires g c = c.loop-n.invariant.widths ∙ c.requires.wide

pub loop-n-preserved : goal.loop-n-preserved
loop-n-preserved g c = record {
  notes = notes_one_face c.args.past.now.changes c.loop-n.past.changes c.note_face.new.self.changes
      (g.S.Shape.complex c.args.shape.now) c.loop-n.n c.loop-n.invariant.notes c.in_ok-note_face.ensures.ok;
  widths = c.note_face.ensures.widths ∙ c.loop-n.invariant.widths;
}

pub returns-in_err-note_face-clause-widths : goal.returns-in_err-note_face-clause-widths
returns-in_err-note_face-clause-widths g c = c.note_face.ensures.widths ∙ c.loop-n.invariant.widths

pub returns-clause-ok : goal.returns-clause-ok
returns-clause-ok g c =
    let P = λ (k : ℕ). NotesFaces c.args.past.now.changes c.loop-n.past.changes (g.S.Shape.complex c.args.shape.now) k in
    let all : c.loop-n.n ≡ c.args.bound = omega arith in
    subst P all c.loop-n.invariant.notes

pub returns-clause-widths : goal.returns-clause-widths
returns-clause-widths g c = c.loop-n.invariant.widths
