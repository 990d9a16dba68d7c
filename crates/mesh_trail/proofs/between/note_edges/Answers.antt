use Rattle.std.proofs.Common.{◌≡◌, ℕ, refl, ◌∙◌, subst, arith}
use Rattle.mesh_trail.specs.Between.{NotesEdges}
use Rattle.mesh_trail.proofs.Noting.{begins_edges, notes_one_edge}
use Rattle.mesh_trail.proofs.between.note_edges.Goals as goal

pub loop-n-init : goal.loop-n-init
loop-n-init g c = record {
  notes = begins_edges c.args.past.now.changes (g.S.Shape.complex c.args.shape.now) c.requires.stays;
  widths = refl;
}

pub note_edge-requires : goal.note_edge-requires
note_edge-requires g c = c.loop-n.invariant.widths ∙ c.requires.wide

pub loop-n-preserved : goal.loop-n-preserved
loop-n-preserved g c = record {
  notes = notes_one_edge c.args.past.now.changes c.loop-n.past.changes c.note_edge.new.self.changes
      (g.S.Shape.complex c.args.shape.now) c.loop-n.n c.loop-n.invariant.notes c.in_ok-note_edge.ensures.ok;
  widths = c.note_edge.ensures.widths ∙ c.loop-n.invariant.widths;
}

pub returns-in_err-note_edge-clause-widths : goal.returns-in_err-note_edge-clause-widths
returns-in_err-note_edge-clause-widths g c = c.note_edge.ensures.widths ∙ c.loop-n.invariant.widths

pub returns-clause-ok : goal.returns-clause-ok
returns-clause-ok g c =
    let P = λ (k : ℕ). NotesEdges c.args.past.now.changes c.loop-n.past.changes (g.S.Shape.complex c.args.shape.now) k in
    let all : c.loop-n.n ≡ c.args.bound = omega arith in
    subst P all c.loop-n.invariant.notes

pub returns-clause-widths : goal.returns-clause-widths
returns-clause-widths g c = c.loop-n.invariant.widths
