use Rattle.std.proofs.Common.{refl, sym, ap, ◌∙◌, arith}
use Rattle.mesh_model.specs.ChangeSet.{ChangeSet, same_edge}
use Rattle.mesh_model.specs.ChangeSetNotes.{Notes}
use Rattle.mesh_model.specs.declared.records.EdgeRec.{EdgeRec}
use Rattle.mesh_model.specs.declared.records.Counters.{Counters}
use Rattle.mesh_trail.proofs.NewNotes.{new_none, new_one, new_all}
use Rattle.mesh_trail.proofs.between.note_new_edges.Goals as goal

pub loop-n-init : goal.loop-n-init
loop-n-init g c = record {
  new = new_none same_edge (g.S.Shape.complex c.args.now.now).edges c.args.past.now.changes.edges c.requires.first;
  rest = refl;
  widths = refl;
}

pub note_new_edge-requires-clause-wide : goal.note_new_edge-requires-clause-wide
note_new_edge-requires-clause-wide g c = c.loop-n.invariant.widths ∙ c.requires.wide

pub loop-n-preserved : goal.loop-n-preserved
loop-n-preserved g c =
    let inv = c.loop-n.invariant in
    let e = c.in_ok-note_new_edge.ensures.ok in
    let own = ap (λ (p : ChangeSet). p.edges) e in
    let with = λ (m : Notes EdgeRec) (p : ChangeSet). let r : ChangeSet = record p { edges = m } in r in
    record {
      new = new_one same_edge (g.S.Shape.complex c.args.now.now).edges c.loop-n.past.changes.edges
          c.note_new_edge.new.past.changes.edges c.loop-n.n inv.new own;
      rest = e ∙ ap (with _) inv.rest ∙ ap (λ (m : Notes EdgeRec). with m c.args.past.now.changes) (sym own);
      widths = c.note_new_edge.ensures.widths ∙ inv.widths;
    }

pub returns-clause-ok : goal.returns-clause-ok
returns-clause-ok g c =
    let inv = c.loop-n.invariant in
    let long = ap (λ (n : Counters). n.edges) c.counters-next.ensures.counters in
    inv.rest ∙ ap (λ (m : Notes EdgeRec). let r : ChangeSet = record c.args.past.now.changes { edges = m } in r)
    (new_all same_edge (g.S.Shape.complex c.args.now.now).edges c.loop-n.past.changes.edges c.loop-n.n inv.new
    (omega arith))

pub returns-clause-widths : goal.returns-clause-widths
returns-clause-widths g c = c.loop-n.invariant.widths
