use Rattle.std.proofs.Common.{ℤ, List, ap, ◌∙◌}
use Rattle.mesh_model.specs.ChangeSetNotes.{Notes}
use Rattle.mesh_model.specs.declared.records.Counters.{Counters}
use Rattle.mesh_model.specs.declared.records.Point.{Point}
use Rattle.mesh_trail.specs.Noted.{map_notes}
use Rattle.mesh_trail.specs.Kept.{vert_of, edge_of}
use Rattle.mesh_trail.specs.declared.edges.Ends.{Ends}
use Rattle.mesh_trail.proofs.MapNotes.{map_notes-empty}
use Rattle.mesh_trail.proofs.past.Past.restart.Goals as goal

pub returns-clause-changes : goal.returns-clause-changes
returns-clause-changes g c = λ i. record {
  verts = (ap (λ (m : Notes (Point × List ℤ)). map_notes vert_of m) c.restart.ensures.names ∙ map_notes-empty vert_of)
      i;
  edges = (ap (λ (m : Notes (Ends × List ℤ)). map_notes edge_of m) c.restart-2.ensures.names ∙ map_notes-empty edge_of)
      i;
  faces = c.restart-3.ensures.names i;
  next = record {
    verts = ap (λ (n : Counters). n.verts) c.counters-next.ensures.counters i;
    edges = ap (λ (n : Counters). n.edges) c.counters-next.ensures.counters i;
    faces = ap (λ (n : Counters). n.faces) c.counters-next.ensures.counters i;
  };
}
