use Rattle.std.proofs.Common.{◌≡◌, ◌<◌, List, Option, refl, sym, ap, ◌∙◌, subst, arith}
use Rattle.mesh_model.specs.Table.{IsThere, live}
use Rattle.mesh_model.specs.Complex.{Complex}
use Rattle.mesh_model.specs.Incidence.{has_end}
use Rattle.mesh_model.specs.declared.names.EdgeName.{EdgeName}
use Rattle.mesh_model.specs.declared.records.VertRec.{VertRec}
use Rattle.mesh_records.specs.Changes.{without_name}
use Rattle.mesh_records.specs.Gone.{EdgesGone, without_gone}
use Rattle.mesh_core.specs.Seen.{now, disks}
use Rattle.mesh_records.proofs.EdgesGone.{none_lost, one_lost, lists_none_gone, lists_one_lost, edges_lost, faces_lost, lists_lost}
use Rattle.mesh_records.proofs.Gone.{fewer, passes_there}
use Rattle.mesh_core.proofs.mesh.Mesh.remove_edges_at.Goals as goal

pub edge_at-requires : goal.edge_at-requires
edge_at-requires c = let P = λ (ts : List (Option VertRec)). IsThere ts c.args.v.0 in subst P
    (sym (ap (λ (x : Complex). x.verts) c.loop-e.invariant.gone.rest)) c.requires

pub remove_edge_and_faces-requires : goal.remove_edge_and_faces-requires
remove_edge_and_faces-requires c = passes_there (has_end c.args.v) (now c.loop-e.self).edges c.in-Some.e.0
    c.in-Some.ensures

pub loop-e-init : goal.loop-e-init
loop-e-init c = record {
  gone = none_lost c.args.v (now c.args.self.now);
  disks = lists_none_gone c.args.v (now c.args.self.now) (disks c.args.self.now);
  base = refl;
  room = record { verts = omega arith; edges = omega arith; corners = omega arith; faces = omega arith };
  notes = refl;
}

pub loop-e-preserved : goal.loop-e-preserved
loop-e-preserved c =
    let i = c.loop-e.invariant in
    let e = c.remove_edge_and_faces.ensures in
    let old = now c.args.self.now in
    let mid = now c.loop-e.self in
    let G = λ (x : Complex). EdgesGone c.args.v old x in
    let D = λ (x : Complex). disks c.remove_edge_and_faces.new.self
    ≡ without_gone c.args.v old x (disks c.args.self.now) in
    let lists = e.disks ∙ ap (λ (xs : List (List EdgeName)). without_name c.in-Some.e xs) i.disks
    ∙ lists_one_lost c.args.v old mid i.gone c.in-Some.e c.in-Some.ensures (disks c.args.self.now) in
    let a = i.room in
    let b = e.room in
    let av = a.verts in
    let ae = a.edges in
    let ac = a.corners in
    let af = a.faces in
    let bv = b.verts in
    let be = b.edges in
    let bc = b.corners in
    let bf = b.faces in
    record {
      gone = subst G (sym e.now) (one_lost c.args.v old mid i.gone c.in-Some.e c.in-Some.ensures);
      disks = subst D (sym e.now) lists;
      base = e.base ∙ i.base;
      room = record { verts = omega arith; edges = omega arith; corners = omega arith; faces = omega arith };
      notes = e.notes ∙ i.notes;
    }

pub loop-e-smaller : goal.loop-e-smaller
loop-e-smaller c =
    let P = λ (x : Complex). live x.edges < live (now c.loop-e.self).edges in
    subst P (sym c.remove_edge_and_faces.ensures.now) (fewer (has_end c.args.v) (now c.loop-e.self).edges c.in-Some.e.0
    c.in-Some.ensures)

pub returns-clause-now : goal.returns-clause-now
returns-clause-now c =
    let i = c.loop-e.invariant in
    let old = now c.args.self.now in
    let mid = now c.loop-e.self in
    let edges = edges_lost c.args.v old mid i.gone c.in_default.ensures in
    let faces = faces_lost c.args.v old mid i.gone c.in_default.ensures in
    i.gone.rest ∙ (λ j. record old { edges = edges j; faces = faces j })

pub returns-clause-disks : goal.returns-clause-disks
returns-clause-disks c =
    let i = c.loop-e.invariant in
    i.disks ∙ lists_lost c.args.v (now c.args.self.now) (now c.loop-e.self) i.gone c.in_default.ensures
    (disks c.args.self.now)
