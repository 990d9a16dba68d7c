use Rattle.std.proofs.Common.{◌<◌, List, Option, refl, sym, ap, ◌∙◌, subst, arith}
use Rattle.mesh_model.specs.Table.{IsThere, live}
use Rattle.mesh_model.specs.Complex.{Complex}
use Rattle.mesh_model.specs.declared.records.EdgeRec.{EdgeRec}
use Rattle.mesh_model.specs.declared.records.FaceRec.{FaceRec}
use Rattle.mesh_model.specs.Incidence.{uses_edge}
use Rattle.mesh_records.specs.Gone.{SomeGone}
use Rattle.mesh_core.specs.Seen.{now}
use Rattle.mesh_records.proofs.Gone.{none_gone, one_gone, all_gone, none_passes, fewer, passes_there}
use Rattle.mesh_core.proofs.mesh.Mesh.remove_faces_along.Goals as goal

pub face_along-requires : goal.face_along-requires
face_along-requires c = let P = λ (ts : List (Option EdgeRec)). IsThere ts c.args.e.0 in subst P
    (sym (ap (λ (x : Complex). x.edges) c.loop-f.invariant.rest)) c.requires

pub remove_face-requires : goal.remove_face-requires
remove_face-requires c = passes_there (uses_edge c.args.e) (now c.loop-f.self).faces c.in-Some.f.0 c.in-Some.ensures

pub loop-f-init : goal.loop-f-init
loop-f-init c = record {
  rest = refl;
  faces = none_gone (uses_edge c.args.e) (now c.args.self.now).faces;
  disks = refl;
  base = refl;
  room = record { verts = omega arith; edges = omega arith; corners = omega arith; faces = omega arith };
  notes = refl;
}

pub loop-f-preserved : goal.loop-f-preserved
loop-f-preserved c =
    let i = c.loop-f.invariant in
    let e = c.remove_face.ensures in
    let k = e.now in
    let P = λ (ts : List (Option FaceRec)). SomeGone (uses_edge c.args.e) (now c.args.self.now).faces ts in
    let a = i.room in
    let b = e.room in
    let av = a.verts in
    let ae = a.edges in
    let ac = a.corners in
    let af = a.faces in
    let bv = b.verts in
    let be = b.edges in
    let bc = b.corners in
    let bf = b.faces in
    record {
      rest = k ∙ (λ j. record (i.rest j) { faces = ap (λ (x : Complex). x.faces) (sym k) j });
      faces = subst P (sym (ap (λ (x : Complex). x.faces) k))
          (one_gone (uses_edge c.args.e) (now c.args.self.now).faces (now c.loop-f.self).faces i.faces c.in-Some.f.0
          c.in-Some.ensures);
      disks = e.disks ∙ i.disks;
      base = e.base ∙ i.base;
      room = record { verts = omega arith; edges = omega arith; corners = omega arith; faces = omega arith };
      notes = e.notes ∙ i.notes;
    }

pub loop-f-smaller : goal.loop-f-smaller
loop-f-smaller c =
    let P = λ (ts : List (Option FaceRec)). live ts < live (now c.loop-f.self).faces in
    subst P (sym (ap (λ (x : Complex). x.faces) c.remove_face.ensures.now))
    (fewer (uses_edge c.args.e) (now c.loop-f.self).faces c.in-Some.f.0 c.in-Some.ensures)

pub returns-clause-now : goal.returns-clause-now
returns-clause-now c =
    let i = c.loop-f.invariant in
    let faces = all_gone (uses_edge c.args.e) (now c.args.self.now).faces (now c.loop-f.self).faces i.faces
    (none_passes (uses_edge c.args.e) (now c.loop-f.self).faces c.in_default.ensures) in
    i.rest ∙ (λ j. record (now c.args.self.now) { faces = faces j })
