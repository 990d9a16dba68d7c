use Rattle.std.proofs.Common.{◌≡◌, ◌≤◌, ◌<◌, ◌^◌, Option, length, sym, ap, ◌∙◌, subst, arith}
use Rattle.std.proofs.lemmas.Result.{err_from_is_err_and}
use Rattle.mesh_model.specs.Table.{at}
use Rattle.mesh_model.specs.Complex.{Complex, corners_of, corner_sum, width}
use Rattle.mesh_model.specs.Kernel.{with_corner}
use Rattle.mesh_model.specs.declared.names.Kind.TheVariants.{Corners}
use Rattle.mesh_model.specs.declared.records.FaceRec.{FaceRec}
use Rattle.mesh_records.specs.ReadOff.{NameLists}
use Rattle.mesh_core.specs.Seen.{Seen, now, disks}
use Rattle.mesh_records.proofs.ByName.{faces_all}
use Rattle.mesh_records.proofs.Examples.{vert_of_name, edge_of_name, face_of_name}
use Rattle.mesh_records.specs.Corners.{of_corners}
use Rattle.mesh_records.specs.Room.{none_of_all}
use Rattle.mesh_records.proofs.Places.{keeps_then, none_first}
use Rattle.mesh_core.proofs.Kept.{mesh_kept}
use Rattle.mesh_core.proofs.mesh.Mesh.insert_corner.Goals as goal

pub returns-in_err-make_room-clause-err : goal.returns-in_err-make_room-clause-err
returns-in_err-make_room-clause-err c =
    let p = err_from_is_err_and c.from_residual.result c.from_residual.ensures.1 in
    rw p.1 (record {
      now = c.make_room.ensures.stays.read _ ∙ ap now c.self.view_is;
      base = ap (λ (m : Seen). m.base) c.self.view_is;
      disks = c.make_room.ensures.stays.disks ∙ ap disks c.self.view_is;
    })

pub insert_corner-requires-clause-there : goal.insert_corner-requires-clause-there
insert_corner-requires-clause-there c = face_of_name c.make_room.new.st c.self.inside.next _ (now c.args.self.now)
    c.args.f.0 (c.make_room.ensures.stays.read _ ∙ ap now c.self.view_is) c.requires.there

pub insert_corner-requires-clause-within : goal.insert_corner-requires-clause-within
insert_corner-requires-clause-within c =
    let lists : NameLists = record { materials = c.self.inside.materials; libraries = c.self.inside.libraries } in
    let stays = c.make_room.ensures.stays in
    let P = λ (x : Complex). c.args.i ≤ length (corners_of (at x.faces c.args.f.0)) in
    let Q = λ (o : Option FaceRec). c.args.i ≤ length (corners_of o) in
    subst Q (faces_all c.make_room.new.st c.self.inside.next stays.whole.records c.args.f.0)
    (subst P (sym (stays.read lists ∙ ap now c.self.view_is)) c.requires.within)

pub insert_corner-requires-clause-vert : goal.insert_corner-requires-clause-vert
insert_corner-requires-clause-vert c = vert_of_name c.make_room.new.st c.self.inside.next _ (now c.args.self.now)
    c.args.corner.now.vert.0 (c.make_room.ensures.stays.read _ ∙ ap now c.self.view_is) c.requires.linked.vert

pub insert_corner-requires-clause-edge : goal.insert_corner-requires-clause-edge
insert_corner-requires-clause-edge c = edge_of_name c.make_room.new.st c.self.inside.next _ (now c.args.self.now)
    c.args.corner.now.edge.0 (c.make_room.ensures.stays.read _ ∙ ap now c.self.view_is) c.requires.linked.edge

pub insert_corner-requires-clause-wide : goal.insert_corner-requires-clause-wide
insert_corner-requires-clause-wide c =
    let lists : NameLists = record { materials = c.self.inside.materials; libraries = c.self.inside.libraries } in
    let P = λ (x : Complex). length c.args.corner.now.vals ≡ width x Corners in
    subst P (sym (c.make_room.ensures.stays.read lists ∙ ap now c.self.view_is)) c.requires.linked.vals

pub insert_corner-requires-clause-few : goal.insert_corner-requires-clause-few
insert_corner-requires-clause-few c =
    let lists : NameLists = record { materials = c.self.inside.materials; libraries = c.self.inside.libraries } in
    let P = λ (x : Complex). corner_sum x.faces < 2 ^ 24 in
    let few = subst P (sym (c.make_room.ensures.stays.read lists ∙ ap now c.self.view_is)) c.requires.few in
    let sum = c.make_room.ensures.stays.whole.corners in
    omega arith

pub invariant_of-self-2 : goal.invariant_of-self-2
invariant_of-self-2 c =
    let lists : NameLists = record { materials = c.self.inside.materials; libraries = c.self.inside.libraries } in
    mesh_kept (of_corners 1) c.self.invariant c.insert_corner.ensures.inserts.whole
    (keeps_then none_of_all (of_corners 1) (of_corners 1) c.self.inside.store c.make_room.new.st c.insert_corner.new.st
    (none_first (of_corners 1)) c.make_room.ensures.places c.insert_corner.ensures.places)
    (ap (λ (x : Complex). x.layers) (c.insert_corner.ensures.inserts.read lists)
    ∙ c.make_room.ensures.stays.same.layers)

pub returns-clause-now : goal.returns-clause-now
returns-clause-now c =
    let lists : NameLists = record { materials = c.self.inside.materials; libraries = c.self.inside.libraries } in
    c.insert_corner.ensures.inserts.read lists
    ∙ ap (λ (x : Complex). with_corner x c.args.f c.args.i c.args.corner.now)
    (c.make_room.ensures.stays.read lists ∙ ap now c.self.view_is)

pub returns-clause-disks : goal.returns-clause-disks
returns-clause-disks c = c.insert_corner.ensures.inserts.disks ∙ c.make_room.ensures.stays.disks ∙ ap disks c.self.view_is

pub invariant_of-self : goal.invariant_of-self
invariant_of-self c = mesh_kept none_of_all c.self.invariant c.make_room.ensures.stays.whole
    c.make_room.ensures.places c.make_room.ensures.stays.same.layers
