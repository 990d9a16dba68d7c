use Rattle.std.proofs.Common.{◌≡◌, ◌+◌, ℕ, length, map, sym, ap, ◌∙◌, subst, arith}
use Rattle.std.proofs.lemmas.List.{length-map}
use Rattle.std.proofs.lemmas.Result.{err_from_is_err_and}
use Rattle.mesh_model.specs.Complex.{Complex}
use Rattle.mesh_model.specs.Making.{with_face}
use Rattle.mesh_model.specs.Kernel.{corner_from, face_vals_like}
use Rattle.mesh_model.specs.declared.names.FaceName.{FaceName}
use Rattle.mesh_core.specs.Seen.{Seen, IsMesh}
use Rattle.mesh_records.specs.ReadOff.{NameLists}
use Rattle.mesh_core.specs.Seen.{now, disks}
use Rattle.mesh_records.specs.ReadOff.{read_off, face_at}
use Rattle.mesh_records.specs.Puts.{row_like}
use Rattle.mesh_records.proofs.Tables.{length_table}
use Rattle.mesh_records.proofs.Examples.{example_live, vert_of_name, edge_of_name, face_row_in}
use Rattle.mesh_records.specs.Room.{none_of_all, of_face}
use Rattle.mesh_records.proofs.Places.{keeps_then, keeps_any, none_first}
use Rattle.mesh_core.proofs.Kept.{mesh_kept, places_seen}
use Rattle.mesh_core.proofs.mesh.Mesh.make_face.Goals as goal

pub returns-in_err-make_room-clause-err : goal.returns-in_err-make_room-clause-err
returns-in_err-make_room-clause-err c =
    let p = err_from_is_err_and c.from_residual.result c.from_residual.ensures.1 in
    rw p.1 (record {
      now = c.make_room.ensures.stays.read _ ∙ ap now c.self.view_is;
      base = ap (λ (m : Seen). m.base) c.self.view_is;
      disks = c.make_room.ensures.stays.disks ∙ ap disks c.self.view_is;
    })

pub put_face-requires-clause-limit : goal.put_face-requires-clause-limit
put_face-requires-clause-limit c =
    let long = length_table (face_at c.args.self.now.stored) c.args.self.now.next.faces in
    let same = ap (λ (m : Seen). m.next.faces) c.self.view_is in
    let limit = c.requires.limit in
    omega arith

pub put_face-requires-clause-verts : goal.put_face-requires-clause-verts
put_face-requires-clause-verts c = λ i d lt.
    vert_of_name c.make_room.new.st c.self.inside.next _ (now c.args.self.now) _
    (c.make_room.ensures.stays.read _ ∙ ap now c.self.view_is) (c.requires.verts i d lt)

pub put_face-requires-clause-edges : goal.put_face-requires-clause-edges
put_face-requires-clause-edges c = λ i d lt.
    edge_of_name c.make_room.new.st c.self.inside.next _ (now c.args.self.now) _
    (c.make_room.ensures.stays.read _ ∙ ap now c.self.view_is) (c.requires.edges i d lt)

pub put_face-requires-clause-like : goal.put_face-requires-clause-like
put_face-requires-clause-like c = example_live (λ (f : FaceName). f.0)
    c.make_room.ensures.stays.whole.records.named.faces c.args.example c.face_like-like.result c.face_like-like.ensures

pub returns-clause-name : goal.returns-clause-name
returns-clause-name c = ap (λ (m : Seen). m.next.faces) c.self.view_is
    ∙ sym (length_table (face_at c.args.self.now.stored) c.args.self.now.next.faces)

pub returns-clause-now : goal.returns-clause-now
returns-clause-now c =
    let lists : NameLists = record { materials = c.self.inside.materials; libraries = c.self.inside.libraries } in
    let st = c.make_room.new.st in
    let n = c.self.inside.next in
    let before : read_off st n lists ≡ now c.args.self.now =
    c.make_room.ensures.stays.read lists ∙ ap now c.self.view_is in
    let corners = ap (λ (x : Complex). map (corner_from x) c.args.corners.now) before in
    let vals : row_like st.values.faces c.face_like-like.result ≡ face_vals_like (now c.args.self.now) c.args.example =
    face_row_in st n lists (now c.args.self.now) c.args.example c.face_like-like.result
    c.make_room.ensures.stays.whole.records before c.requires.example c.face_like-like.ensures in
    c.put_face.ensures.adds.read lists ∙ (λ i. with_face (before i) (record { corners = corners i; vals = vals i }))

pub invariant_of-self : goal.invariant_of-self
invariant_of-self c = mesh_kept none_of_all c.self.invariant c.make_room.ensures.stays.whole
    c.make_room.ensures.places c.make_room.ensures.stays.same.layers

pub invariant_of-self-2 : goal.invariant_of-self-2
invariant_of-self-2 c =
    let lists : NameLists = record { materials = c.self.inside.materials; libraries = c.self.inside.libraries } in
    let many = of_face (length c.args.corners.now) in
    let places = keeps_then none_of_all many many c.self.inside.store c.make_room.new.st c.put_face.new.st
    (none_first many) c.make_room.ensures.places c.put_face.ensures.places in
    let n = c.self.inside.next in
    let M = λ (k : ℕ). IsMesh c.put_face.new.st (record {
      verts = n.verts;
      edges = n.edges;
      faces = n.faces + 1;
      corners = n.corners + k;
    }) lists c.self.inside.base in
    subst M (length-map c.args.corners.now (corner_from (read_off c.make_room.new.st n lists)))
    (mesh_kept many c.self.invariant c.put_face.ensures.adds.whole places
    (ap (λ (x : Complex). x.layers) (c.put_face.ensures.adds.read lists) ∙ c.make_room.ensures.stays.same.layers))

pub returns-in_err-make_room-clause-places : goal.returns-in_err-make_room-clause-places
returns-in_err-make_room-clause-places c = places_seen (of_face (length c.args.corners.now)) c.args.self.now (ap (λ (m : Seen). m.stored) c.self.view_is)
    (keeps_any (of_face (length c.args.corners.now)) _ _ c.make_room.ensures.places)

pub returns-clause-places : goal.returns-clause-places
returns-clause-places c =
    let many = of_face (length c.args.corners.now) in
    let places = keeps_then none_of_all many many c.self.inside.store c.make_room.new.st c.put_face.new.st
    (none_first many) c.make_room.ensures.places c.put_face.ensures.places in
    places_seen many c.args.self.now (ap (λ (m : Seen). m.stored) c.self.view_is) places
