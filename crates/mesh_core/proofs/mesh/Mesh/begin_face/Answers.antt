use Rattle.std.proofs.Common.{◌∷◌, [], ℤ, List, Option, length, is_some, sym, ap, ◌∙◌, subst, arith}
use Rattle.std.specs.List.{slice_get}
use Rattle.std.specs.Option.{option_map}
use Rattle.cust_data.specs.Layers.{total}
use Rattle.mesh_model.specs.Table.{at, IsThere}
use Rattle.mesh_model.specs.Complex.{KindLayers, Complex, corners_of, width}
use Rattle.mesh_model.specs.declared.names.Kind.TheVariants.{Faces}
use Rattle.mesh_model.specs.declared.names.VertName.{VertName}
use Rattle.mesh_model.specs.declared.names.EdgeName.{EdgeName}
use Rattle.mesh_model.specs.declared.records.FaceRec.{FaceRec}
use Rattle.mesh_model.proofs.Copies.{told-wide}
use Rattle.mesh_model.proofs.Tables.{stands, there-below, is_there-update}
use Rattle.mesh_core.specs.Seen.{now}
use Rattle.mesh_core.proofs.Filled.{on_ok_at, can_note, corner_told, face_limit, face_few, face_covers, face_begins, one_corner_still}
use Rattle.mesh_core.proofs.Loaded.{has_corner, face_made, all_one, some_same}
use Rattle.mesh_core.proofs.mesh.Mesh.begin_face.Goals as goal

pub read_corner_row-requires-clause-within : goal.read_corner_row-requires-clause-within
read_corner_row-requires-clause-within c = has_corner c.args.draft.now c.args.f.0 c.requires.linked c.requires.there

pub corner-requires : goal.corner-requires
corner-requires c = has_corner c.args.draft.now c.args.f.0 c.requires.linked c.requires.there

pub make_face-requires-clause-limit : goal.make_face-requires-clause-limit
make_face-requires-clause-limit c = face_limit c.args.self.now c.args.draft.now c.args.f.0 c.requires.so_far
    (there-below c.args.draft.now.faces c.args.f.0 c.requires.there)

pub make_face-requires-clause-few : goal.make_face-requires-clause-few
make_face-requires-clause-few c = face_few c.args.self.now c.args.draft.now c.args.f.0 c.requires.so_far
    (there-below c.args.draft.now.faces c.args.f.0 c.requires.there)
    (has_corner c.args.draft.now c.args.f.0 c.requires.linked c.requires.there)

pub make_face-requires-clause-verts : goal.make_face-requires-clause-verts
make_face-requires-clause-verts c =
    let d = c.args.draft.now in
    let n = c.args.f.0 in
    let low = there-below d.faces n c.requires.there in
    let some = has_corner d n c.requires.linked c.requires.there in
    let t = corner_told d n 0 c.requires.linked some c.corner.result c.read_corner_row.new.into c.corner.ensures
    c.read_corner_row.ensures in
    let P = λ (x : VertName × EdgeName). IsThere (now c.args.self.now).verts x.0.0 in
    let Q = λ (x : Complex). IsThere x.verts (t.corner).vert.0 in
    all_one P c.corner.result (subst P (sym t.pair_is) (subst Q (sym c.requires.so_far.now) t.linked.vert))

pub make_face-requires-clause-edges : goal.make_face-requires-clause-edges
make_face-requires-clause-edges c =
    let d = c.args.draft.now in
    let n = c.args.f.0 in
    let low = there-below d.faces n c.requires.there in
    let some = has_corner d n c.requires.linked c.requires.there in
    let t = corner_told d n 0 c.requires.linked some c.corner.result c.read_corner_row.new.into c.corner.ensures
    c.read_corner_row.ensures in
    let P = λ (x : VertName × EdgeName). IsThere (now c.args.self.now).edges x.1.0 in
    let Q = λ (x : Complex). IsThere x.edges (t.corner).edge.0 in
    all_one P c.corner.result (subst P (sym t.pair_is) (subst Q (sym c.requires.so_far.now) t.linked.edge))

pub set_corner_vals-requires-clause-there : goal.set_corner_vals-requires-clause-there
set_corner_vals-requires-clause-there c =
    let d = c.args.draft.now in
    let n = c.args.f.0 in
    let low = there-below d.faces n c.requires.there in
    let some = has_corner d n c.requires.linked c.requires.there in
    let t = corner_told d n 0 c.requires.linked some c.corner.result c.read_corner_row.new.into c.corner.ensures
    c.read_corner_row.ensures in
    let notes = can_note c.args.self.now.notes c.notes_are.ensures in
    let nf = notes.faces in
    let nk = notes.corners in
    let like = on_ok_at c.make_face.result (c.make_face.ensures.enough
    (face_covers c.args.self.now d n c.requires.so_far low c.requires.there some)
    (record { verts = omega arith; edges = omega arith; corners = omega arith; faces = omega arith }))
    c.make_face.ensures.now in
    let made = face_made d n low _ _ (c.corner.result ∷ []) c.requires.so_far.now like in
    made.0

pub set_corner_vals-requires-clause-within : goal.set_corner_vals-requires-clause-within
set_corner_vals-requires-clause-within c =
    let d = c.args.draft.now in
    let n = c.args.f.0 in
    let low = there-below d.faces n c.requires.there in
    let some = has_corner d n c.requires.linked c.requires.there in
    let t = corner_told d n 0 c.requires.linked some c.corner.result c.read_corner_row.new.into c.corner.ensures
    c.read_corner_row.ensures in
    let notes = can_note c.args.self.now.notes c.notes_are.ensures in
    let nf = notes.faces in
    let nk = notes.corners in
    let like = on_ok_at c.make_face.result (c.make_face.ensures.enough
    (face_covers c.args.self.now d n c.requires.so_far low c.requires.there some)
    (record { verts = omega arith; edges = omega arith; corners = omega arith; faces = omega arith }))
    c.make_face.ensures.now in
    let made = face_made d n low _ _ (c.corner.result ∷ []) c.requires.so_far.now like in
    let one = made.1 in
    omega arith

pub set_corner_vals-requires-clause-wide : goal.set_corner_vals-requires-clause-wide
set_corner_vals-requires-clause-wide c =
    let d = c.args.draft.now in
    let n = c.args.f.0 in
    let low = there-below d.faces n c.requires.there in
    let some = has_corner d n c.requires.linked c.requires.there in
    let t = corner_told d n 0 c.requires.linked some c.corner.result c.read_corner_row.new.into c.corner.ensures
    c.read_corner_row.ensures in
    let notes = can_note c.args.self.now.notes c.notes_are.ensures in
    let nf = notes.faces in
    let nk = notes.corners in
    let like = on_ok_at c.make_face.result (c.make_face.ensures.enough
    (face_covers c.args.self.now d n c.requires.so_far low c.requires.there some)
    (record { verts = omega arith; edges = omega arith; corners = omega arith; faces = omega arith }))
    c.make_face.ensures.now in
    let made = face_made d n low _ _ (c.corner.result ∷ []) c.requires.so_far.now like in
    ap (λ (row : List ℤ). length row) t.row_is ∙ t.linked.vals
    ∙ sym (ap (λ (ls : KindLayers). total ls.corners) made.2)

pub set_face_vals-requires-clause-there : goal.set_face_vals-requires-clause-there
set_face_vals-requires-clause-there c =
    let d = c.args.draft.now in
    let n = c.args.f.0 in
    let low = there-below d.faces n c.requires.there in
    let some = has_corner d n c.requires.linked c.requires.there in
    let t = corner_told d n 0 c.requires.linked some c.corner.result c.read_corner_row.new.into c.corner.ensures
    c.read_corner_row.ensures in
    let notes = can_note c.args.self.now.notes c.notes_are.ensures in
    let nf = notes.faces in
    let nk = notes.corners in
    let like = on_ok_at c.make_face.result (c.make_face.ensures.enough
    (face_covers c.args.self.now d n c.requires.so_far low c.requires.there some)
    (record { verts = omega arith; edges = omega arith; corners = omega arith; faces = omega arith }))
    c.make_face.ensures.now in
    let made = face_made d n low _ _ (c.corner.result ∷ []) c.requires.so_far.now like in
    let uf = c.make_face.ensures.notes.faces in
    let uk = c.make_face.ensures.notes.corners in
    let one = made.1 in
    let with_row = on_ok_at c.set_corner_vals.result (c.set_corner_vals.ensures.enough
    (record { verts = omega arith; edges = omega arith; corners = omega arith; faces = omega arith }))
    c.set_corner_vals.ensures.now in
    ap (λ (x : Complex). is_some (at x.faces n)) with_row
    ∙ is_there-update (now c.make_face.new.self).faces n n _ ∙ made.0

pub set_face_vals-requires-clause-wide : goal.set_face_vals-requires-clause-wide
set_face_vals-requires-clause-wide c =
    let d = c.args.draft.now in
    let n = c.args.f.0 in
    let low = there-below d.faces n c.requires.there in
    let some = has_corner d n c.requires.linked c.requires.there in
    let t = corner_told d n 0 c.requires.linked some c.corner.result c.read_corner_row.new.into c.corner.ensures
    c.read_corner_row.ensures in
    let notes = can_note c.args.self.now.notes c.notes_are.ensures in
    let nf = notes.faces in
    let nk = notes.corners in
    let like = on_ok_at c.make_face.result (c.make_face.ensures.enough
    (face_covers c.args.self.now d n c.requires.so_far low c.requires.there some)
    (record { verts = omega arith; edges = omega arith; corners = omega arith; faces = omega arith }))
    c.make_face.ensures.now in
    let made = face_made d n low _ _ (c.corner.result ∷ []) c.requires.so_far.now like in
    let uf = c.make_face.ensures.notes.faces in
    let uk = c.make_face.ensures.notes.corners in
    let one = made.1 in
    let with_row = on_ok_at c.set_corner_vals.result (c.set_corner_vals.ensures.enough
    (record { verts = omega arith; edges = omega arith; corners = omega arith; faces = omega arith }))
    c.set_corner_vals.ensures.now in
    let wide = told-wide (λ (r : FaceRec). r.vals) (at d.faces n) (width d Faces) c.face_row-row.result
    (λ r is. (c.requires.linked.faces n r is).vals) c.face_row-row.ensures in
    ap length c.as_slice.ensures ∙ wide ∙ sym (ap (λ (ls : KindLayers). total ls.faces)
    (ap (λ (x : Complex). x.layers) with_row ∙ made.2))

pub returns-clause-so_far : goal.returns-clause-so_far
returns-clause-so_far c =
    let d = c.args.draft.now in
    let n = c.args.f.0 in
    let low = there-below d.faces n c.requires.there in
    let some = has_corner d n c.requires.linked c.requires.there in
    let t = corner_told d n 0 c.requires.linked some c.corner.result c.read_corner_row.new.into c.corner.ensures
    c.read_corner_row.ensures in
    let notes = can_note c.args.self.now.notes c.notes_are.ensures in
    let nf = notes.faces in
    let nk = notes.corners in
    let like = on_ok_at c.make_face.result (c.make_face.ensures.enough
    (face_covers c.args.self.now d n c.requires.so_far low c.requires.there some)
    (record { verts = omega arith; edges = omega arith; corners = omega arith; faces = omega arith }))
    c.make_face.ensures.now in
    let made = face_made d n low _ _ (c.corner.result ∷ []) c.requires.so_far.now like in
    let uf = c.make_face.ensures.notes.faces in
    let uk = c.make_face.ensures.notes.corners in
    let one = made.1 in
    let with_row = on_ok_at c.set_corner_vals.result (c.set_corner_vals.ensures.enough
    (record { verts = omega arith; edges = omega arith; corners = omega arith; faces = omega arith }))
    c.set_corner_vals.ensures.now in
    let it = stands (at d.faces n) c.requires.there in
    let here = ap (λ (o : Option FaceRec). slice_get (corners_of o) 0) (sym it.1) ∙ t.here in
    let vals = λ (r : FaceRec). r.vals in
    let row = c.as_slice.ensures
    ∙ sym (some_same (it.0).vals c.face_row-row.result (sym (ap (option_map vals) it.1) ∙ c.face_row-row.ensures)) in
    let still = ap (λ (x : Complex). length (corners_of (at x.faces n))) with_row
    ∙ one_corner_still (now c.make_face.new.self) c.args.f _ made.1 in
    let wf = c.set_corner_vals.ensures.notes.faces in
    let wk = c.set_corner_vals.ensures.notes.corners in
    let written = on_ok_at c.set_face_vals.result (c.set_face_vals.ensures.enough
    (record { verts = omega arith; edges = omega arith; corners = omega arith; faces = omega arith })) c.set_face_vals.ensures.now in
    face_begins c.args.self.now d n c.requires.so_far low c.make_face.new.self c.set_corner_vals.new.self
    c.set_face_vals.new.self it.0 it.1 t.corner _ c.read_corner_row.new.into _ here
    (ap (λ (p : VertName × EdgeName). p ∷ []) t.pair_is) t.row_is row like with_row written c.make_face.ensures.places
    c.set_corner_vals.ensures.places c.set_face_vals.ensures.places
