-- A corner is put into a face: the face is turned, gets the corner last, and is turned back.
use Rattle.std.proofs.Common.{◌≡◌, ◌-◌, ◌≤◌, ℕ, List, [], ◌∷◌, ◌++◌, Option, length, sym, ap, ◌∙◌, arith}
use Rattle.std.specs.List.{insert}
use Rattle.mesh_store.specs.Stored.{Stored}
use Rattle.mesh_model.specs.Complex.{Complex, corners_of}
use Rattle.mesh_model.specs.Kernel.{with_corners_by}
use Rattle.mesh_model.specs.declared.names.FaceName.{FaceName}
use Rattle.mesh_model.specs.declared.records.CornerRec.{CornerRec}
use Rattle.mesh_model.specs.declared.records.FaceRec.{FaceRec}
use Rattle.mesh_model.specs.declared.records.Counters.{Counters}
use Rattle.mesh_records.specs.Changes.{turned}
use Rattle.mesh_records.specs.Corners.{corners_more, AppendsCorner, InsertsCorner}
use Rattle.mesh_records.specs.ReadOff.{face_at, read_off}
use Rattle.mesh_records.specs.Rewrites.{Rewrites}
use Rattle.mesh_records.specs.Whole.{IsWhole}
use Rattle.mesh_records.proofs.ByName.{faces_all}
use Rattle.mesh_records.proofs.CornerChanges.{corners_agree, corners_twice, inserted}

pub inserts_corner : (old one two new : Stored) (n : Counters) (w : IsWhole old n) (k : FaceName) (i : ℕ) (c : CornerRec)
    (count : ℕ) → count ≡ length (corners_of (face_at old k.0)) → i ≤ length (corners_of (face_at old k.0))
    → Rewrites old one n (λ (x : Complex). with_corners_by x k (turned i)) → AppendsCorner one two n k c
    → Rewrites two new (corners_more n 1) (λ (x : Complex). with_corners_by x k (turned (count - i)))
    → InsertsCorner old new n k i c
inserts_corner old one two new n w k i c count many within first put last =
    let first_room = first.room in
    let put_room = put.room in
    let last_room = last.room in
    let v1 = first_room.verts in
    let e1 = first_room.edges in
    let c1 = first_room.corners in
    let f1 = first_room.faces in
    let v2 = put_room.verts in
    let e2 = put_room.edges in
    let c2 = put_room.corners in
    let f2 = put_room.faces in
    let v3 = last_room.verts in
    let e3 = last_room.edges in
    let c3 = last_room.corners in
    let f3 = last_room.faces in
    let behind = λ (ks : List CornerRec). ks ++ c ∷ [] in
    record {
      whole = last.whole;
      read = λ lists.
          let whole = read_off old n lists in
          last.read lists
          ∙ ap (λ (x : Complex). with_corners_by x k (turned (count - i))) (put.read lists
          ∙ ap (λ (x : Complex). with_corners_by x k behind) (first.read lists) ∙ corners_twice whole k (turned i) behind)
          ∙ corners_twice whole k (λ (ks : List CornerRec). behind (turned i ks)) (turned (count - i))
          ∙ corners_agree whole k (λ (ks : List CornerRec). turned (count - i) (behind (turned i ks)))
          (λ (ks : List CornerRec). insert ks i c) (λ r is.
          let told = ap (λ (o : Option FaceRec). length (corners_of o)) (sym (faces_all old n w.records k.0) ∙ is) in
          ap (λ (j : ℕ). turned (j - i) (behind (turned i r.corners))) (many ∙ told)
          ∙ inserted r.corners i c (omega arith));
      disks = last.disks ∙ put.disks ∙ first.disks;
      room = record { verts = omega arith; edges = omega arith; corners = omega arith; faces = omega arith };
    }
