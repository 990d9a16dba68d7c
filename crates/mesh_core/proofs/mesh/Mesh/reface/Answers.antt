use Rattle.std.proofs.Common.{◌≡◌, ◌-◌, ◌++◌, ℕ, rules, is_some, List, [], Option, Some, length, slice_index_or, sym, ap, ◌∙◌, subst, arith}
use Rattle.std.proofs.lemmas.List.{length-append}
use Rattle.std.proofs.lemmas.Result.{err_from_is_err_and}
use Rattle.raw_pool.specs.declared.pool.Slot.{Slot}
use Rattle.mesh_store.specs.Naming.{NamedCells}
use Rattle.mesh_store.specs.Slots.{at as slot_at}
use Rattle.mesh_store.specs.Stored.{Stored}
use Rattle.mesh_store.specs.declared.cells.Round.{Round}
use Rattle.mesh_store.specs.declared.cells.VertCell.{VertCell}
use Rattle.mesh_cycles.specs.Cycles.{round_of}
use Rattle.mesh_model.specs.Table.{at}
use Rattle.mesh_model.specs.Complex.{Complex, corners_of, corner_sum}
use Rattle.mesh_model.specs.Kernel.{with_corners_by, with_corners}
use Rattle.mesh_model.specs.declared.names.FaceName.{FaceName}
use Rattle.mesh_model.specs.declared.records.CornerRec.{CornerRec}
use Rattle.mesh_model.specs.declared.records.Counters.{Counters}
use Rattle.mesh_model.specs.declared.records.FaceRec.{FaceRec}
use Rattle.mesh_records.specs.Corners.{of_corners}
use Rattle.mesh_records.specs.Frames.{StaysWhole}
use Rattle.mesh_records.specs.ReadOff.{NameLists, face_at, read_off}
use Rattle.mesh_records.specs.Room.{Amounts, UsesAtMost, none_of_all, room_in}
use Rattle.mesh_records.specs.Takes.{LosesLoops}
use Rattle.mesh_records.specs.Whole.{IsWhole, IsNearlyWhole}
use Rattle.mesh_core.specs.Seen.{Seen, now, disks, room}
use Rattle.mesh_records.proofs.CornerChanges.{corners_twice}
use Rattle.mesh_records.proofs.CornersLost.{LosesCorners, whole_again, empties_face}
use Rattle.mesh_records.proofs.Elements.{name_live}
use Rattle.mesh_records.proofs.Examples.{vert_of_name, edge_of_name, face_of_name}
use Rattle.mesh_records.proofs.Kills.{corners_there}
use Rattle.mesh_records.proofs.LoopCounts.{kept_count, many_now, nearly_of, corners_by}
use Rattle.mesh_records.proofs.Places.{keeps_then, none_first, none_more, keeps_without_loops}
use Rattle.mesh_core.proofs.Kept.{mesh_kept}
use Rattle.mesh_core.proofs.mesh.Mesh.reface.Goals as goal

pub slot_of_face-face-requires : goal.slot_of_face-face-requires
slot_of_face-face-requires c = face_of_name c.self.inside.store c.self.inside.next _ (now c.args.self.now) c.args.f.0
    (ap now c.self.view_is) c.requires.there

pub face_len-before-requires : goal.face_len-before-requires
face_len-before-requires c = name_live c.self.invariant.whole.records.named.faces c.args.f.0 c.slot_of_face-face.result
    c.slot_of_face-face.ensures

pub returns-in_err-make_room-clause-err : goal.returns-in_err-make_room-clause-err
returns-in_err-make_room-clause-err c =
    let p = err_from_is_err_and c.from_residual.result c.from_residual.ensures.1 in
    rw p.1 (record {
      now = c.make_room.ensures.stays.read _ ∙ ap now c.self.view_is;
      base = ap (λ (m : Seen). m.base) c.self.view_is;
      disks = c.make_room.ensures.stays.disks ∙ ap disks c.self.view_is;
    })

pub returns-in_err-make_room-clause-enough : goal.returns-in_err-make_room-clause-enough
returns-in_err-make_room-clause-enough c = λ covers notes.
    let sees = many_now c.self.inside.store c.self.inside.next c.self.invariant.whole c.args.f.0 c.slot_of_face-face.result
    c.slot_of_face-face.ensures c.face_len-before.result c.face_len-before.ensures.len (now c.args.self.now)
    (ap now c.self.view_is) in
    let rooms = ap room c.self.view_is in
    let verts = ap (λ (r : Amounts). r.verts) rooms in
    let edges = ap (λ (r : Amounts). r.edges) rooms in
    let corners = ap (λ (r : Amounts). r.corners) rooms in
    let faces = ap (λ (r : Amounts). r.faces) rooms in
    let there = covers.corners in
    let asked = c.saturating_sub.ensures in
    let ok = c.make_room.ensures.enough (record {
      verts = omega arith;
      edges = omega arith;
      corners = omega arith;
      faces = omega arith;
    }) in
    search rules

pub overflow_sub-self : goal.overflow_sub-self
overflow_sub-self c =
    let stays = c.make_room.ensures.stays in
    let n = c.self.inside.next in
    let f = c.slot_of_face-face.result in
    let count = kept_count c.self.inside.store c.make_room.new.st n c.self.invariant.whole stays c.args.f.0 f
    c.slot_of_face-face.ensures c.face_len-before.result c.face_len-before.ensures.len in
    let all = corners_there c.make_room.new.st n c.args.f.0 f stays.whole
    (stays.same.face_names c.args.f.0 ∙ c.slot_of_face-face.ensures) in
    omega arith

-- the face without its corners
emptied : (old one two : Stored) (n : Counters) (w : IsWhole old n) (s : StaysWhole old one n) (k : FaceName) (f : Slot)
    (named : slot_at old.faces.names k.0 ≡ Some f) (len : ℕ) → len ≡ length (round_of one f.0) → LosesLoops one two f.0
    → IsNearlyWhole two n → round_of two f.0 ≡ [] → LosesCorners one two n k (λ (cs : List CornerRec). []) len
emptied old one two n w s k f named len count loses nearly empty =
    let P = λ (j : ℕ). LosesCorners one two n k (λ (cs : List CornerRec). []) j in
    subst P (sym count) (empties_face one two n s.whole k f (s.same.face_names k.0 ∙ named) loses nearly empty)

pub put_corners-requires-clause-whole : goal.put_corners-requires-clause-whole
put_corners-requires-clause-whole c =
    let stays = c.make_room.ensures.stays in
    let n = c.self.inside.next in
    let f = c.slot_of_face-face.result in
    let t = c.take_loops.ensures in
    let count = kept_count c.self.inside.store c.make_room.new.st n c.self.invariant.whole stays c.args.f.0 f
    c.slot_of_face-face.ensures c.face_len-before.result c.face_len-before.ensures.len in
    (emptied c.self.inside.store c.make_room.new.st c.take_loops.new.st n c.self.invariant.whole stays c.args.f f
    c.slot_of_face-face.ensures c.face_len-before.result count t.loses (t.whole n (nearly_of stays.whole)) t.empty).whole

pub put_corners-requires-clause-few : goal.put_corners-requires-clause-few
put_corners-requires-clause-few c =
    let stays = c.make_room.ensures.stays in
    let sees = many_now c.self.inside.store c.self.inside.next c.self.invariant.whole c.args.f.0 c.slot_of_face-face.result
    c.slot_of_face-face.ensures c.face_len-before.result c.face_len-before.ensures.len (now c.args.self.now)
    (ap now c.self.view_is) in
    let count = kept_count c.self.inside.store c.make_room.new.st c.self.inside.next c.self.invariant.whole stays c.args.f.0
    c.slot_of_face-face.result c.slot_of_face-face.ensures c.face_len-before.result c.face_len-before.ensures.len in
    let all = corners_there c.make_room.new.st c.self.inside.next c.args.f.0 c.slot_of_face-face.result stays.whole
    (stays.same.face_names c.args.f.0 ∙ c.slot_of_face-face.ensures) in
    let sum = c.self.invariant.whole.corners in
    let same = ap (λ (x : Complex). corner_sum x.faces) (ap now c.self.view_is) in
    let few = c.requires.few in
    omega arith

pub put_corners-requires-clause-room : goal.put_corners-requires-clause-room
put_corners-requires-clause-room c =
    let stays = c.make_room.ensures.stays in
    let t = c.take_loops.ensures in
    let f = c.slot_of_face-face.result in
    let count = kept_count c.self.inside.store c.make_room.new.st c.self.inside.next c.self.invariant.whole stays c.args.f.0 f
    c.slot_of_face-face.ensures c.face_len-before.result c.face_len-before.ensures.len in
    let spare = t.loses.spare in
    let none = ap (λ (rs : List Round). length rs) t.empty in
    let made = c.in_ok-make_room.ensures.ok in
    let there = made.corners in
    let asked = c.saturating_sub.ensures in
    omega arith

pub put_corners-requires-clause-verts : goal.put_corners-requires-clause-verts
put_corners-requires-clause-verts c = λ k d lt.
    ap (λ (p : NamedCells VertCell). is_some (slot_at p.names (slice_index_or c.args.corners.now k d).vert.0))
    c.take_loops.ensures.loses.verts
    ∙ vert_of_name c.make_room.new.st c.self.inside.next _ (now c.args.self.now) _
    (c.make_room.ensures.stays.read _ ∙ ap now c.self.view_is) (c.requires.linked k d lt).vert

pub put_corners-requires-clause-edges : goal.put_corners-requires-clause-edges
put_corners-requires-clause-edges c = λ k d lt.
    ap (λ (xs : List (Option Slot)). is_some (slot_at xs (slice_index_or c.args.corners.now k d).edge.0))
    c.take_loops.ensures.loses.edge_names
    ∙ edge_of_name c.make_room.new.st c.self.inside.next _ (now c.args.self.now) _
    (c.make_room.ensures.stays.read _ ∙ ap now c.self.view_is) (c.requires.linked k d lt).edge

pub invariant_of-self-2 : goal.invariant_of-self-2
invariant_of-self-2 c =
    let stays = c.make_room.ensures.stays in
    let n = c.self.inside.next in
    let f = c.slot_of_face-face.result in
    let t = c.take_loops.ensures in
    let count = kept_count c.self.inside.store c.make_room.new.st n c.self.invariant.whole stays c.args.f.0 f
    c.slot_of_face-face.ensures c.face_len-before.result c.face_len-before.ensures.len in
    let lost = emptied c.self.inside.store c.make_room.new.st c.take_loops.new.st n c.self.invariant.whole stays c.args.f f
    c.slot_of_face-face.ensures c.face_len-before.result count t.loses (t.whole n (nearly_of stays.whole)) t.empty in
    let put = c.put_corners.ensures.appends in
    let there = ap (λ (xs : List (Option Slot)). is_some (slot_at xs c.args.f.0)) t.loses.face_names
    ∙ ap (λ (o : Option Slot). is_some o) (stays.same.face_names c.args.f.0 ∙ c.slot_of_face-face.ensures) in
    let own = corners_by c.take_loops.new.st c.put_corners.new.st _ _ lost.whole.nearly.records
    put.whole.nearly.records c.args.f (λ (ks : List CornerRec). ks ++ c.args.corners.now) put.read there in
    let long = length-append (corners_of (face_at c.take_loops.new.st c.args.f.0)) c.args.corners.now in
    let some = c.requires.some in
    let lists : NameLists = record { materials = c.self.inside.materials; libraries = c.self.inside.libraries } in
    let gone = ap (λ (rs : List Round). length rs) t.empty in
    let many = of_corners (length c.args.corners.now) in
    mesh_kept many c.self.invariant
    (whole_again c.put_corners.new.st _ c.args.f put.whole (λ r is none.
    let told = ap (λ (o : Option FaceRec). length (corners_of o)) (sym is) in
    let all = ap (λ (cs : List CornerRec). length cs) own in
    let empty = ap (λ (cs : List CornerRec). length cs) none in
    absurd (omega arith)))
    (keeps_then none_of_all many many c.self.inside.store c.take_loops.new.st c.put_corners.new.st (none_first many)
    (keeps_then none_of_all none_of_all none_of_all c.self.inside.store c.make_room.new.st c.take_loops.new.st
    (none_more none_of_all) c.make_room.ensures.places
    (keeps_without_loops c.make_room.new.st c.take_loops.new.st f.0 t.loses (omega arith)))
    c.put_corners.ensures.places)
    (ap (λ (x : Complex). x.layers) (put.read lists) ∙ ap (λ (x : Complex). x.layers) (lost.read lists)
    ∙ stays.same.layers)

pub returns-clause-now : goal.returns-clause-now
returns-clause-now c =
    let lists : NameLists = record { materials = c.self.inside.materials; libraries = c.self.inside.libraries } in
    let stays = c.make_room.ensures.stays in
    let n = c.self.inside.next in
    let f = c.slot_of_face-face.result in
    let t = c.take_loops.ensures in
    let count = kept_count c.self.inside.store c.make_room.new.st n c.self.invariant.whole stays c.args.f.0 f
    c.slot_of_face-face.ensures c.face_len-before.result c.face_len-before.ensures.len in
    let lost = emptied c.self.inside.store c.make_room.new.st c.take_loops.new.st n c.self.invariant.whole stays c.args.f f
    c.slot_of_face-face.ensures c.face_len-before.result count t.loses (t.whole n (nearly_of stays.whole)) t.empty in
    let behind = λ (ks : List CornerRec). ks ++ c.args.corners.now in
    c.put_corners.ensures.appends.read lists
    ∙ ap (λ (x : Complex). with_corners_by x c.args.f behind) (lost.read lists)
    ∙ corners_twice (read_off c.make_room.new.st n lists) c.args.f (λ (ks : List CornerRec). []) behind
    ∙ ap (λ (x : Complex). with_corners x c.args.f c.args.corners.now) (stays.read lists ∙ ap now c.self.view_is)

pub returns-clause-disks : goal.returns-clause-disks
returns-clause-disks c =
    let stays = c.make_room.ensures.stays in
    let n = c.self.inside.next in
    let f = c.slot_of_face-face.result in
    let t = c.take_loops.ensures in
    let count = kept_count c.self.inside.store c.make_room.new.st n c.self.invariant.whole stays c.args.f.0 f
    c.slot_of_face-face.ensures c.face_len-before.result c.face_len-before.ensures.len in
    let lost = emptied c.self.inside.store c.make_room.new.st c.take_loops.new.st n c.self.invariant.whole stays c.args.f f
    c.slot_of_face-face.ensures c.face_len-before.result count t.loses (t.whole n (nearly_of stays.whole)) t.empty in
    c.put_corners.ensures.appends.disks ∙ lost.disks ∙ stays.disks ∙ ap disks c.self.view_is

pub returns-clause-room : goal.returns-clause-room
returns-clause-room c =
    let stays = c.make_room.ensures.stays in
    let n = c.self.inside.next in
    let f = c.slot_of_face-face.result in
    let t = c.take_loops.ensures in
    let count = kept_count c.self.inside.store c.make_room.new.st n c.self.invariant.whole stays c.args.f.0 f
    c.slot_of_face-face.ensures c.face_len-before.result c.face_len-before.ensures.len in
    let lost = emptied c.self.inside.store c.make_room.new.st c.take_loops.new.st n c.self.invariant.whole stays c.args.f f
    c.slot_of_face-face.ensures c.face_len-before.result count t.loses (t.whole n (nearly_of stays.whole)) t.empty in
    let sees = many_now c.self.inside.store n c.self.invariant.whole c.args.f.0 f c.slot_of_face-face.ensures
    c.face_len-before.result c.face_len-before.ensures.len (now c.args.self.now) (ap now c.self.view_is) in
    let put = c.put_corners.ensures.appends in
    let a = stays.room in
    let b = lost.room in
    let d = put.room in
    let a1 = a.verts in
    let a2 = a.edges in
    let a3 = a.corners in
    let a4 = a.faces in
    let b1 = b.verts in
    let b2 = b.edges in
    let b4 = b.faces in
    let d1 = d.verts in
    let d2 = d.edges in
    let d4 = d.faces in
    let spare = t.loses.spare in
    let none = ap (λ (rs : List Round). length rs) t.empty in
    let left = put.spare in
    let P = λ (r : Amounts). UsesAtMost (of_corners (length c.args.corners.now
    - length (corners_of (at (now c.args.self.now).faces c.args.f.0)))) r (room_in c.put_corners.new.st n) in
    subst P (ap room c.self.view_is) (record {
      verts = omega arith;
      edges = omega arith;
      corners = omega arith;
      faces = omega arith;
    })

pub invariant_of-self : goal.invariant_of-self
invariant_of-self c = mesh_kept none_of_all c.self.invariant c.make_room.ensures.stays.whole
    c.make_room.ensures.places c.make_room.ensures.stays.same.layers
