use Rattle.std.proofs.Common.{◌≡◌, List, [], ◌∷◌, ◌++◌, sym, ap, ◌∙◌, arith}
use Rattle.std.proofs.lemmas.Result.{err_from_is_err_and}
use Rattle.raw_pool.specs.declared.pool.Slot.{Slot}
use Rattle.raw_pool.specs.Slots.{IsLive}
use Rattle.mesh_model.specs.Making.{with_vert}
use Rattle.mesh_model.specs.Kernel.{vert_vals_like}
use Rattle.mesh_model.specs.declared.names.EdgeName.{EdgeName}
use Rattle.mesh_model.specs.declared.names.VertName.{VertName}
use Rattle.mesh_core.specs.Seen.{Seen}
use Rattle.mesh_records.specs.ReadOff.{NameLists}
use Rattle.mesh_core.specs.Seen.{now, disks}
use Rattle.mesh_records.specs.ReadOff.{read_off, vert_at, point_of}
use Rattle.mesh_records.specs.Puts.{row_like}
use Rattle.mesh_records.proofs.Tables.{length_table}
use Rattle.mesh_records.proofs.Examples.{example_live, if_some_at, vert_row_in}
use Rattle.mesh_records.proofs.Verts.{AddsAVert, adds_a_vert}
use Rattle.mesh_records.specs.Room.{none_of_all, of_verts}
use Rattle.mesh_model.specs.Complex.{Complex}
use Rattle.mesh_records.proofs.Places.{keeps_then, keeps_any, none_first, keeps_vert}
use Rattle.mesh_core.proofs.Kept.{mesh_kept, places_seen}
use Rattle.mesh_core.proofs.mesh.Mesh.make_vert.Goals as goal

pub returns-in_err-make_room-clause-err : goal.returns-in_err-make_room-clause-err
returns-in_err-make_room-clause-err c =
    let p = err_from_is_err_and c.from_residual.result c.from_residual.ensures.1 in
    rw p.1 (record {
      now = c.make_room.ensures.stays.read _ ∙ ap now c.self.view_is;
      base = ap (λ (m : Seen). m.base) c.self.view_is;
      disks = c.make_room.ensures.stays.disks ∙ ap disks c.self.view_is;
    })

pub put_vert-requires-clause-like : goal.put_vert-requires-clause-like
put_vert-requires-clause-like c = example_live (λ (v : VertName). v.0)
    c.make_room.ensures.stays.whole.records.named.verts c.args.example c.vert_like-like.result c.vert_like-like.ensures

made : (c : goal.After-self-1) → AddsAVert c.make_room.new.st c.put_vert.new.st c.self.inside.next c.coordinates.result
    c.vert_like-like.result
made c =
    let long = length_table (vert_at c.args.self.now.stored) c.args.self.now.next.verts in
    let same = ap (λ (m : Seen). m.next.verts) c.self.view_is in
    let room = c.in_ok-make_room.ensures.ok in
    let put = c.put_vert.ensures in
    let L = λ (s : Slot). IsLive c.make_room.new.st.verts.cells s.0 in
    let live = example_live (λ (v : VertName). v.0) c.make_room.ensures.stays.whole.records.named.verts c.args.example
    c.vert_like-like.result c.vert_like-like.ensures in
    adds_a_vert c.make_room.new.st c.self.inside.next c.put_vert.result c.coordinates.result c.vert_like-like.result
    c.make_room.ensures.stays.whole (omega arith) (let r = room.vert_names in omega arith) put.low put.vacant
    c.put_vert.new.st (if_some_at L c.vert_like-like.result live) put

pub invariant_of-self-2 : goal.invariant_of-self-2
invariant_of-self-2 c =
    let lists : NameLists = record { materials = c.self.inside.materials; libraries = c.self.inside.libraries } in
    let places = keeps_then none_of_all (of_verts 1) (of_verts 1) c.self.inside.store c.make_room.new.st c.put_vert.new.st
    (none_first (of_verts 1)) c.make_room.ensures.places
    (keeps_vert c.make_room.new.st c.put_vert.new.st _ _ _ c.put_vert.result c.put_vert.ensures) in
    mesh_kept (of_verts 1) c.self.invariant (made c).whole places
    (ap (λ (x : Complex). x.layers) ((made c).read lists) ∙ c.make_room.ensures.stays.same.layers)

pub returns-clause-name : goal.returns-clause-name
returns-clause-name c = ap (λ (m : Seen). m.next.verts) c.self.view_is
    ∙ sym (length_table (vert_at c.args.self.now.stored) c.args.self.now.next.verts)

pub returns-clause-now : goal.returns-clause-now
returns-clause-now c =
    let lists : NameLists = record { materials = c.self.inside.materials; libraries = c.self.inside.libraries } in
    let st = c.make_room.new.st in
    let n = c.self.inside.next in
    let before : read_off st n lists ≡ now c.args.self.now =
    c.make_room.ensures.stays.read lists ∙ ap now c.self.view_is in
    let vals : row_like st.values.verts c.vert_like-like.result ≡ vert_vals_like (now c.args.self.now) c.args.example =
    vert_row_in st n lists (now c.args.self.now) c.args.example c.vert_like-like.result
    c.make_room.ensures.stays.whole.records before c.requires.example c.vert_like-like.ensures in
    let point = ap point_of c.coordinates.ensures in
    (made c).read lists ∙ (λ i. with_vert (before i) (record { point = point i; vals = vals i }))

pub returns-clause-disks : goal.returns-clause-disks
returns-clause-disks c = (made c).disks
    ∙ ap (λ (ds : List (List EdgeName)). ds ++ [] ∷ []) (c.make_room.ensures.stays.disks ∙ ap disks c.self.view_is)

pub invariant_of-self : goal.invariant_of-self
invariant_of-self c = mesh_kept none_of_all c.self.invariant c.make_room.ensures.stays.whole
    c.make_room.ensures.places c.make_room.ensures.stays.same.layers

pub returns-in_err-make_room-clause-places : goal.returns-in_err-make_room-clause-places
returns-in_err-make_room-clause-places c = places_seen (of_verts 1) c.args.self.now
    (ap (λ (m : Seen). m.stored) c.self.view_is) (keeps_any (of_verts 1) _ _ c.make_room.ensures.places)

pub returns-clause-places : goal.returns-clause-places
returns-clause-places c =
    let places = keeps_then none_of_all (of_verts 1) (of_verts 1) c.self.inside.store c.make_room.new.st c.put_vert.new.st
    (none_first (of_verts 1)) c.make_room.ensures.places
    (keeps_vert c.make_room.new.st c.put_vert.new.st _ _ _ c.put_vert.result c.put_vert.ensures) in
    places_seen (of_verts 1) c.args.self.now (ap (λ (m : Seen). m.stored) c.self.view_is) places
