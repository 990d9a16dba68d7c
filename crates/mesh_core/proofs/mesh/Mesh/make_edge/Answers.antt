use Rattle.std.proofs.Common.{◌≡◌, List, sym, ap, ◌∙◌, arith}
use Rattle.std.proofs.lemmas.Result.{err_from_is_err_and}
use Rattle.raw_pool.specs.declared.pool.Slot.{Slot}
use Rattle.raw_pool.specs.Slots.{IsLive}
use Rattle.mesh_model.specs.Making.{with_edge}
use Rattle.mesh_model.specs.Kernel.{edge_vals_like}
use Rattle.mesh_model.specs.declared.names.EdgeName.{EdgeName}
use Rattle.mesh_core.specs.Seen.{Seen}
use Rattle.mesh_records.specs.ReadOff.{NameLists}
use Rattle.mesh_records.specs.Changes.{with_last}
use Rattle.mesh_core.specs.Seen.{now, disks}
use Rattle.mesh_records.specs.ReadOff.{read_off, edge_at}
use Rattle.mesh_records.specs.Puts.{row_like}
use Rattle.mesh_records.proofs.Tables.{length_table}
use Rattle.mesh_records.proofs.Elements.{name_live}
use Rattle.mesh_records.proofs.Examples.{example_live, if_some_at, vert_of_name, edge_row_in}
use Rattle.mesh_records.proofs.Edges.{AddsAnEdge, adds_an_edge, names_apart}
use Rattle.mesh_records.specs.Room.{none_of_all, of_edges}
use Rattle.mesh_model.specs.Complex.{Complex}
use Rattle.mesh_records.proofs.Places.{keeps_then, keeps_any, none_first, keeps_edge}
use Rattle.mesh_core.proofs.Kept.{mesh_kept, places_seen}
use Rattle.mesh_core.proofs.mesh.Mesh.make_edge.Goals as goal

pub returns-in_err-make_room-clause-err : goal.returns-in_err-make_room-clause-err
returns-in_err-make_room-clause-err c =
    let p = err_from_is_err_and c.from_residual.result c.from_residual.ensures.1 in
    rw p.1 (record {
      now = c.make_room.ensures.stays.read _ ∙ ap now c.self.view_is;
      base = ap (λ (m : Seen). m.base) c.self.view_is;
      disks = c.make_room.ensures.stays.disks ∙ ap disks c.self.view_is;
    })

pub slot_of_vert-from-requires : goal.slot_of_vert-from-requires
slot_of_vert-from-requires c = vert_of_name c.make_room.new.st c.self.inside.next _ (now c.args.self.now) c.args.a.0
    (c.make_room.ensures.stays.read _ ∙ ap now c.self.view_is) c.requires.a

pub slot_of_vert-to-requires : goal.slot_of_vert-to-requires
slot_of_vert-to-requires c = vert_of_name c.make_room.new.st c.self.inside.next _ (now c.args.self.now) c.args.b.0
    (c.make_room.ensures.stays.read _ ∙ ap now c.self.view_is) c.requires.b

pub put_edge-requires-clause-from : goal.put_edge-requires-clause-from
put_edge-requires-clause-from c = name_live c.make_room.ensures.stays.whole.records.named.verts c.args.a.0
    c.slot_of_vert-from.result c.slot_of_vert-from.ensures

pub put_edge-requires-clause-to : goal.put_edge-requires-clause-to
put_edge-requires-clause-to c = name_live c.make_room.ensures.stays.whole.records.named.verts c.args.b.0
    c.slot_of_vert-to.result c.slot_of_vert-to.ensures

pub put_edge-requires-clause-differ : goal.put_edge-requires-clause-differ
put_edge-requires-clause-differ c = names_apart c.make_room.ensures.stays.whole.records.named.verts c.args.a.0
    c.args.b.0 c.slot_of_vert-from.result c.slot_of_vert-to.result c.slot_of_vert-from.ensures c.slot_of_vert-to.ensures
    c.requires.differ

pub put_edge-requires-clause-like : goal.put_edge-requires-clause-like
put_edge-requires-clause-like c = example_live (λ (e : EdgeName). e.0)
    c.make_room.ensures.stays.whole.records.named.edges c.args.example c.edge_like-like.result c.edge_like-like.ensures

made : (c : goal.After-self-1) → AddsAnEdge c.make_room.new.st c.put_edge.new.st c.self.inside.next c.args.a.0
    c.args.b.0 c.edge_like-like.result
made c =
    let long = length_table (edge_at c.args.self.now.stored) c.args.self.now.next.edges in
    let same = ap (λ (m : Seen). m.next.edges) c.self.view_is in
    let room = c.in_ok-make_room.ensures.ok in
    let L = λ (s : Slot). IsLive c.make_room.new.st.edges.cells s.0 in
    let live = example_live (λ (e : EdgeName). e.0) c.make_room.ensures.stays.whole.records.named.edges c.args.example
    c.edge_like-like.result c.edge_like-like.ensures in
    adds_an_edge c.make_room.new.st c.put_edge.new.st c.self.inside.next c.args.a.0 c.args.b.0
    c.slot_of_vert-from.result c.slot_of_vert-to.result c.put_edge.result c.edge_like-like.result
    c.make_room.ensures.stays.whole (omega arith) (let r = room.edge_names in omega arith) c.slot_of_vert-from.ensures
    c.slot_of_vert-to.ensures c.requires.differ c.put_edge.ensures
    (if_some_at L c.edge_like-like.result live)

pub invariant_of-self-2 : goal.invariant_of-self-2
invariant_of-self-2 c =
    let lists : NameLists = record { materials = c.self.inside.materials; libraries = c.self.inside.libraries } in
    let places = keeps_then none_of_all (of_edges 1) (of_edges 1) c.self.inside.store c.make_room.new.st c.put_edge.new.st
    (none_first (of_edges 1)) c.make_room.ensures.places
    (keeps_edge c.make_room.new.st c.put_edge.new.st _ _ _ _ c.put_edge.result c.put_edge.ensures) in
    mesh_kept (of_edges 1) c.self.invariant (made c).whole places
    (ap (λ (x : Complex). x.layers) ((made c).read lists) ∙ c.make_room.ensures.stays.same.layers)

pub returns-clause-name : goal.returns-clause-name
returns-clause-name c = ap (λ (m : Seen). m.next.edges) c.self.view_is
    ∙ sym (length_table (edge_at c.args.self.now.stored) c.args.self.now.next.edges)

pub returns-clause-now : goal.returns-clause-now
returns-clause-now c =
    let lists : NameLists = record { materials = c.self.inside.materials; libraries = c.self.inside.libraries } in
    let st = c.make_room.new.st in
    let n = c.self.inside.next in
    let before : read_off st n lists ≡ now c.args.self.now =
    c.make_room.ensures.stays.read lists ∙ ap now c.self.view_is in
    let vals : row_like st.values.edges c.edge_like-like.result ≡ edge_vals_like (now c.args.self.now) c.args.example =
    edge_row_in st n lists (now c.args.self.now) c.args.example c.edge_like-like.result
    c.make_room.ensures.stays.whole.records before c.requires.example c.edge_like-like.ensures in
    (made c).read lists ∙ (λ i. with_edge (before i) (record { a = c.args.a; b = c.args.b; vals = vals i }))

pub returns-clause-disks : goal.returns-clause-disks
returns-clause-disks c =
    let e : EdgeName = record { 0 = c.self.inside.next.edges } in
    (made c).disks ∙ ap (λ (ds : List (List EdgeName)). with_last (with_last ds c.args.a.0 e) c.args.b.0 e)
    (c.make_room.ensures.stays.disks ∙ ap disks c.self.view_is)

pub invariant_of-self : goal.invariant_of-self
invariant_of-self c = mesh_kept none_of_all c.self.invariant c.make_room.ensures.stays.whole
    c.make_room.ensures.places c.make_room.ensures.stays.same.layers

pub returns-in_err-make_room-clause-places : goal.returns-in_err-make_room-clause-places
returns-in_err-make_room-clause-places c = places_seen (of_edges 1) c.args.self.now
    (ap (λ (m : Seen). m.stored) c.self.view_is) (keeps_any (of_edges 1) _ _ c.make_room.ensures.places)

pub returns-clause-places : goal.returns-clause-places
returns-clause-places c =
    let places = keeps_then none_of_all (of_edges 1) (of_edges 1) c.self.inside.store c.make_room.new.st c.put_edge.new.st
    (none_first (of_edges 1)) c.make_room.ensures.places
    (keeps_edge c.make_room.new.st c.put_edge.new.st _ _ _ _ c.put_edge.result c.put_edge.ensures) in
    places_seen (of_edges 1) c.args.self.now (ap (λ (m : Seen). m.stored) c.self.view_is) places
