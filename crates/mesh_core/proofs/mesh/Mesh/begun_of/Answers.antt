use Rattle.std.proofs.Common.{ap, ◌∙◌, subst, arith}
use Rattle.mesh_model.specs.Complex.{Complex}
use Rattle.mesh_model.specs.declared.records.Counters.{Counters}
use Rattle.mesh_records.specs.Room.{Covers}
use Rattle.mesh_core.specs.Seen.{room}
use Rattle.mesh_core.proofs.Filled.{becomes_reserved}
use Rattle.mesh_core.proofs.mesh.Mesh.begun_of.Goals as goal

pub layered_of-requires : goal.layered_of-requires
layered_of-requires c = c.requires.linked

pub reserve-requires-clause-verts : goal.reserve-requires-clause-verts
reserve-requires-clause-verts c =
    omega (arith, ap (λ (n : Counters). n.verts) c.counters-next.ensures.counters, c.requires.limits.verts)

pub reserve-requires-clause-edges : goal.reserve-requires-clause-edges
reserve-requires-clause-edges c =
    omega (arith, ap (λ (n : Counters). n.edges) c.counters-next.ensures.counters, c.requires.limits.edges)

pub reserve-requires-clause-corners : goal.reserve-requires-clause-corners
reserve-requires-clause-corners c =
    omega (arith, ap (λ (n : Counters). n.corners) c.counters-next.ensures.counters, c.requires.limits.corners)

pub reserve-requires-clause-faces : goal.reserve-requires-clause-faces
reserve-requires-clause-faces c =
    omega (arith, ap (λ (n : Counters). n.faces) c.counters-next.ensures.counters, c.requires.limits.faces)

pub returns : goal.returns
returns c =
    let d = c.args.draft.now in
    let same = c.in_ok-reserve.ensures.stays.now ∙ c.in_ok-load_names.ensures
    ∙ ap (λ (x : Complex). let y : Complex = record x { materials = d.materials; libraries = d.libraries } in y)
    c.in_ok-made.ensures in
    let C = λ (n : Counters). Covers (room c.reserve.new.self)
    (record { verts = n.verts; edges = n.edges; corners = n.corners; faces = n.faces }) in
    becomes_reserved c.reserve.new.self d c.requires
    (subst C c.counters-next.ensures.counters c.in_ok-reserve.ensures.ok) (ap (λ (x : Complex). x.layers) same)
    (ap (λ (x : Complex). x.materials) same) (ap (λ (x : Complex). x.libraries) same)
