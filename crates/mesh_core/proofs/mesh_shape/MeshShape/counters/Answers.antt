use Rattle.std.proofs.Common.{◌≡◌, sym, ap, ◌∙◌, subst}
use Rattle.mesh_model.specs.Complex.{Complex, counters_of}
use Rattle.mesh_records.specs.ReadOff.{NameLists}
use Rattle.mesh_core.specs.Seen.{now}
use Rattle.mesh_records.specs.ReadOff.{read_off, vert_at, edge_at, face_at}
use Rattle.mesh_records.proofs.Tables.{length_table}
use Rattle.mesh_model.specs.Valid.{IsLinked}
use Rattle.mesh_core.specs.Seen.{Seen}
use Rattle.mesh_records.proofs.Linked.{whole_linked}
use Rattle.mesh_core.proofs.mesh_shape.MeshShape.counters.Goals as goal

pub returns-clause-counters : goal.returns-clause-counters
returns-clause-counters c =
    let st = c.self.inside.store in
    let n = c.self.inside.next in
    let v = sym (length_table (vert_at st) n.verts) in
    let e = sym (length_table (edge_at st) n.edges) in
    let f = sym (length_table (face_at st) n.faces) in
    let k = c.self.invariant.whole.corners in
    let lists : NameLists = record { materials = c.self.inside.materials; libraries = c.self.inside.libraries } in
    let all : n ≡ counters_of (read_off st n lists) =
    λ i. record { verts = v i; edges = e i; faces = f i; corners = k i } in
    all ∙ ap (λ (x : Complex). counters_of x) (ap now c.self.view_is)

pub returns-clause-linked : goal.returns-clause-linked
returns-clause-linked c =
    let lists : NameLists = record { materials = c.self.inside.materials; libraries = c.self.inside.libraries } in
    let P = λ (m : Seen). IsLinked (now m) in
    subst P c.self.view_is (whole_linked c.self.inside.store c.self.inside.next lists c.self.invariant.whole)
