use Rattle.std.proofs.Common.{is_some, Option, sym, ap, ◌∙◌}
use Rattle.raw_pool.specs.declared.pool.Slot.{Slot}
use Rattle.mesh_model.specs.Complex.{Complex, has}
use Rattle.mesh_model.specs.declared.names.Elem.TheVariants.{Vert, Edge, Face}
use Rattle.mesh_records.specs.ReadOff.{NameLists}
use Rattle.mesh_core.specs.Seen.{now}
use Rattle.mesh_records.proofs.Stands.{stands_for}
use Rattle.mesh_core.proofs.mesh_shape.MeshShape.has.Goals as goal

pub returns-in-Vert : goal.returns-in-Vert
returns-in-Vert c =
    let st = c.self.inside.store in
    let lists : NameLists = record { materials = c.self.inside.materials; libraries = c.self.inside.libraries } in
    let same = (stands_for st c.self.inside.next lists c.self.invariant.whole).verts.same in
    c.is_some.ensures ∙ ap (λ (o : Option Slot). is_some o) c.vert_slot.ensures.slot ∙ same c.in-Vert.v.0
    ∙ ap (λ (x : Complex). has x (Vert c.in-Vert.v)) (ap now c.self.view_is)
    ∙ ap (has (now c.args.self.now)) (sym c.in-Vert.is)

pub returns-in-Edge : goal.returns-in-Edge
returns-in-Edge c =
    let st = c.self.inside.store in
    let lists : NameLists = record { materials = c.self.inside.materials; libraries = c.self.inside.libraries } in
    let same = (stands_for st c.self.inside.next lists c.self.invariant.whole).edges.same in
    c.is_some-in-Edge.ensures ∙ ap (λ (o : Option Slot). is_some o) c.edge_slot.ensures.slot ∙ same c.in-Edge.e.0
    ∙ ap (λ (x : Complex). has x (Edge c.in-Edge.e)) (ap now c.self.view_is)
    ∙ ap (has (now c.args.self.now)) (sym c.in-Edge.is)

pub returns-in-Face : goal.returns-in-Face
returns-in-Face c =
    let st = c.self.inside.store in
    let lists : NameLists = record { materials = c.self.inside.materials; libraries = c.self.inside.libraries } in
    let same = (stands_for st c.self.inside.next lists c.self.invariant.whole).faces.same in
    c.is_some-in-Face.ensures ∙ ap (λ (o : Option Slot). is_some o) c.face_slot.ensures.slot ∙ same c.in-Face.f.0
    ∙ ap (λ (x : Complex). has x (Face c.in-Face.f)) (ap now c.self.view_is)
    ∙ ap (has (now c.args.self.now)) (sym c.in-Face.is)
