use Rattle.std.proofs.Common.{◌||◌, Bool, not, sym, ap, ◌∙◌}
use Rattle.std.specs.List.{list_any}
use Rattle.mesh_cycles.specs.Found.{loops_in}
use Rattle.mesh_model.specs.Table.{at as record_at, allows}
use Rattle.mesh_model.specs.Complex.{Complex}
use Rattle.mesh_records.specs.ReadOff.{NameLists}
use Rattle.mesh_records.proofs.Elements.{name_live}
use Rattle.mesh_core.specs.Seen.{now}
use Rattle.mesh_core.proofs.Losing.{lets_go, along_edge_at, none_keeps, loops_tell}
use Rattle.mesh_core.proofs.mesh.Mesh.can_face_lose.Goals as goal

pub has_corner_at-requires-clause-live : goal.has_corner_at-requires-clause-live
has_corner_at-requires-clause-live c = name_live c.self.invariant.whole.records.named.faces c.args.f.0 c.in-Some.face
    (sym c.face_slot.ensures.slot ∙ c.in-Some.is)

pub returns-in-None : goal.returns-in-None
returns-in-None c =
    let lists : NameLists = record { materials = c.self.inside.materials; libraries = c.self.inside.libraries } in
    sym (none_keeps c.self.inside.store c.self.inside.next lists c.self.invariant.whole c.args.v c.args.f.0
    (sym c.face_slot.ensures.slot ∙ c.in-None.is))
    ∙ ap (λ (x : Complex). allows (lets_go x c.args.v) (record_at x.faces c.args.f.0)) (ap now c.self.view_is)

pub returns-then-not-has_corner_at : goal.returns-then-not-has_corner_at
returns-then-not-has_corner_at c =
    let st = c.self.inside.store in
    let lists : NameLists = record { materials = c.self.inside.materials; libraries = c.self.inside.libraries } in
    let along = list_any (along_edge_at st c.args.v) (loops_in st c.in-Some.face.0) in
    ap not c.if-not-has_corner_at.true
    ∙ sym (ap (λ (b : Bool). not b || along) (sym c.has_corner_at.ensures ∙ c.if-not-has_corner_at.true))
    ∙ loops_tell st c.self.inside.next lists c.self.invariant.whole c.args.v c.args.f.0 c.in-Some.face
    (sym c.face_slot.ensures.slot ∙ c.in-Some.is)
    ∙ ap (λ (x : Complex). allows (lets_go x c.args.v) (record_at x.faces c.args.f.0)) (ap now c.self.view_is)

pub returns-else-not-has_corner_at : goal.returns-else-not-has_corner_at
returns-else-not-has_corner_at c =
    let st = c.self.inside.store in
    let lists : NameLists = record { materials = c.self.inside.materials; libraries = c.self.inside.libraries } in
    let along = list_any (along_edge_at st c.args.v) (loops_in st c.in-Some.face.0) in
    c.has_edge_at.ensures
    ∙ sym (ap (λ (b : Bool). not b || along) (sym c.has_corner_at.ensures ∙ c.if-not-has_corner_at.false))
    ∙ loops_tell st c.self.inside.next lists c.self.invariant.whole c.args.v c.args.f.0 c.in-Some.face
    (sym c.face_slot.ensures.slot ∙ c.in-Some.is)
    ∙ ap (λ (x : Complex). allows (lets_go x c.args.v) (record_at x.faces c.args.f.0)) (ap now c.self.view_is)
