use Rattle.std.proofs.Common.{◌≡◌, ◌++◌, ◌∷◌, [], List, length, sym, ap, ◌∙◌, subst, arith}
use Rattle.mesh_model.specs.Complex.{Complex, corner_sum, width}
use Rattle.mesh_model.specs.Kernel.{with_corners_by}
use Rattle.mesh_model.specs.declared.names.Kind.TheVariants.{Corners}
use Rattle.mesh_model.specs.declared.records.CornerRec.{CornerRec}
use Rattle.mesh_core.specs.Seen.{Seen, now, room}
use Rattle.mesh_records.specs.ReadOff.{NameLists}
use Rattle.mesh_records.proofs.Examples.{vert_of_name, edge_of_name, face_of_name}
use Rattle.mesh_records.specs.Corners.{of_corners}
use Rattle.mesh_core.proofs.Kept.{mesh_kept, places_seen}
use Rattle.mesh_core.proofs.mesh.Mesh.append_corner.Goals as goal

pub append_row-requires-clause-there : goal.append_row-requires-clause-there
append_row-requires-clause-there c = face_of_name c.self.inside.store c.self.inside.next _ (now c.args.self.now)
    c.args.f.0 (ap now c.self.view_is) c.requires.there

pub append_row-requires-clause-vert : goal.append_row-requires-clause-vert
append_row-requires-clause-vert c = vert_of_name c.self.inside.store c.self.inside.next _ (now c.args.self.now)
    c.args.vert.0 (ap now c.self.view_is) c.requires.linked.vert

pub append_row-requires-clause-edge : goal.append_row-requires-clause-edge
append_row-requires-clause-edge c = edge_of_name c.self.inside.store c.self.inside.next _ (now c.args.self.now)
    c.args.edge.0 (ap now c.self.view_is) c.requires.linked.edge

pub append_row-requires-clause-wide : goal.append_row-requires-clause-wide
append_row-requires-clause-wide c = let P =
    λ (x : Complex). length c.args.row.now ≡ width x Corners in
    subst P (sym (ap now c.self.view_is)) c.requires.linked.vals

pub append_row-requires-clause-few : goal.append_row-requires-clause-few
append_row-requires-clause-few c =
    let corners = c.self.invariant.whole.corners in
    let sum = ap (λ (m : Seen). corner_sum (now m).faces) c.self.view_is in
    let few = c.requires.few in
    omega arith

pub append_row-requires-clause-room : goal.append_row-requires-clause-room
append_row-requires-clause-room c =
    let same = ap (λ (m : Seen). (room m).corners) c.self.view_is in
    let spare = c.requires.room in
    omega arith

pub invariant_of-self : goal.invariant_of-self
invariant_of-self c =
    let lists : NameLists = record { materials = c.self.inside.materials; libraries = c.self.inside.libraries } in
    mesh_kept (of_corners 1) c.self.invariant c.append_row.ensures.appends.whole c.append_row.ensures.places
    (ap (λ (x : Complex). x.layers) (c.append_row.ensures.appends.read lists))

pub returns-clause-now : goal.returns-clause-now
returns-clause-now c =
    let lists : NameLists = record { materials = c.self.inside.materials; libraries = c.self.inside.libraries } in
    let corner : CornerRec = record { vert = c.args.vert; edge = c.args.edge; vals = c.args.row.now } in
    c.append_row.ensures.appends.read lists
    ∙ ap (λ (x : Complex). with_corners_by x c.args.f (λ (ks : List CornerRec). ks ++ corner ∷ []))
    (ap now c.self.view_is)

pub returns-clause-places : goal.returns-clause-places
returns-clause-places c = places_seen (of_corners 1) c.args.self.now
    (ap (λ (m : Seen). m.stored) c.self.view_is) c.append_row.ensures.places
