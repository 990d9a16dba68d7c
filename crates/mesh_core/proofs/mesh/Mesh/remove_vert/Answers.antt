use Rattle.std.proofs.Common.{◌≡◌, true, sym, ap, ◌∙◌, subst}
use Rattle.mesh_model.specs.Complex.{Complex}
use Rattle.mesh_model.specs.Incidence.{is_bare}
use Rattle.mesh_records.specs.ReadOff.{NameLists}
use Rattle.mesh_records.specs.Changes.{only_without_vert, has_no_corner}
use Rattle.mesh_core.specs.Seen.{now, disks}
use Rattle.mesh_records.proofs.AtVert.{bare_empty}
use Rattle.mesh_records.proofs.DropsVert.{DropsAVert, drops_a_vert}
use Rattle.mesh_records.proofs.Elements.{name_live}
use Rattle.mesh_records.proofs.Examples.{vert_of_name}
use Rattle.mesh_records.specs.Room.{none_of_all}
use Rattle.mesh_records.proofs.Places.{keeps_less_vert}
use Rattle.mesh_core.proofs.Kept.{mesh_kept}
use Rattle.mesh_core.proofs.mesh.Mesh.remove_vert.Goals as goal

pub slot_of_vert-vert-requires : goal.slot_of_vert-vert-requires
slot_of_vert-vert-requires c = vert_of_name c.self.inside.store c.self.inside.next _ (now c.args.self.now) c.args.v.0
    (ap now c.self.view_is) c.requires.there

pub drop_vert-requires : goal.drop_vert-requires
drop_vert-requires c = name_live c.self.invariant.whole.records.named.verts c.args.v.0 c.slot_of_vert-vert.result
    c.slot_of_vert-vert.ensures

dropped : (c : goal.After-drop_vert) → DropsAVert c.self.inside.store c.drop_vert.new.self c.self.inside.next c.args.v
dropped c =
    let lists : NameLists = record { materials = c.self.inside.materials; libraries = c.self.inside.libraries } in
    let B = λ (x : Complex). is_bare x c.args.v ≡ true in
    let N = λ (x : Complex). has_no_corner x c.args.v ≡ true in
    let same = sym (ap now c.self.view_is) in
    let empty = bare_empty c.self.inside.store c.self.inside.next lists c.self.invariant.whole c.args.v
    c.slot_of_vert-vert.result c.slot_of_vert-vert.ensures (subst B same c.requires.bare) in
    drops_a_vert c.self.inside.store c.drop_vert.new.self c.self.inside.next c.args.v c.slot_of_vert-vert.result
    c.self.invariant.whole c.slot_of_vert-vert.ensures empty lists (subst N same c.requires.corners)
    c.drop_vert.ensures.drops c.drop_vert.ensures.spare

pub invariant_of-self : goal.invariant_of-self
invariant_of-self c =
    let lists : NameLists = record { materials = c.self.inside.materials; libraries = c.self.inside.libraries } in
    mesh_kept none_of_all c.self.invariant (dropped c).whole
    (keeps_less_vert c.self.inside.store c.drop_vert.new.self c.slot_of_vert-vert.result.0 c.drop_vert.ensures.drops
    c.drop_vert.ensures.spare)
    (ap (λ (x : Complex). x.layers) ((dropped c).read lists))

pub returns-clause-now : goal.returns-clause-now
returns-clause-now c =
    let lists : NameLists = record { materials = c.self.inside.materials; libraries = c.self.inside.libraries } in
    (dropped c).read lists ∙ ap (λ (x : Complex). only_without_vert x c.args.v) (ap now c.self.view_is)

pub returns-clause-disks : goal.returns-clause-disks
returns-clause-disks c = (dropped c).disks ∙ ap disks c.self.view_is
