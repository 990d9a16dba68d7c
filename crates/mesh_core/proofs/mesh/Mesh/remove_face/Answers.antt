use Rattle.std.proofs.Common.{List, length, arith, sym, ap, ◌∙◌}
use Rattle.std.proofs.lemmas.Option.{same_Some}
use Rattle.mesh_cycles.proofs.Completeness.{live_len}
use Rattle.mesh_model.specs.Complex.{Complex}
use Rattle.mesh_model.specs.Kernel.{without_face}
use Rattle.mesh_records.specs.ReadOff.{NameLists}
use Rattle.mesh_core.specs.Seen.{now, disks}
use Rattle.mesh_records.proofs.Elements.{name_live}
use Rattle.mesh_records.proofs.Examples.{face_of_name}
use Rattle.mesh_records.proofs.Kills.{KillsFace, kills_face, corners_there}
use Rattle.mesh_store.specs.declared.cells.Round.{Round}
use Rattle.mesh_records.specs.Room.{none_of_all}
use Rattle.mesh_records.proofs.Places.{keeps_then, none_more, keeps_without_loops, keeps_less_face}
use Rattle.mesh_core.proofs.Kept.{mesh_kept}
use Rattle.mesh_core.proofs.mesh.Mesh.remove_face.Goals as goal

pub slot_of_face-face-requires : goal.slot_of_face-face-requires
slot_of_face-face-requires c = face_of_name c.self.inside.store c.self.inside.next _ (now c.args.self.now) c.args.f.0
    (ap now c.self.view_is) c.requires

pub face_len-len-requires : goal.face_len-len-requires
face_len-len-requires c = name_live c.self.invariant.whole.records.named.faces c.args.f.0 c.slot_of_face-face.result
    c.slot_of_face-face.ensures

killed : (c : goal.After-self-1) → KillsFace c.self.inside.store c.drop_face.new.self c.self.inside.next c.args.f
    c.face_len-len.result
killed c =
    let st = c.self.inside.store in
    let n = c.self.inside.next in
    let f = c.slot_of_face-face.result in
    let w = c.self.invariant.whole in
    let live = name_live w.records.named.faces c.args.f.0 f c.slot_of_face-face.ensures in
    let len = same_Some _ _ (sym c.face_len-len.ensures.len ∙ live_len st f.0 w.cycles.counted live) in
    kills_face st c.take_loops.new.st n c.args.f f w c.slot_of_face-face.ensures
    (c.take_loops.ensures.whole n (record {
      records = w.records;
      cycles = w.cycles;
      values = w.values;
      sizes = w.sizes;
    })) c.take_loops.ensures.loses c.take_loops.ensures.empty
    c.drop_face.new.self c.face_len-len.result len c.drop_face.ensures.drops c.drop_face.ensures.spare

pub invariant_of-self : goal.invariant_of-self
invariant_of-self c =
    let lists : NameLists = record { materials = c.self.inside.materials; libraries = c.self.inside.libraries } in
    let none = ap (λ (rs : List Round). length rs) c.take_loops.ensures.empty in
    mesh_kept none_of_all c.self.invariant (killed c).whole
    (keeps_then none_of_all none_of_all none_of_all c.self.inside.store c.take_loops.new.st c.drop_face.new.self
    (none_more none_of_all)
    (keeps_without_loops c.self.inside.store c.take_loops.new.st c.slot_of_face-face.result.0 c.take_loops.ensures.loses
    (omega arith))
    (keeps_less_face c.take_loops.new.st c.drop_face.new.self c.slot_of_face-face.result.0 c.drop_face.ensures.drops
    c.drop_face.ensures.spare))
    (ap (λ (x : Complex). x.layers) ((killed c).read lists))

pub overflow_sub-self : goal.overflow_sub-self
overflow_sub-self c =
    let f = c.slot_of_face-face.result in
    let w = c.self.invariant.whole in
    let live = name_live w.records.named.faces c.args.f.0 f c.slot_of_face-face.ensures in
    let len = same_Some _ _ (sym c.face_len-len.ensures.len ∙ live_len c.self.inside.store f.0 w.cycles.counted live) in
    omega (arith, corners_there c.self.inside.store c.self.inside.next c.args.f.0 f w c.slot_of_face-face.ensures)

pub returns-clause-now : goal.returns-clause-now
returns-clause-now c =
    let lists : NameLists = record { materials = c.self.inside.materials; libraries = c.self.inside.libraries } in
    (killed c).read lists ∙ ap (λ (x : Complex). without_face x c.args.f) (ap now c.self.view_is)

pub returns-clause-disks : goal.returns-clause-disks
returns-clause-disks c = (killed c).disks ∙ ap disks c.self.view_is
