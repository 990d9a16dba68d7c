use Rattle.std.proofs.Common.{◌∙◌}
use Rattle.mesh_cycles.proofs.Besides.{disk_darts, disk_ends}
use Rattle.mesh_cycles.proofs.RingLists.{member_key}
use Rattle.kernel_tests.proofs.Sound.{sound_disk}
use Rattle.kernel_tests.proofs.cycles.edits.turn_edges.Goals as goal

pub disk_add-requires-clause-dart : goal.disk_add-requires-clause-dart
disk_add-requires-clause-dart g c =
    let old = c.args.st.now in
    let v = c.vert-vert.result.0 in
    let d = c.some_dart-dart.result in
    let r = c.requires.cycles.disks v in
    disk_darts old c.disk_remove.new.st v c.disk_remove.ensures.edits.rest d
    ∙ member_key d r c.some_dart-dart.ensures.member

pub disk_add-requires-clause-end : goal.disk_add-requires-clause-end
disk_add-requires-clause-end g c =
    let old = c.args.st.now in
    let v = c.vert-vert.result.0 in
    let d = c.some_dart-dart.result in
    disk_ends old c.disk_remove.new.st v c.disk_remove.ensures.edits.rest d
    ∙ c.requires.cycles.disk_ends v d c.some_dart-dart.ensures.member

pub returns : goal.returns
returns g c = sound_disk c.disk_add.ensures (sound_disk c.disk_remove.ensures.edits c.requires)
