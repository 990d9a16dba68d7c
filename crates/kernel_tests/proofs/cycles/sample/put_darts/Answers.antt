use Rattle.std.proofs.Common.{◌≡◌, ◌∙◌, refl, ap}
use Rattle.mesh_store.specs.declared.cells.Dart.{Dart}
use Rattle.mesh_cycles.proofs.Besides.{disk_darts, disk_ends}
use Rattle.mesh_cycles.proofs.Completeness.{dart_on, dart_there, grown_apart, whole_put}
use Rattle.kernel_tests.proofs.Sound.{sound_disk}
use Rattle.kernel_tests.proofs.cycles.sample.put_darts.Goals as goal

pub disk_add-requires-2-clause-dart : goal.disk_add-requires-2-clause-dart
disk_add-requires-2-clause-dart c =
    let d = dart_on c.args.edge 1 in
    disk_darts c.args.st.now c.disk_add.new.st c.args.from.0 c.disk_add.ensures.rest d
    ∙ dart_there c.args.st.now d c.args.to.0 c.requires.end refl

pub disk_add-requires-2-clause-end : goal.disk_add-requires-2-clause-end
disk_add-requires-2-clause-end c = disk_ends c.args.st.now c.disk_add.new.st c.args.from.0 c.disk_add.ensures.rest
    (dart_on c.args.edge 1) ∙ c.requires.end

pub disk_add-requires-2-clause-apart : goal.disk_add-requires-2-clause-apart
disk_add-requires-2-clause-apart c =
    grown_apart c.args.st.now c.disk_add.new.st c.args.from.0 (dart_on c.args.edge 0) c.disk_add.ensures.own
    c.disk_add.ensures.others (dart_on c.args.edge 1) (c.requires.apart 1)
    (λ e. let s : 0 ≡ 1 = ap (λ (d : Dart). d.side) e in cc)

pub returns-clause-sound : goal.returns-clause-sound
returns-clause-sound c = λ s. sound_disk c.disk_add-2.ensures (sound_disk c.disk_add.ensures s)

pub returns-clause-whole : goal.returns-clause-whole
returns-clause-whole c = λ w.
    whole_put c.args.st.now c.disk_add.new.st c.disk_add-2.new.st c.args.from.0 c.args.to.0 c.args.edge
    c.disk_add.ensures c.disk_add-2.ensures c.requires.start c.requires.end w
