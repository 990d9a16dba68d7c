use Rattle.std.proofs.Common.{◌+◌, take, refl}
use Rattle.mesh_trail.proofs.Growth.{settled, settled_rest, grown_tree, grown_pairs}
use Rattle.mesh_trail.proofs.note_map.settle.Goals as goal

pub returns-in-Free-clause-tree : goal.returns-in-Free-clause-tree
returns-in-Free-clause-tree g c =
    let spot = rw c.deref.ensures.value at c.in-Free.ensures in
    let it = settled c.args.entries.now.items c.hang.new.entries.items c.args.kept c.in-Free.at c.in-Free.bits
    c.args.kept (record { name = c.args.name; even = 0; odd = 0; was = c.args.was }) c.requires.within spot.within
    refl refl refl c.hang.ensures.items in
    grown_tree (take c.args.kept c.args.entries.now.items) (take (c.args.kept + 1) c.hang.new.entries.items)
    c.in-Free.at c.in-Free.bits it.0 (record { name = c.args.name; even = 0; odd = 0; was = c.args.was })
    c.requires.tree spot it.1

pub returns-in-Free-clause-pairs : goal.returns-in-Free-clause-pairs
returns-in-Free-clause-pairs g c =
    let spot = rw c.deref.ensures.value at c.in-Free.ensures in
    let it = settled c.args.entries.now.items c.hang.new.entries.items c.args.kept c.in-Free.at c.in-Free.bits
    c.args.kept (record { name = c.args.name; even = 0; odd = 0; was = c.args.was }) c.requires.within spot.within
    refl refl refl c.hang.ensures.items in
    grown_pairs (take c.args.kept c.args.entries.now.items) (take (c.args.kept + 1) c.hang.new.entries.items)
    c.in-Free.at c.in-Free.bits it.0 (record { name = c.args.name; even = 0; odd = 0; was = c.args.was }) it.1

pub returns-in-Free-clause-rest : goal.returns-in-Free-clause-rest
returns-in-Free-clause-rest g c =
    let spot = rw c.deref.ensures.value at c.in-Free.ensures in
    settled_rest c.args.entries.now.items c.hang.new.entries.items c.args.kept c.in-Free.at c.in-Free.bits c.args.kept
    (record { name = c.args.name; even = 0; odd = 0; was = c.args.was }) c.requires.within spot.within
    c.hang.ensures.items

pub returns-in-Here-clause-tree : goal.returns-in-Here-clause-tree
returns-in-Here-clause-tree g c = let it =
    rw c.deref.ensures.value at c.in-Here.ensures in absurd (c.requires.absent c.in-Here.field-0 it.0 it.1 it.2)

pub returns-in-Here-clause-pairs : goal.returns-in-Here-clause-pairs
returns-in-Here-clause-pairs g c = let it =
    rw c.deref.ensures.value at c.in-Here.ensures in absurd (c.requires.absent c.in-Here.field-0 it.0 it.1 it.2)

pub returns-in-Here-clause-rest : goal.returns-in-Here-clause-rest
returns-in-Here-clause-rest g c = let it =
    rw c.deref.ensures.value at c.in-Here.ensures in absurd (c.requires.absent c.in-Here.field-0 it.0 it.1 it.2)
