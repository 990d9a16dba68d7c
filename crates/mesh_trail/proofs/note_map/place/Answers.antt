use Rattle.std.proofs.Common.{refl, arith}
use Rattle.mesh_trail.specs.Tree.{pairs}
use Rattle.mesh_trail.proofs.Growth.{noted_there, absent_not, absent_empty, first_names, get-absent, get-at, grown_hung, grown_tree, grown_pairs, grown_names}
use Rattle.mesh_trail.proofs.Rising.{pairs_there, pairs_new, pairs-append}
use Rattle.mesh_trail.proofs.note_map.place.Goals as goal

pub returns-in_err-push-clause-there : goal.returns-in_err-push-clause-there
returns-in_err-push-clause-there g c = absent_not c.args.entries.now.items c.args.name
    (absent_empty c.args.entries.now.items c.args.name (omega arith))

pub returns-then-n-eq0-clause-ok : goal.returns-then-n-eq0-clause-ok
returns-then-n-eq0-clause-ok g c = rw (c.in_ok-push.ensures.items, c.in_ok-reserve.ensures.items)
    (first_names c.args.entries.now.items (record { name = c.args.name; even = 0; odd = 0; was = c.args.was })
    (omega arith))

pub returns-then-n-eq0-clause-there : goal.returns-then-n-eq0-clause-there
returns-then-n-eq0-clause-there g c = absent_not c.args.entries.now.items c.args.name
    (absent_empty c.args.entries.now.items c.args.name (omega arith))

pub returns-then-n-clause-there : goal.returns-then-n-clause-there
returns-then-n-clause-there g c = let spot =
    rw c.deref.ensures.value at c.in-Free.ensures in absent_not c.args.entries.now.items c.args.name spot.absent

pub returns-in_err-push-in-Free-clause-there : goal.returns-in_err-push-in-Free-clause-there
returns-in_err-push-in-Free-clause-there g c = let spot =
    rw c.deref.ensures.value at c.in-Free.ensures in absent_not c.args.entries.now.items c.args.name spot.absent

pub returns-in_ok-push-in-Free-clause-there : goal.returns-in_ok-push-in-Free-clause-there
returns-in_ok-push-in-Free-clause-there g c = let spot =
    rw c.deref.ensures.value at c.in-Free.ensures in absent_not c.args.entries.now.items c.args.name spot.absent

pub returns-in-Here-clause-ok : goal.returns-in-Here-clause-ok
returns-in-Here-clause-ok g c =
    let it = rw c.deref.ensures.value at c.in-Here.ensures in
    noted_there c.args.entries.now.items c.in-Here.field-0 it.0 c.args.name c.args.was c.requires.tree it.1 it.2

pub returns-in_ok-push-in-Free-clause-tree : goal.returns-in_ok-push-in-Free-clause-tree
returns-in_ok-push-in-Free-clause-tree g c =
    let spot = rw c.deref.ensures.value at c.in-Free.ensures in
    let it = grown_hung c.args.entries.now.items c.hang.new.entries.items c.in-Free.at c.in-Free.bits c.len-n.result
    (record { name = c.args.name; even = 0; odd = 0; was = c.args.was }) (omega arith) spot.within refl refl
    (rw (c.in_ok-push-in-Free.ensures.items, c.in_ok-reserve-in-Free.ensures.items) at c.hang.ensures.items) in
    grown_tree c.args.entries.now.items c.hang.new.entries.items c.in-Free.at c.in-Free.bits it.0
    (record { name = c.args.name; even = 0; odd = 0; was = c.args.was }) c.requires.tree spot it.1

pub returns-in_ok-push-in-Free-clause-ok : goal.returns-in_ok-push-in-Free-clause-ok
returns-in_ok-push-in-Free-clause-ok g c =
    let spot = rw c.deref.ensures.value at c.in-Free.ensures in
    let it = grown_hung c.args.entries.now.items c.hang.new.entries.items c.in-Free.at c.in-Free.bits c.len-n.result
    (record { name = c.args.name; even = 0; odd = 0; was = c.args.was }) (omega arith) spot.within refl refl
    (rw (c.in_ok-push-in-Free.ensures.items, c.in_ok-reserve-in-Free.ensures.items) at c.hang.ensures.items) in
    grown_names c.args.entries.now.items c.hang.new.entries.items c.in-Free.at c.in-Free.bits it.0
    (record { name = c.args.name; even = 0; odd = 0; was = c.args.was }) spot.absent it.1

pub returns-in_err-reserve-clause-there : goal.returns-in_err-reserve-clause-there
returns-in_err-reserve-clause-there g c =
    absent_not c.args.entries.now.items c.args.name (absent_empty c.args.entries.now.items c.args.name (omega arith))

pub returns-in_err-reserve-in-Free-clause-there : goal.returns-in_err-reserve-in-Free-clause-there
returns-in_err-reserve-in-Free-clause-there g c = let spot =
    rw c.deref.ensures.value at c.in-Free.ensures in absent_not c.args.entries.now.items c.args.name spot.absent

pub returns-then-n-eq0-clause-pairs : goal.returns-then-n-eq0-clause-pairs
returns-then-n-eq0-clause-pairs g c =
    let es = c.args.entries.now.items in
    rw (c.in_ok-push.ensures.items, c.in_ok-reserve.ensures.items)
    (pairs_new (pairs es) _ c.args.name c.args.was _ (get-absent es c.args.name
    (absent_empty es c.args.name (omega arith)))
    (pairs-append es (record { name = c.args.name; even = 0; odd = 0; was = c.args.was })))

pub returns-in-Here-clause-pairs : goal.returns-in-Here-clause-pairs
returns-in-Here-clause-pairs g c =
    let es = c.args.entries.now.items in
    let it = rw c.deref.ensures.value at c.in-Here.ensures in
    pairs_there (pairs es) c.args.name c.args.was _ it.0.was
    (get-at es c.in-Here.field-0 it.0 c.args.name c.requires.tree it.1 it.2)

pub returns-in_ok-push-in-Free-clause-pairs : goal.returns-in_ok-push-in-Free-clause-pairs
returns-in_ok-push-in-Free-clause-pairs g c =
    let es = c.args.entries.now.items in
    let spot = rw c.deref.ensures.value at c.in-Free.ensures in
    let it = grown_hung es c.hang.new.entries.items c.in-Free.at c.in-Free.bits c.len-n.result
    (record { name = c.args.name; even = 0; odd = 0; was = c.args.was }) (omega arith) spot.within refl refl
    (rw (c.in_ok-push-in-Free.ensures.items, c.in_ok-reserve-in-Free.ensures.items) at c.hang.ensures.items) in
    pairs_new (pairs es) (pairs c.hang.new.entries.items) c.args.name c.args.was _
    (get-absent es c.args.name spot.absent)
    (grown_pairs es c.hang.new.entries.items c.in-Free.at c.in-Free.bits it.0
    (record { name = c.args.name; even = 0; odd = 0; was = c.args.was }) it.1)
