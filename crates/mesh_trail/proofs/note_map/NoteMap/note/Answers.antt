use Rattle.std.proofs.Common.{List, true, ap, arith}
use Rattle.mesh_trail.specs.declared.note_map.Entry.{Entry}
use Rattle.mesh_trail.specs.Tree.{pairs}
use Rattle.mesh_trail.proofs.Rising.{noted_more, noted_behind}
use Rattle.mesh_trail.proofs.note_map.NoteMap.note.Goals as goal

pub invariant_of-self-then-last : goal.invariant_of-self-then-last
invariant_of-self-then-last g c =
    let m = c.self.inside in
    noted_behind m.entries.items c.place.new.entries.items _ _ m.rising c.args.name c.args.was _ (omega arith)
    (omega arith) c.place.ensures.tree (omega arith) c.in_ok-place.ensures.pairs c.self.invariant _ (omega arith)
    (rw c.deref.ensures.value at (c.is_behind-last.ensures c.if-last.true))

pub invariant_of-self-else-last : goal.invariant_of-self-else-last
invariant_of-self-else-last g c =
    let m = c.self.inside in
    noted_more m.entries.items c.place.new.entries.items _ _ m.rising c.args.name c.args.was _ (omega arith)
    (omega arith) c.place.ensures.tree (omega arith) c.in_ok-place.ensures.pairs c.self.invariant

pub invariant_of-self : goal.invariant_of-self
invariant_of-self g c =
    let m = c.self.inside in
    noted_more m.entries.items c.place.new.entries.items _ _ m.rising c.args.name c.args.was true (omega arith)
    (omega arith) c.place.ensures.tree (omega arith) (ap (λ (xs : List (Entry g.row.R.Denot)). pairs xs)
    c.in_err-place.ensures.err.0) c.self.invariant
