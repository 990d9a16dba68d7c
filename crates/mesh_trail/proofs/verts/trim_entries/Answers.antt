use Rattle.std.proofs.lemmas.List.Sorted.{IsNonDecreasingBy-from_sort_by_key}
use Rattle.std.proofs.Common.{rules, ◌≡◌, ◌<◌, Some, ap, sym, ◌∙◌, arith, length}
use Rattle.mesh_model.specs.ChangeSet.{same_vert}
use Rattle.mesh_trail.specs.Kept.{vert_in}
use Rattle.mesh_trail.proofs.Trees.{entry_read}
use Rattle.mesh_trail.proofs.Sorting.{permuted_apart}
use Rattle.mesh_trail.proofs.Trims.{trim_skip, trim_keep, trimmed_whole, trimmed_rises, noted_before, if_there, differs_by}
use Rattle.mesh_trail.proofs.verts.trim_entries.Goals.{then-differs, else-differs}
use Rattle.mesh_trail.proofs.verts.trim_entries.Goals as goal

pub differs-requires-clause-within : goal.differs-requires-clause-within
differs-requires-clause-within g c =
    let e = c.index-e.result.now in
    let less : c.loop-k.k < length c.loop-k.entries.items = omega arith in
    let read = entry_read c.loop-k.entries.items c.loop-k.k e less c.index-e.ensures in
    let moved = c.sort_unstable_by_key.ensures.permutation in
    let noted = noted_before c.args.entries.now.items c.sort_unstable_by_key.new.self.items c.loop-k.k e moved
    c.requires.tree.apart (sym (c.loop-k.invariant.steps.rest c.loop-k.k (omega arith)) ∙ read) in
    if_there e.was (λ k is. c.requires.within e.name k (noted ∙ ap (λ (o : _). Some o) is))

pub settle-requires-clause-absent : goal.settle-requires-clause-absent
settle-requires-clause-absent g c =
    let less : c.loop-k.k < length c.loop-k.entries.items = omega arith in
    let read = entry_read c.loop-k.entries.items c.loop-k.k c.index-e.result.now less c.index-e.ensures in
    λ j d at_j same. c.loop-k.invariant.steps.apart j c.loop-k.k d c.index-e.result.now at_j
    (sym (c.loop-k.invariant.steps.rest c.loop-k.k (omega arith)) ∙ read) (omega arith) same

pub loop-k-preserved : goal.loop-k-preserved
loop-k-preserved g c =
    let sorted = c.sort_unstable_by_key.new.self.items in
    let es = c.loop-k.entries.items in
    let e = c.index-e.result.now in
    let p = differs_by (vert_in c.args.width c.args.values.now) same_vert (g.S.Shape.complex c.args.now.now).verts in
    let less : c.loop-k.k < length es = omega arith in
    let read = entry_read es c.loop-k.k e less c.index-e.ensures in
    let distinct = permuted_apart c.args.entries.now.items sorted c.sort_unstable_by_key.ensures.permutation
    c.requires.tree.apart in
    elim c.if-differs.branch [
      | then-differs w ↦ (let s = w.settle.ensures in
          let long : length w.settle.new.entries.items ≡ length es = omega (arith, s.len) in
          record {
            steps = rw (w.entries-is, w.kept-is) (trim_keep p sorted es w.settle.new.entries.items c.loop-k.kept
                c.loop-k.k e distinct read (sym c.differs.ensures ∙ w.if-differs.true) c.loop-k.invariant.steps long
                s.tree s.pairs s.rest);
            len = rw w.entries-is (s.len ∙ c.loop-k.invariant.len);
            capacity = rw w.entries-is (s.capacity ∙ c.loop-k.invariant.capacity);
          })
      | else-differs w ↦ record {
        steps = rw (w.entries-is, w.kept-is) (trim_skip p sorted es c.loop-k.kept c.loop-k.k e read
            (sym c.differs.ensures ∙ w.if-differs.false) c.loop-k.invariant.steps);
        len = rw w.entries-is c.loop-k.invariant.len;
        capacity = rw w.entries-is c.loop-k.invariant.capacity;
      }
    ]

pub returns-clause-trimmed : goal.returns-clause-trimmed
returns-clause-trimmed g c =
    trimmed_whole (vert_in c.args.width c.args.values.now) same_vert (g.S.Shape.complex c.args.now.now).verts
    c.args.entries.now.items c.loop-k.entries.items c.sort_unstable_by_key.new.self.items c.truncate.new.self.items
    c.loop-k.kept c.loop-k.k c.sort_unstable_by_key.ensures.permutation c.requires.tree.apart (omega arith)
    c.loop-k.invariant.steps c.truncate.ensures.items

pub returns-clause-rising : goal.returns-clause-rising
returns-clause-rising g c =
    let sorted = c.sort_unstable_by_key.new.self.items in
    let ordered = IsNonDecreasingBy-from_sort_by_key (λ e. e.name) sorted c.sort_unstable_by_key.ensures.sorted
    (λ a r q k. search rules) in
    trimmed_rises (vert_in c.args.width c.args.values.now) same_vert (g.S.Shape.complex c.args.now.now).verts
    c.loop-k.entries.items sorted c.truncate.new.self.items c.loop-k.kept c.loop-k.k ordered (omega arith)
    c.loop-k.invariant.steps c.truncate.ensures.items
