use Rattle.std.proofs.Common.{◌≡◌, sym, ◌∙◌, arith, ◌<◌}
use Rattle.mesh_trail.specs.Tree.{link_at}
use Rattle.mesh_trail.proofs.Trees.{path_start, path_step, path_end, entry_read}
use Rattle.mesh_trail.proofs.note_map.seek.Goals as goal

pub loop-e-init : goal.loop-e-init
loop-e-init g c = path_start c.args.entries.now c.args.name c.requires.some c.requires.tree

pub returns-then-e-name : goal.returns-then-e-name
returns-then-e-name g c = (
  c.index-entries-at.result,
  entry_read c.args.entries.now c.loop-e.at c.index-entries-at.result c.loop-e.invariant.within c.index-entries-at.is,
  c.if-e-name.true,
)

pub returns-then-next-eq0 : goal.returns-then-next-eq0
returns-then-next-eq0 g c =
    let read = entry_read c.args.entries.now c.loop-e.at c.index-entries-at.result c.loop-e.invariant.within
    c.index-entries-at.is in
    let linked : link_at c.args.entries.now c.loop-e.at c.loop-e.bits ≡ c.link-next.result =
    rw read (sym c.link-next.ensures) in
    path_end c.args.entries.now c.args.name c.loop-e.at c.loop-e.bits c.index-entries-at.result read c.if-e-name.false
    (linked ∙ c.if-next-eq0.true) c.loop-e.invariant

pub loop-e-smaller : goal.loop-e-smaller
loop-e-smaller g c =
    let read = entry_read c.args.entries.now c.loop-e.at c.index-entries-at.result c.loop-e.invariant.within
    c.index-entries-at.is in
    let linked : link_at c.args.entries.now c.loop-e.at c.loop-e.bits ≡ c.link-next.result =
    rw read (sym c.link-next.ensures) in
    let up = c.requires.tree.up c.loop-e.at c.loop-e.bits (λ e. c.if-next-eq0.false (sym linked ∙ e)) in
    let next : c.loop-e.at < c.link-next.result = rw (← linked) up.0 in
    let less = c.loop-e.invariant.within in
    omega arith

pub loop-e-preserved : goal.loop-e-preserved
loop-e-preserved g c =
    let read = entry_read c.args.entries.now c.loop-e.at c.index-entries-at.result c.loop-e.invariant.within
    c.index-entries-at.is in
    let linked : link_at c.args.entries.now c.loop-e.at c.loop-e.bits ≡ c.link-next.result =
    rw read (sym c.link-next.ensures) in
    rw (← linked) (path_step c.args.entries.now c.args.name c.loop-e.at c.loop-e.bits c.index-entries-at.result
    c.requires.tree read c.if-e-name.false (λ e. c.if-next-eq0.false (sym linked ∙ e)) c.loop-e.invariant)
