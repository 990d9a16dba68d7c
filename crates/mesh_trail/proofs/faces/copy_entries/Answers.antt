use Rattle.std.proofs.Common.{Some, refl, ap, ◌∙◌, arith}
use Rattle.std.proofs.lemmas.List.{take_all}
use Rattle.mesh_trail.specs.Kept.{face_in}
use Rattle.mesh_trail.proofs.Growth.{get-at}
use Rattle.mesh_trail.proofs.Trims.{if_there}
use Rattle.mesh_trail.proofs.Copying.{copy_start, copy_lacks, copy_more}
use Rattle.mesh_trail.proofs.faces.copy_entries.Goals as goal

pub loop-k-init : goal.loop-k-init
loop-k-init c = record {
  names = copy_start (face_in c.args.corners.now.corners c.args.faces.now.width
      c.args.values.now) c.args.entries.now c.args.faces.now.names c.requires.empty;
  width = refl;
  corner_width = refl;
}

pub put-requires-clause-none : goal.put-requires-clause-none
put-requires-clause-none c =
    let es = c.args.entries.now in
    let read = c.entry_at-e.ensures in
    copy_lacks (face_in c.args.corners.now.corners c.args.faces.now.width c.args.values.now) es c.loop-k.k
    c.entry_at-e.result c.loop-k.faces.names c.requires.tree.apart read c.loop-k.invariant.names

pub put-requires-clause-within : goal.put-requires-clause-within
put-requires-clause-within c =
    let es = c.args.entries.now in
    let e = c.entry_at-e.result in
    let read = c.entry_at-e.ensures in
    let noted = get-at es c.loop-k.k e e.name c.requires.tree read refl in
    if_there e.was (λ k is. (let le = c.requires.within e.name k (noted ∙ ap (λ (o : _). Some o) is) in let w =
    c.loop-k.invariant.width in omega (arith, le, w)))

pub put-requires-clause-stored : goal.put-requires-clause-stored
put-requires-clause-stored c =
    let es = c.args.entries.now in
    let e = c.entry_at-e.result in
    let read = c.entry_at-e.ensures in
    let noted = get-at es c.loop-k.k e e.name c.requires.tree read refl in
    if_there e.was (λ k is. (c.requires.stored e.name k (noted ∙ ap (λ (o : _). Some o) is)).0)

pub loop-k-preserved : goal.loop-k-preserved
loop-k-preserved c =
    let es = c.args.entries.now in
    let e = c.entry_at-e.result in
    let row = face_in c.args.corners.now.corners c.args.faces.now.width c.args.values.now in
    let read = c.entry_at-e.ensures in
    let w = c.loop-k.invariant.width in
    record {
      names = copy_more row es c.loop-k.k e c.loop-k.faces.names c.put.new.self.names c.requires.tree.apart read
          c.loop-k.invariant.names (rw w at c.in_ok-put.ensures.ok);
      width = c.put.ensures.width ∙ w;
      corner_width = c.put.ensures.corner_width ∙ c.loop-k.invariant.corner_width;
    }

pub returns-clause-names : goal.returns-clause-names
returns-clause-names c = rw (take_all c.loop-k.k c.args.entries.now c.loop-k-test.false) at c.loop-k.invariant.names
