use Rattle.std.proofs.Common.{◌∙◌, sym, ap, take, nat_le, length}
use Rattle.std.proofs.lemmas.Bool.{le-leb}
use Rattle.mesh_model.specs.Complex.{Complex}
use Rattle.mesh_model.specs.declared.limits.TheConstants.{MAX_EDGES}
use Rattle.obj_reader.proofs.AlongLemmas.{Side, make_next, sides_kept, along_all, along_over}
use Rattle.obj_reader.proofs.edges.make_edges.Goals as goal

abbrev none : Side
none = (record { 0 = 0 }, record { 0 = 0 })

pub make_edge-requires : goal.make_edge-requires
make_edge-requires c =
    let ss = c.args.sides.now in
    let side = sides_kept c.args.draft.now c.loop-side.draft ss (take c.loop-side.side-index ss)
    c.loop-side.invariant.made c.requires.sides c.loop-side.side-index none c.loop-side-test.true in
    record { a = side.0; b = side.1.0; differ = side.1.1; sound = c.loop-side.invariant.sound }

pub returns-then-not-fits-clause-fits : goal.returns-then-not-fits-clause-fits
returns-then-not-fits-clause-fits c =
    let ss = c.args.sides.now in
    sym (along_over c.args.draft.now c.loop-side.draft ss c.loop-side.side-index none c.loop-side-test.true
    c.loop-side.invariant.made (sym c.in_ok-fits.ensures.fits ∙ c.if-not-fits.true))

pub loop-side-preserved : goal.loop-side-preserved
loop-side-preserved c =
    let ss = c.args.sides.now in
    record {
      made = make_next c.args.draft.now c.loop-side.draft _ ss c.loop-side.side-index none c.loop-side-test.true
          c.loop-side.invariant.made (c.in_ok-fits.ensures.made c.if-not-fits.false);
      sound = c.in_ok-fits.ensures.sound c.if-not-fits.false;
    }

pub returns-clause-made : goal.returns-clause-made
returns-clause-made c = λ _. c.loop-side.invariant.made
    ∙ along_all c.args.draft.now c.args.sides.now c.loop-side.side-index c.loop-side-test.false

pub returns-clause-fits : goal.returns-clause-fits
returns-clause-fits c =
    let made = c.loop-side.invariant.made ∙ along_all c.args.draft.now c.args.sides.now c.loop-side.side-index
    c.loop-side-test.false in
    sym (le-leb (length c.loop-side.draft.edges) MAX_EDGES c.loop-side.invariant.sound.valid.limits.edges)
    ∙ ap (λ (d : Complex). nat_le (length d.edges) MAX_EDGES) made
