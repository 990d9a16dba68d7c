use Rattle.std.proofs.Common.{Option, sym, ap, ◌∙◌, arith}
use Rattle.std.proofs.lemmas.Result.{on_ok_weaker}
use Rattle.mesh_model.specs.Table.{at}
use Rattle.mesh_model.specs.Complex.{Complex, no_complex}
use Rattle.mesh_model.specs.ChangeSet.{ChangeSet}
use Rattle.mesh_model.specs.ChangeSetNotes.{with_first_note}
use Rattle.mesh_model.specs.declared.records.EdgeRec.{EdgeRec}
use Rattle.mesh_model.proofs.Tables.{at-past, stands}
use Rattle.mesh_trail.specs.Between.{with_new}
use Rattle.mesh_trail.specs.Pasts.{widths_of}
use Rattle.mesh_trail.proofs.MapNotes.{is_none}
use Rattle.mesh_trail.proofs.between.note_new_edge.Goals as goal

pub returns-then-not-has-clause-ok : goal.returns-then-not-has-clause-ok
returns-then-not-has-clause-ok g c =
    let p = c.args.past.now.changes in
    let n = c.args.name.0 in
    let with = λ (x : Option EdgeRec). let r : ChangeSet = record p { edges = with_new p.edges n x } in r in
    sym (ap with (is_none (at (g.S.Shape.complex c.args.now.now).edges n) (sym c.has.ensures ∙ c.if-not-has.true)))

pub note_edge-requires : goal.note_edge-requires
note_edge-requires g c = c.requires.wide ∙ sym (ap widths_of c.requires.nothing)

pub returns-clause-ok : goal.returns-clause-ok
returns-clause-ok g c =
    let p = c.args.past.now.changes in
    let n = c.args.name.0 in
    let it = stands (at (g.S.Shape.complex c.args.now.now).edges n) (sym c.has.ensures ∙ c.if-not-has.false) in
    let with = λ (x : Option EdgeRec). let r : ChangeSet = record p { edges = with_new p.edges n x } in r in
    let first = λ (x : Option EdgeRec). let r : ChangeSet = record p { edges = with_first_note p.edges n x } in r in
    on_ok_weaker c.note_edge.result (λ e. e
    ∙ ap (λ (x : Complex). first (at x.edges n)) c.requires.nothing
    ∙ ap first (at-past no_complex.edges n (omega arith)) ∙ sym (ap with it.1)) c.note_edge.ensures.ok
