use Rattle.std.proofs.Common.{Option, sym, ap, ◌∙◌, arith}
use Rattle.std.proofs.lemmas.Result.{on_ok_weaker}
use Rattle.mesh_model.specs.Table.{at}
use Rattle.mesh_model.specs.Complex.{Complex, no_complex}
use Rattle.mesh_model.specs.ChangeSet.{ChangeSet}
use Rattle.mesh_model.specs.ChangeSetNotes.{with_first_note}
use Rattle.mesh_model.specs.declared.records.FaceRec.{FaceRec}
use Rattle.mesh_model.proofs.Tables.{at-past, stands}
use Rattle.mesh_trail.specs.Between.{with_new}
use Rattle.mesh_trail.specs.Pasts.{widths_of}
use Rattle.mesh_trail.proofs.MapNotes.{is_none}
use Rattle.mesh_trail.proofs.between.note_new_face.Goals as goal

pub returns-then-not-has-clause-ok : goal.returns-then-not-has-clause-ok
returns-then-not-has-clause-ok g c =
    let p = c.args.past.now.changes in
    let n = c.args.name.0 in
    let with = λ (x : Option FaceRec). let r : ChangeSet = record p { faces = with_new p.faces n x } in r in
    sym (ap with (is_none (at (g.S.Shape.complex c.args.now.now).faces n) (sym c.has.ensures ∙ c.if-not-has.true)))

pub note_face-requires : goal.note_face-requires
note_face-requires g c = c.requires.wide ∙ sym (ap widths_of c.requires.nothing)

pub returns-clause-ok : goal.returns-clause-ok
returns-clause-ok g c =
    let p = c.args.past.now.changes in
    let n = c.args.name.0 in
    let it = stands (at (g.S.Shape.complex c.args.now.now).faces n) (sym c.has.ensures ∙ c.if-not-has.false) in
    let with = λ (x : Option FaceRec). let r : ChangeSet = record p { faces = with_new p.faces n x } in r in
    let first = λ (x : Option FaceRec). let r : ChangeSet = record p { faces = with_first_note p.faces n x } in r in
    on_ok_weaker c.note_face.result (λ e. e
    ∙ ap (λ (x : Complex). first (at x.faces n)) c.requires.nothing
    ∙ ap first (at-past no_complex.faces n (omega arith)) ∙ sym (ap with it.1)) c.note_face.ensures.ok
