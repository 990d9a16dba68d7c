use Rattle.std.proofs.Common.{List, ap, sym, subst, ◌∙◌}
use Rattle.mesh_model.specs.Elements.{no_elements}
use Rattle.mesh_model.specs.Valid.{IsSound}
use Rattle.mesh_model.specs.declared.names.VertName.{VertName}
use Rattle.mesh_core.specs.Seen.{now}
use Rattle.mesh_passes.specs.Moving.{moved, first_leaving}
use Rattle.mesh_passes.specs.Row.{only}
use Rattle.mesh_passes.proofs.Movings.{none_leaves}
use Rattle.mesh_passes.proofs.ManyParts.{IsSound-moved}
use Rattle.mesh_passes.proofs.Steps.{done}
use Rattle.op_basic.specs.Motions.{translation}
use Rattle.op_basic.proofs.translating.TranslateArgsOperator.change.Goals as goal

pub move_verts-requires-clause-stays : goal.move_verts-requires-clause-stays
move_verts-requires-clause-stays c =
    ap (first_leaving (translation c.args.self.now.by) (now c.args.mesh.now)) c.verts-2.ensures.names
    ∙ none_leaves (translation c.args.self.now.by) (now c.args.mesh.now) c.args.self.now.verts.verts c.requires.may

pub returns-clause-outcome : goal.returns-clause-outcome
returns-clause-outcome c =
    let elements = λ (vs : List VertName). only (record no_elements { verts = vs }) in
    done (elements c.args.self.now.verts.verts) c.only.result
    (moved (translation c.args.self.now.by) (now c.args.mesh.now) c.args.self.now.verts.verts)
    (now c.move_verts.new.mesh)
    (c.only.ensures ∙ ap only c.in_ok-geom.ensures ∙ ap elements c.verts.ensures.names)
    (c.in_ok-move_verts.ensures.now
    ∙ ap (moved (translation c.args.self.now.by) (now c.args.mesh.now)) c.verts-2.ensures.names)

pub returns-clause-sound : goal.returns-clause-sound
returns-clause-sound c =
    subst IsSound (sym (c.in_ok-move_verts.ensures.now
    ∙ ap (moved (translation c.args.self.now.by) (now c.args.mesh.now)) c.verts-2.ensures.names))
    (IsSound-moved (translation c.args.self.now.by) (now c.args.mesh.now) c.args.self.now.verts.verts
    c.verts.ensures.rising c.requires.fits
    (none_leaves (translation c.args.self.now.by) (now c.args.mesh.now) c.args.self.now.verts.verts c.requires.may)
    c.requires.ready.sound)
