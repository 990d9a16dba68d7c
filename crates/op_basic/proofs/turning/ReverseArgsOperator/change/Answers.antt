use Rattle.std.proofs.Common.{List, ap, sym, subst, ◌∙◌}
use Rattle.mesh_model.specs.Elements.{no_elements}
use Rattle.mesh_model.specs.Valid.{IsSound}
use Rattle.mesh_model.specs.declared.names.FaceName.{FaceName}
use Rattle.mesh_core.specs.Seen.{now}
use Rattle.mesh_passes.specs.Turning.{turned_over}
use Rattle.mesh_passes.specs.Row.{only}
use Rattle.mesh_passes.proofs.ManyParts.{IsSound-turned_over}
use Rattle.mesh_passes.proofs.Steps.{done}
use Rattle.op_basic.proofs.turning.ReverseArgsOperator.change.Goals as goal

pub returns-clause-outcome : goal.returns-clause-outcome
returns-clause-outcome c =
    let elements = λ (fs : List FaceName). only (record no_elements { faces = fs }) in
    done (elements c.args.self.now.faces.faces) c.only.result
    (turned_over (now c.args.mesh.now) c.args.self.now.faces.faces) (now c.turn_faces.new.mesh)
    (c.only.ensures ∙ ap only c.in_ok-geom.ensures ∙ ap elements c.faces.ensures.names)
    (c.in_ok-turn_faces.ensures.now ∙ ap (turned_over (now c.args.mesh.now)) c.faces-2.ensures.names)

pub returns-clause-sound : goal.returns-clause-sound
returns-clause-sound c =
    subst IsSound (sym (c.in_ok-turn_faces.ensures.now
    ∙ ap (turned_over (now c.args.mesh.now)) c.faces-2.ensures.names))
    (IsSound-turned_over (now c.args.mesh.now) c.args.self.now.faces.faces c.faces.ensures.rising c.requires.fits
    c.requires.ready.sound)
