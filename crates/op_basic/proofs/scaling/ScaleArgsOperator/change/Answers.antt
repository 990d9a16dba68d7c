use Rattle.std.proofs.Common.{◌≡◌, true, ◌&&◌, List, ap, sym, subst, rules, ◌∙◌}
use Rattle.std.proofs.lemmas.Int.{to_z-of_z}
use mir.Val.{SFits, to_z, of_z}
use mir.Syntax.{w64}
use Rattle.mesh_model.specs.Elements.{no_elements}
use Rattle.mesh_model.specs.Valid.{IsSound, is_on_grid}
use Rattle.mesh_model.specs.declared.names.VertName.{VertName}
use Rattle.mesh_core.specs.Seen.{now}
use Rattle.mesh_passes.specs.Moving.{moved, first_leaving}
use Rattle.mesh_passes.specs.Row.{only}
use Rattle.mesh_passes.proofs.ManyParts.{IsSound-moved}
use Rattle.mesh_passes.proofs.Steps.{done}
use Rattle.op_basic.specs.Motions.{scaling, is_ratio}
use Rattle.op_basic.proofs.Scales.{scale_may}
use Rattle.op_basic.proofs.scaling.ScaleArgsOperator.change.Goals as goal

pub move_verts-requires-clause-stays : goal.move_verts-requires-clause-stays
move_verts-requires-clause-stays c =
    let num : SFits w64 c.args.self.now.num = search rules in
    let den : SFits w64 c.args.self.now.den = search rules in
    let s = c.args.self.now in
    let to = scaling s.about s.num s.den in
    simp to_z-of_z (ap (first_leaving to (now c.args.mesh.now)) c.verts-2.ensures.names
    ∙ (scale_may s.verts.verts s.about s.num s.den (now c.args.mesh.now) c.requires.may).1)

pub returns-clause-outcome : goal.returns-clause-outcome
returns-clause-outcome c =
    let num : SFits w64 c.args.self.now.num = search rules in
    let den : SFits w64 c.args.self.now.den = search rules in
    let s = c.args.self.now in
    let to = scaling s.about s.num s.den in
    let moves = simp to_z-of_z at c.in_ok-move_verts.ensures.now in
    let elements = λ (vs : List VertName). only (record no_elements { verts = vs }) in
    done (elements s.verts.verts) c.only.result (moved to (now c.args.mesh.now) s.verts.verts)
    (now c.move_verts.new.mesh) (c.only.ensures ∙ ap only c.in_ok-geom.ensures ∙ ap elements c.verts.ensures.names)
    (moves ∙ ap (moved to (now c.args.mesh.now)) c.verts-2.ensures.names)

pub returns-clause-sound : goal.returns-clause-sound
returns-clause-sound c =
    let num : SFits w64 c.args.self.now.num = search rules in
    let den : SFits w64 c.args.self.now.den = search rules in
    let s = c.args.self.now in
    let to = scaling s.about s.num s.den in
    let moves = simp to_z-of_z at c.in_ok-move_verts.ensures.now in
    subst IsSound (sym (moves ∙ ap (moved to (now c.args.mesh.now)) c.verts-2.ensures.names))
    (IsSound-moved to (now c.args.mesh.now) s.verts.verts c.verts.ensures.rising c.requires.fits
    (scale_may s.verts.verts s.about s.num s.den (now c.args.mesh.now) c.requires.may).1 c.requires.ready.sound)

pub invariant_of-motion : goal.invariant_of-motion
invariant_of-motion c =
    let num : SFits w64 c.args.self.now.num = search rules in
    let den : SFits w64 c.args.self.now.den = search rules in
    let s = c.args.self.now in
    let holds : (is_on_grid s.about && is_ratio (to_z w64 (of_z w64 s.num)) (to_z w64 (of_z w64 s.den))) ≡ true =
    simp to_z-of_z (scale_may s.verts.verts s.about s.num s.den (now c.args.mesh.now) c.requires.may).0 in
    record { may = holds }
