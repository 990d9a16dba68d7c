use Rattle.std.proofs.Common.{List, All, ap, sym, subst, ◌∙◌}
use Rattle.mesh_model.specs.Table.{IsThere}
use Rattle.mesh_model.specs.declared.names.VertName.{VertName}
use Rattle.mesh_core.specs.Seen.{now}
use Rattle.op_basic.specs.Making.{make_face_refusal}
use Rattle.op_basic.proofs.facing.MakeFaceArgsOperator.check.Goals as goal

pub refused_on-requires-clause-live : goal.refused_on-requires-clause-live
refused_on-requires-clause-live c =
    subst (λ (vs : List VertName). All (λ (v : VertName). IsThere (now c.args.mesh.now).verts v.0) vs)
    (sym c.as_slice.ensures) c.requires.fits

pub returns : goal.returns
returns c = c.in_ok-refusal.ensures
    ∙ ap (λ (vs : List VertName). make_face_refusal vs (now c.args.mesh.now)) c.as_slice.ensures
