use Rattle.std.proofs.Common.{◌∙◌, sym}
use Rattle.std.specs.Prelude.{is_some}
use Rattle.std.specs.List.{list_all}
use Rattle.mesh_model.specs.Table.{at}
use Rattle.mesh_model.specs.Valid.{is_in_range}
use Rattle.mesh_model.specs.declared.draft.DraftCorner.{DraftCorner}
use Rattle.mesh_model.proofs.Lists.{list_all-All}
use Rattle.sample_drafts.proofs.faces.are_corners.Goals as goal

pub returns-clause-there : goal.returns-clause-there
returns-clause-there c =
    λ _. list_all-All (λ (k : DraftCorner). is_some (at c.args.draft.now.verts k.vert.0)) c.args.corners.now
    (sym c.if-not-have_verts.ensures)

pub returns-clause-uv : goal.returns-clause-uv
returns-clause-uv c =
    λ yes. list_all-All (λ (k : DraftCorner). list_all is_in_range k.uv) c.args.corners.now
    (sym c.are_in_range.ensures ∙ yes)
