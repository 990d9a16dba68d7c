use Rattle.std.proofs.Common.{refl, ◌∙◌, arith}
use Rattle.mesh_model.proofs.Tables.{there-below}
use Rattle.mesh_core.proofs.Filled.{corners_done}
use Rattle.mesh_core.proofs.Loaded.{has_corner}
use Rattle.mesh_records.proofs.ReadBack.{few_numbers}
use Rattle.mesh_core.proofs.mesh.Mesh.fill_corners.Goals as goal

pub loop-i-init : goal.loop-i-init
loop-i-init c = record { so_far = c.requires.so_far; base = refl }

pub fill_corner-requires-clause-so_far : goal.fill_corner-requires-clause-so_far
fill_corner-requires-clause-so_far c = c.loop-i.invariant.so_far

pub loop-i-preserved : goal.loop-i-preserved
loop-i-preserved c = record {
  so_far = c.fill_corner.ensures.so_far;
  base = c.fill_corner.ensures.base ∙ c.loop-i.invariant.base;
}

pub returns-clause-so_far : goal.returns-clause-so_far
returns-clause-so_far c =
    let d = c.args.draft.now in
    let some = has_corner d c.args.f.0 c.requires.linked c.requires.there in
    corners_done c.loop-i.self d c.args.f.0 c.loop-i.i c.loop-i.invariant.so_far
    (there-below d.faces c.args.f.0 c.requires.there) (omega arith)

pub returns-clause-base : goal.returns-clause-base
returns-clause-base c = c.loop-i.invariant.base

pub fill_corner-requires-clause-few : goal.fill_corner-requires-clause-few
fill_corner-requires-clause-few c = few_numbers c.args.draft.now.layers.corners c.requires.linked.layers.corners
