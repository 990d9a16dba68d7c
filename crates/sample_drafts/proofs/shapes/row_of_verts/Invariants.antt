use Rattle.mesh_model.specs.Valid.{IsSound}
use Rattle.sample_drafts.proofs.shapes.row_of_verts.Given as goal

-- what was made so far is valid and simple
abbrev pub invariant-loop-i : goal.invariant-loop-i
invariant-loop-i l = IsSound l.draft
