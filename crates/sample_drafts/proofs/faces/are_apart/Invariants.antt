use Rattle.std.proofs.Common.{◌≡◌, true, length}
use Rattle.mesh_model.specs.Valid.{are_distinct}
use Rattle.sample_drafts.proofs.Apart.{verts_of}
use Rattle.sample_drafts.proofs.faces.are_apart.Given as goal

-- all corners are at distinct vertices, if those that are left are
abbrev pub invariant-loop-first : goal.invariant-loop-first
invariant-loop-first l = are_distinct (verts_of l.rest) ≡ true → are_distinct (verts_of l.corners) ≡ true

abbrev pub decreases-loop-first : goal.decreases-loop-first
decreases-loop-first l = length l.rest
