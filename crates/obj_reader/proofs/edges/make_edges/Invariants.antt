use Rattle.std.proofs.Common.{◌≡◌, take}
use Rattle.mesh_model.specs.Making.{edges_along}
use Rattle.mesh_model.specs.Valid.{IsSound}
use Rattle.obj_reader.proofs.edges.make_edges.Given as goal

-- the edges along the sides so far are made
abbrev pub invariant-loop-side : goal.invariant-loop-side
invariant-loop-side l = record {
  made : l.draft ≡ (edges_along l.fn.draft (take l.side-index l.sides)).0;
  sound : IsSound l.draft;
}
