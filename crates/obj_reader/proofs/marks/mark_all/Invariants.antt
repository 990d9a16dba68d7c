use Rattle.std.proofs.Common.{◌≡◌, ◌≤◌, true, length, map, take}
use Rattle.std.specs.List.{All}
use Rattle.mesh_model.specs.Valid.{are_distinct}
use Rattle.obj_reader.specs.Values.{vert_of}
use Rattle.obj_reader.proofs.MarkLemmas.{Marked}
use Rattle.obj_reader.proofs.marks.mark_all.Given as goal

-- the vertices so far are marked, and they are distinct
abbrev pub invariant-loop-corner : goal.invariant-loop-corner
invariant-loop-corner l = record {
  long : length l.seen ≡ length l.fn.seen;
  marked : Marked l.mark (take l.corner-index (map vert_of l.corners)) l.seen;
  distinct : are_distinct (take l.corner-index (map vert_of l.corners)) ≡ true;
  most : All (λ m. m ≤ l.mark) l.seen;
}
