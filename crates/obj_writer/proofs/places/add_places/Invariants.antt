use Rattle.std.proofs.Common.{◌≡◌, take}
use Rattle.indexmap.specs.IndexSet.{insert_all}
use Rattle.obj_writer.specs.Whole.{same_uv}
use Rattle.obj_writer.proofs.places.add_places.Given as goal

-- the places so far
abbrev pub invariant-loop-uv : goal.invariant-loop-uv
invariant-loop-uv l = l.found.keys ≡ insert_all same_uv l.fn.found.keys (take l.uv-index l.uvs)
