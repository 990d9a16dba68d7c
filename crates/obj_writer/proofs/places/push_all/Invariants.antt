use Rattle.std.proofs.Common.{◌≡◌, ◌++◌, take}
use Rattle.std.specs.List.{flat_map}
use Rattle.obj_writer.specs.Whole.{place_line}
use Rattle.obj_writer.proofs.places.push_all.Given as goal

-- the lines of the places so far
abbrev pub invariant-loop-uv : goal.invariant-loop-uv
invariant-loop-uv l = l.out.items ≡ l.fn.out.items ++ flat_map place_line (take l.uv-index l.uvs)
