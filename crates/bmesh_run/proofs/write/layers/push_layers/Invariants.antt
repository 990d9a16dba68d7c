use Rattle.std.proofs.Common.{◌≡◌, ◌++◌, take}
use Rattle.bmesh_run.specs.Report.{layer_lines}
use Rattle.bmesh_run.proofs.write.layers.push_layers.Given as goal

-- the lines of the layers so far
abbrev pub invariant-loop-layer : goal.invariant-loop-layer
invariant-loop-layer g l =
    l.out.items ≡ l.fn.out.items ++ layer_lines (g.S.Shape.complex l.shape) (take l.layer-index l.layers)
