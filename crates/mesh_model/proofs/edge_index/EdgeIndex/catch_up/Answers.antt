use Rattle.std.proofs.Common.{◌∙◌, arith}
use Rattle.mesh_model.specs.EdgeIndexes.{key_of}
use Rattle.mesh_model.proofs.edge_index.EdgeIndex.catch_up.Goals as goal

pub loop-self-init : goal.loop-self-init
loop-self-init c = record {
  knows = record {
    known = c.requires.known;
    least = λ v w. c.in_ok-reserve.ensures.entries.2 (key_of v w)
        ∙ c.requires.least v w;
  };
  room = omega (arith, c.in_ok-reserve.ensures.ok, c.len-count.ensures.len);
}
