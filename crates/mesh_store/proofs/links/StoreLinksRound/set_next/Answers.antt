use Rattle.std.proofs.Common.{refl, ap, ◌∙◌}
use Rattle.mesh_store.specs.Stored.{Stored, beside_rounds}
use Rattle.mesh_store.proofs.Writes.{rounds_beside}
use Rattle.mesh_store.proofs.links.StoreLinksRound.set_next.Goals as goal

pub returns-clause-rest : goal.returns-clause-rest
returns-clause-rest c =
    let st : Stored = record {
      verts = c.self.inside.verts;
      edges = c.self.inside.edges;
      loops = c.self.inside.loops;
      faces = c.self.inside.faces;
      values = c.self.inside.values;
    } in
    rounds_beside st c.args.r.0.0 c.get_mut-corner.result.now
    (record c.get_mut-corner.result.now { round_next = c.args.to }) c.get_mut-corner.ensures.value refl
    ∙ ap beside_rounds c.self.view_is
