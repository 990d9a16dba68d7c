use Rattle.std.proofs.Common.{◌≡◌, ap, ◌∙◌, rules}
use Rattle.mesh_store.specs.Naming.{NamedCells}
use Rattle.mesh_store.specs.Stored.{Stored, without_disk, beside_darts}
use Rattle.mesh_store.specs.declared.cells.EdgeCell.{EdgeCell}
use Rattle.mesh_store.proofs.Writes.{darts_beside}
use Rattle.mesh_store.proofs.links.StoreLinksDart.set_next.Goals as goal

pub returns-then-d-eq0-clause-rest : goal.returns-then-d-eq0-clause-rest
returns-then-d-eq0-clause-rest c =
    let st : Stored = record {
      verts = c.self.inside.verts;
      edges = c.self.inside.edges;
      loops = c.self.inside.loops;
      faces = c.self.inside.faces;
      values = c.self.inside.values;
    } in
    let u = c.update.ensures in
    let is : u.now ≡ record u.was { disk_a = record u.was.disk_a { next = c.args.to } } = search rules in
    ap (λ (p : NamedCells EdgeCell). beside_darts (record st { edges = p })) u.same
    ∙ darts_beside st c.args.d.edge.0 u.was u.now u.there (ap without_disk is) ∙ ap beside_darts c.self.view_is

pub returns-else-d-eq0-clause-rest : goal.returns-else-d-eq0-clause-rest
returns-else-d-eq0-clause-rest c =
    let st : Stored = record {
      verts = c.self.inside.verts;
      edges = c.self.inside.edges;
      loops = c.self.inside.loops;
      faces = c.self.inside.faces;
      values = c.self.inside.values;
    } in
    let u = c.update-else-d-eq0.ensures in
    let is : u.now ≡ record u.was { disk_b = record u.was.disk_b { next = c.args.to } } = search rules in
    ap (λ (p : NamedCells EdgeCell). beside_darts (record st { edges = p })) u.same
    ∙ darts_beside st c.args.d.edge.0 u.was u.now u.there (ap without_disk is) ∙ ap beside_darts c.self.view_is
