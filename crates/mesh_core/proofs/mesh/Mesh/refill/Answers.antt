use Rattle.std.proofs.Common.{[], sym, ◌∙◌, subst}
use Rattle.mesh_records.specs.Places.{CanBecome}
use Rattle.mesh_records.specs.ReadOff.{NameLists}
use Rattle.mesh_core.proofs.Filled.{fills_first}
use Rattle.mesh_core.proofs.mesh.Mesh.refill.Goals as goal

pub fill_verts-requires-clause-so_far : goal.fill_verts-requires-clause-so_far
fill_verts-requires-clause-so_far c =
    let d = c.args.draft.now in
    let b = c.requires in
    let B = λ (l : NameLists). CanBecome c.args.self.now.stored l d in
    let layers = b.takes.layers in
    let materials = b.materials in
    let libraries = b.libraries in
    fills_first c.clear.new.self c.args.self.now.stored d _ c.clear.ensures.stored
    (subst B (sym c.clear.ensures.lists) b)
    (c.clear.ensures.now ∙ (λ i. record d {
      verts = [];
      edges = [];
      faces = [];
      layers = layers i;
      materials = materials i;
      libraries = libraries i;
    }))
