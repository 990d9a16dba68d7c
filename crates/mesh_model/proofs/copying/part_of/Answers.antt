use Rattle.std.proofs.Common.{◌≡◌, ◌∙◌, ◌||◌, [], Bool, ap, sym, subst}
use Rattle.std.specs.List.{list_any}
use Rattle.mesh_model.specs.Table.{passes}
use Rattle.mesh_model.specs.Complex.{Complex}
use Rattle.mesh_model.specs.Columns.{EdgeTable}
use Rattle.mesh_model.specs.Deleting.{without_verts}
use Rattle.mesh_model.specs.Draft.{complex_of}
use Rattle.mesh_model.specs.Incidence.{uses_edge}
use Rattle.mesh_model.specs.Valid.{IsLinked}
use Rattle.mesh_model.proofs.Indexing.{Knows-more}
use Rattle.mesh_model.proofs.Parted.{IsCopied, along-left, complex-copied}
use Rattle.mesh_model.proofs.copying.part_of.Given.{Over}
use Rattle.mesh_model.proofs.copying.part_of.Goals as goal

-- the complex that is copied
abbrev whole : (g : Over) → goal.After-new g → Complex
whole g c = g.S.Shape.complex c.args.shape.now

pub faces_of-requires-clause-along : goal.faces_of-requires-clause-along
faces_of-requires-clause-along g c =
    let old : Complex = g.S.Shape.complex c.args.shape.now in
    along-left old c.in_ok-gone.gone c.args.without.now c.in_ok-edges.edges.table c.in_ok-gone.ensures
    (c.requires.left c.counters.ensures.linked) c.in_ok-edges.ensures.table

copied : (g : Over) (c : goal.After-new g)
    → IsCopied (whole g c) c.in_ok-gone.gone c.in_ok-verts.verts c.faces_of.new.edges c.in_ok-faces.faces
    c.in_ok-materials.materials c.in_ok-libraries.libraries
copied g c = record {
  verts = c.in_ok-verts.ensures.table;
  vert_layers = c.in_ok-verts.ensures.layers;
  edges = ap (λ (t : EdgeTable). t.table) c.faces_of.ensures.edges ∙ c.in_ok-edges.ensures.table;
  edge_layers = ap (λ (t : EdgeTable). t.layers) c.faces_of.ensures.edges ∙ c.in_ok-edges.ensures.layers;
  faces = c.in_ok-faces.ensures.table;
  corner_layers = c.in_ok-faces.ensures.corner_layers;
  face_layers = c.in_ok-faces.ensures.layers;
  same_materials = c.in_ok-materials.ensures;
  same_libraries = c.in_ok-libraries.ensures;
}

shown : (g : Over) (c : goal.After-new g)
    → complex_of c.in_ok-verts.verts c.faces_of.new.edges c.in_ok-faces.faces c.in_ok-materials.materials
    c.in_ok-libraries.libraries ≡ without_verts (whole g c) c.args.without.now
shown g c = complex-copied (whole g c) c.in_ok-gone.gone c.args.without.now c.in_ok-verts.verts c.faces_of.new.edges
    c.in_ok-faces.faces c.in_ok-materials.materials c.in_ok-libraries.libraries c.in_ok-gone.ensures (copied g c)

pub invariant_of-result : goal.invariant_of-result
invariant_of-result g c = record {
  linked = subst IsLinked (sym (shown g c)) (c.requires.left c.counters.ensures.linked);
  used = λ e. c.in_ok-faces.ensures.used e
      ∙ ap (λ (b : Bool). b || list_any (passes (uses_edge e)) c.in_ok-faces.faces.table)
      (c.in_ok-edges.ensures.unused e.0);
  closed = c.in_ok-faces.ensures.closed;
  knows = Knows-more c.new.result [] c.faces_of.new.edges.table c.new.ensures;
}

pub returns : goal.returns
returns g c =
    let old : Complex = g.S.Shape.complex c.args.shape.now in
    complex-copied old c.in_ok-gone.gone c.args.without.now c.in_ok-verts.verts c.faces_of.new.edges c.in_ok-faces.faces
    c.in_ok-materials.materials c.in_ok-libraries.libraries c.in_ok-gone.ensures (record {
      verts = c.in_ok-verts.ensures.table;
      vert_layers = c.in_ok-verts.ensures.layers;
      edges = ap (λ (t : EdgeTable). t.table) c.faces_of.ensures.edges ∙ c.in_ok-edges.ensures.table;
      edge_layers = ap (λ (t : EdgeTable). t.layers) c.faces_of.ensures.edges ∙ c.in_ok-edges.ensures.layers;
      faces = c.in_ok-faces.ensures.table;
      corner_layers = c.in_ok-faces.ensures.corner_layers;
      face_layers = c.in_ok-faces.ensures.layers;
      same_materials = c.in_ok-materials.ensures;
      same_libraries = c.in_ok-libraries.ensures;
    })
