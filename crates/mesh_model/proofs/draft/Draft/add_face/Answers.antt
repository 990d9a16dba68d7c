use Rattle.std.proofs.Common.{◌≡◌, ◌∙◌, ◌≤◌, ◌||◌, ◌++◌, ◌∷◌, [], List, Option, Some, length, ap, sym, subst, arith}
use Rattle.std.specs.List.{All, list_any}
use Rattle.std.proofs.lemmas.Int.{to_z-of_z}
use Rattle.cust_data.specs.Layers.{total}
use Rattle.mesh_model.specs.Columns.{FaceTable}
use Rattle.mesh_model.specs.Complex.{Complex}
use Rattle.mesh_model.specs.Incidence.{is_along}
use Rattle.mesh_model.specs.Values.{row_given}
use Rattle.mesh_model.specs.NameSet.{is_in}
use Rattle.mesh_model.specs.Valid.{IsValid, IsSimple}
use Rattle.mesh_model.specs.Draft.{complex_of, turned}
use Rattle.mesh_model.specs.Making.{with_face_told}
use Rattle.mesh_model.specs.declared.limits.TheConstants.{MAX_EDGES}
use Rattle.mesh_model.specs.declared.names.EdgeName.{EdgeName}
use Rattle.mesh_model.specs.declared.records.EdgeRec.{EdgeRec}
use Rattle.mesh_model.specs.declared.records.CornerRec.{CornerRec}
use Rattle.mesh_model.proofs.GivenNumbers.{material_and_smooth}
use Rattle.mesh_model.proofs.WithPolygons.{IsAdded, IsPolygonTold, AreNumbersTold, polygon_edges, polygon_face}
use Rattle.mesh_model.proofs.WithPolygons.{with_face_told-in, few-polygon, edges-added, complex-added}
use Rattle.mesh_model.proofs.WithPolygons.{longer-corners_in, IsDraft-with_face_told, IsValid-with_face_told}
use Rattle.mesh_model.proofs.WithPolygons.{IsSimple-with_face_told}
use Rattle.mesh_model.proofs.draft.Draft.add_face.Goals as goal

-- the complex before
abbrev before : goal.After-close → Complex
before c = let old = c.self.inside in complex_of old.verts old.edges old.faces old.materials old.libraries

-- the edges fit
few : (c : goal.After-close) → length (polygon_edges (before c) c.args.corners.now) ≤ MAX_EDGES
few c =
    let P : Complex → Type 0 =
    λ x. length (with_face_told x c.args.corners.now c.args.material c.args.smooth).edges ≤ MAX_EDGES in
    few-polygon (before c) c.args.corners.now c.args.material c.args.smooth MAX_EDGES
    (subst P (sym c.self.view_is) c.requires.edges)

-- the columns through the call
added : (c : goal.After-close)
    → IsAdded c.self.inside.edges c.reserve.new.self c.polygon_in.new.edges c.self.inside.faces c.reserve-2.new.self
    c.polygon_in.new.faces c.close.new.self c.args.corners.now c.as_slice.result.now
added c =
    let reserved = c.reserve_corners.ensures.same in
    let again = c.reserve-2.ensures.same in
    record {
      edges = c.reserve.ensures.table;
      edge_layers = c.reserve.ensures.layers;
      faces = ap (λ (x : FaceTable). x.table) again ∙ ap (λ (x : FaceTable). x.table) reserved;
      corner_layers = ap (λ (x : FaceTable). x.corner_layers) again ∙ ap (λ (x : FaceTable). x.corner_layers) reserved;
      face_layers = ap (λ (x : FaceTable). x.layers) again ∙ ap (λ (x : FaceTable). x.layers) reserved;
      told = c.polygon_in.ensures.told;
      same_layers = c.polygon_in.ensures.layers;
      polygon = c.polygon_in.ensures.faces;
      closed = c.close.ensures;
    }

-- the complex after
whole : (c : goal.After-close)
    → complex_of c.self.inside.verts c.polygon_in.new.edges c.close.new.self c.self.inside.materials
    c.self.inside.libraries
    ≡ record (before c) {
      edges = polygon_edges (before c) c.args.corners.now;
      faces =
          (before c).faces ++ Some (polygon_face (before c) c.args.corners.now c.args.material c.args.smooth) ∷ [];
    }
whole c =
    let old = c.self.inside in
    let given = simp (to_z-of_z, c.ranges.material, c.ranges.smooth) at c.face_row-row.ensures.given in
    let row : c.as_slice.result.now
    ≡ row_given (material_and_smooth c.args.material c.args.smooth) c.polygon_in.new.faces.layers =
    c.as_slice.ensures ∙ given
    ∙ ap (row_given (material_and_smooth c.args.material c.args.smooth)) c.values.ensures in
    complex-added old.verts old.edges c.reserve.new.self c.polygon_in.new.edges old.faces c.reserve-2.new.self
    c.polygon_in.new.faces c.close.new.self old.materials old.libraries c.args.corners.now c.args.material
    c.args.smooth c.as_slice.result.now (added c) c.requires.least row

told : (c : goal.After-close) → IsPolygonTold (before c) c.args.corners.now
told c = record {
  least = c.requires.least;
  most = c.requires.most;
  distinct = c.requires.distinct;
  there =
      rw (← c.self.view_is) at c.requires.there;
}

tables : (c : goal.After-close)
    → ◌≡◌ {A = List (Option EdgeRec) × List CornerRec} (c.polygon_in.new.edges.table, c.polygon_in.new.faces.open) (
      polygon_edges (before c) c.args.corners.now,
      (polygon_face (before c) c.args.corners.now c.args.material c.args.smooth).corners,
    )
tables c =
    let old = c.self.inside in
    edges-added old.verts old.edges c.reserve.new.self c.polygon_in.new.edges old.faces c.reserve-2.new.self
    c.polygon_in.new.faces c.close.new.self old.materials old.libraries c.args.corners.now c.as_slice.result.now
    (added c)

polygon : (c : goal.After-close)
    → c.polygon_in.new.faces.open ≡ (polygon_face (before c) c.args.corners.now c.args.material c.args.smooth).corners
polygon c = ap (λ (p : List (Option EdgeRec) × List CornerRec). p.1) (tables c)

wide : (c : goal.After-close)
    → All (λ (k : CornerRec). length k.vals ≡ total (before c).layers.corners)
    (polygon_face (before c) c.args.corners.now c.args.material c.args.smooth).corners
wide c = rw (polygon c, (added c).corner_layers) at c.polygon_in.ensures.wide

pub polygon_in-requires-clause-fits : goal.polygon_in-requires-clause-fits
polygon_in-requires-clause-fits c =
    let old = c.self.inside in
    let c0 : Complex = complex_of old.verts old.edges old.faces old.materials old.libraries in
    let corners = c.args.corners.now in
    let P : Complex → Type 0 = λ x. length (with_face_told x corners c.args.material c.args.smooth).edges ≤ MAX_EDGES in
    let few = few-polygon c0 corners c.args.material c.args.smooth MAX_EDGES
    (subst P (sym c.self.view_is) c.requires.edges) in
    let longer = longer-corners_in c0.layers.edges c0.layers.corners c0.edges (turned corners) in
    let most = c.requires.most in
    let same : length c.reserve.new.self.table ≡ length old.edges.table = ap length c.reserve.ensures.table in
    omega arith

pub invariant_of-self-2 : goal.invariant_of-self-2
invariant_of-self-2 c =
    let old = c.self.inside in
    let corners = c.args.corners.now in
    let edges : c.polygon_in.new.edges.table ≡ polygon_edges (before c) corners =
    ap (λ (p : List (Option EdgeRec) × List CornerRec). p.0) (tables c) in
    let used : (e : EdgeName)
    → is_in c.polygon_in.new.edges.used e.0
    ≡ (is_in old.edges.used e.0
    || list_any (is_along e) (polygon_face (before c) corners c.args.material c.args.smooth).corners) =
    λ e. rw (c.reserve.ensures.used, polygon c) at (c.polygon_in.ensures.used e) in
    let closed : c.close.new.self.open ≡ [] = ap (λ (x : FaceTable). x.open) c.close.ensures in
    let kept = IsDraft-with_face_told (before c)
    old.edges.used c.polygon_in.new.edges.used old.faces.open old.index c.polygon_in.new.index corners
    c.args.material c.args.smooth (told c) (wide c) used (rw edges at c.polygon_in.ensures.knows)
    c.self.invariant in
    rw (whole c, closed) kept

pub returns-clause-ok : goal.returns-clause-ok
returns-clause-ok c = whole c
    ∙ rw (← c.self.view_is) (sym (with_face_told-in (before c) c.args.corners.now c.args.material c.args.smooth))

pub returns-clause-valid : goal.returns-clause-valid
returns-clause-valid c =
    let corners = c.args.corners.now in
    let numbers : AreNumbersTold (before c) corners c.args.material c.args.smooth = record {
      uv = c.requires.uv;
      material_in_range = c.requires.material_in_range;
      material_there = rw (← c.self.view_is) at c.requires.material;
      smooth_in_range = c.requires.smooth_in_range;
      smooth_least = c.requires.smooth;
    } in
    rw (← c.self.view_is) (λ h. subst IsValid (sym (whole c))
    (IsValid-with_face_told (before c) corners c.args.material c.args.smooth (rw (← c.self.view_is) at c.requires.faces)
    (few c) (rw (← c.self.view_is) at c.requires.corners) (told c) (wide c) numbers h))

pub returns-clause-simple : goal.returns-clause-simple
returns-clause-simple c =
    rw (← c.self.view_is)
    (λ h. subst IsSimple (sym (whole c))
    (IsSimple-with_face_told (before c) c.args.corners.now c.args.material c.args.smooth h))
