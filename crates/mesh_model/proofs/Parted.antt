-- What is left of a complex, as its copies show it.
use Rattle.std.proofs.Common.{◌≡◌, ℕ, true, false, Bool, not, ◌||◌, List, [], length, refl, sym, ap, ◌∙◌, Option, Some}
use Rattle.std.proofs.Common.{None, cond, subst, get_or, ◌∷◌}
use Rattle.std.specs.List.{All, list_any}
use Rattle.mesh_model.specs.Table.{at, IsThere, only_if, kept, kept_names, table_of}
use Rattle.mesh_model.specs.NameSet.{is_in}
use Rattle.mesh_model.specs.Complex.{Complex}
use Rattle.mesh_model.specs.Deleting.{has_end_among, has_corner_among, without_verts}
use Rattle.mesh_model.specs.Elements.{is_among}
use Rattle.mesh_model.specs.Valid.{IsLinked}
use Rattle.mesh_model.specs.Columns.{VertTable, EdgeTable, FaceTable}
use Rattle.mesh_model.specs.Copying.{keeps_edge, keeps_face, vert_left, edge_left, face_left}
use Rattle.mesh_model.specs.Draft.{complex_of}
use Rattle.mesh_model.specs.declared.names.VertName.{VertName}
use Rattle.mesh_model.specs.declared.records.VertRec.{VertRec}
use Rattle.mesh_model.specs.declared.records.EdgeRec.{EdgeRec}
use Rattle.mesh_model.specs.declared.records.CornerRec.{CornerRec}
use Rattle.mesh_model.specs.declared.records.FaceRec.{FaceRec}
use Rattle.mesh_model.proofs.Tables.{length-kept, length-kept_names, at-kept, at-kept_names, kept-all, kept_names-all}
use Rattle.mesh_model.proofs.Tables.{is_table_of, at-table_of, at-below, only_if-Some}
use Rattle.mesh_model.proofs.Lists.{list_any-same}

-- flags that tell some vertices
abbrev pub TellsVerts : List Bool → List VertName → Type 0
TellsVerts gone vs = (v : VertName) → is_in gone v.0 ≡ is_among vs v

only_same : {X : Type 0} (p q : X → Bool) (o : Option X) → ((x : X) → p x ≡ q x) → only_if p o ≡ only_if q o
only_same p q None same = refl
only_same p q (Some x) same = ap (λ (b : Bool). cond b (Some x) None) (same x)

pub verts-left : (c : Complex) (gone : List Bool) (vs : List VertName) → TellsVerts gone vs
    → table_of (vert_left gone c) (length c.verts) ≡ (without_verts c vs).verts
verts-left c gone vs same =
    let test : ℕ → Bool = λ n. let v : VertName = record { 0 = n } in not (is_among vs v) in
    sym (is_table_of (vert_left gone c) (kept_names test c.verts) (length c.verts) (length-kept_names test c.verts)
    (λ n less. at-kept_names test c.verts n
    ∙ only_same (λ (_ : VertRec). test n) (λ (_ : VertRec). not (is_in gone n)) (at c.verts n)
    (λ _. ap not (sym (same (record { 0 = n }))))))

pub edges-left : (c : Complex) (gone : List Bool) (vs : List VertName) → TellsVerts gone vs
    → table_of (edge_left gone c) (length c.edges) ≡ (without_verts c vs).edges
edges-left c gone vs same =
    let test : EdgeRec → Bool = λ e. not (has_end_among vs e) in
    sym (is_table_of (edge_left gone c) (kept test c.edges) (length c.edges) (length-kept test c.edges)
    (λ n less. at-kept test c.edges n ∙ only_same test (keeps_edge gone) (at c.edges n)
    (λ e. ap (λ (b : Bool). not (b || is_among vs e.b)) (sym (same e.a))
    ∙ ap (λ (b : Bool). not (is_in gone e.a.0 || b)) (sym (same e.b)))))

pub faces-left : (c : Complex) (gone : List Bool) (vs : List VertName) → TellsVerts gone vs
    → table_of (face_left gone c) (length c.faces) ≡ (without_verts c vs).faces
faces-left c gone vs same =
    let test : FaceRec → Bool = λ f. not (has_corner_among vs f) in
    sym (is_table_of (face_left gone c) (kept test c.faces) (length c.faces) (length-kept test c.faces)
    (λ n less. at-kept test c.faces n ∙ only_same test (keeps_face gone) (at c.faces n)
    (λ f. ap not (list_any-same (λ (k : CornerRec). is_among vs k.vert) (λ (k : CornerRec). is_in gone k.vert.0)
    f.corners (λ i d less. sym (same (get_or f.corners i d).vert))))))

-- nothing is left out
pub without-none : (c : Complex) → without_verts c [] ≡ c
without-none c =
    rw (
      kept_names-all (λ (n : ℕ). true) c.verts (λ n. refl),
      kept-all (λ (e : EdgeRec). true) c.edges (λ n e is. refl),
      kept-all (λ (f : FaceRec). not (has_corner_among [] f)) c.faces (λ n f is. ap not (none_among f.corners)),
    ) refl
  where
    none_among : (ks : List CornerRec) → list_any (λ (k : CornerRec). is_among [] k.vert) ks ≡ false
    none_among [] = refl
    none_among (k ∷ ks) = none_among ks

-- the edges that the faces which are left run along are left
pub along-left : (c : Complex) (gone : List Bool) (vs : List VertName) (edges : List (Option EdgeRec))
    → TellsVerts gone vs → IsLinked (without_verts c vs) → edges ≡ table_of (edge_left gone c) (length c.edges)
    → (n : ℕ) (f : FaceRec) → face_left gone c n ≡ Some f → All (λ (k : CornerRec). IsThere edges k.edge.0) f.corners
along-left c gone vs edges same linked are n f left =
    let less = at-below c.faces n f (was (keeps_face gone) (at c.faces n) f left) in
    let stays : at (without_verts c vs).faces n ≡ Some f = ap (λ t. at t n) (sym (faces-left c gone vs same))
    ∙ at-table_of (face_left gone c) (length c.faces) n less ∙ left in
    let all : edges ≡ (without_verts c vs).edges = are ∙ edges-left c gone vs same in
    subst (λ t. All (λ (k : CornerRec). IsThere t k.edge.0) f.corners) (sym all)
    (λ i d under. ((linked.faces n f stays).corners i d under).edge)
  where
    was : (test : FaceRec → Bool) (o : Option FaceRec) (x : FaceRec) → only_if test o ≡ Some x → o ≡ Some x
    was test o x h = (only_if-Some test o x h).0

-- the copied columns show what is left
pub record IsCopied (c : Complex) (gone : List Bool) (v : VertTable) (e : EdgeTable) (f : FaceTable)
    (materials libraries : List (List ℕ)) : Type 0 where
  pub verts : v.table ≡ table_of (vert_left gone c) (length c.verts)
  pub vert_layers : v.layers ≡ c.layers.verts
  pub edges : e.table ≡ table_of (edge_left gone c) (length c.edges)
  pub edge_layers : e.layers ≡ c.layers.edges
  pub faces : f.table ≡ table_of (face_left gone c) (length c.faces)
  pub corner_layers : f.corner_layers ≡ c.layers.corners
  pub face_layers : f.layers ≡ c.layers.faces
  pub same_materials : materials ≡ c.materials
  pub same_libraries : libraries ≡ c.libraries

pub complex-copied : (c : Complex) (gone : List Bool) (vs : List VertName) (v : VertTable) (e : EdgeTable)
    (f : FaceTable) (materials libraries : List (List ℕ)) → TellsVerts gone vs
    → IsCopied c gone v e f materials libraries
    → complex_of v e f materials libraries ≡ without_verts c vs
complex-copied c gone vs v e f materials libraries same is =
    rw (
      is.verts ∙ verts-left c gone vs same,
      is.vert_layers,
      is.edges ∙ edges-left c gone vs same,
      is.edge_layers,
      is.faces ∙ faces-left c gone vs same,
      is.corner_layers,
      is.face_layers,
      is.same_materials,
      is.same_libraries,
    ) refl
