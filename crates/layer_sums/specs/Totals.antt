-- The sums of whole rows, kind by kind.
use Rattle.std.specs.Prelude.{ℤ, Bool, true, false, List}
use Rattle.mesh_model.specs.declared.layer_decl.LayerDecl.{LayerDecl}
use Rattle.mesh_model.specs.declared.names.Kind.{Kind}
use Rattle.mesh_model.specs.declared.names.Kind.TheVariants.{Verts, Edges, Corners, Faces}

-- a row for each kind
pub record KindRows : Type 0 where
  pub verts : List ℤ
  pub edges : List ℤ
  pub corners : List ℤ
  pub faces : List ℤ

-- that of a kind
abbrev pub row_in : KindRows → Kind → List ℤ
row_in rows Verts = rows.verts
row_in rows Edges = rows.edges
row_in rows Corners = rows.corners
row_in rows Faces = rows.faces

-- two kinds are the same
abbrev pub same_kind : Kind → Kind → Bool
same_kind Verts Verts = true
same_kind Edges Edges = true
same_kind Corners Corners = true
same_kind Faces Faces = true
same_kind _ _ = false

-- a layer is declared for a kind
abbrev pub is_of : Kind → LayerDecl → Bool
is_of kind d = same_kind kind d.kind
