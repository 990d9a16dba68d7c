-- The table of operators.
use Rattle.std.specs.Prelude.{ℕ, Bool, true, false, if◌then◌else◌, codes, List, [], ◌∷◌, Option, Some, None, option_and_then}
use Rattle.text_words.specs.Text.{is_text}
use Rattle.script_text.specs.Arguments.{as_point, as_verts, as_kind, as_geom, as_name, as_ints, as_context, as_int}
use Rattle.script_text.specs.Arguments.{as_axis, as_method, as_map}
use Rattle.script_text.specs.declared.arguments.Form.{Form}
use Rattle.script_text.specs.declared.arguments.Form.TheVariants.{Int, Point, Ints, Kind, Context, Rule, Axis, Method}
use Rattle.script_text.specs.declared.arguments.Form.TheVariants.{Name, Geom, Verts, Map}
use Rattle.script_text.specs.declared.arguments.Arguments.{Arguments}
use Rattle.script_text.specs.declared.arguments.Place.{Place}
use Rattle.script_text.specs.declared.arguments.Place.TheVariants.{First, Second, Third, Fourth}
use Rattle.script_text.specs.declared.table.OpName.{OpName}
use Rattle.script_text.specs.declared.table.OpName.TheVariants.{MakeVert, MakeEdge, MakeFace, Set, Translate, Scale}
use Rattle.script_text.specs.declared.table.OpName.TheVariants.{Mirror, Reverse, Duplicate, Split, Delete, Connect}
use Rattle.script_text.specs.declared.table.OpName.TheVariants.{DissolveEdges, DissolveFaces, DissolveVerts}
use Rattle.script_text.specs.declared.table.OpName.TheVariants.{ExtrudeRegion, ExtrudeEdges, ExtrudeVerts, Bridge}
use Rattle.script_text.specs.declared.table.OpName.TheVariants.{Subdivide, Weld, MergeDoubles, Collapse, EdgeSplit}
use Rattle.script_text.specs.declared.table.OpName.TheVariants.{Triangulate, Poke}
use Rattle.script_text.specs.declared.table.Row.{Row}
use Rattle.script_text.specs.declared.table.Row.TheVariants.{Layer, Operator}
use Rattle.op_slots.specs.declared.op.Op.{Op}
use Rattle.op_slots.specs.declared.op.Op.TheVariants as op

-- whether a session can do an operator
abbrev now : Bool
now = true

abbrev later : Bool
later = false

-- each operator's word, whether a session can do it so far, and its keys in order, each with the form of its value
abbrev pub row : OpName → List ℕ × Bool × List (List ℕ × Form)
row MakeVert = (codes "make_vert", now, (codes "at", Point) ∷ [])
row MakeEdge = (codes "make_edge", now, (codes "verts", Verts) ∷ [])
row MakeFace = (codes "make_face", now, (codes "verts", Verts) ∷ [])
row Set = (codes "set", now, (codes "of", Kind) ∷ (codes "geom", Geom) ∷ (codes "layer", Name) ∷ (codes "values", Ints) ∷ [])
row Translate = (codes "translate", now, (codes "verts", Geom) ∷ (codes "by", Point) ∷ [])
row Scale =
    (codes "scale", now, (codes "verts", Geom) ∷ (codes "about", Point) ∷ (codes "num", Int) ∷ (codes "den", Int) ∷ [])
row Mirror = (codes "mirror", now, (codes "verts", Geom) ∷ (codes "axis", Axis) ∷ (codes "about", Int) ∷ [])
row Reverse = (codes "reverse", now, (codes "faces", Geom) ∷ [])
row Duplicate = (codes "duplicate", now, (codes "geom", Geom) ∷ [])
row Split = (codes "split", now, (codes "geom", Geom) ∷ [])
row Delete = (codes "delete", now, (codes "geom", Geom) ∷ (codes "context", Context) ∷ [])
row Connect = (codes "connect", later, (codes "verts", Verts) ∷ [])
row DissolveEdges = (codes "dissolve_edges", later, (codes "edges", Geom) ∷ [])
row DissolveFaces = (codes "dissolve_faces", later, (codes "faces", Geom) ∷ [])
row DissolveVerts = (codes "dissolve_verts", later, (codes "verts", Geom) ∷ [])
row ExtrudeRegion = (codes "extrude_region", later, (codes "faces", Geom) ∷ [])
row ExtrudeEdges = (codes "extrude_edges", later, (codes "edges", Geom) ∷ [])
row ExtrudeVerts = (codes "extrude_verts", later, (codes "verts", Geom) ∷ [])
row Bridge = (codes "bridge", later, (codes "a", Geom) ∷ (codes "b", Geom) ∷ [])
row Subdivide = (codes "subdivide", later, (codes "edges", Geom) ∷ (codes "cuts", Int) ∷ [])
row Weld = (codes "weld", later, (codes "map", Map) ∷ [])
row MergeDoubles = (codes "merge_doubles", later, (codes "verts", Geom) ∷ (codes "dist", Int) ∷ [])
row Collapse = (codes "collapse", later, (codes "edges", Geom) ∷ [])
row EdgeSplit = (codes "edge_split", later, (codes "edges", Geom) ∷ [])
row Triangulate = (codes "triangulate", later, (codes "faces", Geom) ∷ (codes "method", Method) ∷ [])
row Poke = (codes "poke", later, (codes "faces", Geom) ∷ [])

-- the operators
abbrev pub operators : List OpName
operators = MakeVert ∷ MakeEdge ∷ MakeFace ∷ Set ∷ Translate ∷ Scale ∷ Mirror ∷ Reverse ∷ Duplicate ∷ Split ∷ Delete
    ∷ Connect ∷ DissolveEdges ∷ DissolveFaces ∷ DissolveVerts ∷ ExtrudeRegion ∷ ExtrudeEdges ∷ ExtrudeVerts ∷ Bridge
    ∷ Subdivide ∷ Weld ∷ MergeDoubles ∷ Collapse ∷ EdgeSplit ∷ Triangulate ∷ Poke ∷ []

abbrev named : List OpName → List ℕ → Option OpName
named [] word = None
named (name ∷ names) word = if is_text (row name).0 word then Some name else named names word

-- what a word is in a table
abbrev pub found : {X : Type 0} → List (List ℕ × X) → List ℕ → Option X
found [] word = None
found ((name, x) ∷ rows) word = if is_text name word then Some x else found rows word

abbrev pub op_named : List ℕ → Option OpName
op_named word = named operators word

-- a session can do an operator so far
abbrev pub is_now : OpName → Bool
is_now name = (row name).1

-- each key beside its place
abbrev pub placed : List Place → List (List ℕ × Form) → List (List ℕ × (Place × Form))
placed (p ∷ ps) ((name, form) ∷ ks) = (name, (p, form)) ∷ placed ps ks
placed _ _ = []

-- the keys of a declaration
abbrev pub layer_keys : List (List ℕ × Form)
layer_keys = (codes "width", Int) ∷ (codes "rule", Rule) ∷ []

abbrev pub layer_key : List ℕ → Option (Place × Form)
layer_key word = found (placed (First ∷ Second ∷ Third ∷ Fourth ∷ []) layer_keys) word

-- the place and the form of a key
abbrev pub key_of : OpName → List ℕ → Option (Place × Form)
key_of name word = found (placed (First ∷ Second ∷ Third ∷ Fourth ∷ []) (row name).2) word

-- the place and the form of a key of a row
abbrev pub row_key : Row → List ℕ → Option (Place × Form)
row_key Layer word = layer_key word
row_key (Operator name) word = key_of name word

infixl 10 ◌>>=◌
abbrev ◌>>=◌ : {A B : Type 0} → Option A → (A → Option B) → Option B
o >>= f = option_and_then f o

-- the operator of these arguments, where all that it needs are given
abbrev pub op_of : OpName → Arguments → Option Op
op_of MakeVert given = do
  at ← as_point given.first
  Some (op.MakeVert at)
op_of MakeEdge given = do
  verts ← as_verts given.first
  Some (op.MakeEdge verts)
op_of MakeFace given = do
  verts ← as_verts given.first
  Some (op.MakeFace verts)
op_of Set given = do
  of ← as_kind given.first
  geom ← as_geom given.second
  layer ← as_name given.third
  values ← as_ints given.fourth
  Some (op.Set of geom layer values)
op_of Translate given = do
  verts ← as_geom given.first
  by ← as_point given.second
  Some (op.Translate verts by)
op_of Scale given = do
  verts ← as_geom given.first
  about ← as_point given.second
  num ← as_int given.third
  den ← as_int given.fourth
  Some (op.Scale verts about num den)
op_of Mirror given = do
  verts ← as_geom given.first
  axis ← as_axis given.second
  about ← as_int given.third
  Some (op.Mirror verts axis about)
op_of Reverse given = do
  faces ← as_geom given.first
  Some (op.Reverse faces)
op_of Duplicate given = do
  geom ← as_geom given.first
  Some (op.Duplicate geom)
op_of Split given = do
  geom ← as_geom given.first
  Some (op.Split geom)
op_of Delete given = do
  geom ← as_geom given.first
  context ← as_context given.second
  Some (op.Delete geom context)
op_of Connect given = do
  verts ← as_verts given.first
  Some (op.Connect verts)
op_of DissolveEdges given = do
  edges ← as_geom given.first
  Some (op.DissolveEdges edges)
op_of DissolveFaces given = do
  faces ← as_geom given.first
  Some (op.DissolveFaces faces)
op_of DissolveVerts given = do
  verts ← as_geom given.first
  Some (op.DissolveVerts verts)
op_of ExtrudeRegion given = do
  faces ← as_geom given.first
  Some (op.ExtrudeRegion faces)
op_of ExtrudeEdges given = do
  edges ← as_geom given.first
  Some (op.ExtrudeEdges edges)
op_of ExtrudeVerts given = do
  verts ← as_geom given.first
  Some (op.ExtrudeVerts verts)
op_of Bridge given = do
  a ← as_geom given.first
  b ← as_geom given.second
  Some (op.Bridge a b)
op_of Subdivide given = do
  edges ← as_geom given.first
  cuts ← as_int given.second
  Some (op.Subdivide edges cuts)
op_of Weld given = do
  map ← as_map given.first
  Some (op.Weld map)
op_of MergeDoubles given = do
  verts ← as_geom given.first
  dist ← as_int given.second
  Some (op.MergeDoubles verts dist)
op_of Collapse given = do
  edges ← as_geom given.first
  Some (op.Collapse edges)
op_of EdgeSplit given = do
  edges ← as_geom given.first
  Some (op.EdgeSplit edges)
op_of Triangulate given = do
  faces ← as_geom given.first
  method ← as_method given.second
  Some (op.Triangulate faces method)
op_of Poke given = do
  faces ← as_geom given.first
  Some (op.Poke faces)
