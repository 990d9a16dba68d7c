-- No operator changes the layers.
use Rattle.std.proofs.Common.{◌≡◌, ◌∙◌, ℕ, ℤ, List, [], ◌∷◌, Option, Some, None, Result, Ok, Err, refl}
use Rattle.mesh_model.specs.Complex.{Complex}
use Rattle.mesh_model.specs.Elements.{Elements}
use Rattle.mesh_model.specs.Incidence.{sides, edge_joining}
use Rattle.mesh_model.specs.Making.{with_found, edge_between, edges_along}
use Rattle.mesh_model.specs.declared.names.VertName.{VertName}
use Rattle.mesh_model.specs.declared.names.EdgeName.{EdgeName}
use Rattle.mesh_model.specs.declared.names.Kind.{Kind}
use Rattle.mesh_model.specs.declared.names.Kind.TheVariants as kind
use Rattle.mesh_model.specs.declared.refusal.Refusal.{Refusal}
use Rattle.op_basic.specs.Deleting.{remaining, delete_refusal, delete_result}
use Rattle.op_basic.specs.Making.{make_vert_refusal, make_vert_result, make_edge_refusal, make_edge_result}
use Rattle.op_basic.specs.Making.{make_face_refusal, make_face_result, with_face_on}
use Rattle.op_basic.specs.Motions.{translate_refusal, translate_result, scale_refusal, scale_result}
use Rattle.op_basic.specs.Motions.{mirror_refusal, mirror_result}
use Rattle.op_basic.specs.Turning.{reverse_refusal, reverse_result}
use Rattle.op_slots.specs.Values.{resolved, list_refusal, unless_refused}
use Rattle.op_slots.specs.declared.bindings.Binding.{Binding}
use Rattle.op_slots.specs.declared.op.Op.{Op}
use Rattle.op_slots.specs.declared.op.Op.TheVariants.{MakeVert, MakeEdge, MakeFace, Set, Translate, Scale, Mirror}
use Rattle.op_slots.specs.declared.op.Op.TheVariants.{Reverse, Duplicate, Split, Delete}
use Rattle.op_slots.specs.declared.op.Context.{Context}
use Rattle.op_slots.specs.declared.op.Context.TheVariants.{Verts, Edges, EdgesFaces, FacesOnly, Faces, FacesKeepBoundary}
use Rattle.op_slots.specs.declared.resolving.want.Want.TheVariants as want
use Rattle.op_slots.specs.declared.slots.Slots.{Slots}
use Rattle.op_copies.specs.Duplicating.{duplicate_refusal, duplicate_result, split_refusal, split_result}
use Rattle.op_values.specs.Setting.{set_refusal, set_result, with_layer_set, with_vert_numbers, with_edge_numbers}
use Rattle.op_values.specs.Setting.{with_corner_numbers, with_face_numbers}
use Rattle.mesh_passes.specs.Killing.{without_faces, without_edges, without_loose, without_bare}
use Rattle.mesh_passes.specs.Moving.{moved}
use Rattle.mesh_passes.specs.Turning.{turned_over}
use Rattle.mesh_passes.specs.Row.{row}
use Rattle.mesh_session.specs.Operators.{kind_set, kind_wanted, over, op_row}

-- what an operator leaves has the layers that were there
abbrev pub KeepsLayers : Complex → Result (Slots × Complex) Refusal → Type 0
KeepsLayers c (Err r) = Unit {0}
KeepsLayers c (Ok done) = done.1.layers ≡ c.layers

keeps_row : (c : Complex) (r : Option Refusal) (done : Slots × Complex) → done.1.layers ≡ c.layers
    → KeepsLayers c (row r done)
keeps_row c (Some r) done kept = tt
keeps_row c None done kept = kept

keeps_over : (c : Complex) (named : Result Elements Refusal) (r : Elements → Option Refusal)
    (done : Elements → Slots × Complex) → ((x : Elements) → (done x).1.layers ≡ c.layers)
    → KeepsLayers c (over named (λ x. row (r x) (done x)))
keeps_over c (Err e) r done kept = tt
keeps_over c (Ok x) r done kept = keeps_row c (r x) (done x) (kept x)

keeps_listed : (c : Complex) (listed r : Option Refusal) (done : Slots × Complex) → done.1.layers ≡ c.layers
    → KeepsLayers c (unless_refused listed (row r done))
keeps_listed c (Some e) r done kept = tt
keeps_listed c None r done kept = keeps_row c r done kept

remaining_keeps : (context : Context) (x : Elements) (c : Complex) → (remaining context x c).layers ≡ c.layers
unfolding without_faces without_edges without_loose without_bare
remaining_keeps Verts x c = refl
remaining_keeps Edges x c = refl
remaining_keeps EdgesFaces x c = refl
remaining_keeps FacesOnly x c = refl
remaining_keeps Faces x c = refl
remaining_keeps FacesKeepBoundary x c = refl

set_keeps : (of : Kind) (x : Elements) (name : List ℕ) (values : List ℤ) (c : Complex)
    → (with_layer_set c of x name values).layers ≡ c.layers
unfolding with_vert_numbers with_edge_numbers with_corner_numbers with_face_numbers
set_keeps kind.Verts x name values c = refl
set_keeps kind.Edges x name values c = refl
set_keeps kind.Corners x name values c = refl
set_keeps kind.Faces x name values c = refl

found_keeps : (c : Complex) (v w : VertName) (e : Option EdgeName) → (with_found c v w e).0.layers ≡ c.layers
found_keeps c v w None = refl
found_keeps c v w (Some e) = refl

along_keeps : (c : Complex) (ss : List (VertName × VertName)) → (edges_along c ss).0.layers ≡ c.layers
along_keeps c [] = refl
along_keeps c (s ∷ ss) =
    along_keeps (edge_between c s.0 s.1).0 ss ∙ found_keeps c s.0 s.1 (edge_joining c.edges s.0 s.1)

face_keeps : (c : Complex) (vs : List VertName) → (with_face_on c vs).layers ≡ c.layers
face_keeps c vs = along_keeps c (sides vs)

-- an operator keeps the layers
pub op_keeps : (op : Op) (bs : List Binding) (c : Complex) → KeepsLayers c (op_row op bs c)
unfolding moved turned_over without_faces without_loose without_bare
op_keeps (MakeVert at) bs c = keeps_row c (make_vert_refusal at c) (make_vert_result at c) refl
op_keeps (MakeEdge verts) bs c =
    keeps_listed c (list_refusal c verts) (make_edge_refusal verts c) (make_edge_result verts c) refl
op_keeps (MakeFace verts) bs c =
    keeps_listed c (list_refusal c verts) (make_face_refusal verts c) (make_face_result verts c) (face_keeps c verts)
op_keeps (Set of geom layer values) bs c =
    keeps_over c (resolved c bs (kind_set of) geom) (λ x. set_refusal of x layer values c)
    (λ x. set_result of x layer values c) (λ x. set_keeps of x layer values c)
op_keeps (Translate verts by) bs c =
    keeps_over c (resolved c bs want.Verts verts) (λ x. translate_refusal x.verts by c)
    (λ x. translate_result x.verts by c) (λ x. refl)
op_keeps (Scale verts about num den) bs c =
    keeps_over c (resolved c bs want.Verts verts) (λ x. scale_refusal x.verts about num den c)
    (λ x. scale_result x.verts about num den c) (λ x. refl)
op_keeps (Mirror verts axis about) bs c =
    keeps_over c (resolved c bs want.Verts verts) (λ x. mirror_refusal x.verts axis about c)
    (λ x. mirror_result x.verts axis about c) (λ x. refl)
op_keeps (Reverse faces) bs c =
    keeps_over c (resolved c bs want.Faces faces) (λ x. reverse_refusal x.faces c) (λ x. reverse_result x.faces c)
    (λ x. refl)
op_keeps (Duplicate geom) bs c =
    keeps_over c (resolved c bs want.Any geom) (λ x. duplicate_refusal x c) (λ x. duplicate_result x c) (λ x. refl)
op_keeps (Split geom) bs c =
    keeps_over c (resolved c bs want.Any geom) (λ x. split_refusal x c) (λ x. split_result x c) (λ x. refl)
op_keeps (Delete geom context) bs c =
    keeps_over c (resolved c bs (kind_wanted context) geom) (λ x. delete_refusal context x c)
    (λ x. delete_result context x c) (λ x. remaining_keeps context x c)
op_keeps _ bs c = tt
