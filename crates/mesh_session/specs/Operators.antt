-- What each operator gives: its slots and the complex after, or the first refusal.
use Rattle.std.specs.Prelude.{List, Result, Ok, Err}
use Rattle.mesh_model.specs.Complex.{Complex}
use Rattle.mesh_model.specs.Elements.{Elements}
use Rattle.mesh_model.specs.declared.names.Kind.{Kind}
use Rattle.mesh_model.specs.declared.names.Kind.TheVariants as kind
use Rattle.mesh_model.specs.declared.refusal.Refusal.{Refusal}
use Rattle.mesh_model.specs.declared.refusal.Why.TheVariants.{BadValue}
use Rattle.mesh_model.specs.declared.refusal.Place.TheVariants.{Nowhere}
use Rattle.op_slots.specs.Values.{resolved, list_refusal, unless_refused}
use Rattle.op_slots.specs.declared.bindings.Binding.{Binding}
use Rattle.op_slots.specs.declared.slots.Slots.{Slots}
use Rattle.op_slots.specs.declared.op.Op.{Op}
use Rattle.op_slots.specs.declared.op.Op.TheVariants.{MakeVert, MakeEdge, MakeFace, Set, Translate, Scale, Mirror}
use Rattle.op_slots.specs.declared.op.Op.TheVariants.{Reverse, Duplicate, Split, Delete}
use Rattle.op_slots.specs.declared.op.Context.{Context}
use Rattle.op_slots.specs.declared.op.Context.TheVariants as context
use Rattle.op_slots.specs.declared.resolving.want.Want.{Want}
use Rattle.op_slots.specs.declared.resolving.want.Want.TheVariants as want
use Rattle.op_basic.specs.Making.{make_vert_row, make_edge_row, make_face_row}
use Rattle.op_basic.specs.Motions.{translate_row, scale_row, mirror_row}
use Rattle.op_basic.specs.Turning.{reverse_row}
use Rattle.op_basic.specs.Deleting.{delete_row}
use Rattle.op_values.specs.Setting.{set_row}
use Rattle.op_copies.specs.Duplicating.{duplicate_row, split_row}

-- the refusal of a command that a session can't do so far
abbrev pub unable : Refusal
unable = record { why = BadValue; place = Nowhere }

-- the refusal of an argument, or else the row over the elements for which it stands
abbrev pub over : Result Elements Refusal → (Elements → Result (Slots × Complex) Refusal)
    → Result (Slots × Complex) Refusal
over (Err r) row = Err r
over (Ok x) row = row x

-- the kind of the elements at which a layer of a kind is set
abbrev pub kind_set : Kind → Want
kind_set kind.Verts = want.Verts
kind_set kind.Edges = want.Edges
kind_set kind.Corners = want.Faces
kind_set kind.Faces = want.Faces

-- the kind that a context deletes
abbrev pub kind_wanted : Context → Want
kind_wanted context.Verts = want.Verts
kind_wanted context.Edges = want.Edges
kind_wanted context.EdgesFaces = want.Edges
kind_wanted context.FacesOnly = want.Faces
kind_wanted context.Faces = want.Faces
kind_wanted context.FacesKeepBoundary = want.Faces

-- what an operator gives over a complex and what is bound: the refusal of an argument comes before those of its
-- conditions, and an operator that a session can't do so far is refused
abbrev pub op_row : Op → List Binding → Complex → Result (Slots × Complex) Refusal
op_row (MakeVert at) bs c = make_vert_row at c
op_row (MakeEdge verts) bs c = unless_refused (list_refusal c verts) (make_edge_row verts c)
op_row (MakeFace verts) bs c = unless_refused (list_refusal c verts) (make_face_row verts c)
op_row (Set of geom layer values) bs c =
    over (resolved c bs (kind_set of) geom) (λ x. set_row of x layer values c)
op_row (Translate verts by) bs c = over (resolved c bs want.Verts verts) (λ x. translate_row x.verts by c)
op_row (Scale verts about num den) bs c =
    over (resolved c bs want.Verts verts) (λ x. scale_row x.verts about num den c)
op_row (Mirror verts axis about) bs c = over (resolved c bs want.Verts verts) (λ x. mirror_row x.verts axis about c)
op_row (Reverse faces) bs c = over (resolved c bs want.Faces faces) (λ x. reverse_row x.faces c)
op_row (Duplicate geom) bs c = over (resolved c bs want.Any geom) (λ x. duplicate_row x c)
op_row (Split geom) bs c = over (resolved c bs want.Any geom) (λ x. split_row x c)
op_row (Delete geom context) bs c = over (resolved c bs (kind_wanted context) geom) (λ x. delete_row context x c)
op_row _ bs c = Err unable
