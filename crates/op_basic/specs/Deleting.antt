-- delete: elements taken away, by a context.
use Rattle.std.specs.Prelude.{nat_le, Bool, length, filter, Result}
use Rattle.std.specs.declared.option.Option.{Option}
use Rattle.std.specs.declared.option.Option.TheVariants.{None}
use Rattle.mesh_model.specs.Complex.{Complex}
use Rattle.mesh_model.specs.Elements.{Elements}
use Rattle.mesh_model.specs.Closure.{closure}
use Rattle.mesh_model.specs.Incidence.{corners_at_edge}
use Rattle.mesh_model.specs.Deleting.{without_verts}
use Rattle.mesh_model.specs.declared.names.EdgeName.{EdgeName}
use Rattle.mesh_model.specs.declared.refusal.Refusal.{Refusal}
use Rattle.op_slots.specs.declared.slots.Slots.{Slots}
use Rattle.op_slots.specs.declared.op.Context.{Context}
use Rattle.op_slots.specs.declared.op.Context.TheVariants.{Verts, Edges, EdgesFaces, FacesOnly, Faces}
use Rattle.op_slots.specs.declared.op.Context.TheVariants.{FacesKeepBoundary}
use Rattle.mesh_passes.specs.Row.{row, no_slots}
use Rattle.mesh_passes.specs.Killing.{without_faces, without_edges, without_bare, without_set}

-- at least two corners run along an edge
abbrev pub has_two_corners : Complex → EdgeName → Bool
has_two_corners c e = nat_le 2 (length (corners_at_edge c e))

-- a set without its edges of fewer than two corners
abbrev pub without_boundary : Complex → Elements → Elements
without_boundary c s = record s { edges = filter (has_two_corners c) s.edges }

-- what is left
abbrev pub remaining : Context → Elements → Complex → Complex
remaining Verts x c = without_verts c x.verts
remaining Edges x c = without_bare (without_edges c x.edges) (closure c x).verts
remaining EdgesFaces x c = without_edges c x.edges
remaining FacesOnly x c = without_faces c x.faces
remaining Faces x c = without_set c (closure c x)
remaining FacesKeepBoundary x c = without_set c (without_boundary c (closure c x))

-- never refused: nothing is made, so no limit can be passed
abbrev pub delete_refusal : Context → Elements → Complex → Option Refusal
delete_refusal context x c = None

-- no element, and the complex that is left
abbrev pub delete_result : Context → Elements → Complex → Slots × Complex
delete_result context x c = (no_slots, remaining context x c)

abbrev pub delete_row : Context → Elements → Complex → Result (Slots × Complex) Refusal
delete_row context x c = row (delete_refusal context x c) (delete_result context x c)
