-- Arguments by their places.
use Rattle.std.specs.Prelude.{ℕ, ℤ, Bool, is_some, List, Option, Some, None}
use Rattle.mesh_model.specs.declared.records.Point.{Point}
use Rattle.mesh_model.specs.declared.names.VertName.{VertName}
use Rattle.mesh_model.specs.declared.names.Kind.{Kind}
use Rattle.cust_data.specs.declared.rule.Rule.{Rule}
use Rattle.op_slots.specs.declared.op.Axis.{Axis}
use Rattle.op_slots.specs.declared.op.Method.{Method}
use Rattle.op_slots.specs.declared.term.MapArg.{MapArg}
use Rattle.op_slots.specs.declared.term.Term.{Term}
use Rattle.op_slots.specs.declared.op.Context.{Context}
use Rattle.op_slots.specs.declared.op.Context.TheVariants.{Verts}
use Rattle.script_text.specs.declared.arguments.Argument.{Argument}
use Rattle.script_text.specs.declared.arguments.Argument.TheVariants as argument
use Rattle.script_text.specs.declared.arguments.Arguments.{Arguments}
use Rattle.script_text.specs.declared.arguments.Place.{Place}
use Rattle.script_text.specs.declared.arguments.Place.TheVariants.{First, Second, Third, Fourth}

-- no value yet
abbrev pub nothing : Arguments
nothing = record { first = None; second = None; third = None; fourth = None }

-- whether a place has a value
abbrev pub given : Place → Arguments → Bool
given First a = is_some a.first
given Second a = is_some a.second
given Third a = is_some a.third
given Fourth a = is_some a.fourth

-- with a value at a place
abbrev pub with : Place → Argument → Arguments → Arguments
with First x a = record a { first = Some x }
with Second x a = record a { second = Some x }
with Third x a = record a { third = Some x }
with Fourth x a = record a { fourth = Some x }

abbrev pub as_point : Option Argument → Option Point
as_point (Some (argument.Point p)) = Some p
as_point _ = None

abbrev pub as_verts : Option Argument → Option (List VertName)
as_verts (Some (argument.Verts vs)) = Some vs
as_verts _ = None

abbrev pub as_kind : Option Argument → Option Kind
as_kind (Some (argument.Kind k)) = Some k
as_kind _ = None

abbrev pub as_geom : Option Argument → Option (List Term)
as_geom (Some (argument.Geom ts)) = Some ts
as_geom _ = None

abbrev pub as_name : Option Argument → Option (List ℕ)
as_name (Some (argument.Name n)) = Some n
as_name _ = None

abbrev pub as_ints : Option Argument → Option (List ℤ)
as_ints (Some (argument.Ints zs)) = Some zs
as_ints _ = None

-- vertices by default
abbrev pub as_context : Option Argument → Option Context
as_context (Some (argument.Context c)) = Some c
as_context None = Some Verts
as_context _ = None

abbrev pub as_int : Option Argument → Option ℤ
as_int (Some (argument.Int z)) = Some z
as_int _ = None

abbrev pub as_rule : Option Argument → Option Rule
as_rule (Some (argument.Rule r)) = Some r
as_rule _ = None

abbrev pub as_axis : Option Argument → Option Axis
as_axis (Some (argument.Axis x)) = Some x
as_axis _ = None

abbrev pub as_method : Option Argument → Option Method
as_method (Some (argument.Method x)) = Some x
as_method _ = None

abbrev pub as_map : Option Argument → Option MapArg
as_map (Some (argument.Map x)) = Some x
as_map _ = None
