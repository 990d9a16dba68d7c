-- Values by their forms.
use Rattle.std.specs.Prelude.{ℕ, ℤ, ◌&&◌, nat_le, nat_lt, if◌then◌else◌, codes, List, [], ◌∷◌}
use Rattle.std.specs.Prelude.{length, Option, Some, None, Result, Ok, option_and_then}
use Rattle.text_words.specs.Text.{integer, parts_of}
use Rattle.mesh_model.specs.declared.records.Point.{Point}
use Rattle.mesh_model.specs.declared.names.Kind.{Kind}
use Rattle.mesh_model.specs.declared.names.Kind.TheVariants as kind
use Rattle.cust_data.specs.declared.rule.Rule.{Rule}
use Rattle.cust_data.specs.declared.rule.Rule.TheVariants as rule
use Rattle.op_slots.specs.declared.op.Axis.{Axis}
use Rattle.op_slots.specs.declared.op.Axis.TheVariants as axis
use Rattle.op_slots.specs.declared.op.Method.{Method}
use Rattle.op_slots.specs.declared.op.Method.TheVariants as method
use Rattle.op_slots.specs.declared.op.Context.{Context}
use Rattle.op_slots.specs.declared.op.Context.TheVariants as context
use Rattle.script_text.specs.declared.arguments.Form.{Form}
use Rattle.script_text.specs.declared.arguments.Form.TheVariants as form
use Rattle.script_text.specs.declared.arguments.Argument.{Argument}
use Rattle.script_text.specs.declared.arguments.Argument.TheVariants as argument
use Rattle.script_text.specs.declared.fault.ScriptWhy.{ScriptWhy}
use Rattle.script_text.specs.declared.fault.ScriptWhy.TheVariants.{UnknownWord, BadNumber, BadExpression}
use Rattle.script_text.specs.Maps.{map_arg}
use Rattle.text_words.specs.Outcome.{◌>>=◌, ok_or}
use Rattle.script_text.specs.Table.{found}
use Rattle.script_text.specs.Terms.{at_most, geom, verts}

-- the words of the choices
abbrev pub kind_of : List ℕ → Option Kind
kind_of word = found ((codes "verts", kind.Verts) ∷ (codes "edges", kind.Edges) ∷ (codes "corners", kind.Corners)
    ∷ (codes "faces", kind.Faces) ∷ []) word

abbrev pub rule_of : List ℕ → Option Rule
rule_of word = found ((codes "mix", rule.Mix) ∷ (codes "copy", rule.Copy) ∷ []) word

abbrev pub axis_of : List ℕ → Option Axis
axis_of word = found ((codes "x", axis.X) ∷ (codes "y", axis.Y) ∷ (codes "z", axis.Z) ∷ []) word

abbrev pub method_of : List ℕ → Option Method
method_of word = found ((codes "fan", method.Fan) ∷ (codes "ear", method.Ear) ∷ []) word

abbrev pub context_of : List ℕ → Option Context
context_of word = found ((codes "verts", context.Verts) ∷ (codes "edges", context.Edges)
    ∷ (codes "edges_faces", context.EdgesFaces) ∷ (codes "faces_only", context.FacesOnly)
    ∷ (codes "faces", context.Faces) ∷ (codes "faces_keep_boundary", context.FacesKeepBoundary) ∷ []) word

-- three numbers
abbrev pub point_of : List (List ℕ) → Option Point
point_of (x ∷ y ∷ z ∷ []) =
    option_and_then (λ a.
    option_and_then (λ b.
    option_and_then (λ c. Some (record { x = a; y = b; z = c })) (integer 18 z)) (integer 18 y)) (integer 18 x)
point_of _ = None

abbrev pub point : List ℕ → Option Point
point word = point_of (parts_of 44 word)

-- one to four numbers
abbrev pub ints_of : List (List ℕ) → Option (List ℤ)
ints_of ps = at_most 4 (integer 18) ps

abbrev pub ints : List ℕ → Option (List ℤ)
ints word = ints_of (parts_of 44 word)

-- 1 to 63 bytes
abbrev pub layer_name : List ℕ → Option (List ℕ)
layer_name word = if nat_lt 0 (length word) && nat_le (length word) 63 then Some word else None

-- what a word spells in a form, or its fault
abbrev pub value_of : Form → List ℕ → Result Argument ScriptWhy
value_of form.Int word = do
  number ← ok_or (integer 18 word) BadNumber
  Ok (argument.Int number)
value_of form.Point word = do
  p ← ok_or (point word) BadNumber
  Ok (argument.Point p)
value_of form.Ints word = do
  numbers ← ok_or (ints word) BadNumber
  Ok (argument.Ints numbers)
value_of form.Kind word = do
  k ← ok_or (kind_of word) UnknownWord
  Ok (argument.Kind k)
value_of form.Context word = do
  c ← ok_or (context_of word) UnknownWord
  Ok (argument.Context c)
value_of form.Rule word = do
  r ← ok_or (rule_of word) UnknownWord
  Ok (argument.Rule r)
value_of form.Axis word = do
  x ← ok_or (axis_of word) UnknownWord
  Ok (argument.Axis x)
value_of form.Method word = do
  m ← ok_or (method_of word) UnknownWord
  Ok (argument.Method m)
value_of form.Name word = do
  name ← ok_or (layer_name word) BadExpression
  Ok (argument.Name name)
value_of form.Geom word = do
  terms ← ok_or (geom word) BadExpression
  Ok (argument.Geom terms)
value_of form.Verts word = do
  names ← ok_or (verts word) BadExpression
  Ok (argument.Verts names)
value_of form.Map word = do
  m ← map_arg word
  Ok (argument.Map m)
