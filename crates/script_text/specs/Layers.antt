-- Declarations of layers: what each adds to the script before it, or its fault.
use Rattle.std.specs.Prelude.{ℕ, ℤ, pos, negsuc, ◌==◌, ◌&&◌, Bool, not, nat_le, if◌then◌else◌, is_some, List, [], ◌∷◌}
use Rattle.std.specs.Prelude.{◌++◌, ◌≡◌, length, Option, Some, None, Result, Ok, Err}
use Rattle.std.specs.List.{fold}
use Rattle.mesh_model.specs.Complex.{KindLayers, fixed_layers}
use Rattle.mesh_model.specs.Declaring.{with_layer_declared, declaration_fault, first_declaration_fault}
use Rattle.mesh_model.specs.declared.names.Kind.{Kind}
use Rattle.mesh_model.specs.declared.layer_decl.LayerDecl.{LayerDecl}
use Rattle.cust_data.specs.declared.rule.Rule.{Rule}
use Rattle.text_words.specs.Outcome.{◌>>=◌, ok_or}
use Rattle.script_text.specs.declared.table.Row.TheVariants.{Layer}
use Rattle.script_text.specs.declared.script.Script.{Script}
use Rattle.script_text.specs.declared.fault.ScriptWhy.{ScriptWhy}
use Rattle.script_text.specs.declared.fault.ScriptWhy.TheVariants.{UnknownWord, MissingArgument, BadExpression}
use Rattle.script_text.specs.declared.fault.ScriptWhy.TheVariants.{LateLayer, BadLayer}
use Rattle.script_text.specs.Arguments.{as_int, as_rule}
use Rattle.script_text.specs.Rowed.{arguments_of}
use Rattle.script_text.specs.Values.{kind_of, layer_name}

-- a width is 1 to 4
abbrev pub width_of : ℤ → Option ℕ
width_of (pos n) = if nat_le 1 n && nat_le n 4 then Some n else None
width_of (negsuc n) = None

-- the fixed layers, and those that are declared behind them
abbrev pub layers_with : List LayerDecl → KindLayers
layers_with ds = fold with_layer_declared fixed_layers ds

-- a layer can't be declared behind some others
abbrev pub is_refused : LayerDecl → List LayerDecl → Bool
is_refused d ds = is_some (declaration_fault (layers_with ds) d)

-- a declaration behind those before it
abbrev pub declared : LayerDecl → Script → Result Script ScriptWhy
declared d s =
    if is_refused d s.layers then Err BadLayer else Ok (record s { layers = s.layers ++ d ∷ [] })

-- a layer of these arguments
abbrev pub added : Kind → List ℕ → ℤ → Rule → Script → Result Script ScriptWhy
added kind name width rule s = do
  w ← ok_or (width_of width) BadLayer
  declared (record { kind = kind; name = name; width = w; rule = rule }) s

-- the words of a declaration after `layer`
abbrev pub layer_words : List (List ℕ) → Script → Result Script ScriptWhy
layer_words [] s = Err MissingArgument
layer_words (k ∷ []) s = do
  kind ← ok_or (kind_of k) UnknownWord
  Err MissingArgument
layer_words (k ∷ n ∷ ws) s = do
  kind ← ok_or (kind_of k) UnknownWord
  name ← ok_or (layer_name n) BadExpression
  a ← arguments_of Layer ws
  width ← ok_or (as_int a.first) MissingArgument
  rule ← ok_or (as_rule a.second) MissingArgument
  added kind name width rule s

-- a declaration, before the first command
abbrev pub layer : List (List ℕ) → Script → Result Script ScriptWhy
layer ws s = if not (length s.commands == 0) then Err LateLayer else layer_words ws s

-- layers can be declared one after another, behind the fixed ones
abbrev pub AreDeclarable : List LayerDecl → Type 0
AreDeclarable ds = first_declaration_fault fixed_layers ds ≡ None
