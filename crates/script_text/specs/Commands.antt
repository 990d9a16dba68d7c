-- Commands: what each adds to the script before it, or its fault.
use Rattle.std.specs.Prelude.{ℕ, ◌==◌, ◌||◌, Bool, false, not, nat_le, if◌then◌else◌, is_some, codes, List}
use Rattle.std.specs.Prelude.{[], ◌∷◌, ◌++◌, length, Option, Some, None, Result, Ok, Err}
use Rattle.std.specs.List.{list_any}
use Rattle.text_words.specs.Text.{is_text}
use Rattle.script_text.specs.declared.table.Row.TheVariants.{Operator}
use Rattle.op_slots.specs.declared.command.What.{What}
use Rattle.op_slots.specs.declared.command.What.TheVariants.{Run, Undo, Redo}
use Rattle.op_slots.specs.declared.command.Command.{Command}
use Rattle.script_text.specs.declared.script.Script.{Script}
use Rattle.script_text.specs.declared.fault.ScriptWhy.{ScriptWhy}
use Rattle.script_text.specs.declared.fault.ScriptWhy.TheVariants.{UnknownWord, MissingArgument, BadExpression, Rebound}
use Rattle.script_text.specs.declared.fault.ScriptWhy.TheVariants.{TooMany}
use Rattle.script_text.specs.Names.{is_name}
use Rattle.text_words.specs.Outcome.{◌>>=◌, ok_or}
use Rattle.script_text.specs.declared.table.OpName.{OpName}
use Rattle.script_text.specs.Table.{op_named, is_now, op_of}
use Rattle.script_text.specs.declared.fault.ScriptWhy.TheVariants.{NotYet}
use Rattle.script_text.specs.Rowed.{arguments_of}

-- `undo` or `redo`: it is bound to no name, and no word follows it
abbrev pub past : What → Bool → List (List ℕ) → Result What ScriptWhy
past what bound rest = if bound || not (length rest == 0) then Err BadExpression else Ok what

-- the operator of a word, if a session can do it so far
abbrev pub operator_of : List ℕ → Result OpName ScriptWhy
operator_of w = do
  name ← ok_or (op_named w) UnknownWord
  if is_now name then Ok name else Err NotYet

-- what the words of a command say
abbrev pub what_of : Bool → List (List ℕ) → Result What ScriptWhy
what_of bound [] = Err MissingArgument
what_of bound (w ∷ ws) =
    if is_text (codes "undo") w then past Undo bound ws
    else if is_text (codes "redo") w then past Redo bound ws
    else (do
      name ← operator_of w
      a ← arguments_of (Operator name) ws
      op ← ok_or (op_of name a) MissingArgument
      Ok (Run op))

abbrev binds_by : List ℕ → Option (List ℕ) → Bool
binds_by name None = false
binds_by name (Some bound) = is_text bound name

abbrev pub binds : List ℕ → Command → Bool
binds name c = binds_by name c.bind

abbrev pub is_bound : List ℕ → List Command → Bool
is_bound name cs = list_any (binds name) cs

-- a name that no command before binds
abbrev pub new_name : List ℕ → List Command → Result (List ℕ) ScriptWhy
new_name name cs = if not (is_name name) then Err BadExpression else if is_bound name cs then Err Rebound else Ok name

abbrev pub bound_name : Option (List ℕ) → List Command → Result (Option (List ℕ)) ScriptWhy
bound_name None cs = Ok None
bound_name (Some w) cs = do
  name ← new_name w cs
  Ok (Some name)

-- a command with the name that it binds, if any
abbrev pub command : ℕ → Option (List ℕ) → List (List ℕ) → Script → Result Script ScriptWhy
command number name ws s = if nat_le 4096 (length s.commands) then Err TooMany else (do
  bind ← bound_name name s.commands
  what ← what_of (is_some name) ws
  Ok (record s { commands = s.commands ++ record { line = number; bind = bind; what = what } ∷ [] }))
