-- Each command of a script is one that a session can do.
use Rattle.std.proofs.Common.{◌≡◌, ℕ, Bool, true, false, cond, not, ◌&&◌, ◌||◌, List, [], ◌∷◌, ◌++◌, refl}
use Rattle.std.proofs.Common.{Option, Some, None, Ok, Err, is_some, leb, length, ◌==◌, codes}
use Rattle.std.specs.Prelude.{option_and_then}
use Rattle.std.proofs.lemmas.Bool.{false≢true}
use Rattle.text_words.specs.Text.{is_text}
use Rattle.text_words.specs.Outcome.{◌>>=◌, ok_or}
use Rattle.op_slots.specs.declared.op.Op.{Op}
use Rattle.op_slots.specs.declared.op.Op.TheVariants as op
use Rattle.op_slots.specs.declared.command.What.{What}
use Rattle.op_slots.specs.declared.command.What.TheVariants.{Run, Undo, Redo}
use Rattle.op_slots.specs.declared.command.Command.{Command}
use Rattle.script_text.specs.declared.arguments.Arguments.{Arguments}
use Rattle.script_text.specs.declared.script.Script.{Script}
use Rattle.script_text.specs.declared.table.OpName.{OpName}
use Rattle.script_text.specs.declared.table.OpName.TheVariants.{MakeVert, MakeEdge, MakeFace, Set, Translate, Scale}
use Rattle.script_text.specs.declared.table.OpName.TheVariants.{Mirror, Reverse, Duplicate, Split}
use Rattle.script_text.specs.declared.table.OpName.TheVariants.{Delete}
use Rattle.script_text.specs.declared.table.Row.TheVariants.{Operator}
use Rattle.script_text.specs.declared.fault.ScriptWhy.{ScriptWhy}
use Rattle.script_text.specs.declared.fault.ScriptWhy.TheVariants.{NotYet, MissingArgument, UnknownWord}
use Rattle.script_text.specs.Arguments.{as_point, as_verts, as_geom, as_context, as_axis, as_int, as_kind}
use Rattle.script_text.specs.Arguments.{as_name, as_ints}
use Rattle.script_text.specs.Built.{is_op_built, is_built, are_built}
use Rattle.script_text.specs.Commands.{past, operator_of, what_of, bound_name, command}
use Rattle.script_text.specs.Laws.{passes}
use Rattle.script_text.specs.Rowed.{arguments_of}
use Rattle.script_text.specs.Script.{script_of}
use Rattle.script_text.specs.Table.{op_named, is_now, op_of}
use Rattle.script_text.proofs.KeptLemmas.{passes_on, passes_any, either, layer_kept, script_kept}

-- ---- TESTS

and : (a b : Bool) → a ≡ true → b ≡ true → (a && b) ≡ true
and true b one other = other
and false b one other = absurd (false≢true one)

left : (a b : Bool) → (a && b) ≡ true → a ≡ true
left true b both = refl
left false b both = both

right : (a b : Bool) → (a && b) ≡ true → b ≡ true
right true b both = both
right false b both = absurd (false≢true both)

-- ---- COMMANDS

abbrev is_fine_op : Option Op → Bool
is_fine_op (Some o) = is_op_built o
is_fine_op None = true

-- an operator of one more argument, which may not be there
with_one : {A : Type 0} (o : Option A) (f : A → Option Op) → ((x : A) → is_fine_op (f x) ≡ true)
    → is_fine_op (option_and_then f o) ≡ true
with_one None f fine = refl
with_one (Some x) f fine = fine x

op_fine : (name : OpName) (a : Arguments) → is_now name ≡ true → is_fine_op (op_of name a) ≡ true
op_fine MakeVert a done = with_one (as_point a.first) (λ at. Some (op.MakeVert at)) (λ _. refl)
op_fine MakeEdge a done = with_one (as_verts a.first) (λ vs. Some (op.MakeEdge vs)) (λ _. refl)
op_fine MakeFace a done = with_one (as_verts a.first) (λ vs. Some (op.MakeFace vs)) (λ _. refl)
op_fine Set a done =
    with_one (as_kind a.first) _
    (λ of. with_one (as_geom a.second) _
    (λ g. with_one (as_name a.third) _
    (λ name. with_one (as_ints a.fourth) (λ values. Some (op.Set of g name values)) (λ _. refl))))
op_fine Translate a done =
    with_one (as_geom a.first) _
    (λ vs. with_one (as_point a.second) (λ by. Some (op.Translate vs by)) (λ _. refl))
op_fine Scale a done =
    with_one (as_geom a.first) _
    (λ vs. with_one (as_point a.second) _
    (λ about. with_one (as_int a.third) _
    (λ num. with_one (as_int a.fourth) (λ den. Some (op.Scale vs about num den)) (λ _. refl))))
op_fine Mirror a done =
    with_one (as_geom a.first) _
    (λ vs. with_one (as_axis a.second) _
    (λ axis. with_one (as_int a.third) (λ about. Some (op.Mirror vs axis about)) (λ _. refl)))
op_fine Reverse a done = with_one (as_geom a.first) (λ fs. Some (op.Reverse fs)) (λ _. refl)
op_fine Duplicate a done = with_one (as_geom a.first) (λ g. Some (op.Duplicate g)) (λ _. refl)
op_fine Split a done = with_one (as_geom a.first) (λ g. Some (op.Split g)) (λ _. refl)
op_fine Delete a done =
    with_one (as_geom a.first) _ (λ g. with_one (as_context a.second) (λ c. Some (op.Delete g c)) (λ _. refl))
op_fine _ a done = absurd (false≢true done)

made : (o : Option Op) → is_fine_op o ≡ true
    → passes is_built (ok_or o MissingArgument >>= (λ x. Ok (Run x))) ≡ true
made None fine = refl
made (Some o) fine = fine

now_or_not : (name : OpName) (b : Bool) → is_now name ≡ b
    → passes {E = ScriptWhy} is_now (cond (is_now name) (Ok name) (Err NotYet)) ≡ true
now_or_not name true is = rw is is
now_or_not name false is = rw is refl

named_now : (o : Option OpName)
    → passes is_now (ok_or o UnknownWord >>= (λ name. cond (is_now name) (Ok name) (Err NotYet))) ≡ true
named_now None = refl
named_now (Some name) = now_or_not name (is_now name) refl

past_built : (what : What) (bound : Bool) (ws : List (List ℕ)) → is_built what ≡ true
    → passes is_built (past what bound ws) ≡ true
past_built what bound ws is = either is_built (bound || not (length ws == 0)) _ _ refl is

words_built : (bound : Bool) (ws : List (List ℕ)) → passes is_built (what_of bound ws) ≡ true
words_built bound [] = refl
words_built bound (w ∷ ws) =
    either is_built (is_text (codes "undo") w) _ _ (past_built Undo bound ws refl)
    (either is_built (is_text (codes "redo") w) _ _ (past_built Redo bound ws refl)
    (passes_on is_now is_built (operator_of w) _ (named_now (op_named w))
    (λ name done. passes_any is_built (arguments_of (Operator name) ws) _
    (λ a. made (op_of name a) (op_fine name a done)))))

-- ---- SCRIPTS

abbrev is_built_script : Script → Bool
is_built_script s = are_built s.commands

more_built : (cs : List Command) (c : Command) → are_built cs ≡ true → is_built c.what ≡ true
    → are_built (cs ++ c ∷ []) ≡ true
more_built [] c were is = and (is_built c.what) true is refl
more_built (b ∷ cs) c were is =
    and (is_built b.what) _ (left (is_built b.what) _ were) (more_built cs c (right (is_built b.what) _ were) is)

command_built : (number : ℕ) (name : Option (List ℕ)) (ws : List (List ℕ)) (s : Script) → is_built_script s ≡ true
    → passes is_built_script (command number name ws s) ≡ true
command_built number name ws s were =
    either is_built_script (leb 4096 (length s.commands)) _ _ refl
    (passes_any is_built_script (bound_name name s.commands) _
    (λ bind. passes_on is_built is_built_script (what_of (is_some name) ws) _ (words_built (is_some name) ws)
    (λ what is. more_built s.commands (record { line = number; bind = bind; what = what }) were is)))

pub script_built : (text : List ℕ) → passes is_built_script (script_of text) ≡ true
script_built =
    script_kept is_built_script
    (record { commands = command_built; layers = λ ws s were. layer_kept is_built_script ws s (λ d free. were) }) refl
