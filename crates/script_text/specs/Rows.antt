-- What some small scripts are.
use Rattle.std.specs.Prelude.{◌≡◌, ℕ, pos, negsuc, codes, List, [], ◌∷◌, ◌++◌, Option, Some, None, Result, Ok, Err}
use Rattle.mesh_model.specs.declared.names.Elem.TheVariants.{Vert, Face}
use Rattle.mesh_model.specs.declared.names.Kind.{Kind}
use Rattle.mesh_model.specs.declared.names.Kind.TheVariants as kind
use Rattle.cust_data.specs.declared.rule.Rule.{Rule}
use Rattle.cust_data.specs.declared.rule.Rule.TheVariants.{Mix, Copy}
use Rattle.op_slots.specs.declared.op.Context.TheVariants as context
use Rattle.op_slots.specs.declared.op.Method.TheVariants.{Ear}
use Rattle.op_slots.specs.declared.term.Term.{Term}
use Rattle.op_slots.specs.declared.term.Term.TheVariants.{One, Range, All, Slot}
use Rattle.op_slots.specs.declared.op.Op.{Op}
use Rattle.op_slots.specs.declared.op.Axis.TheVariants.{Y}
use Rattle.op_slots.specs.declared.op.Op.TheVariants.{MakeVert, MakeEdge, MakeFace, Set, Translate, Scale}
use Rattle.op_slots.specs.declared.op.Op.TheVariants.{Mirror, Reverse, Duplicate, Split, Delete}
use Rattle.op_slots.specs.declared.command.What.{What}
use Rattle.op_slots.specs.declared.command.What.TheVariants.{Run, Undo, Redo}
use Rattle.text_words.specs.Text.{words}
use Rattle.script_text.specs.declared.arguments.Argument.TheVariants as argument
use Rattle.script_text.specs.declared.arguments.Arguments.{Arguments}
use Rattle.script_text.specs.declared.script.Script.{Script}
use Rattle.script_text.specs.declared.table.OpName.{OpName}
use Rattle.script_text.specs.declared.table.OpName.TheVariants.{Poke, Triangulate, Subdivide, Weld, Bridge}
use Rattle.script_text.specs.declared.table.Row.TheVariants.{Operator}
use Rattle.script_text.specs.declared.fault.ScriptWhy.{ScriptWhy}
use Rattle.script_text.specs.declared.fault.ScriptWhy.TheVariants.{TwiceGiven, MissingArgument, LateLayer, BadNumber}
use Rattle.script_text.specs.declared.fault.ScriptWhy.TheVariants.{BadExpression, BadLayer, Rebound, UnknownWord, NotYet}
use Rattle.script_text.specs.declared.fault.ScriptRefusal.{ScriptRefusal}
use Rattle.script_text.specs.Arguments.{nothing}
use Rattle.script_text.specs.Rowed.{arguments_of}
use Rattle.script_text.specs.Script.{script_of}

-- one command, on the first line
abbrev given : Option (List ℕ) → What → Result Script ScriptRefusal
given name what = Ok (record { layers = []; commands = record { line = 1; bind = name; what = what } ∷ [] })

abbrev deleted : Option (List ℕ) → List Term → Result Script ScriptRefusal
deleted name terms = given name (Run (Delete terms context.Verts))

abbrev ran : Op → Result Script ScriptRefusal
ran op = given None (Run op)

abbrev refused : ScriptWhy → Result Script ScriptRefusal
refused why = Err (record { line = 1; why = why })

-- keys in any order, each form of a term, a comment; the default of a key that isn't there; a name
abbrev pub Commands : Type 0
Commands =
    (script_of (codes "delete context=verts geom=v0,v3-v5,all.f,$b.verts # so")
    ≡ deleted None (One (Vert (record { 0 = 0 })) ∷ Range kind.Verts 3 5 ∷ All (Some kind.Faces)
    ∷ Slot (codes "b") (Some kind.Verts) ∷ []))
    × (script_of (codes "delete geom=all") ≡ deleted None (All None ∷ []))
    × (script_of (codes "a_1 = delete geom=$a") ≡ deleted (Some (codes "a_1")) (Slot (codes "a") None ∷ []))

-- the first face, by name
abbrev first_face : List Term
first_face = One (Face (record { 0 = 0 })) ∷ []

-- each context
abbrev pub Contexts : Type 0
Contexts =
    (script_of (codes "delete geom=f0 context=edges") ≡ ran (Delete first_face context.Edges))
    × (script_of (codes "delete geom=f0 context=edges_faces") ≡ ran (Delete first_face context.EdgesFaces))
    × (script_of (codes "delete geom=f0 context=faces_only") ≡ ran (Delete first_face context.FacesOnly))
    × (script_of (codes "delete geom=f0 context=faces") ≡ ran (Delete first_face context.Faces))
    × (script_of (codes "delete geom=f0 context=faces_keep_boundary")
    ≡ ran (Delete first_face context.FacesKeepBoundary))

-- the other operators, and the ways through the past
abbrev pub Others : Type 0
Others =
    (script_of (codes "make_vert at=1,-2,003") ≡ ran (MakeVert (record { x = pos 1; y = negsuc 1; z = pos 3 })))
    × (script_of (codes "make_edge verts=v1,v0") ≡ ran (MakeEdge (record { 0 = 1 } ∷ record { 0 = 0 } ∷ [])))
    × (script_of (codes "translate by=0,0,-1 verts=all")
    ≡ ran (Translate (All None ∷ []) (record { x = pos 0; y = pos 0; z = negsuc 0 })))
    × (script_of (codes "make_face verts=v2,v0,v1")
    ≡ ran (MakeFace (record { 0 = 2 } ∷ record { 0 = 0 } ∷ record { 0 = 1 } ∷ [])))
    × (script_of (codes "set values=1,-2 layer=uv geom=all of=corners")
    ≡ ran (Set kind.Corners (All None ∷ []) (codes "uv") (pos 1 ∷ negsuc 1 ∷ [])))
    × (script_of (codes "scale den=2 num=-3 about=0,0,4 verts=all")
    ≡ ran (Scale (All None ∷ []) (record { x = pos 0; y = pos 0; z = pos 4 }) (negsuc 2) (pos 2)))
    × (script_of (codes "mirror verts=all axis=y about=-1") ≡ ran (Mirror (All None ∷ []) Y (negsuc 0)))
    × (script_of (codes "reverse faces=f0") ≡ ran (Reverse first_face))
    × (script_of (codes "duplicate geom=f0") ≡ ran (Duplicate first_face))
    × (script_of (codes "split geom=f0") ≡ ran (Split first_face))
    × (script_of (codes "undo") ≡ given None Undo)
    × (script_of (codes "redo # so") ≡ given None Redo)

-- the first fault of a line, and of the lines
abbrev pub Faults : Type 0
Faults =
    (script_of (codes "delete geom=v0 geom=") ≡ refused TwiceGiven)
    × (script_of (codes "delete context=verts") ≡ refused MissingArgument)
    × (script_of (codes "delete geom=v1-v0") ≡ refused BadExpression)
    × (script_of (codes "delete context=") ≡ refused UnknownWord)
    × (script_of (codes "make_vert at=1,2,3x") ≡ refused BadNumber)
    × (script_of (codes "translate verts=all") ≡ refused MissingArgument)
    × (script_of (codes "undo x") ≡ refused BadExpression)
    × (script_of (codes "a = redo") ≡ refused BadExpression)
    × (script_of (codes "a = delete geom=all" ++ 10 ∷ codes "a = x") ≡ Err (record { line = 2; why = Rebound }))
    × (script_of (codes "delete geom=all" ++ 10 ∷ codes "layer") ≡ Err (record { line = 2; why = LateLayer }))

-- words that ask for what can't be done yet: what stands behind them isn't looked at
abbrev pub Later : Type 0
Later =
    (script_of (codes "poke") ≡ refused NotYet)
    × (script_of (codes "a = poke faces=") ≡ refused NotYet)

-- the arguments of an operator, also of one that can't be done yet
abbrev words_of : OpName → List ℕ → Result Arguments ScriptWhy
words_of name text = arguments_of (Operator name) (words text)

-- keys and values of each form, also of operators that can't be done yet
abbrev pub Values : Type 0
Values =
    (words_of Triangulate (codes "method=ear faces=all")
    ≡ Ok (record nothing { first = Some (argument.Geom (All None ∷ [])); second = Some (argument.Method Ear) }))
    × (words_of Subdivide (codes "cuts=") ≡ Err BadNumber)
    × (words_of Weld (codes "map=v1:v0,v01:v2") ≡ Err TwiceGiven)
    × (words_of Weld (codes "map=v1:v0,v1:x") ≡ Err BadExpression)
    × (words_of Poke (codes "faces=all faces=") ≡ Err TwiceGiven)
    × (words_of Bridge (codes "b=all c=all") ≡ Err UnknownWord)

-- one layer, on the first line
abbrev layered : Kind → List ℕ → ℕ → Rule → Result Script ScriptRefusal
layered of name width rule =
    Ok (record { layers = record { kind = of; name = name; width = width; rule = rule } ∷ []; commands = [] })

-- layers of each kind, keys in any order, and faults of declarations
abbrev pub Declarations : Type 0
Declarations =
    (script_of (codes "layer verts w width=1 rule=mix") ≡ layered kind.Verts (codes "w") 1 Mix)
    × (script_of (codes "layer edges uv rule=copy width=2") ≡ layered kind.Edges (codes "uv") 2 Copy)
    × (script_of (codes "layer corners = width=4 rule=mix # so") ≡ layered kind.Corners (codes "=") 4 Mix)
    × (script_of (codes "layer faces w width=3 rule=copy") ≡ layered kind.Faces (codes "w") 3 Copy)
    × (script_of (codes "layer verts w width=5 rule=mix") ≡ refused BadLayer)
    × (script_of (codes "layer corners uv width=2 rule=mix") ≡ refused BadLayer)
    × (script_of (codes "layer verts w width=1 rule=mix" ++ 10 ∷ codes "layer verts w width=2 rule=copy")
    ≡ Err (record { line = 2; why = BadLayer }))
    × (script_of (codes "layer verts w width=x") ≡ refused BadNumber)
    × (script_of (codes "layer verts w width=9") ≡ refused MissingArgument)
    × (script_of (codes "layer points") ≡ refused UnknownWord)
