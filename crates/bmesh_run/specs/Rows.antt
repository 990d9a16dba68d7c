-- Whole runs over small files, worked out.
use Rattle.std.specs.Prelude.{◌≡◌, ℕ, pos, neg_ℤ, true, false, List, [], ◌∷◌, ◌++◌, codes}
use Rattle.std.specs.declared.option.Option.TheVariants.{None, Some}
use Rattle.cust_data.specs.declared.rule.Rule.{Rule}
use Rattle.cust_data.specs.declared.rule.Rule.TheVariants.{Mix, Copy}
use Rattle.layer_sums.specs.Rows.{valued}
use Rattle.mesh_model.specs.Complex.{new_model}
use Rattle.mesh_model.specs.Declaring.{with_all_declared}
use Rattle.mesh_model.specs.declared.layer_decl.LayerDecl.{LayerDecl}
use Rattle.mesh_model.specs.declared.names.Kind.{Kind}
use Rattle.mesh_model.specs.declared.names.Kind.TheVariants as kind
use Rattle.mesh_model.specs.Deleting.{without_verts}
use Rattle.mesh_model.specs.Making.{with_vert, vert_at_point}
use Rattle.mesh_model.specs.Models.{square, vert}
use Rattle.mesh_model.specs.declared.records.Point.{Point}
use Rattle.mesh_session.specs.State.{first_state}
use Rattle.mesh_session.specs.Rows.{state_after}
use Rattle.obj_format.specs.declared.obj_fault.ObjWhy.TheVariants as obj_why
use Rattle.script_text.specs.declared.fault.ScriptWhy.TheVariants as script_why
use Rattle.worlds.specs.Files.{Files}
use Rattle.bmesh_run.specs.Job.{Job, is_grid, is_tour, model_starts, script_starts, out_starts}
use Rattle.bmesh_run.specs.Report.{layer_lines}
use Rattle.bmesh_run.specs.Run.{Outcome, refusal_outcome, outcome, due}
use Rattle.bmesh_run.specs.declared.status.Status.TheVariants.{Done, SomeRefused, Usage, ModelRefused, ScriptRefused}

-- the words of a command line on these three files at a scale
abbrev pub words_at : List ℕ → List ℕ → List ℕ → List ℕ → List (List ℕ)
words_at scale model script out = model ∷ script ∷ out ∷ codes "--scale" ∷ scale ∷ []

-- the same at scale 0
abbrev pub words : List ℕ → List ℕ → List ℕ → List (List ℕ)
words = words_at (codes "0")

-- three file names, the scale and 0
abbrev pub plain_words : List (List ℕ)
plain_words = words (codes "model") (codes "script") (codes "out")

-- the names that these words give
abbrev pub plain_job : Job
plain_job = record { model = codes "model"; script = codes "script"; out = codes "out"; scale = 0 }

-- a model and a script
abbrev pub files : List ℕ → List ℕ → Files
files model script = record { name = codes "model"; bytes = model } ∷ record {
  name = codes "script";
  bytes =
      script;
} ∷ []

-- the text of the square
abbrev pub square_text : List ℕ
square_text = codes "v 0 0 0\nv 4 0 0\nv 4 4 0\nv 0 4 0\nf 1 2 3 4\n"

-- a corner is cut off the square
abbrev pub SquareCut : Type 0
SquareCut = outcome plain_words (files square_text (codes "delete geom=v0 context=verts\n")) ≡ record {
  status = Done;
  made = Some (codes "v 4 0 0\nv 4 4 0\nv 0 4 0\nl 1 2\nl 2 3\n");
  printed
      = codes "1 done verts=0 edges=0 faces=0\nend verts=3 edges=2 faces=0 corners=0 loose=2 refused=0 undo=1 redo=0\n";
  session = state_after (without_verts square (vert 0 ∷ [])) (square ∷ []);
}

-- empty texts give an empty file and a report of nothing
abbrev pub NothingGiven : Type 0
NothingGiven = outcome plain_words (files [] []) ≡ record {
  status = Done;
  made = Some [];
  printed = codes "end verts=0 edges=0 faces=0 corners=0 loose=0 refused=0 undo=0 redo=0\n";
  session = first_state new_model;
}

-- a missing vertex is refused by name, and the model is written as it was
abbrev pub MissingVertex : Type 0
MissingVertex = outcome plain_words (files square_text (codes "delete geom=v9 context=verts\n")) ≡ record {
  status = SomeRefused;
  made = Some square_text;
  printed = codes "1 refused NoSuch v9\nend verts=4 edges=4 faces=1 corners=4 loose=0 refused=1 undo=0 redo=0\n";
  session = first_state square;
}

-- a layer that a script declares
abbrev declared : Kind → List ℕ → ℕ → Rule → LayerDecl
declared kind name width rule = record { kind = kind; name = name; width = width; rule = rule }

-- layers are declared behind the fixed ones, and reported in order before the end; the model is written as it was
abbrev pub LayersGiven : Type 0
LayersGiven =
    outcome plain_words (files square_text (codes "layer corners tint width=2 rule=mix\nlayer verts w width=1 rule=copy\n"))
    ≡ record {
      status = Done;
      made = Some square_text;
      printed = codes "layer corners tint sum=0,0\nlayer verts w sum=0\n"
          ++ codes "end verts=4 edges=4 faces=1 corners=4 loose=0 refused=0 undo=0 redo=0\n";
      session = first_state (with_all_declared square
          (declared kind.Corners (codes "tint") 2 Mix ∷ declared kind.Verts (codes "w") 1 Copy ∷ []));
    }

-- the sums of a layer's numbers over all elements, some of them below 0
abbrev pub LayersReported : Type 0
LayersReported =
    layer_lines valued (declared kind.Corners (codes "tint") 1 Mix ∷ declared kind.Edges (codes "crease") 4 Mix
    ∷ declared kind.Verts (codes "weight") 1 Mix ∷ [])
    ≡ codes "layer corners tint sum=-1\nlayer edges crease sum=1,2,3,-4\nlayer verts weight sum=-3\n"

-- a model of one vertex, as it is read at a scale
abbrev pub vertex_text : List ℕ
vertex_text = codes "v 1.5 -2 .25\n"

-- the run of the model of one vertex: its text and its point
abbrev pub vertex_outcome : List ℕ → Point → Outcome
vertex_outcome made point = record {
  status = Done;
  made = Some made;
  printed = codes "end verts=1 edges=0 faces=0 corners=0 loose=0 refused=0 undo=0 redo=0\n";
  session = first_state (with_vert new_model (vert_at_point new_model point));
}

-- at a scale of 2 the model is read in hundredths, and written so
abbrev pub ScaleKept : Type 0
ScaleKept = outcome (words_at (codes "2") (codes "model") (codes "script") (codes "out")) (files vertex_text [])
    ≡ vertex_outcome (codes "v 1.50 -2.00 0.25\n") (record { x = pos 150; y = neg_ℤ (pos 200); z = pos 25 })

-- without the option it is read in millionths, and written so
abbrev pub ScaleOfSix : Type 0
ScaleOfSix = outcome (codes "model" ∷ codes "script" ∷ codes "out" ∷ []) (files vertex_text [])
    ≡ vertex_outcome (codes "v 1.500000 -2.000000 0.250000\n")
    (record { x = pos 1500000; y = neg_ℤ (pos 2000000); z = pos 250000 })

-- a line at fault refuses the model, whatever the script, and then the script
abbrev pub InputsRefused : Type 0
InputsRefused = (outcome plain_words (files (codes "v 0 0 0\nl 1 2\n") (codes "poke"))
    ≡ refusal_outcome (ModelRefused (record { line = 2; why = obj_why.BadIndex })) (codes "model line 2: BadIndex\n"))
    × (outcome plain_words (files square_text (codes "poke"))
    ≡ refusal_outcome (ScriptRefused (record { line = 1; why = script_why.NotYet })) (codes "script line 1: NotYet\n"))

-- four words are refused, and so are a model made from a number and the program's own script
abbrev pub WordsRefused : Type 0
WordsRefused = (outcome (codes "model" ∷ codes "script" ∷ codes "out" ∷ codes "--scale" ∷ []) (files [] [])
    ≡ refusal_outcome Usage (codes "usage: bmesh MODEL SCRIPT OUT [--scale N]\n"))
    × (outcome (words (codes "@grid:4") (codes "script") (codes "out")) (files [] [])
    ≡ refusal_outcome (ModelRefused (record { line = 0; why = obj_why.NotYet })) (codes "model line 0: NotYet\n"))
    × (outcome (words (codes "model") (codes "@tour") (codes "out")) (files [] [])
    ≡ refusal_outcome (ScriptRefused (record { line = 0; why = script_why.NotYet })) (codes "script line 0: NotYet\n"))

-- of the names that begin with `@` all others are those of files
abbrev pub NamesOfFiles : Type 0
NamesOfFiles = (is_grid (codes "@grid:") ≡ true) × (is_grid (codes "@grid") ≡ false)
    × (is_tour (codes "@tour2") ≡ false) × (is_tour (codes "@tou") ≡ false)

-- SCRIPT is due only where the model is accepted, and OUT only where the script is
abbrev pub FilesDue : Type 0
FilesDue = (due (Some plain_job) (files (codes "q\n") []) ≡ model_starts (codes "model"))
    × (due (Some plain_job) (files [] (codes "poke")) ≡ model_starts (codes "model") ++ script_starts (codes "script"))
    × (due (Some plain_job) (files [] []) ≡ model_starts (codes "model") ++ script_starts (codes "script")
    ++ out_starts (codes "out"))
    × (due None (files [] []) ≡ [])
