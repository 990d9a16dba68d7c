-- The table of the words that begin a line.
use Rattle.std.specs.Prelude.{ℕ, if◌then◌else◌, codes, List, [], ◌∷◌, Option, Some, None}
use Rattle.text_words.specs.Text.{is_text}
use Rattle.obj_format.specs.declared.table.Word.{Word}
use Rattle.obj_format.specs.declared.table.Word.TheVariants.{Vertex, Texture, Normal, Ring, Wire, Points, Smooth}
use Rattle.obj_format.specs.declared.table.Word.TheVariants.{Material, Library, Skipped, FreeForm}

-- each word and what it says
abbrev pub table : List (List ℕ × Word)
table =
    (codes "v", Vertex) ∷ (codes "vt", Texture) ∷ (codes "vn", Normal) ∷ (codes "f", Ring) ∷ (codes "l", Wire)
    ∷ (codes "p", Points) ∷ (codes "s", Smooth)
    ∷ (codes "usemtl", Material) ∷ (codes "mtllib", Library)
    ∷ (codes "g", Skipped) ∷ (codes "o", Skipped) ∷ (codes "bevel", Skipped) ∷ (codes "c_interp", Skipped)
    ∷ (codes "d_interp", Skipped) ∷ (codes "lod", Skipped)
    ∷ (codes "usemap", Skipped) ∷ (codes "maplib", Skipped) ∷ (codes "shadow_obj", Skipped)
    ∷ (codes "trace_obj", Skipped)
    ∷ (codes "vp", FreeForm) ∷ (codes "cstype", FreeForm) ∷ (codes "deg", FreeForm) ∷ (codes "bmat", FreeForm)
    ∷ (codes "step", FreeForm) ∷ (codes "curv", FreeForm)
    ∷ (codes "curv2", FreeForm) ∷ (codes "surf", FreeForm) ∷ (codes "parm", FreeForm) ∷ (codes "trim", FreeForm)
    ∷ (codes "hole", FreeForm) ∷ (codes "scrv", FreeForm)
    ∷ (codes "sp", FreeForm) ∷ (codes "end", FreeForm) ∷ (codes "con", FreeForm) ∷ (codes "mg", FreeForm) ∷ []

-- what a word is in a table
abbrev pub found : {X : Type 0} → List (List ℕ × X) → List ℕ → Option X
found [] word = None
found ((name, x) ∷ rows) word = if is_text name word then Some x else found rows word

-- what the first word of a line says
abbrev pub word_of : List ℕ → Option Word
word_of word = found table word
