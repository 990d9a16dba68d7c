-- A text makes a complex with the layers that every model has from its beginning.
use Rattle.std.proofs.Common.{◌≡◌, ◌∙◌, ◌==◌, ℕ, ℤ, true, false, Bool, cond, not, nat_le, List, [], ◌∷◌, length}
use Rattle.std.proofs.Common.{map, drop, refl, Result, Ok, Err}
use Rattle.std.specs.List.{list_any, zip}
use Rattle.text_words.specs.Text.{words}
use Rattle.text_words.specs.Outcome.{◌>>=◌, ok_or, steps}
use Rattle.mesh_model.specs.Complex.{Complex, fixed_layers}
use Rattle.mesh_model.specs.Incidence.{sides}
use Rattle.mesh_model.specs.declared.names.VertName.{VertName}
use Rattle.mesh_model.specs.Making.{with_vert, vert_at_point, edges_along, with_face_told, corners_told}
use Rattle.obj_format.specs.declared.obj_fault.ObjWhy.{ObjWhy}
use Rattle.obj_format.specs.declared.obj_fault.ObjRefusal.{ObjRefusal}
use Rattle.obj_format.specs.declared.lines.Line.{Line}
use Rattle.obj_reader.specs.declared.parts.Parts.{Parts}
use Rattle.obj_reader.specs.declared.parts.TheConstants.{MAX_TEXTURES}
use Rattle.obj_format.specs.declared.table.Word.{Word}
use Rattle.obj_format.specs.declared.table.Word.TheVariants.{Vertex, Texture, Normal, Ring, Wire, Points, Smooth}
use Rattle.obj_format.specs.declared.table.Word.TheVariants.{Material, Library, Skipped, FreeForm}
use Rattle.obj_format.specs.Lines.{joined}
use Rattle.obj_format.specs.Names.{name_in}
use Rattle.obj_reader.specs.Obj.{nothing, numbered, line_read, model_of}
use Rattle.obj_reader.specs.Statements.{counts, fits, limited, told, is_zero_byte, said}
use Rattle.obj_reader.specs.Statements.{statement, line_adds}
use Rattle.obj_format.specs.Table.{word_of}
use Rattle.obj_reader.specs.Values.{uncommented, point_of, texture_of, is_normal, smooth_of, vert_of, ring_of, wire_of}
use Rattle.obj_reader.specs.Values.{dots_of}
use Rattle.obj_reader.proofs.AlongLemmas.{layers-along}

-- what is made has the fixed layers
abbrev AreFixed : {W : Type 0} → Result Parts W → Type 0
AreFixed (Ok s) = s.draft.layers ≡ fixed_layers
AreFixed (Err w) = Unit {0}

after : {A V : Type 0} (r : Result A V) (f : A → Result Parts V) → ((a : A) → AreFixed (f a)) → AreFixed (r >>= f)
after (Err w) f each = tt
after (Ok a) f each = each a

either : {W : Type 0} (b : Bool) (r s : Result Parts W) → AreFixed r → AreFixed s → AreFixed (cond b r s)
either true r s x y = x
either false r s x y = y

limited_fixed : (c : Complex) (s : Parts) → c.layers ≡ fixed_layers → AreFixed (limited c s)
limited_fixed c s same = either (fits c) (Ok (record s { draft = c })) _ same tt

material_fixed : (b : Bool) (s t : Parts) → s.draft.layers ≡ fixed_layers → t.draft.layers ≡ fixed_layers
    → (cond b s t).draft.layers ≡ fixed_layers
material_fixed true s t x y = x
material_fixed false s t x y = y

-- what a line says keeps the layers
said_fixed : (scale : ℕ) (w : Word) (ws : List (List ℕ)) (text : List ℕ) (s : Parts) → s.draft.layers ≡ fixed_layers
    → AreFixed (said scale w ws text s)
said_fixed scale Vertex ws text s same =
    after (point_of scale (uncommented ws)) _ (λ p. limited_fixed (with_vert s.draft (vert_at_point s.draft p)) s same)
said_fixed scale Texture ws text s same =
    after (texture_of (uncommented ws)) _ (λ uv. either (nat_le MAX_TEXTURES (length s.textures)) _ _ tt same)
said_fixed scale Normal ws text s same = either (not (is_normal (uncommented ws))) _ _ tt same
said_fixed scale Ring ws text s same =
    after (ring_of (counts s) (uncommented ws)) _ (λ ks.
    limited_fixed (with_face_told s.draft (map (told s.textures) ks) s.material s.smooth) s
    (layers-along s.draft (sides (map (λ (k : VertName × List ℤ). k.0)
    (corners_told s.draft (map (told s.textures) ks)))) ∙ same))
said_fixed scale Wire ws text s same =
    after (wire_of (counts s) (uncommented ws)) _ (λ ks.
    limited_fixed (edges_along s.draft (let vs = map vert_of ks in zip vs (drop 1 vs))).0 s
    (layers-along s.draft (let vs = map vert_of ks in zip vs (drop 1 vs)) ∙ same))
said_fixed scale Points ws text s same = after (dots_of (counts s) (uncommented ws)) _ (λ ks. same)
said_fixed scale Smooth ws text s same = after (ok_or (smooth_of (uncommented ws)) _) _ (λ n. same)
said_fixed scale Material ws text s same = material_fixed (length (name_in text) == 0) _ _ same same
said_fixed scale Library ws text s same = material_fixed (length (name_in text) == 0) _ _ same same
said_fixed scale Skipped ws text s same = same
said_fixed scale FreeForm ws text s same = tt

statement_fixed : (scale : ℕ) (ws : List (List ℕ)) (text : List ℕ) (s : Parts) → s.draft.layers ≡ fixed_layers
    → AreFixed (statement scale ws text s)
statement_fixed scale [] text s same = same
statement_fixed scale (w ∷ ws) text s same =
    after (ok_or (word_of w) _) _ (λ word. said_fixed scale word ws text s same)

line_fixed : (scale : ℕ) (comment : Bool) (text : List ℕ) (s : Parts) → s.draft.layers ≡ fixed_layers
    → AreFixed (line_adds scale comment text s)
line_fixed scale comment text s same =
    either (list_any is_zero_byte text) _ _ tt (either comment (Ok s) _ same
    (statement_fixed scale (words text) text s same))

numbered_fixed : (n : ℕ) (r : Result Parts ObjWhy) → AreFixed r → AreFixed (numbered n r)
numbered_fixed n (Ok s) same = same
numbered_fixed n (Err w) same = tt

steps_on : (scale : ℕ) (r : Result Parts ObjRefusal) (ls : List Line) → AreFixed r
    → ((s : Parts) → s.draft.layers ≡ fixed_layers → AreFixed (steps (line_read scale) s ls))
    → AreFixed (r >>= (λ s. steps (line_read scale) s ls))
steps_on scale (Err w) ls same rest = tt
steps_on scale (Ok s) ls same rest = rest s same

steps_fixed : (scale : ℕ) (ls : List Line) (s : Parts) → s.draft.layers ≡ fixed_layers
    → AreFixed (steps (line_read scale) s ls)
steps_fixed scale [] s same = same
steps_fixed scale (l ∷ ls) s same =
    steps_on scale (line_read scale l s) ls (numbered_fixed l.number _ (line_fixed scale l.comment l.text s same))
    (steps_fixed scale ls)

model_on : (r : Result Parts ObjRefusal) (c : Complex) → AreFixed r → model_of r ≡ Ok c → c.layers ≡ fixed_layers
model_on (Err v) c same read = absurd (cc)
model_on (Ok s) c same read = let it : s.draft ≡ c = cc in rw it at same

-- the complex of a text has the fixed layers
pub model_fixed : (scale : ℕ) (text : List ℕ) (c : Complex)
    → model_of (steps (line_read scale) nothing (joined text)) ≡ Ok c → c.layers ≡ fixed_layers
model_fixed scale text c read =
    model_on (steps (line_read scale) nothing (joined text)) c (steps_fixed scale (joined text) nothing refl) read
