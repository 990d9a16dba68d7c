-- Lines that would pass a limit are refused.
use Rattle.std.proofs.Common.{◌∙◌, Bool, cond, List, length, map, drop, refl, ap, Result}
use Rattle.std.proofs.Common.{Err, arith}
use Rattle.std.specs.List.{zip}
use Rattle.std.proofs.lemmas.Bool.{lt-ltb, le-leb}
use Rattle.std.proofs.lemmas.List.{length-map}
use Rattle.text_words.specs.Outcome.{◌>>=◌, steps}
use Rattle.mesh_model.specs.Making.{with_vert, vert_at_point, with_face_told, edges_along}
use Rattle.mesh_model.specs.declared.records.Point.{Point}
use Rattle.obj_format.specs.declared.obj_fault.ObjWhy.{ObjWhy}
use Rattle.obj_format.specs.declared.obj_fault.ObjWhy.TheVariants.{TooLarge}
use Rattle.obj_format.specs.declared.obj_fault.ObjRefusal.{ObjRefusal}
use Rattle.obj_format.specs.declared.indices.Corner.{Corner}
use Rattle.obj_reader.specs.declared.parts.TheConstants.{MAX_TEXTURES}
use Rattle.obj_format.specs.Lines.{joined}
use Rattle.obj_text.specs.Limits.{LargeRefused, VertsRefused, TexturesRefused, FacesRefused, CornersRefused}
use Rattle.obj_text.specs.Limits.{EdgesRefused}
use Rattle.obj_reader.specs.Obj.{nothing, line_read, model_of}
use Rattle.obj_reader.specs.Statements.{limited, told}
use Rattle.obj_reader.specs.Values.{vert_of}
use Rattle.obj_reader.proofs.FitLemmas.{vert_full, faces_full, corners_full, edges_over, limited_over}

pub large_refused : LargeRefused
large_refused scale text long =
    ap (λ (b : Bool). cond b (Err (let r : ObjRefusal = record { line = 0; why = TooLarge } in r))
    (model_of (steps (line_read scale) nothing (joined text)))) (lt-ltb 268435456 (length text) long)

pub verts_refused : VertsRefused
verts_refused scale ws s p read full =
    ap (λ (r : Result Point ObjWhy). r >>= (λ q. limited (with_vert s.draft (vert_at_point s.draft q)) s)) read
    ∙ limited_over (with_vert s.draft (vert_at_point s.draft p)) s (vert_full s.draft (vert_at_point s.draft p) full)

pub textures_refused : TexturesRefused
textures_refused ws s uv read full = rw (read, le-leb MAX_TEXTURES (length s.textures) full) refl

pub faces_refused : FacesRefused
faces_refused ws s ks read full =
    ap (λ (r : Result (List Corner) ObjWhy). r >>= (λ js.
    limited (with_face_told s.draft (map (told s.textures) js) s.material s.smooth) s)) read
    ∙ limited_over (with_face_told s.draft (map (told s.textures) ks) s.material s.smooth) s
    (faces_full s.draft (map (told s.textures) ks) s.material s.smooth full)

pub corners_refused : CornersRefused
corners_refused ws s ks read many =
    ap (λ (r : Result (List Corner) ObjWhy). r >>= (λ js.
    limited (with_face_told s.draft (map (told s.textures) js) s.material s.smooth) s)) read
    ∙ limited_over (with_face_told s.draft (map (told s.textures) ks) s.material s.smooth) s
    (corners_full s.draft (map (told s.textures) ks) s.material s.smooth
    (omega (arith, length-map ks (told s.textures))))

pub edges_refused : EdgesRefused
edges_refused ws s ks read many =
    let made = (edges_along s.draft (let vs = map vert_of ks in zip vs (drop 1 vs))).0 in
    ap (λ (r : Result (List Corner) ObjWhy). r >>= (λ js.
    limited (edges_along s.draft (let vs = map vert_of js in zip vs (drop 1 vs))).0 s)) read
    ∙ limited_over made s (edges_over made many)
