-- Lemmas on the lines of faces.
use Rattle.std.proofs.Common.{◌≡◌, ◌<◌, ◌≤◌, ◌+◌, ◌∙◌, ℕ, ℤ, pos, true, false, List, [], ◌∷◌, ◌++◌, length}
use Rattle.std.proofs.Common.{map, take, get_or, refl, sym, ap, ap₂, arith, Option, Some, None, is_some, slice_get}
use Rattle.std.proofs.Common.{codes, nat_lt}
use Rattle.std.specs.List.{flat_map, zip}
use Rattle.std.specs.Option.{option_map, option_map_or}
use Rattle.std.proofs.lemmas.List.{append-nil, length-map, get_or-map, take_more, take_all}
use Rattle.std.proofs.lemmas.Bool.{lt-ltb}
use Rattle.std.proofs.lemmas.List.Concat.{flat_map-append}
use Rattle.std.proofs.lemmas.List.Sums.{sum_by-cons}
use Rattle.std.proofs.lemmas.Option.{get_or_from_slice_get, slice_get-get_or}
use Rattle.cust_data.specs.Layers.{Layer, total}
use Rattle.mesh_model.specs.Complex.{Complex, corners_of, width, fixed_layers, material_layer, smooth_layer}
use Rattle.mesh_model.specs.Values.{number_in}
use Rattle.mesh_model.specs.declared.names.Kind.TheVariants.{Faces}
use Rattle.mesh_model.specs.Table.{at}
use Rattle.mesh_model.specs.Valid.{IsLinked}
use Rattle.mesh_model.specs.declared.names.EdgeName.{EdgeName}
use Rattle.mesh_model.specs.declared.names.VertName.{VertName}
use Rattle.mesh_model.specs.declared.records.CornerRec.{CornerRec}
use Rattle.mesh_model.specs.declared.records.FaceRec.{FaceRec}
use Rattle.obj_format.specs.declared.texture.Uv.{Uv}
use Rattle.obj_writer.specs.Ranks.{AreIndices}
use Rattle.obj_writer.proofs.WritingLemmas.{corner_below}
use Rattle.obj_format.specs.Fixed.{BeginsFixed}
use Rattle.obj_writer.specs.Whole.{uv_of, places, place_number, corner_text, corner_word, face_line}
use Rattle.obj_writer.specs.Whole.{set_lines, numbers_of, live_faces, with_before, face_text, entry_text, entry_numbers}
use Rattle.obj_writer.specs.Whole.{face_texts}

-- ---- THE FIXED LAYERS

-- the numbers that stand first in a face's row
abbrev pub first_two : List ℤ → ℤ × ℤ
first_two row = (get_or row 0 (pos 0), get_or row 1 (pos 0))

numbers_first : (layers : List Layer) (row : List ℤ) → take 2 layers ≡ fixed_layers.faces
    → (
      option_map_or (λ (n : ℤ). n) (number_in layers material_layer row) (pos 0),
      option_map_or (λ (n : ℤ). n) (number_in layers smooth_layer row) (pos 0),
    ) ≡ first_two row
numbers_first [] row h = absurd (cc)
numbers_first (l ∷ []) row h = absurd (cc)
numbers_first (l ∷ m ∷ ls) row h =
    let one : l ≡ material_layer = ap (λ (ms : List Layer). get_or ms 0 l) h in
    let two : m ≡ smooth_layer = ap (λ (ms : List Layer). get_or ms 1 m) h in
    let first : nat_lt 0 (length (l ∷ m ∷ ls)) ≡ true = lt-ltb 0 (length (l ∷ m ∷ ls)) (omega arith) in
    let next : nat_lt 1 (length (l ∷ m ∷ ls)) ≡ true = lt-ltb 1 (length (l ∷ m ∷ ls)) (omega arith) in
    rw (one, two, first, next) refl

pub numbers_fixed : (c : Complex) (f : FaceRec) → BeginsFixed c → numbers_of c f ≡ first_two f.vals
numbers_fixed c f fixed = numbers_first c.layers.faces f.vals fixed.faces

two_wide : (layers : List Layer) → take 2 layers ≡ fixed_layers.faces → 2 ≤ total layers
two_wide [] h = absurd (cc)
two_wide (l ∷ []) h = absurd (cc)
two_wide (l ∷ m ∷ ls) h =
    let one : l ≡ material_layer = ap (λ (ms : List Layer). get_or ms 0 l) h in
    let two : m ≡ smooth_layer = ap (λ (ms : List Layer). get_or ms 1 m) h in
    let first : l.width ≡ 1 = ap (λ (x : Layer). x.width) one in
    let next : m.width ≡ 1 = ap (λ (x : Layer). x.width) two in
    let all : total (l ∷ m ∷ ls) ≡ l.width + total (m ∷ ls) = sum_by-cons (λ (x : Layer). x.width) l (m ∷ ls) in
    let more : total (m ∷ ls) ≡ m.width + total ls = sum_by-cons (λ (x : Layer). x.width) m ls in
    omega arith

-- a face has two numbers at least
pub faces_wide : (c : Complex) → BeginsFixed c → 2 ≤ width c Faces
faces_wide c fixed = two_wide c.layers.faces fixed.faces

-- the numbers of a face, as a reader gives them
pub numbers_told : (c : Complex) (o : Option FaceRec) (a b : ℤ) → BeginsFixed c
    → option_map (λ (f : FaceRec). slice_get f.vals 0) o ≡ Some (Some a)
    → option_map (λ (f : FaceRec). slice_get f.vals 1) o ≡ Some (Some b)
    → option_map (numbers_of c) o ≡ Some (a, b)
numbers_told c None a b fixed first next = absurd (cc)
numbers_told c (Some f) a b fixed first next =
    let x : slice_get f.vals 0 ≡ Some a = cc in
    let y : slice_get f.vals 1 ≡ Some b = cc in
    ap Some (numbers_fixed c f fixed ∙ ap₂ (λ (p q : ℤ). (p, q)) (get_or_from_slice_get f.vals 0 a (pos 0) x)
    (get_or_from_slice_get f.vals 1 b (pos 0) y))

-- ---- THE LINES OF A FACE

-- the line of a face that stands
pub line_told : (c : Complex) (o : Option FaceRec) → is_some o ≡ true
    → codes "f" ++ (flat_map (corner_word c) (corners_of o) ++ codes "\n") ≡ option_map_or (face_line c) o []
line_told c None there = absurd (cc)
line_told c (Some f) there = refl

-- what is set, and the line of a face
pub entry_told : (c : Complex) (o : Option FaceRec) (before now : ℤ × ℤ) (set line : List ℕ)
    → option_map (numbers_of c) o ≡ Some now
    → line ≡ option_map_or (face_line c) o [] → set ≡ set_lines c.materials before now
    → set ++ line ≡ entry_text c before o
entry_told c None before now set line numbers words made = absurd (cc)
entry_told c (Some f) before now set line numbers words made =
    let n : numbers_of c f ≡ now = cc in
    ap₂ (λ (s t : List ℕ). s ++ t) (made ∙ ap (set_lines c.materials before) (sym n)) words

pub entry_numbers_told : (c : Complex) (o : Option FaceRec) (before now : ℤ × ℤ)
    → option_map (numbers_of c) o ≡ Some now → now ≡ entry_numbers c before o
entry_numbers_told c None before now numbers = absurd (cc)
entry_numbers_told c (Some f) before now numbers = let n : numbers_of c f ≡ now = cc in sym n

-- nothing where no face stands
pub entry_gone : (c : Complex) (o : Option FaceRec) (before : ℤ × ℤ) → is_some o ≡ false → [] ≡ entry_text c before o
entry_gone c None before gone = refl
entry_gone c (Some f) before gone = absurd (cc)

pub numbers_gone : (c : Complex) (o : Option FaceRec) (before : ℤ × ℤ) → is_some o ≡ false
    → before ≡ entry_numbers c before o
numbers_gone c None before gone = refl
numbers_gone c (Some f) before gone = absurd (cc)

-- ---- EACH FACE AFTER ANOTHER

-- the numbers of the last face
abbrev pub last_from : Complex → ℤ × ℤ → List FaceRec → ℤ × ℤ
last_from c d [] = d
last_from c d (f ∷ fs) = last_from c (numbers_of c f) fs

abbrev pub last_numbers : Complex → List FaceRec → ℤ × ℤ
last_numbers c fs = last_from c (pos 0, pos 0) fs

last_from-push : (c : Complex) (d : ℤ × ℤ) (fs : List FaceRec) (f : FaceRec)
    → last_from c d (fs ++ f ∷ []) ≡ numbers_of c f
last_from-push c d [] f = refl
last_from-push c d (g ∷ fs) f = last_from-push c (numbers_of c g) fs f

before-push : (c : Complex) (d : ℤ × ℤ) (fs : List FaceRec) (f : FaceRec)
    → zip (d ∷ map (numbers_of c) (fs ++ f ∷ [])) (fs ++ f ∷ [])
    ≡ zip (d ∷ map (numbers_of c) fs) fs ++ (last_from c d fs, f) ∷ []
before-push c d [] f = refl
before-push c d (g ∷ fs) f = ap (λ (rest : List ((ℤ × ℤ) × FaceRec)). (d, g) ∷ rest)
    (before-push c (numbers_of c g) fs f)

-- the faces below a name
abbrev pub faces_to : Complex → ℕ → List FaceRec
faces_to c n = live_faces (take n c.faces)

-- their lines
abbrev pub texts_to : Complex → ℕ → List ℕ
texts_to c n = flat_map (face_text c) (with_before c (faces_to c n))

live-next : (c : Complex) (n : ℕ) (o : Option FaceRec) → n < length c.faces → get_or c.faces n None ≡ o
    → faces_to c (n + 1) ≡ faces_to c n ++ live_faces (o ∷ [])
live-next c n o here at =
    ap live_faces (take_more c.faces n None here) ∙ flat_map-append _ (take n c.faces) (get_or c.faces n None ∷ [])
    ∙ ap (λ (x : Option FaceRec). faces_to c n ++ live_faces (x ∷ [])) at

-- a face more
faces_more : (c : Complex) (n : ℕ) (f : FaceRec) → n < length c.faces → get_or c.faces n None ≡ Some f
    → faces_to c (n + 1) ≡ faces_to c n ++ f ∷ []
faces_more c n f here at = live-next c n (Some f) here at

faces_same : (c : Complex) (n : ℕ) (o : Option FaceRec) → n < length c.faces → get_or c.faces n None ≡ o
    → is_some o ≡ false → faces_to c (n + 1) ≡ faces_to c n
faces_same c n None here at gone = live-next c n None here at ∙ append-nil (faces_to c n)
faces_same c n (Some f) here at gone = absurd (cc)

texts_more : (c : Complex) (n : ℕ) (f : FaceRec) (out new : List ℕ) (before : ℤ × ℤ) → n < length c.faces
    → get_or c.faces n None ≡ Some f
    → out ≡ texts_to c n → before ≡ last_numbers c (faces_to c n) → new ≡ out ++ face_text c (before, f)
    → new ≡ texts_to c (n + 1)
texts_more c n f out new before here at done last made =
    made ∙ ap₂ (λ (t : List ℕ) (b : ℤ × ℤ). t ++ face_text c (b, f)) done last
    ∙ ap (λ (t : List ℕ). texts_to c n ++ t) (sym (append-nil (face_text c (last_numbers c (faces_to c n), f))))
    ∙ sym (flat_map-append (face_text c) (with_before c (faces_to c n)) ((last_numbers c (faces_to c n), f) ∷ []))
    ∙ ap (flat_map (face_text c)) (sym (before-push c (pos 0, pos 0) (faces_to c n) f))
    ∙ ap (λ (fs : List FaceRec). flat_map (face_text c) (with_before c fs)) (sym (faces_more c n f here at))

last_more : (c : Complex) (n : ℕ) (f : FaceRec) → n < length c.faces → get_or c.faces n None ≡ Some f
    → last_numbers c (faces_to c (n + 1)) ≡ numbers_of c f
last_more c n f here at = ap (last_numbers c) (faces_more c n f here at)
    ∙ last_from-push c (pos 0, pos 0) (faces_to c n) f

texts_same : (c : Complex) (n : ℕ) (o : Option FaceRec) → n < length c.faces → get_or c.faces n None ≡ o
    → is_some o ≡ false → texts_to c (n + 1) ≡ texts_to c n
texts_same c n o here at gone = ap (λ (fs : List FaceRec). flat_map (face_text c) (with_before c fs))
    (faces_same c n o here at gone)

last_same : (c : Complex) (n : ℕ) (o : Option FaceRec) → n < length c.faces → get_or c.faces n None ≡ o
    → is_some o ≡ false → last_numbers c (faces_to c (n + 1)) ≡ last_numbers c (faces_to c n)
last_same c n o here at gone = ap (last_numbers c) (faces_same c n o here at gone)

-- what stands at a name more
pub texts_next : (c : Complex) (n : ℕ) (o : Option FaceRec) (out new : List ℕ) (before : ℤ × ℤ) → n < length c.faces
    → get_or c.faces n None ≡ o
    → out ≡ texts_to c n → before ≡ last_numbers c (faces_to c n) → new ≡ out ++ entry_text c before o
    → new ≡ texts_to c (n + 1)
texts_next c n None out new before here at done last made =
    made ∙ append-nil out ∙ done ∙ sym (texts_same c n None here at refl)
texts_next c n (Some f) out new before here at done last made = texts_more c n f out new before here at done last made

pub last_next : (c : Complex) (n : ℕ) (o : Option FaceRec) (before now : ℤ × ℤ) → n < length c.faces
    → get_or c.faces n None ≡ o
    → before ≡ last_numbers c (faces_to c n) → now ≡ entry_numbers c before o
    → now ≡ last_numbers c (faces_to c (n + 1))
last_next c n None before now here at last made = made ∙ last ∙ sym (last_same c n None here at refl)
last_next c n (Some f) before now here at last made = made ∙ sym (last_more c n f here at)

-- all faces
pub texts_all : (c : Complex) (n : ℕ) → length c.faces ≤ n → texts_to c n ≡ face_texts c
texts_all c n past = ap (λ (fs : List (Option FaceRec)). flat_map (face_text c) (with_before c (live_faces fs)))
    (take_all n c.faces past)

-- ---- WORDS

-- the word of a corner, whose vertex and place are told
pub word_told : (c : Complex) (k : CornerRec) (indices : List ℕ) (v : VertName) (uv : Uv) (uvs : List Uv) (i : ℕ)
    (t : Option ℕ) → AreIndices c indices → k.vert.0 < length c.verts
    → v ≡ k.vert → i ≡ get_or indices v.0 0 → uv ≡ uv_of c k → uvs ≡ places c → t ≡ place_number uvs uv
    → corner_text i t ≡ corner_word c k
word_told c k indices v uv uvs i t are below vert at place all number =
    ap₂ corner_text (at ∙ ap (λ (x : VertName). get_or indices x.0 0) vert ∙ are.each k.vert.0 below)
    (number ∙ ap₂ place_number all place)

-- a corner as a reader gives it: its vertex, which is there
abbrev pub pair : CornerRec → VertName × EdgeName
pair k = (k.vert, k.edge)

pub corner_here : (ks : List CornerRec) (sides : List (VertName × EdgeName)) (i : ℕ) → sides ≡ map pair ks
    → i < length sides → i < length ks
corner_here ks sides i same here = omega (arith, ap length same, length-map ks pair)

pub corner_past : (ks : List CornerRec) (sides : List (VertName × EdgeName)) (i : ℕ) → sides ≡ map pair ks
    → length sides ≤ i → length ks ≤ i
corner_past ks sides i same past = omega (arith, ap length same, length-map ks pair)

pub corner_at : (ks : List CornerRec) (sides : List (VertName × EdgeName)) (i : ℕ) (d : CornerRec)
    (e : VertName × EdgeName) → sides ≡ map pair ks → i < length sides
    → (get_or sides i e).0 ≡ (get_or ks i d).vert
corner_at ks sides i d e same here =
    ap (λ (ps : List (VertName × EdgeName)). (get_or ps i e).0) same
    ∙ ap (λ (p : VertName × EdgeName). p.0) (get_or-map pair ks i d e (corner_here ks sides i same here))

pub vert_below : (c : Complex) (f i : ℕ) (d : CornerRec) → IsLinked c → i < length (corners_of (at c.faces f))
    → (get_or (corners_of (at c.faces f)) i d).vert.0 < length c.verts
vert_below c f i d linked here =
    let ks = corners_of (at c.faces f) in
    corner_below c f i (get_or ks i d) linked (slice_get-get_or ks i d here)

-- the place of a corner
pub uv_at : (c : Complex) (ks : List CornerRec) (uvs : List Uv) (i : ℕ) (d : CornerRec) (e : Uv)
    → uvs ≡ map (uv_of c) ks → i < length ks → get_or uvs i e ≡ uv_of c (get_or ks i d)
uv_at c ks uvs i d e same here = ap (λ (us : List Uv). get_or us i e) same ∙ get_or-map (uv_of c) ks i d e here
