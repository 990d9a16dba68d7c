-- Lemmas on faces whose edges are made before them.
use Rattle.std.proofs.Common.{◌≡◌, ◌<◌, ◌≤◌, ◌+◌, ◌∙◌, ℤ, Bool, true, false, nat_le, nat_lt, List, [], ◌∷◌}
use Rattle.std.proofs.Common.{length, map, refl, sym, ap, ap₂, arith}
use Rattle.std.specs.List.{zip}
use Rattle.std.proofs.lemmas.Bool.{and_parts, leb-true, leb-false, ltb-true}
use Rattle.mesh_model.specs.Complex.{Complex, KindLayers, corner_sum, uv_layer, material_layer, smooth_layer}
use Rattle.mesh_model.specs.Incidence.{sides}
use Rattle.mesh_model.specs.Making.{edges_along, with_face, corner_of, corners_told, with_face_told}
use Rattle.mesh_model.specs.Values.{row_given, face_vals}
use Rattle.mesh_model.specs.Valid.{IsSound}
use Rattle.mesh_model.specs.declared.draft.DraftCorner.{DraftCorner}
use Rattle.mesh_model.specs.declared.limits.TheConstants.{MAX_EDGES, MAX_FACES, MAX_CORNERS}
use Rattle.mesh_model.specs.declared.names.VertName.{VertName}
use Rattle.mesh_model.specs.declared.names.EdgeName.{EdgeName}
use Rattle.obj_reader.specs.Holding.{told_sides, has_corner_room, OnlyEdges, IsReady}
use Rattle.obj_reader.specs.Statements.{fits}
use Rattle.obj_reader.proofs.AlongLemmas.{layers-along, edges_along-again, only_edges}
use Rattle.obj_reader.proofs.FitLemmas.{face_fits, edges_over, within_fits}

-- the vertices of corners as they are told
verts-told : (c : Complex) (ks : List DraftCorner)
    → map (λ (k : VertName × List ℤ). k.0) (corners_told c ks) ≡ map (λ (k : DraftCorner). k.vert) ks
verts-told c [] = refl
verts-told c (k ∷ ks) = ap (λ (vs : List VertName). k.vert ∷ vs) (verts-told c ks)

-- a face on edges that were made, with their names
abbrev with_made : Complex × List EdgeName → List (VertName × List ℤ) → List ℤ → Complex
with_made made cs vals = with_face made.0 (record { corners = map corner_of (zip cs made.1); vals = vals })

face-made : (c : Complex) (ks : List DraftCorner) (material smooth : ℤ)
    → with_face_told c ks material smooth ≡ with_made (edges_along c (told_sides ks)) (corners_told c ks)
    (face_vals c material smooth)
face-made c ks material smooth =
    ap (λ (vs : List VertName). with_made (edges_along c (sides vs)) (corners_told c ks) (face_vals c material smooth))
    (verts-told c ks)

-- the edges of a face are those along its sides
pub edges-face : (c : Complex) (ks : List DraftCorner) (material smooth : ℤ)
    → (with_face_told c ks material smooth).edges ≡ (edges_along c (told_sides ks)).0.edges
edges-face c ks material smooth = ap (λ (d : Complex). d.edges) (face-made c ks material smooth)

told-layers : (c d : Complex) (ks : List DraftCorner) → d.layers ≡ c.layers → corners_told d ks ≡ corners_told c ks
told-layers c d ks same = ap (λ (l : KindLayers). map (λ (k : DraftCorner).
    (k.vert, row_given ((uv_layer, k.uv) ∷ []) l.corners)) ks) same

vals-layers : (c d : Complex) (material smooth : ℤ) → d.layers ≡ c.layers
    → face_vals d material smooth ≡ face_vals c material smooth
vals-layers c d material smooth same = ap (λ (l : KindLayers). row_given
    ((material_layer, material ∷ []) ∷ (smooth_layer, smooth ∷ []) ∷ []) l.faces) same

-- a face is the same whether its edges are made before it or with it
pub face-again : (c : Complex) (ks : List DraftCorner) (material smooth : ℤ)
    → with_face_told (edges_along c (told_sides ks)).0 ks material smooth ≡ with_face_told c ks material smooth
face-again c ks material smooth =
    let ss = told_sides ks in
    let d : Complex = (edges_along c ss).0 in
    let same : d.layers ≡ c.layers = layers-along c ss in
    face-made d ks material smooth
    ∙ ap₂ (λ (cs : List (VertName × List ℤ)) (vals : List ℤ). with_made (edges_along d ss) cs vals)
    (told-layers c d ks same) (vals-layers c d material smooth same)
    ∙ ap (λ (made : Complex × List EdgeName). with_made made (corners_told c ks) (face_vals c material smooth))
    (edges_along-again c ss)
    ∙ sym (face-made c ks material smooth)

-- ---- ROOM

same_either : (b f : Bool) → (b ≡ true → f ≡ true) → (b ≡ false → f ≡ false) → b ≡ f
same_either true f one two = sym (one refl)
same_either false f one two = sym (two refl)

-- there is room for the face where there is room for its edges
pub along_fits : (c : Complex) (ks : List DraftCorner) (material smooth : ℤ) → IsSound c → length c.faces < MAX_FACES
    → corner_sum c.faces + length ks ≤ MAX_CORNERS
    → nat_le (length (edges_along c (told_sides ks)).0.edges) MAX_EDGES ≡ fits (with_face_told c ks material smooth)
along_fits c ks material smooth sound faces corners =
    let made = (edges_along c (told_sides ks)).0.edges in
    same_either (nat_le (length made) MAX_EDGES) (fits (with_face_told c ks material smooth))
    (λ few. face_fits c ks material smooth sound (record {
      faces = faces;
      edges = λ m s. rw (edges-face c ks m s) (leb-true (length made) MAX_EDGES few);
      corners = corners;
    }))
    (λ many. edges_over (with_face_told c ks material smooth)
    (rw (edges-face c ks material smooth) (leb-false (length made) MAX_EDGES many)))

-- a complex fits with more edges where those fit
pub edges_fit : (c : Complex) (ss : List (VertName × VertName)) → IsSound c
    → nat_le (length (edges_along c ss).0.edges) MAX_EDGES ≡ fits (edges_along c ss).0
edges_fit c ss sound =
    let d : Complex = (edges_along c ss).0 in
    let only : OnlyEdges c d = only_edges c ss in
    same_either (nat_le (length d.edges) MAX_EDGES) (fits d)
    (λ few. within_fits d (record {
      verts = rw (ap (λ (x : Complex). x.verts) only) sound.valid.limits.verts;
      edges = leb-true (length d.edges) MAX_EDGES few;
      faces = rw (ap (λ (x : Complex). x.faces) only) sound.valid.limits.faces;
      corners = rw (ap (λ (x : Complex). x.faces) only) sound.valid.limits.corners;
    }))
    (λ many. edges_over d (leb-false (length d.edges) MAX_EDGES many))

-- a complex is ready once the edges along the sides were made
pub ready_along : (c d : Complex) (ks : List DraftCorner) → d ≡ (edges_along c (told_sides ks)).0 → IsSound d
    → length c.faces < MAX_FACES → corner_sum c.faces + length ks ≤ MAX_CORNERS → IsReady c d ks
ready_along c d ks made sound faces corners =
    let only : OnlyEdges c (edges_along c (told_sides ks)).0 = only_edges c (told_sides ks) in
    let kept : OnlyEdges c d = rw made only in
    let again : (m s : ℤ) → with_face_told d ks m s ≡ with_face_told c ks m s = λ m s. rw made (face-again c ks m s) in
    record {
      room = record {
        faces = rw (ap (λ (x : Complex). x.faces) kept) faces;
        edges = λ m s. (
            let few = sound.valid.limits.edges in
            let same : length (with_face_told d ks m s).edges ≡ length d.edges =
            ap (λ (x : Complex). length x.edges) (again m s) ∙ ap length (edges-face c ks m s)
            ∙ ap (λ (x : Complex). length x.edges) (sym made) in
            omega arith);
        corners = rw (ap (λ (x : Complex). x.faces) kept) corners;
      };
      same = again;
      kept = kept;
      sound = sound;
    }

-- room for the face and its corners
pub corners_room : (c : Complex) (ks : List DraftCorner) → has_corner_room c (length ks) ≡ true
    → (length c.faces < MAX_FACES) × (corner_sum c.faces + length ks ≤ MAX_CORNERS)
corners_room c ks h =
    let both = and_parts (nat_lt (length c.faces) MAX_FACES) (nat_le (corner_sum c.faces + length ks) MAX_CORNERS) h in
    (ltb-true (length c.faces) MAX_FACES both.0, leb-true (corner_sum c.faces + length ks) MAX_CORNERS both.1)

-- room for the edges is room for the face
pub made_fits : (c : Complex) (ks : List DraftCorner) (ss : List (VertName × VertName)) (material smooth : ℤ)
    → ss ≡ told_sides ks → IsSound c → has_corner_room c (length ks) ≡ true
    → nat_le (length (edges_along c ss).0.edges) MAX_EDGES ≡ fits (with_face_told c ks material smooth)
made_fits c ks ss material smooth same sound h =
    let room = corners_room c ks h in
    rw same (along_fits c ks material smooth sound room.0 room.1)

-- the complex with its edges is ready for the face
pub made_ready : (c d : Complex) (ks : List DraftCorner) (ss : List (VertName × VertName)) → ss ≡ told_sides ks
    → d ≡ (edges_along c ss).0 → IsSound d → has_corner_room c (length ks) ≡ true → IsReady c d ks
made_ready c d ks ss same made sound h =
    let room = corners_room c ks h in
    ready_along c d ks (made ∙ ap (λ (xs : List (VertName × VertName)). (edges_along c xs).0) same) sound room.0 room.1
