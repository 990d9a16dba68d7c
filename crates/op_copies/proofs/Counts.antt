-- The counts of a complex with copies, and of what is left where the faces that were copied are taken away.
use Rattle.std.proofs.Common.{◌≡◌, ℕ, zero, suc, ◌+◌, ◌<◌, ◌≤◌, true, not, nat_lt, List, [], ◌∷◌, length, map}
use Rattle.std.proofs.Common.{take, get_or, refl, sym, ap, ◌∙◌, subst, arith, All, Option, None, is_some}
use Rattle.std.specs.List.{list_all}
use Rattle.std.specs.Option.{option_map}
use Rattle.std.proofs.lemmas.Bool.{and_parts, not_from_false, ltb-true}
use Rattle.std.proofs.lemmas.List.{take_more, take_all, map-append, length-map}
use Rattle.std.proofs.lemmas.List.Elements.{All-head, All-tail}
use Rattle.std.proofs.lemmas.List.Sums.{sum_by-cons}
use Rattle.mesh_model.specs.Table.{at, erase, IsThere}
use Rattle.mesh_model.specs.Complex.{Complex, corner_sum, corners_of, counters_of}
use Rattle.mesh_model.specs.Elements.{Elements}
use Rattle.mesh_model.specs.Closure.{AreLive, is_face_among}
use Rattle.mesh_model.specs.Naming.{is_rising, face_numbers}
use Rattle.mesh_model.specs.declared.names.VertName.{VertName}
use Rattle.mesh_model.specs.declared.names.EdgeName.{EdgeName}
use Rattle.mesh_model.specs.declared.names.FaceName.{FaceName}
use Rattle.mesh_model.specs.declared.records.Counters.{Counters}
use Rattle.mesh_model.specs.declared.records.FaceRec.{FaceRec}
use Rattle.mesh_model.proofs.CornerSums.{corner_sum-append, corner_sum-set}
use Rattle.mesh_model.proofs.Lists.{list_all-All}
use Rattle.mesh_model.proofs.Tables.{there-below, still-kept_names}
use Rattle.mesh_passes.specs.Killing.{without_faces}
use Rattle.mesh_passes.proofs.Killings.{faces_none, faces_more}
use Rattle.mesh_passes.proofs.Rising.{not_before}
use Rattle.mesh_copies.specs.Copying.{with_copies, copied_edge, copied_face, vert_copy, edge_copy}
use Rattle.mesh_copies.specs.CopyingSteps.{corners_in, with_vert_copies, with_edge_copies}
use Rattle.mesh_copies.proofs.Appended.{at-old_there, length-copies}
use Rattle.mesh_copies.proofs.Copied.{no_face}
use Rattle.mesh_copies.proofs.Wholes.{all_corners}

-- ---- RISING NAMES ARE FEW

few_from : (ns : List ℕ) (m n : ℕ) → is_rising ns ≡ true → All (λ (k : ℕ). m ≤ k) ns → All (λ (k : ℕ). k < n) ns → m ≤ n
    → m + length ns ≤ n
few_from [] m n rising low high le = omega arith
few_from (x ∷ xs) m n rising low high le =
    let both = and_parts (list_all (nat_lt x) xs) (is_rising xs) rising in
    let here = All-head (λ (k : ℕ). k < n) x xs high in
    let first = All-head (λ (k : ℕ). m ≤ k) x xs low in
    let rest = few_from xs (x + 1) n both.1 (λ k d less.
    let more = ltb-true x (get_or xs k d) (list_all-All (nat_lt x) xs both.0 k d less) in omega arith)
    (All-tail (λ (k : ℕ). k < n) x xs high) (omega arith) in
    omega arith

all_numbers : {N : Type 0} (num : N → ℕ) (xs : List N) (n : ℕ) → All (λ (x : N). num x < n) xs
    → All (λ (k : ℕ). k < n) (map num xs)
all_numbers num [] n all k d less = absurd (omega arith)
all_numbers {N = N} num (x ∷ xs) n all zero d less = All-head (λ (y : N). num y < n) x xs all
all_numbers {N = N} num (x ∷ xs) n all (suc k) d less =
    all_numbers num xs n (All-tail (λ (y : N). num y < n) x xs all) k d (omega arith)

-- live names that rise are at most as many as the names that are given
pub few_live : {N X : Type 0} (num : N → ℕ) (t : List (Option X)) (xs : List N) → is_rising (map num xs) ≡ true
    → All (λ (x : N). IsThere t (num x)) xs → length xs ≤ length t
few_live num t xs rising live =
    let most = few_from (map num xs) 0 (length t) rising (λ k d less. omega arith)
    (all_numbers num xs (length t) (λ k d less. there-below t (num (get_or xs k d)) (live k d less))) (omega arith) in
    omega (arith, length-map xs num)

-- ---- CORNERS OF FACES

pub sum-more : (c : Complex) (fs : List FaceName) (i : ℕ) (d : FaceName) → i < length fs
    → corners_in c (take (i + 1) fs) ≡ corners_in c (take i fs) + length (corners_of (at c.faces (get_or fs i d).0))
sum-more c fs i d less =
    let g : FaceName → Option FaceRec = λ f. at c.faces f.0 in
    let f = get_or fs i d in
    let one : corner_sum (g f ∷ []) ≡ length (corners_of (g f)) =
    sum_by-cons (λ (x : Option FaceRec). length (corners_of x)) (g f) [] ∙ omega arith in
    ap (corners_in c) (take_more fs i d less) ∙ ap corner_sum (map-append g (take i fs) (f ∷ []))
    ∙ corner_sum-append (map g (take i fs)) (g f ∷ [])
    ∙ ap (λ (k : ℕ). corner_sum (map g (take i fs)) + k) one

-- the next face still stands where those before it are taken away
kept_face : (c : Complex) (fs : List FaceName) (i : ℕ) (d : FaceName) → is_rising (face_numbers fs) ≡ true
    → i < length fs → at (without_faces c (take i fs)).faces (get_or fs i d).0 ≡ at c.faces (get_or fs i d).0
unfolding without_faces
kept_face c fs i d rising less =
    still-kept_names (λ n. not (is_face_among (take i fs) (record { 0 = n }))) c.faces (get_or fs i d).0
    (not_from_false (is_face_among (take i fs) (get_or fs i d)) (not_before (λ (f : FaceName). f.0) fs i d rising less))

-- the corners of the faces that go and of those that stay are all
sum_killed : (c : Complex) (fs : List FaceName) → is_rising (face_numbers fs) ≡ true
    → All (λ (f : FaceName). IsThere c.faces f.0) fs → (i : ℕ) → i ≤ length fs
    → corner_sum (without_faces c (take i fs)).faces + corners_in c (take i fs) ≡ corner_sum c.faces
sum_killed c fs rising live zero le = ap (λ (x : Complex). corner_sum x.faces + 0) (faces_none c) ∙ omega arith
sum_killed c fs rising live (suc i) le =
    let less : i < length fs = omega arith in
    let f = get_or fs i no_face in
    let m = without_faces c (take i fs) in
    let before = sum_killed c fs rising live i (omega arith) in
    let kept = kept_face c fs i no_face rising less in
    let there : IsThere m.faces f.0 = ap is_some kept ∙ live i no_face less in
    let taken = corner_sum-set m.faces f.0 None (there-below m.faces f.0 there) in
    let next : corner_sum (without_faces c (take (i + 1) fs)).faces ≡ corner_sum (erase m.faces f.0) =
    ap (λ (x : Complex). corner_sum x.faces) (sym (faces_more c fs i no_face less)) in
    let same : length (corners_of (at m.faces f.0)) ≡ length (corners_of (at c.faces f.0)) =
    ap (λ (o : Option FaceRec). length (corners_of o)) kept in
    let more = sum-more c fs i no_face less in
    let none : length (corners_of None) ≡ 0 = refl in
    let on : i + 1 ≡ suc i = omega arith in
    subst (λ (k : ℕ). corner_sum (without_faces c (take k fs)).faces + corners_in c (take k fs) ≡ corner_sum c.faces) on
    (omega (arith, before, taken, next, same, more, none))

pub sum_without : (c : Complex) (fs : List FaceName) → is_rising (face_numbers fs) ≡ true
    → All (λ (f : FaceName). IsThere c.faces f.0) fs
    → corner_sum (without_faces c fs).faces + corners_in c fs ≡ corner_sum c.faces
sum_without c fs rising live =
    subst (λ (gs : List FaceName). corner_sum (without_faces c gs).faces + corners_in c gs ≡ corner_sum c.faces)
    (take_all (length fs) fs (omega arith)) (sum_killed c fs rising live (length fs) (omega arith))

pub corners_few : (c : Complex) (fs : List FaceName) → is_rising (face_numbers fs) ≡ true
    → All (λ (f : FaceName). IsThere c.faces f.0) fs → corners_in c fs ≤ corner_sum c.faces
corners_few c fs rising live = omega (arith, sum_without c fs rising live)

-- ---- WITH COPIES

pub sum_copies : (c : Complex) (s : Elements)
    → corner_sum (with_copies c s).faces ≡ corner_sum c.faces + corners_in c s.faces
unfolding with_vert_copies with_edge_copies
sum_copies c s = sym (all_corners c s)

pub verts_long : (c : Complex) (s : Elements) → length (with_copies c s).verts ≡ length c.verts + length s.verts
verts_long c s = length-copies (λ (v : VertName). at c.verts v.0) c.verts s.verts

pub edges_long : (c : Complex) (s : Elements) → length (with_copies c s).edges ≡ length c.edges + length s.edges
edges_long c s = length-copies (λ (e : EdgeName). option_map (copied_edge (vert_copy c s)) (at c.edges e.0)) c.edges s.edges

pub faces_long : (c : Complex) (s : Elements) → length (with_copies c s).faces ≡ length c.faces + length s.faces
faces_long c s =
    length-copies (λ (f : FaceName). option_map (copied_face (vert_copy c s) (edge_copy c s)) (at c.faces f.0)) c.faces
    s.faces

pub counted : (c : Complex) (s : Elements) (n : Counters) (v e f k : ℕ) → n ≡ counters_of c → v ≡ length s.verts
    → e ≡ length s.edges → f ≡ length s.faces → k ≡ corners_in c s.faces
    → record { verts = n.verts + v; edges = n.edges + e; faces = n.faces + f; corners = n.corners + k }
    ≡ counters_of (with_copies c s)
counted c s n v e f k next verts edges faces corners =
    rw (next, verts, edges, faces, corners, verts_long c s, edges_long c s, faces_long c s, sum_copies c s) refl

-- what was there still stands
pub live_copies : (c : Complex) (s : Elements) → AreLive c s → AreLive (with_copies c s) s
live_copies c s live = record {
  verts = λ i d less. let there = live.verts i d less in
      ap is_some (at-old_there c.verts _ (get_or s.verts i d).0 there) ∙ there;
  edges = λ i d less. let there = live.edges i d less in
      ap is_some (at-old_there c.edges _ (get_or s.edges i d).0 there) ∙ there;
  faces = λ i d less. let there = live.faces i d less in
      ap is_some (at-old_there c.faces _ (get_or s.faces i d).0 there) ∙ there;
}
