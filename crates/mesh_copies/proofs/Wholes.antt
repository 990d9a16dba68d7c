-- The three passes of copying, one after another.
use Rattle.std.proofs.Common.{◌≡◌, ℕ, ◌+◌, ◌≤◌, List, length, get_or, refl, sym, ap, ◌∙◌, All}
use Rattle.mesh_model.specs.Table.{IsThere}
use Rattle.mesh_model.specs.Complex.{Complex, corner_sum, counters_of}
use Rattle.mesh_model.specs.Elements.{Elements}
use Rattle.mesh_model.specs.Closure.{AreLive}
use Rattle.mesh_model.specs.Valid.{IsValid}
use Rattle.mesh_model.specs.declared.names.VertName.{VertName}
use Rattle.mesh_model.specs.declared.names.EdgeName.{EdgeName}
use Rattle.mesh_model.specs.declared.names.FaceName.{FaceName}
use Rattle.mesh_model.specs.declared.records.Counters.{Counters}
use Rattle.mesh_copies.specs.Copying.{with_copies, vert_copy, edge_copy}
use Rattle.mesh_copies.specs.CopyingSteps.{vert_after, edge_after, with_vert_copies, with_edge_copies, with_face_copies}
use Rattle.mesh_copies.specs.CopyingSteps.{IsEdgeCopyLinked, IsFaceCopyLinked, corners_in}
use Rattle.mesh_copies.proofs.Copied.{IsClosedSet, edge-member, face-member, edge_copy-right, face_copy-linked}
use Rattle.mesh_copies.proofs.Copyings.{sum-copied}

-- after the vertices, and after the edges
abbrev pub with_verts : Complex → Elements → Complex
with_verts c s = with_vert_copies c s.verts

abbrev pub with_edges : Complex → Elements → Complex
with_edges c s = with_edge_copies (vert_copy c s) (with_verts c s) s.edges

pub all_three : (c : Complex) (s : Elements)
    → with_face_copies (vert_copy c s) (edge_copy c s) (with_edges c s) s.faces ≡ with_copies c s
unfolding with_vert_copies with_edge_copies with_face_copies
all_three c s = refl

-- ---- BEFORE THE EDGES

pub edges_there : (c : Complex) (s : Elements) → AreLive c s
    → All (λ (e : EdgeName). IsThere (with_verts c s).edges e.0) s.edges
unfolding with_vert_copies
edges_there c s live = live.edges

pub edges_few : (c : Complex) (s : Elements) → length (with_verts c s).edges ≡ length c.edges
unfolding with_vert_copies
edges_few c s = refl

pub edge_copies_linked : (c : Complex) (s : Elements) → IsValid c → IsClosedSet c s
    → All (IsEdgeCopyLinked (vert_copy c s) (with_verts c s)) s.edges
unfolding with_vert_copies
edge_copies_linked c s valid closed i d less r is =
    let l = (edge_copy-right c s valid closed (get_or s.edges i d) r (edge-member s i d less) is).linked in
    record { a = l.a; b = l.b; differ = l.differ; vals = l.vals }

-- ---- BEFORE THE FACES

pub faces_there : (c : Complex) (s : Elements) → AreLive c s
    → All (λ (f : FaceName). IsThere (with_edges c s).faces f.0) s.faces
unfolding with_vert_copies with_edge_copies
faces_there c s live = live.faces

pub faces_few : (c : Complex) (s : Elements) → length (with_edges c s).faces ≡ length c.faces
unfolding with_vert_copies with_edge_copies
faces_few c s = refl

pub face_copies_linked : (c : Complex) (s : Elements) → IsValid c → IsClosedSet c s
    → All (IsFaceCopyLinked (vert_copy c s) (edge_copy c s) (with_edges c s)) s.faces
unfolding with_vert_copies with_edge_copies
face_copies_linked c s valid closed i d less r is =
    let l = face_copy-linked c s valid closed (get_or s.faces i d) r (face-member s i d less) is in
    record {
      some = l.some;
      corners = λ k q below. let x = l.corners k q below in record { vert = x.vert; edge = x.edge; vals = x.vals };
      vals = l.vals;
    }

-- the corners then are those of all
pub all_corners : (c : Complex) (s : Elements)
    → corner_sum (with_edges c s).faces + corners_in (with_edges c s) s.faces ≡ corner_sum (with_copies c s).faces
all_corners c s = sym (sum-copied (vert_copy c s) (edge_copy c s) (with_edges c s) s.faces)
    ∙ ap (λ (x : Complex). corner_sum x.faces) (all_three c s)

-- ---- WHAT EACH PASS LEAVES

pub after_verts : (c m : Complex) (s : Elements) (vs : List VertName) → m ≡ with_vert_copies c vs → vs ≡ s.verts
    → m ≡ with_verts c s
after_verts c m s vs is names = is ∙ ap (with_vert_copies c) names

pub after_edges : (c m d : Complex) (s : Elements) (n : Counters) (es : List EdgeName)
    → d ≡ with_edge_copies (vert_after n s) m es → m ≡ with_verts c s → n ≡ counters_of c → es ≡ s.edges
    → d ≡ with_edges c s
after_edges c m d s n es is so_far next names = is
    ∙ ap (λ (k : Counters). with_edge_copies (vert_after k s) m es) next
    ∙ ap (λ (x : Complex). with_edge_copies (vert_copy c s) x es) so_far
    ∙ ap (with_edge_copies (vert_copy c s) (with_verts c s)) names

pub after_faces : (c d e : Complex) (s : Elements) (n : Counters) (fs : List FaceName)
    → e ≡ with_face_copies (vert_after n s) (edge_after n s) d fs → d ≡ with_edges c s → n ≡ counters_of c → fs ≡ s.faces
    → e ≡ with_copies c s
after_faces c d e s n fs is so_far next names = is
    ∙ ap (λ (k : Counters). with_face_copies (vert_after k s) (edge_after k s) d fs) next
    ∙ ap (λ (x : Complex). with_face_copies (vert_copy c s) (edge_copy c s) x fs) so_far
    ∙ ap (with_face_copies (vert_copy c s) (edge_copy c s) (with_edges c s)) names ∙ all_three c s

-- ---- WHAT EACH PASS NEEDS

pub edges_live_then : (c m : Complex) (s : Elements) (es : List EdgeName) → m ≡ with_verts c s → es ≡ s.edges
    → AreLive c s → All (λ (e : EdgeName). IsThere m.edges e.0) es
edges_live_then c m s es is names live = rw (is, names) (edges_there c s live)

pub edges_linked_then : (c m : Complex) (s : Elements) (n : Counters) (es : List EdgeName) → m ≡ with_verts c s
    → n ≡ counters_of c → es ≡ s.edges → IsValid c → IsClosedSet c s → All (IsEdgeCopyLinked (vert_after n s) m) es
edges_linked_then c m s n es is next names valid closed = rw (is, next, names) (edge_copies_linked c s valid closed)

pub faces_live_then : (c d : Complex) (s : Elements) (fs : List FaceName) → d ≡ with_edges c s → fs ≡ s.faces
    → AreLive c s → All (λ (f : FaceName). IsThere d.faces f.0) fs
faces_live_then c d s fs is names live = rw (is, names) (faces_there c s live)

pub faces_linked_then : (c d : Complex) (s : Elements) (n : Counters) (fs : List FaceName) → d ≡ with_edges c s
    → n ≡ counters_of c → fs ≡ s.faces → IsValid c → IsClosedSet c s
    → All (IsFaceCopyLinked (vert_after n s) (edge_after n s) d) fs
faces_linked_then c d s n fs is next names valid closed = rw (is, next, names) (face_copies_linked c s valid closed)

pub edges_limit_then : (c m : Complex) (s : Elements) (es : List EdgeName) (most : ℕ) → m ≡ with_verts c s
    → es ≡ s.edges → length c.edges + length s.edges ≤ most → length m.edges + length es ≤ most
edges_limit_then c m s es most is names h = rw (is, names, edges_few c s) h

pub faces_limit_then : (c d : Complex) (s : Elements) (fs : List FaceName) (most : ℕ) → d ≡ with_edges c s
    → fs ≡ s.faces → length c.faces + length s.faces ≤ most → length d.faces + length fs ≤ most
faces_limit_then c d s fs most is names h = rw (is, names, faces_few c s) h

pub corners_then : (c d : Complex) (s : Elements) (fs : List FaceName) (most : ℕ) → d ≡ with_edges c s
    → fs ≡ s.faces → corner_sum (with_copies c s).faces ≤ most → corner_sum d.faces + corners_in d fs ≤ most
corners_then c d s fs most is names h = rw (is, names, all_corners c s) h
