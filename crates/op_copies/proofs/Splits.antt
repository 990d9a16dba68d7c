-- What is left where a set is split off: its counts, and that it is sound.
use Rattle.std.proofs.Common.{◌≡◌, ℕ, ◌+◌, ◌≤◌, ◌^◌, List, [], ◌∷◌, length, get_or, map, refl, sym, ap, ◌∙◌, subst, arith, All}
use Rattle.std.proofs.Common.{None}
use Rattle.std.proofs.lemmas.List.Elements.{All-head, All-tail}
use Rattle.mesh_model.specs.Table.{at, IsThere}
use Rattle.mesh_model.specs.Complex.{Complex, corner_sum, counters_of}
use Rattle.mesh_model.specs.Elements.{Elements}
use Rattle.mesh_model.specs.Closure.{AreLive, closure}
use Rattle.mesh_model.specs.Refusals.{unless_too_many}
use Rattle.mesh_model.specs.Valid.{AreKindLayers, IsLinked, IsValid, IsSimple, IsSound, IsWithinLimits}
use Rattle.mesh_model.specs.declared.names.FaceName.{FaceName}
use Rattle.mesh_model.specs.declared.records.Counters.{Counters}
use Rattle.mesh_model.proofs.Closures.{closure-closure}
use Rattle.mesh_model.proofs.Parts.{IsPart, IsSimple-part}
use Rattle.mesh_model.proofs.Polygons.{IsPolygon-where}
use Rattle.mesh_model.proofs.Right.{AreRight, HasSameLayers, IsVertRight-same, IsEdgeRight-same, face-same}
use Rattle.mesh_model.proofs.Right.{IsFaceLinked-from_right, IsValid-from_right}
use Rattle.mesh_model.proofs.Tables.{stands, length-kept_names}
use Rattle.mesh_passes.specs.Closed.{AreClosed}
use Rattle.mesh_passes.specs.Killing.{without_faces, without_loose, without_bare, without_set}
use Rattle.mesh_passes.proofs.Conditions.{within_limits}
use Rattle.mesh_passes.proofs.KilledParts.{IsPart-without_faces, IsPart-without_loose, IsPart-without_bare}
use Rattle.mesh_copies.specs.Copying.{with_copies}
use Rattle.mesh_copies.specs.CopyingSteps.{corners_in, HasNames}
use Rattle.mesh_copies.proofs.Appended.{at-old_there}
use Rattle.mesh_copies.proofs.Copied.{IsClosedSet, faces_rise, AreRight-copies, IsSimple-copies}
use Rattle.op_copies.specs.Duplicating.{split_off}
use Rattle.op_copies.proofs.Counts.{sum_without, corners_few, sum_copies, verts_long, edges_long, faces_long, live_copies}

-- ---- A PART OF WHAT IS RIGHT

AreRight-part : (d c : Complex) → IsPart d c → AreRight c → AreRight d
AreRight-part d c p r =
    let same : HasSameLayers d c = record { layers = p.layers; materials = p.materials } in record {
      layers = subst AreKindLayers (sym p.layers) r.layers;
      verts = λ n x is. IsVertRight-same d c same x (r.verts n x (p.verts n x is));
      edges = λ n e is.
          let was = r.edges n e (p.edges n e is) in
          let ends = p.ends n e is in
          IsEdgeRight-same d c same e e refl ends.0 ends.1 was.linked.differ was;
      faces = λ n f is.
          let was = r.faces n f (p.faces n f is) in
          face-same d c same f (IsPolygon-where d c f.corners (λ i q less.
          let k = get_or f.corners i q in
          let it = stands (at d.edges k.edge.0) (p.corners n f is i q less).edge in
          it.1 ∙ sym (p.edges k.edge.0 it.0 it.1)) was.polygon) was;
    }

IsLinked-right : (c : Complex) → AreRight c → IsLinked c
IsLinked-right c r = record {
  layers = r.layers;
  verts = λ n x is. (r.verts n x is).linked;
  edges = λ n e is. (r.edges n e is).linked;
  faces = λ n f is. IsFaceLinked-from_right c r.edges f (r.faces n f is);
}

AreClosed-right : (c : Complex) → AreRight c → AreClosed c
AreClosed-right c r n f is = (r.faces n f is).polygon.closed

right_without : (c : Complex) (s : Elements) → AreRight c → AreRight (without_set c s)
right_without c s r =
    let m = without_faces c s.faces in
    let first = AreRight-part m c (IsPart-without_faces c s.faces (IsLinked-right c r)) r in
    let d = without_loose m s.edges in
    let second = AreRight-part d m (IsPart-without_loose m s.edges (IsLinked-right m first)) first in
    AreRight-part (without_bare d s.verts) d
    (IsPart-without_bare d s.verts (IsLinked-right d second) (AreClosed-right d second)) second

simple_without : (c : Complex) (s : Elements) → AreRight c → IsSimple c → IsSimple (without_set c s)
simple_without c s r h =
    let m = without_faces c s.faces in
    let p = IsPart-without_faces c s.faces (IsLinked-right c r) in
    let first = AreRight-part m c p r in
    let d = without_loose m s.edges in
    let q = IsPart-without_loose m s.edges (IsLinked-right m first) in
    let second = AreRight-part d m q first in
    let t = IsPart-without_bare d s.verts (IsLinked-right d second) (AreClosed-right d second) in
    IsSimple-part (without_bare d s.verts) d t.edges (IsSimple-part d m q.edges (IsSimple-part m c p.edges h))

-- ---- SOUND

pub AreClosed-copies : (c : Complex) (s : Elements) → IsValid c → IsClosedSet c s → AreClosed (with_copies c s)
AreClosed-copies c s valid closed = AreClosed-right (with_copies c s) (AreRight-copies c s valid closed)

pub IsSound-split : (c : Complex) (s : Elements) → IsSound c → IsClosedSet c s → unless_too_many (split_off c s) ≡ None
    → IsSound (split_off c s)
IsSound-split c s sound closed may =
    let right = AreRight-copies c s sound.valid closed in
    record {
      valid = IsValid-from_right (split_off c s) (right_without (with_copies c s) s right)
          (within_limits (split_off c s) may);
      simple = simple_without (with_copies c s) s right (IsSimple-copies c s sound closed);
    }

-- ---- COUNTS

same_in : (c : Complex) (s : Elements) (fs : List FaceName) → All (λ (f : FaceName). IsThere c.faces f.0) fs
    → map (λ (f : FaceName). at (with_copies c s).faces f.0) fs ≡ map (λ (f : FaceName). at c.faces f.0) fs
same_in c s [] live = refl
same_in c s (f ∷ fs) live =
    rw (
      at-old_there c.faces _ f.0 (All-head (λ (x : FaceName). IsThere c.faces x.0) f fs live),
      same_in c s fs (All-tail (λ (x : FaceName). IsThere c.faces x.0) f fs live),
    ) refl

faces_left : (c : Complex) (s : Elements) → (split_off c s).faces ≡ (without_faces (with_copies c s) s.faces).faces
unfolding without_loose without_bare
faces_left c s = refl

-- as many corners are left as there were
sum_left : (c : Complex) (s : Elements) → IsClosedSet c s → AreLive c s
    → corner_sum (split_off c s).faces ≡ corner_sum c.faces
sum_left c s closed live =
    let d = with_copies c s in
    let gone = sum_without d s.faces (faces_rise c s closed) (live_copies c s live).faces in
    let same : corners_in d s.faces ≡ corners_in c s.faces = ap corner_sum (same_in c s s.faces live.faces) in
    ap corner_sum (faces_left c s) ∙ omega (arith, gone, same, sum_copies c s)

verts_left : (c : Complex) (s : Elements) → length (split_off c s).verts ≡ length (with_copies c s).verts
unfolding without_faces without_loose without_bare
verts_left c s = length-kept_names _ (with_copies c s).verts

edges_left : (c : Complex) (s : Elements) → length (split_off c s).edges ≡ length (with_copies c s).edges
unfolding without_faces without_loose without_bare
edges_left c s = length-kept_names _ (with_copies c s).edges

all_faces_left : (c : Complex) (s : Elements) → length (split_off c s).faces ≡ length (with_copies c s).faces
unfolding without_faces without_loose without_bare
all_faces_left c s = length-kept_names _ (with_copies c s).faces

pub counted_split : (c : Complex) (s : Elements) (n : Counters) (v e f : ℕ) → IsClosedSet c s → AreLive c s
    → n ≡ counters_of c → v ≡ length s.verts → e ≡ length s.edges → f ≡ length s.faces
    → record { verts = n.verts + v; edges = n.edges + e; faces = n.faces + f; corners = n.corners }
    ≡ counters_of (split_off c s)
counted_split c s n v e f closed live next verts edges faces =
    rw (
      next,
      verts,
      edges,
      faces,
      verts_left c s,
      edges_left c s,
      all_faces_left c s,
      verts_long c s,
      edges_long c s,
      faces_long c s,
      sum_left c s closed live,
    ) refl

-- ---- WHAT THE CONDITIONS SAY

pub closed_closure : (c : Complex) (x s : Elements) → s ≡ closure c x → IsClosedSet c s
closed_closure c x s is = ap (closure c) is ∙ closure-closure c x ∙ sym is

pub names_copied : (c : Complex) (s : Elements) → IsWithinLimits (with_copies c s) → HasNames (counters_of c) s
names_copied c s limits = record {
  verts = omega (arith, limits.verts, verts_long c s);
  edges = omega (arith, limits.edges, edges_long c s);
  faces = omega (arith, limits.faces, faces_long c s);
}

pub names_split : (c : Complex) (s : Elements) → IsWithinLimits (split_off c s) → HasNames (counters_of c) s
names_split c s limits = record {
  verts = omega (arith, limits.verts, verts_left c s, verts_long c s);
  edges = omega (arith, limits.edges, edges_left c s, edges_long c s);
  faces = omega (arith, limits.faces, all_faces_left c s, faces_long c s);
}

pub few_copied : (c : Complex) (s : Elements) → IsWithinLimits (with_copies c s)
    → corner_sum (with_copies c s).faces ≤ 2 ^ 24
few_copied c s limits = omega (arith, limits.corners)

pub few_split : (c : Complex) (s : Elements) → IsValid c → IsClosedSet c s → AreLive c s
    → corner_sum (with_copies c s).faces ≤ 2 ^ 24
few_split c s valid closed live =
    omega (
      arith,
      valid.limits.corners,
      sum_copies c s,
      corners_few c s.faces (faces_rise c s closed) live.faces,
    )
