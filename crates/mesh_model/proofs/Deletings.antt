-- Vertices deleted with their edges and faces: the complex stays linked, valid and simple.
use Rattle.std.proofs.Common.{◌≡◌, ℕ, Bool, true, false, not, List, length, get_or, refl, sym, ap, ◌∙◌, inl, inr, Some}
use Rattle.std.specs.List.{All}
use Rattle.std.proofs.lemmas.Bool.{not-true, not_from_false, or_parts, or_from}
use Rattle.mesh_model.specs.Table.{at, IsThere, passes}
use Rattle.mesh_model.specs.Complex.{Complex}
use Rattle.mesh_model.specs.Incidence.{joins}
use Rattle.mesh_model.specs.Deleting.{has_end_among, has_corner_among, without_verts}
use Rattle.mesh_model.specs.Elements.{is_among}
use Rattle.mesh_model.specs.Valid.{is_closed, IsLinked, IsValid, IsSimple, IsSound}
use Rattle.mesh_model.specs.declared.names.VertName.{VertName}
use Rattle.mesh_model.specs.declared.records.EdgeRec.{EdgeRec}
use Rattle.mesh_model.specs.declared.records.CornerRec.{CornerRec}
use Rattle.mesh_model.specs.declared.records.FaceRec.{FaceRec}
use Rattle.mesh_model.proofs.Tables.{stands, there_from, there_passes, length-kept, length-kept_names, was-kept}
use Rattle.mesh_model.proofs.Tables.{was-kept_names, still-kept, there-kept_names}
use Rattle.mesh_model.proofs.Lists.{list_any-none}
use Rattle.mesh_model.proofs.Edges.{joins-cases}
use Rattle.mesh_model.proofs.Polygons.{after, after-below, closed-at}
use Rattle.mesh_model.proofs.Parts.{IsPart, IsLinked-part, IsValid-part, IsSimple-part}

-- each face is a closed polygon
abbrev pub AreClosed : Complex → Type 0
AreClosed c = (n : ℕ) (f : FaceRec) → at c.faces n ≡ Some f → is_closed c.edges f.corners ≡ true

pub AreClosed-valid : (c : Complex) → IsValid c → AreClosed c
AreClosed-valid c h n f is = (h.faces n f is).polygon.closed

-- an edge between two vertices that stay, stays
edge_stays : (c : Complex) (vs : List VertName) (n : ℕ) (v w : VertName) → is_among vs v ≡ false → is_among vs w ≡ false
    → passes (joins v w) (at c.edges n) ≡ true → IsThere (without_verts c vs).edges n
edge_stays c vs n v w out_v out_w along =
    let it = stands (at c.edges n) (there_passes (joins v w) (at c.edges n) along) in
    let ends : has_end_among vs it.0 ≡ false =
    elim (joins-cases v w it.0 (sym (ap (passes (joins v w)) it.1) ∙ along)) [
      | inl same ↦ or_from (is_among vs it.0.a) (is_among vs it.0.b) (ap (is_among vs) same.0
          ∙ out_v) (ap (is_among vs) same.1 ∙ out_w)
      | inr back ↦ or_from (is_among vs it.0.a) (is_among vs it.0.b) (ap (is_among vs) back.0
          ∙ out_w) (ap (is_among vs) back.1 ∙ out_v)
    ] in
    there_from (without_verts c vs).edges n it.0
    (still-kept (λ e. not (has_end_among vs e)) c.edges n it.0 it.1 (not_from_false (has_end_among vs it.0) ends))

-- a vertex that isn't among them stays
vert_stays : (c : Complex) (vs : List VertName) (v : VertName) → is_among vs v ≡ false → IsThere c.verts v.0
    → IsThere (without_verts c vs).verts v.0
vert_stays c vs v out there =
    there-kept_names (λ n. not (is_among vs (record { 0 = n }))) c.verts v.0 (not_from_false (is_among vs v) out) there

pub IsPart-without_verts : (c : Complex) (vs : List VertName) → IsLinked c → AreClosed c → IsPart (without_verts c vs) c
IsPart-without_verts c vs h closed =
    let spares_name : ℕ → Bool = λ n. not (is_among vs (record { 0 = n })) in
    let spares_edge : EdgeRec → Bool = λ e. not (has_end_among vs e) in
    let spares_face : FaceRec → Bool = λ f. not (has_corner_among vs f) in
    record {
      verts = λ n r is. (was-kept_names spares_name c.verts n r is).0;
      edges = λ n e is. (was-kept spares_edge c.edges n e is).0;
      faces = λ n f is. (was-kept spares_face c.faces n f is).0;
      vert_names = length-kept_names spares_name c.verts;
      edge_names = length-kept spares_edge c.edges;
      face_names = length-kept spares_face c.faces;
      layers = refl;
      materials = refl;
      ends = λ n e is.
          let was = was-kept spares_edge c.edges n e is in
          let out = or_parts (is_among vs e.a) (is_among vs e.b) (not-true (has_end_among vs e) was.1) in
          let old = h.edges n e was.0 in
          (vert_stays c vs e.a out.0 old.a, vert_stays c vs e.b out.1 old.b);
      corners = λ n f is i d less.
          let was = was-kept spares_face c.faces n f is in
          let out : All (λ (k : CornerRec). is_among vs k.vert ≡ false) f.corners =
          list_any-none (λ (k : CornerRec). is_among vs k.vert) f.corners (not-true (has_corner_among vs f) was.1)
          in
          let old = (h.faces n f was.0).corners i d less in
          let along = closed-at c f.corners (closed n f was.0) i d less in
          let next = after-below (length f.corners) i less in
          record {
            vert = vert_stays c vs (get_or f.corners i d).vert (out i d less) old.vert;
            edge = edge_stays c vs (get_or f.corners i d).edge.0 (get_or f.corners i d).vert
                (get_or f.corners (after (length f.corners) i) d).vert (out i d less)
                (out (after (length f.corners) i) d next) along;
          };
    }

pub IsLinked-without_verts : (c : Complex) (vs : List VertName) → AreClosed c → IsLinked c
    → IsLinked (without_verts c vs)
IsLinked-without_verts c vs closed h = IsLinked-part (without_verts c vs) c (IsPart-without_verts c vs h closed) h

pub IsValid-without_verts : (c : Complex) (vs : List VertName) → IsValid c → IsValid (without_verts c vs)
IsValid-without_verts c vs h =
    IsValid-part (without_verts c vs) c (IsPart-without_verts c vs h.linked (AreClosed-valid c h)) h

pub IsSimple-without_verts : (c : Complex) (vs : List VertName) → IsSimple c → IsSimple (without_verts c vs)
IsSimple-without_verts c vs h =
    IsSimple-part (without_verts c vs) c (λ n e is. (was-kept (λ e. not (has_end_among vs e)) c.edges n e is).0) h

pub IsSound-without_verts : (c : Complex) (vs : List VertName) → IsSound c → IsSound (without_verts c vs)
IsSound-without_verts c vs h =
    record { valid = IsValid-without_verts c vs h.valid; simple = IsSimple-without_verts c vs h.simple }
