-- Polygons whose vertices and edges have other names, kept apart.
use Rattle.std.proofs.Common.{◌≡◌, ◌<◌, true, List, [], ◌∷◌, length, get_or, map, refl, sym, ap, ◌∙◌, arith, All}
use Rattle.std.proofs.Common.{Option, Some, None}
use Rattle.std.specs.Option.{option_map}
use Rattle.std.proofs.lemmas.List.{length-map, get_or-map}
use Rattle.std.proofs.lemmas.List.Elements.{All-head, All-tail}
use Rattle.mesh_model.specs.Table.{at, passes}
use Rattle.mesh_model.specs.Complex.{Complex, verts_of}
use Rattle.mesh_model.specs.Incidence.{joins}
use Rattle.mesh_model.specs.Valid.{are_distinct, IsPolygon}
use Rattle.mesh_model.specs.declared.names.VertName.{VertName}
use Rattle.mesh_model.specs.declared.names.EdgeName.{EdgeName}
use Rattle.mesh_model.specs.declared.records.EdgeRec.{EdgeRec}
use Rattle.mesh_model.specs.declared.records.CornerRec.{CornerRec}
use Rattle.mesh_model.proofs.Paths.{start_of, leads_to, is_path, path-cons, path-uncons, IsCircle}
use Rattle.mesh_model.proofs.Paths.{IsCircle-from_polygon, IsPolygon-from_circle}
use Rattle.mesh_model.proofs.Polygons.{distinct-at, distinct-from}
use Rattle.mesh_model.proofs.Renamings.{joins-with_ends}
use Rattle.mesh_copies.specs.Copying.{copied_edge, copied_corner}

-- what stands at the new name of a corner's edge is that edge with its ends renamed
abbrev pub IsEdgeCopied : List (Option EdgeRec) → List (Option EdgeRec) → (VertName → VertName) → (EdgeName → EdgeName)
    → CornerRec → Type 0
IsEdgeCopied old new rv re k = at new (re k.edge).0 ≡ option_map (copied_edge rv) (at old k.edge.0)

joins-copied : (rv : VertName → VertName) (v w : VertName) (o : Option EdgeRec) → passes (joins v w) o ≡ true
    → passes (joins (rv v) (rv w)) (option_map (copied_edge rv) o) ≡ true
joins-copied rv v w None h = h
joins-copied rv v w (Some r) h = joins-with_ends rv v w r h

start-copied : (rv : VertName → VertName) (re : EdgeName → EdgeName) (ks : List CornerRec) (end : VertName)
    → start_of (map (copied_corner rv re) ks) (rv end) ≡ rv (start_of ks end)
start-copied rv re [] end = refl
start-copied rv re (k ∷ ks) end = refl

path-copied : (old new : List (Option EdgeRec)) (rv : VertName → VertName) (re : EdgeName → EdgeName)
    (ks : List CornerRec) (end : VertName) → All (IsEdgeCopied old new rv re) ks → is_path old ks end ≡ true
    → is_path new (map (copied_corner rv re) ks) (rv end) ≡ true
path-copied old new rv re [] end all h = refl
path-copied old new rv re (k ∷ ks) end all h =
    let both = path-uncons old k ks end h in
    let next = start_of ks end in
    let here = All-head (IsEdgeCopied old new rv re) k ks all in
    path-cons new (copied_corner rv re k) (map (copied_corner rv re) ks) (rv end)
    (ap (leads_to new (copied_corner rv re k)) (start-copied rv re ks end)
    ∙ ap (passes (joins (rv k.vert) (rv next))) here ∙ joins-copied rv k.vert next (at old k.edge.0) both.0)
    (path-copied old new rv re ks end (All-tail (IsEdgeCopied old new rv re) k ks all) both.1)

verts-copied : (rv : VertName → VertName) (re : EdgeName → EdgeName) (ks : List CornerRec)
    → verts_of (map (copied_corner rv re) ks) ≡ map rv (verts_of ks)
verts-copied rv re [] = refl
verts-copied rv re (k ∷ ks) = ap (λ (vs : List VertName). rv k.vert ∷ vs) (verts-copied rv re ks)

-- vertices that a renaming keeps apart stay distinct
distinct-copied : (rv : VertName → VertName) (P : VertName → Type 0)
    → ((u w : VertName) → P u → P w → (rv u).0 ≡ (rv w).0 → u.0 ≡ w.0) → (vs : List VertName) → All P vs
    → are_distinct vs ≡ true → are_distinct (map rv vs) ≡ true
distinct-copied rv P apart vs all h = distinct-from (map rv vs) (λ i j d l m same.
    let within : i < length vs = omega (arith, length-map vs rv) in
    let besides : j < length vs = omega (arith, length-map vs rv) in
    distinct-at vs h i j d within besides
    (apart (get_or vs i d) (get_or vs j d) (all i d within) (all j d besides)
    (ap (λ (v : VertName). v.0) (sym (get_or-map rv vs i d d within)) ∙ same
    ∙ ap (λ (v : VertName). v.0) (get_or-map rv vs j d d besides))))

circle-copied : (old new : List (Option EdgeRec)) (rv : VertName → VertName) (re : EdgeName → EdgeName)
    (ks : List CornerRec) → All (IsEdgeCopied old new rv re) ks
    → are_distinct (map rv (verts_of ks)) ≡ true → IsCircle old ks → IsCircle new (map (copied_corner rv re) ks)
circle-copied old new rv re [] all distinct h = record { distinct = refl; closed = refl }
circle-copied old new rv re (k ∷ ks) all distinct h = record {
  distinct = ap are_distinct (verts-copied rv re (k ∷ ks)) ∙ distinct;
  closed = path-copied old new rv re (k ∷ ks) k.vert all h.closed;
}

-- a polygon's copy is a polygon
pub IsPolygon-copied : (c d : Complex) (rv : VertName → VertName) (re : EdgeName → EdgeName) (P : VertName → Type 0)
    → ((u w : VertName) → P u → P w → (rv u).0 ≡ (rv w).0 → u.0 ≡ w.0) → (ks : List CornerRec) → All P (verts_of ks)
    → All (IsEdgeCopied c.edges d.edges rv re) ks → IsPolygon c.edges ks
    → IsPolygon d.edges (map (copied_corner rv re) ks)
IsPolygon-copied c d rv re P apart ks members all r =
    IsPolygon-from_circle d (map (copied_corner rv re) ks) (rw (length-map ks (copied_corner rv re)) r.least)
    (rw (length-map ks (copied_corner rv re)) r.most)
    (circle-copied c.edges d.edges rv re ks all (distinct-copied rv P apart (verts_of ks) members r.distinct)
    (IsCircle-from_polygon c ks r))
