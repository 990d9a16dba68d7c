-- Rings as paths of corners: cut, joined and turned.
use Rattle.std.proofs.Common.{◌≡◌, suc, ◌≤◌, Bool, true, ◌&&◌, List, [], ◌∷◌, ◌++◌, length, drop, refl, sym, ap, ◌∙◌}
use Rattle.std.proofs.Common.{arith, Option}
use Rattle.std.specs.List.{All, list_all, zip}
use Rattle.std.proofs.lemmas.List.{append-nil, map-append}
use Rattle.std.proofs.lemmas.Bool.{and_parts, and_from}
use Rattle.mesh_model.specs.Table.{at, passes}
use Rattle.mesh_model.specs.Complex.{Complex, verts_of}
use Rattle.mesh_model.specs.Incidence.{joins}
use Rattle.mesh_model.specs.Valid.{are_distinct, is_along_side, IsPolygon}
use Rattle.mesh_model.specs.declared.limits.TheConstants.{MIN_SIDES, MAX_SIDES}
use Rattle.mesh_model.specs.declared.names.VertName.{VertName}
use Rattle.mesh_model.specs.declared.records.EdgeRec.{EdgeRec}
use Rattle.mesh_model.specs.declared.records.CornerRec.{CornerRec}
use Rattle.mesh_model.proofs.Distinct.{distinct-turned}

-- ---- PATHS

-- where corners begin, or else where they lead
abbrev pub start_of : List CornerRec → VertName → VertName
start_of [] end = end
start_of (k ∷ ks) end = k.vert

-- a corner's edge leads from its vertex to another
abbrev pub leads_to : List (Option EdgeRec) → CornerRec → VertName → Bool
leads_to edges k v = passes (joins k.vert v) (at edges k.edge.0)

-- corners are a path to a vertex: each one's edge leads to the next one, and the last one's to that vertex
abbrev pub is_path : List (Option EdgeRec) → List CornerRec → VertName → Bool
is_path edges [] end = true
is_path edges (k ∷ ks) end = leads_to edges k (start_of ks end) && is_path edges ks end

pub start-append : (ks ls : List CornerRec) (end : VertName) → start_of (ks ++ ls) end ≡ start_of ks (start_of ls end)
start-append [] ls end = refl
start-append (k ∷ ks) ls end = refl

pub path-append : (edges : List (Option EdgeRec)) (ks ls : List CornerRec) (end : VertName)
    → is_path edges ks (start_of ls end) ≡ true → is_path edges ls end ≡ true → is_path edges (ks ++ ls) end ≡ true
path-append edges [] ls end front back = back
path-append edges (k ∷ ks) ls end front back =
    let both = and_parts (leads_to edges k (start_of ks (start_of ls end))) (is_path edges ks (start_of ls end))
    front in
    and_from (leads_to edges k (start_of (ks ++ ls) end)) (is_path edges (ks ++ ls) end)
    (ap (leads_to edges k) (start-append ks ls end) ∙ both.0)
    (path-append edges ks ls end both.1 back)

pub path-parts : (edges : List (Option EdgeRec)) (ks ls : List CornerRec) (end : VertName)
    → is_path edges (ks ++ ls) end ≡ true → (is_path edges ks (start_of ls end) ≡ true) × (is_path edges ls end ≡ true)
path-parts edges [] ls end h = (refl, h)
path-parts edges (k ∷ ks) ls end h =
    let both = and_parts (leads_to edges k (start_of (ks ++ ls) end)) (is_path edges (ks ++ ls) end) h in
    let rest = path-parts edges ks ls end both.1 in (
      and_from (leads_to edges k (start_of ks (start_of ls end))) (is_path edges ks (start_of ls end))
          (ap (leads_to edges k) (sym (start-append ks ls end)) ∙ both.0) rest.0,
      rest.1,
    )

pub path-cons : (edges : List (Option EdgeRec)) (k : CornerRec) (ks : List CornerRec) (end : VertName)
    → leads_to edges k (start_of ks end) ≡ true → is_path edges ks end ≡ true → is_path edges (k ∷ ks) end ≡ true
path-cons edges k ks end first rest = and_from (leads_to edges k (start_of ks end)) (is_path edges ks end) first rest

pub path-uncons : (edges : List (Option EdgeRec)) (k : CornerRec) (ks : List CornerRec) (end : VertName)
    → is_path edges (k ∷ ks) end ≡ true → (leads_to edges k (start_of ks end) ≡ true) × (is_path edges ks end ≡ true)
path-uncons edges k ks end h = and_parts (leads_to edges k (start_of ks end)) (is_path edges ks end) h

-- where the edges of its corners stay, a path stays one
pub path-same : (old new : List (Option EdgeRec)) (ks : List CornerRec) (end : VertName)
    → All (λ (k : CornerRec). at new k.edge.0 ≡ at old k.edge.0) ks → is_path old ks end ≡ true
    → is_path new ks end ≡ true
path-same old new [] end same h = refl
path-same old new (k ∷ ks) end same h =
    let both = path-uncons old k ks end h in
    path-cons new k ks end (ap (passes (joins k.vert (start_of ks end))) (same 0 k (omega arith))
    ∙ both.0) (path-same old new ks end (λ i d less. same (suc i) d (omega arith)) both.1)

-- ---- CIRCLES

-- the vertex that stands in where a list of corners is empty
abbrev pub nowhere : VertName
nowhere = record { 0 = 0 }

-- corners of distinct vertices that lead back to where they begin
pub record IsCircle (edges : List (Option EdgeRec)) (ks : List CornerRec) : Type 0 where
  pub distinct : are_distinct (verts_of ks) ≡ true
  pub closed : is_path edges ks (start_of ks nowhere) ≡ true

closed-path : (c : Complex) (ks : List CornerRec) (end : VertName)
    → list_all (is_along_side c.edges) (zip ks (zip (verts_of ks) (drop 1 (verts_of ks) ++ end ∷ [])))
    ≡ is_path c.edges ks end
closed-path c [] end = refl
closed-path c (k ∷ []) end = refl
closed-path c (k ∷ l ∷ ls) end = ap (λ (b : Bool). leads_to c.edges k l.vert && b) (closed-path c (l ∷ ls) end)

pub IsCircle-from_polygon : (c : Complex) (ks : List CornerRec) → IsPolygon c.edges ks → IsCircle c.edges ks
IsCircle-from_polygon c [] r = record { distinct = r.distinct; closed = refl }
IsCircle-from_polygon c (k ∷ ks) r = record {
  distinct = r.distinct;
  closed = sym (closed-path c (k ∷ ks) k.vert)
      ∙ r.closed;
}

pub IsPolygon-from_circle : (c : Complex) (ks : List CornerRec) → MIN_SIDES ≤ length ks → length ks ≤ MAX_SIDES
    → IsCircle c.edges ks → IsPolygon c.edges ks
IsPolygon-from_circle c [] least most h = absurd (omega arith)
IsPolygon-from_circle c (k ∷ ks) least most h =
    record { least = least; most = most; distinct = h.distinct; closed = closed-path c (k ∷ ks) k.vert ∙ h.closed }

pub verts-append : (ks ls : List CornerRec) → verts_of (ks ++ ls) ≡ verts_of ks ++ verts_of ls
verts-append ks ls = map-append (λ (k : CornerRec). k.vert) ks ls

closed-turned : (edges : List (Option EdgeRec)) (ks ls : List CornerRec)
    → is_path edges (ks ++ ls) (start_of (ks ++ ls) nowhere) ≡ true
    → is_path edges (ls ++ ks) (start_of (ls ++ ks) nowhere) ≡ true
closed-turned edges [] ls h = rw (append-nil ls) h
closed-turned edges (k ∷ ks) [] h = sym (ap (λ (xs : List CornerRec). is_path edges (k ∷ xs) k.vert) (append-nil ks))
    ∙ h
closed-turned edges (k ∷ ks) (l ∷ ls) h = let parts = path-parts edges (k ∷ ks) (l ∷ ls) k.vert h in
    path-append edges (l ∷ ls) (k ∷ ks) l.vert parts.1 parts.0

-- a circle read from another corner on
pub IsCircle-turned : (edges : List (Option EdgeRec)) (ks ls : List CornerRec) → IsCircle edges (ks ++ ls)
    → IsCircle edges (ls ++ ks)
IsCircle-turned edges ks ls h = record {
  distinct = rw (verts-append ls ks)
      (distinct-turned (verts_of ks) (verts_of ls) (rw (verts-append ks ls) at h.distinct));
  closed = closed-turned edges ks ls h.closed;
}
