-- Lemmas on corners as they are told, and on their sides.
use Rattle.std.proofs.Common.{◌≡◌, ◌<◌, ◌≤◌, ◌+◌, ◌∙◌, ◌&&◌, ℕ, ℤ, pos, neg_ℤ, int_le, Bool, true, false, eqb}
use Rattle.std.proofs.Common.{List, [], ◌∷◌, ◌++◌, length, map, take, drop, get_or, refl, sym, ap, arith, Option, Some}
use Rattle.std.proofs.Common.{None, Result, Ok, Err, IfSome, IsTrue}
use Rattle.std.specs.List.{All, list_all, zip}
use Rattle.std.proofs.lemmas.Bool.{or_parts, and_parts, and_from, eqb-false}
use Rattle.std.proofs.lemmas.Int.{ints, to_z-of_z}
use mir.Syntax.{w64}
use mir.Val.{to_z, of_z}
use Rattle.std.proofs.lemmas.List.{length-map}
use Rattle.std.proofs.lemmas.List.Elements.{All-cons, All-head, All-tail, All-map}
use Rattle.text_words.specs.Outcome.{◌>>=◌, Leaves}
use Rattle.text_words.specs.declared.outcome.Stop.{Stop}
use Rattle.text_words.proofs.OutcomeLemmas.{stops_same}
use Rattle.mesh_model.specs.Complex.{Complex}
use Rattle.mesh_model.specs.Table.{IsThere}
use Rattle.mesh_model.specs.Making.{with_vert, vert_at_point, with_face_told, edges_along}
use Rattle.mesh_model.specs.declared.limits.TheConstants.{MAX_VERTS}
use Rattle.mesh_model.specs.Valid.{are_distinct, is_in_range, is_material, is_smooth, IsSound}
use Rattle.mesh_model.proofs.MixedValues.{int_le-true, le-int_le}
use Rattle.mesh_model.proofs.WithPolygons.{AreSides, AreSides-turned, with_face_told-in}
use Rattle.mesh_model.specs.declared.draft.DraftCorner.{DraftCorner}
use Rattle.mesh_model.specs.declared.names.VertName.{VertName}
use Rattle.mesh_model.specs.declared.records.Point.{Point}
use Rattle.mesh_model.specs.declared.records.VertRec.{VertRec}
use Rattle.obj_format.specs.declared.obj_fault.ObjWhy.{ObjWhy}
use Rattle.obj_format.specs.declared.indices.Corner.{Corner}
use Rattle.obj_reader.specs.declared.parts.Parts.{Parts}
use Rattle.obj_format.specs.declared.texture.Uv.{Uv}
use Rattle.obj_format.specs.Indices.{IsRead}
use Rattle.obj_reader.specs.Values.{vert_of, stutters, point_of, ring_of, wire_of}
use Rattle.obj_reader.specs.Statements.{counts, limited, told, uv_at, with_point, with_ring, with_wire}
use Rattle.obj_reader.specs.Holding.{IsPlace, IsSide, told_sides, chain_sides, OnlyEdges, IsPolygonTold, IsRing, IsChain}
use Rattle.obj_reader.specs.Holding.{AreParts}
use Rattle.obj_reader.proofs.AlongLemmas.{only_edges}
use Rattle.obj_reader.proofs.HoldingLemmas.{parts_with_draft, live_push}
use Rattle.obj_reader.proofs.FitLemmas.{limited_within, vert_fits}

-- ---- SIDES

sides_from : (verts : List (Option VertRec)) (ks : List DraftCorner) (ws : List VertName) → AreSides verts (zip ks ws)
    → All (IsSide verts) (zip (map (λ (k : DraftCorner). k.vert) ks) ws)
sides_from verts [] ws are = λ i d less. absurd (omega arith)
sides_from verts (k ∷ ks) [] are = λ i d less. absurd (omega arith)
sides_from verts (k ∷ ks) (w ∷ ws) are =
    All-cons (IsSide verts) (k.vert, w) (zip (map (λ (j : DraftCorner). j.vert) ks) ws)
    (are.0.a, (are.0.b, are.0.differ)) (sides_from verts ks ws are.1)

-- the sides of a polygon that is told
pub sides_told : (c : Complex) (ks : List DraftCorner) → IsPolygonTold c ks → All (IsSide c.verts) (told_sides ks)
sides_told c ks told =
    let vs = map (λ (k : DraftCorner). k.vert) ks in
    sides_from c.verts ks (drop 1 vs ++ take 1 vs) (AreSides-turned c.verts ks told.least told.distinct told.there)

abbrev AreThere : List (Option VertRec) → List Corner → Type 0
AreThere verts ks = All (λ (k : Corner). IsThere verts k.vert) ks

-- the sides of a chain
pub sides_chain : (verts : List (Option VertRec)) (ks : List Corner) → stutters ks ≡ false → AreThere verts ks
    → All (IsSide verts) (zip (map vert_of ks) (drop 1 (map vert_of ks)))
sides_chain verts [] moves there = λ i d less. absurd (omega arith)
sides_chain verts (k ∷ []) moves there = λ i d less. absurd (omega arith)
sides_chain verts (j ∷ k ∷ ks) moves there =
    let P : Corner → Type 0 = λ x. IsThere verts x.vert in
    let rest = All-tail P j (k ∷ ks) there in
    let both = or_parts (eqb j.vert k.vert) (stutters (k ∷ ks)) moves in
    All-cons (IsSide verts) (vert_of j, vert_of k) (zip (map vert_of (k ∷ ks)) (map vert_of ks))
    (All-head P j (k ∷ ks) there, (All-head P k ks rest, eqb-false j.vert k.vert both.0))
    (sides_chain verts (k ∷ ks) both.1 rest)

-- ---- CORNERS

-- the vertices of corners that were read are there
pub there_read : (n : ℕ) (s : Parts) (ks : List Corner) → AreParts n s → All (IsRead (counts s)) ks
    → AreThere s.draft.verts ks
there_read n s ks h read = λ i d less. h.live (get_or ks i d).vert (read i d less).vert

map_told : (textures : List Uv) (ks : List Corner)
    → map (λ (k : DraftCorner). k.vert) (map (told textures) ks) ≡ map vert_of ks
map_told textures [] = refl
map_told textures (k ∷ ks) = ap (λ (vs : List VertName). vert_of k ∷ vs) (map_told textures ks)

and_last : (a b : Bool) → (a && b) ≡ true → (a && (b && true)) ≡ true
and_last true true h = refl
and_last true false h = h
and_last false b h = h

uv_range : (textures : List Uv) (t : Option ℕ) → All IsPlace textures → IfSome t (λ i. i < length textures)
    → list_all is_in_range (uv_at textures t) ≡ true
uv_range textures None places read = refl
uv_range textures (Some t) places read =
    let uv = get_or textures t (record { u = pos 0; v = pos 0 }) in
    and_last (is_in_range uv.u) (is_in_range uv.v) (places t (record { u = pos 0; v = pos 0 }) read)

-- corners that were read are told as a polygon
pub polygon_told : (n : ℕ) (s : Parts) (ks : List Corner) → AreParts n s → All (IsRead (counts s)) ks → IsRing ks
    → IsPolygonTold s.draft (map (told s.textures) ks)
polygon_told n s ks h read ring =
    let long = length-map ks (told s.textures) in
    record {
      least = omega (arith, ring.least);
      most = omega (arith, ring.most);
      distinct = ap are_distinct (map_told s.textures ks) ∙ ring.distinct;
      there = All-map (λ (k : DraftCorner). IsThere s.draft.verts k.vert.0) (told s.textures) ks
          (there_read n s ks h read);
      uv = All-map (λ (k : DraftCorner). IsTrue (list_all is_in_range k.uv)) (told s.textures) ks
          (λ i d less. uv_range s.textures (get_or ks i d).texture h.places (read i d less).texture);
    }

-- ---- WHAT HOLDS AFTERWARDS

-- a polygon is told of a complex with other edges too
pub polygon_ready : (old new : Complex) (ks : List DraftCorner) → OnlyEdges old new → IsPolygonTold old ks
    → IsPolygonTold new ks
polygon_ready old new ks kept h = record {
  least = h.least;
  most = h.most;
  distinct = h.distinct;
  there = rw (ap (λ (x : Complex). x.verts) kept) h.there;
  uv = h.uv;
}

-- a face more
pub parts_with_face : (n : ℕ) (s : Parts) (c : Complex) (ks : List DraftCorner) (material smooth : ℤ)
    → c ≡ with_face_told s.draft ks material smooth → IsSound c → AreParts n s
    → AreParts (n + 1) (record s { draft = c })
parts_with_face n s c ks material smooth made sound h =
    let told = made ∙ with_face_told-in s.draft ks material smooth in
    let verts : c.verts ≡ s.draft.verts = ap (λ (x : Complex). x.verts) told in
    parts_with_draft n s c sound (ap (λ (x : Complex). x.materials) told) (rw verts h.live) h

-- more edges
pub parts_with_edges : (n : ℕ) (s : Parts) (c : Complex) → OnlyEdges s.draft c → IsSound c → AreParts n s
    → AreParts (n + 1) (record s { draft = c })
parts_with_edges n s c kept sound h =
    let verts : c.verts ≡ s.draft.verts = ap (λ (x : Complex). x.verts) kept in
    parts_with_draft n s c sound (ap (λ (x : Complex). x.materials) kept) (rw verts h.live) h

-- the number of a material is in range
pub material_range : (c : Complex) (m : ℤ) → IsTrue (is_material c m) → length c.materials ≤ 1000000000
    → IsTrue (is_in_range m)
material_range c m h few =
    let both = and_parts (int_le (pos 0) m) (int_le m (pos (length c.materials))) h in
    let least = int_le-true (pos 0) m both.0 in
    let most = int_le-true m (pos (length c.materials)) both.1 in
    and_from (int_le (neg_ℤ (pos 1000000000)) m) (int_le m (pos 1000000000))
    (le-int_le (neg_ℤ (pos 1000000000)) m (omega (arith, ints)))
    (le-int_le m (pos 1000000000) (omega (arith, ints)))

-- the complex with its edges has nothing else anew
pub kept_made : (c d : Complex) (ss : List (VertName × VertName)) → d ≡ (edges_along c ss).0 → OnlyEdges c d
kept_made c d ss made = rw made (only_edges c ss)

-- edges along sides more
pub parts_along : (n : ℕ) (s : Parts) (d : Complex) (ss : List (VertName × VertName)) → d ≡ (edges_along s.draft ss).0
    → IsSound d
    → AreParts n s → AreParts (n + 1) (record s { draft = d })
parts_along n s d ss made sound h = parts_with_edges n s d (kept_made s.draft d ss made) sound h

-- a number in range is the same in a word of 64 bits
pub coded_same : (m : ℤ) → IsTrue (is_in_range m) → to_z w64 (of_z w64 m) ≡ m
coded_same m h =
    let both = and_parts (int_le (neg_ℤ (pos 1000000000)) m) (int_le m (pos 1000000000)) h in
    let least = int_le-true (neg_ℤ (pos 1000000000)) m both.0 in
    let most = int_le-true m (pos 1000000000) both.1 in
    to_z-of_z w64 m (omega (arith, ints))

-- what a face asks of a complex, on which it is told
pub record AreTold (c : Complex) (m g : ℤ) : Type 0 where
  pub material : IsTrue (is_material c m)
  pub material_in_range : IsTrue (is_in_range m)
  pub smooth : IsTrue (is_smooth g)
  pub smooth_in_range : IsTrue (is_in_range g)

-- the material and the smoothing group that were set may be a face's
pub parts_told : (n : ℕ) (s : Parts) (d : Complex) → OnlyEdges s.draft d → n ≤ 1000000000 → AreParts n s
    → AreTold d s.material s.smooth
parts_told n s d kept few h = record {
  material = rw (ap (λ (x : Complex). x.materials) kept) h.material;
  material_in_range = material_range s.draft s.material h.material (omega (arith, h.materials));
  smooth = h.smooth;
  smooth_in_range = h.smooth_in_range;
}

-- the material that was set is in range
pub range_of : (n : ℕ) (s : Parts) → n ≤ 1000000000 → AreParts n s → IsTrue (is_in_range s.material)
range_of n s few h = material_range s.draft s.material h.material (omega (arith, h.materials))

-- ---- WHAT LINES SAY

-- an equal outcome
pub leaves_same : {U A W : Type 0} (r : Result U (Stop W)) (x : A) (want other : Result A W) → want ≡ other
    → Leaves r x other → Leaves r x want
leaves_same (Ok u) x want other same h = same ∙ h
leaves_same (Err e) x want other same h = stops_same e other want same h

-- the face of a line whose corners were read
pub ring_told : (ws : List (List ℕ)) (s : Parts) (ks : List Corner) (ds : List DraftCorner)
    → ring_of (counts s) ws ≡ Ok ks → ds ≡ map (told s.textures) ks
    → with_ring ws s ≡ limited (with_face_told s.draft ds s.material s.smooth) s
ring_told ws s ks ds read same =
    ap (λ (r : Result (List Corner) ObjWhy). r >>= (λ js.
    limited (with_face_told s.draft (map (told s.textures) js) s.material s.smooth) s)) read
    ∙ ap (λ (es : List DraftCorner). limited (with_face_told s.draft es s.material s.smooth) s) (sym same)

-- the edges of a line whose corners were read
pub wire_told : (ws : List (List ℕ)) (s : Parts) (ks : List Corner) (ss : List (VertName × VertName))
    → wire_of (counts s) ws ≡ Ok ks → ss ≡ chain_sides ks
    → with_wire ws s ≡ limited (edges_along s.draft ss).0 s
wire_told ws s ks ss read same =
    ap (λ (r : Result (List Corner) ObjWhy). r >>= (λ js. limited (edges_along s.draft (chain_sides js)).0 s)) read
    ∙ ap (λ (ts : List (VertName × VertName)). limited (edges_along s.draft ts).0 s) (sym same)

-- the sides of a chain that was read
pub chain_read : (n : ℕ) (s : Parts) (ks : List Corner) → AreParts n s → All (IsRead (counts s)) ks → IsChain ks
    → All (IsSide s.draft.verts) (chain_sides ks)
chain_read n s ks h read chain = sides_chain s.draft.verts ks chain.moves (there_read n s ks h read)

-- the vertex of a line whose numbers were read
pub point_told : (scale : ℕ) (ws : List (List ℕ)) (s : Parts) (p : Point) (d : Complex) → point_of scale ws ≡ Ok p
    → IsSound s.draft → length s.draft.verts < MAX_VERTS
    → d ≡ with_vert s.draft (vert_at_point s.draft p) → with_point scale ws s ≡ Ok (record s { draft = d })
point_told scale ws s p d read sound room made =
    ap (λ (r : Result Point ObjWhy). r >>= (λ q. limited (with_vert s.draft (vert_at_point s.draft q)) s)) read
    ∙ limited_within (with_vert s.draft (vert_at_point s.draft p)) d s made
    (vert_fits s.draft (vert_at_point s.draft p) sound room)

-- a vertex more
pub parts_with_vert : (n : ℕ) (s : Parts) (r : VertRec) (d : Complex) → d ≡ with_vert s.draft r → IsSound d
    → AreParts n s → AreParts (n + 1) (record s { draft = d })
parts_with_vert n s r d made sound h =
    let verts : d.verts ≡ s.draft.verts ++ Some r ∷ [] = ap (λ (x : Complex). x.verts) made in
    parts_with_draft n s d sound (ap (λ (x : Complex). x.materials) made) (rw verts (live_push s.draft.verts r h.live))
    h
