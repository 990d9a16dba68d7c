-- Where a face may be made: what its calls ask, and what they leave.
use Rattle.std.proofs.Common.{◌≡◌, ℕ, ◌+◌, ◌^◌, ◌<◌, ◌≤◌, List, [], ◌∷◌, length, get_or, nat_le, refl, sym, ap, ◌∙◌, subst, arith}
use Rattle.std.proofs.Common.{Some, None, All, true, ◌++◌}
use Rattle.std.specs.Option.{option_map}
use Rattle.std.specs.List.{zip}
use Rattle.std.proofs.lemmas.Bool.{leb-true}
use Rattle.std.proofs.lemmas.Slice.Zip.{length-zip}
use Rattle.mesh_model.specs.Table.{IsThere}
use Rattle.mesh_model.specs.Complex.{Complex, corner_sum, counters_of}
use Rattle.mesh_model.specs.Closure.{new_between}
use Rattle.mesh_model.specs.Incidence.{sides}
use Rattle.mesh_model.specs.Kernel.{with_face_like}
use Rattle.mesh_model.specs.Lookups.{least_face}
use Rattle.mesh_model.specs.Making.{edges_along}
use Rattle.mesh_model.specs.Refusals.{unless, refused_at, unless_too_many}
use Rattle.mesh_model.specs.Valid.{are_distinct}
use Rattle.mesh_model.specs.declared.limits.TheConstants.{MIN_SIDES, MAX_SIDES, MAX_FACES}
use Rattle.mesh_model.specs.declared.names.VertName.{VertName}
use Rattle.mesh_model.specs.declared.names.EdgeName.{EdgeName}
use Rattle.mesh_model.specs.declared.names.Elem.TheVariants.{Vert, Face}
use Rattle.mesh_model.specs.declared.records.Counters.{Counters}
use Rattle.mesh_model.specs.declared.refusal.Why.TheVariants.{TooShort, TooLong, Repeated, Exists}
use Rattle.mesh_model.proofs.Polygons.{distinct-from, distinct-at}
use Rattle.mesh_model.proofs.Tables.{there-below}
use Rattle.mesh_passes.proofs.Conditions.{none_refused, unless_holds, last_of, within_limits}
use Rattle.op_basic.specs.Making.{has_just, least_repeated, with_face_on, make_face_refusal}
use Rattle.op_basic.specs.Searching.{missing, edges_and_face}
use Rattle.op_basic.proofs.MadeEdges.{no_vert}
use Rattle.op_basic.proofs.MadeFaces.{MayFace, apart, few_faces, few_corners, corners_there, length-sided, face_made}
use Rattle.op_basic.proofs.MadeFaces.{sides_apart, faces_along, counted_on}
use Rattle.op_basic.proofs.NewNames.{new_face_names}
use Rattle.op_basic.proofs.SideEdges.{only_edges, more_along, length-missing}
use Rattle.std.proofs.lemmas.List.{length-append}

pub may_face : (c : Complex) (vs : List VertName) → All (λ (v : VertName). IsThere c.verts v.0) vs
    → make_face_refusal vs c ≡ None → MayFace c vs
may_face c vs live h =
    let short = unless (nat_le MIN_SIDES (length vs)) TooShort in
    let long = unless (nat_le (length vs) MAX_SIDES) TooLong in
    let repeated = refused_at Repeated (option_map Vert (least_repeated c vs)) in
    let exists = refused_at Exists (option_map Face (least_face (has_just vs) c)) in
    let many = unless_too_many (with_face_on c vs) in
    let first = none_refused short (long ∷ repeated ∷ exists ∷ many ∷ []) h in
    let second = none_refused long (repeated ∷ exists ∷ many ∷ []) first.1 in
    let third = none_refused repeated (exists ∷ many ∷ []) second.1 in
    let fourth = none_refused exists (many ∷ []) third.1 in
    record {
      least = leb-true MIN_SIDES (length vs) (unless_holds (nat_le MIN_SIDES (length vs)) TooShort first.0);
      most = leb-true (length vs) MAX_SIDES (unless_holds (nat_le (length vs) MAX_SIDES) TooLong second.0);
      there = live;
      apart = apart c vs (no_vert (least_repeated c vs) third.0)
          (λ i d less. there-below c.verts (get_or vs i d).0 (live i d less));
      limits = within_limits (with_face_on c vs) (last_of many ∙ fourth.1);
    }

module _ (c : Complex) (vs : List VertName) (may : MayFace c vs) where
  pub distinct : are_distinct vs ≡ true
  distinct = distinct-from vs may.apart

  -- what its name list is
  pub slots_are : new_between c (with_face_on c vs) ≡ edges_and_face c (missing c (sides vs))
  slots_are =
      let made = edges_along c (sides vs) in
      let more = more_along c (sides vs) in
      let long = length-missing c (sides vs) (sides_apart vs may.least may.apart) in
      let all = ap length more.1 in
      let parts = length-append c.edges more.0 in
      let count : length more.0 ≡ missing c (sides vs) = omega arith in
      new_face_names c (with_face_on c vs) more (face_made c vs)
      (ap (λ (x : Complex). x.verts) (only_edges c (sides vs))) (faces_in (sides vs))
      ∙ ap (edges_and_face c) count
    where
      faces_in : (ss : List (VertName × VertName)) → (edges_along c ss).0.faces ++ Some (face_made c vs) ∷ []
          ≡ c.faces ++ Some (face_made c vs) ∷ []
      faces_in ss = rw (faces_along c ss) refl

module _ (c m : Complex) (vs : List VertName) (ks : List (VertName × EdgeName)) (may : MayFace c vs)
    (made : m ≡ (edges_along c (sides vs)).0) (corners : ks ≡ zip vs (edges_along c (sides vs)).1) where
  pub face_limit : length m.faces < MAX_FACES
  face_limit = subst (λ (x : Complex). length x.faces < MAX_FACES) (sym made) (few_faces c vs may)

  long : length ks ≡ length vs
  long =
      let zipped = length-zip vs (edges_along c (sides vs)).1 in
      let side = length-sided c vs in
      let all = ap length corners in
      omega arith

  pub face_some : 1 ≤ length ks
  face_some = let least = may.least in omega (arith, long)

  pub face_few : corner_sum m.faces + length ks ≤ 2 ^ 24
  face_few =
      let few = few_corners c vs may in
      let sum = ap (λ (x : Complex). corner_sum x.faces) made in
      let all = ap length corners in
      omega arith

  pub face_verts : All (λ (k : VertName × EdgeName). IsThere m.verts k.0.0) ks
  face_verts = subst (λ (x : Complex). All (λ (k : VertName × EdgeName). IsThere x.verts k.0.0) ks) (sym made)
      (subst (λ (js : List (VertName × EdgeName)).
      All (λ (k : VertName × EdgeName). IsThere (edges_along c (sides vs)).0.verts k.0.0) js)
      (sym corners) (λ i d less. (corners_there c vs may.there i d less).0))

  pub face_edges : All (λ (k : VertName × EdgeName). IsThere m.edges k.1.0) ks
  face_edges = subst (λ (x : Complex). All (λ (k : VertName × EdgeName). IsThere x.edges k.1.0) ks) (sym made)
      (subst (λ (js : List (VertName × EdgeName)).
      All (λ (k : VertName × EdgeName). IsThere (edges_along c (sides vs)).0.edges k.1.0) js)
      (sym corners) (λ i d less. (corners_there c vs may.there i d less).1))

  pub face_done : (n : Complex) → n ≡ with_face_like m ks None → n ≡ with_face_on c vs
  face_done n call = call ∙ ap (λ (x : Complex). with_face_like x ks None) made
      ∙ ap (λ (js : List (VertName × EdgeName)). with_face_like (edges_along c (sides vs)).0 js None) corners

-- the counts then
pub many_told : (c : Complex) (vs : List VertName) (n : Counters) (k : ℕ) → 3 ≤ length vs → are_distinct vs ≡ true
    → n ≡ counters_of c → k ≡ missing c (sides vs)
    → record { verts = n.verts; edges = n.edges + k; faces = n.faces + 1; corners = n.corners + length vs }
    ≡ counters_of (with_face_on c vs)
many_told c vs n k least distinct is count =
    ap (λ (m : Counters). let r : Counters =
    record { verts = m.verts; edges = m.edges + k; faces = m.faces + 1; corners = m.corners + length vs } in r) is
    ∙ ap (λ (j : ℕ). let r : Counters = record {
      verts = length c.verts;
      edges = length c.edges + j;
      faces = length c.faces + 1;
      corners = corner_sum c.faces + length vs;
    } in r) count
    ∙ counted_on c vs least (distinct-at vs distinct)
