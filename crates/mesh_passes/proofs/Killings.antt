-- Elements taken away, one after another, as one change.
use Rattle.std.proofs.Common.{◌≡◌, ℕ, ◌+◌, ◌<◌, Bool, true, false, not, eqb, ◌&&◌, ◌||◌, List, [], ◌∷◌, ◌++◌, length, map}
use Rattle.std.proofs.Common.{zero, suc, take, get_or, refl, sym, ap, ◌∙◌, subst, inl, inr, Option, Some, None, cond}
use Rattle.std.specs.List.{list_any, list_all}
use Rattle.std.proofs.lemmas.List.Folds.{list_any_more, list_any_none}
use Rattle.std.proofs.lemmas.Bool.{cases_Bool, cond-true, cond-false, not-true, not_from_false, or_parts}
use Rattle.std.specs.Cmp.{nat_eq_equiv}
use Rattle.mesh_model.specs.Table.{at, kept, kept_names, only_if, passes, IsThere}
use Rattle.mesh_model.specs.Complex.{Complex}
use Rattle.mesh_model.specs.Elements.{is_among}
use Rattle.mesh_model.specs.Closure.{is_edge_among, is_face_among}
use Rattle.mesh_model.specs.Naming.{is_rising, vert_numbers, edge_numbers, face_numbers}
use Rattle.mesh_model.specs.Incidence.{has_end, is_along, uses_edge, uses_vert, is_loose, is_bare}
use Rattle.mesh_model.specs.Kernel.{without_face, without_edge, without_vert, uses_edge_at, can_lose_vert}
use Rattle.mesh_model.specs.Deleting.{has_end_among, has_corner_among, without_verts}
use Rattle.mesh_model.specs.Valid.{IsValid}
use Rattle.mesh_model.specs.declared.names.VertName.{VertName}
use Rattle.mesh_model.specs.declared.names.EdgeName.{EdgeName}
use Rattle.mesh_model.specs.declared.names.FaceName.{FaceName}
use Rattle.mesh_model.specs.declared.records.VertRec.{VertRec}
use Rattle.mesh_model.specs.declared.records.EdgeRec.{EdgeRec}
use Rattle.mesh_model.specs.declared.records.CornerRec.{CornerRec}
use Rattle.mesh_model.specs.declared.records.FaceRec.{FaceRec}
use Rattle.mesh_model.proofs.Tables.{kept-same, kept-all, kept_names-all, kept_names-same, at-kept, at-kept_names}
use Rattle.mesh_model.proofs.Tables.{same_tables, length-kept, length-kept_names}
use Rattle.mesh_passes.specs.Killing.{uses_edge_among, without_faces, without_edges, without_loose, without_bare}
use Rattle.mesh_passes.specs.KillingSteps.{without_if_loose, without_if_bare}
use Rattle.mesh_passes.proofs.Named.{one_killed, one_kept, still_there, next_killed, next_there}

abbrev number_of_vert : VertName → ℕ
number_of_vert v = v.0

abbrev number_of_edge : EdgeName → ℕ
number_of_edge e = e.0

abbrev number_of_face : FaceName → ℕ
number_of_face f = f.0

-- where none passes, none passes at a name
pub none_at : {X : Type 0} (p : X → Bool) (t : List (Option X)) → list_any (passes p) t ≡ false → (n : ℕ)
    → passes p (at t n) ≡ false
none_at p [] h n = refl
none_at p (o ∷ os) h zero = (or_parts (passes p o) (list_any (passes p) os) h).0
none_at p (o ∷ os) h (suc n) = none_at p os (or_parts (passes p o) (list_any (passes p) os) h).1 n

-- where no record passes, all that don't are all
pub all_kept : {X : Type 0} (p : X → Bool) (t : List (Option X)) → list_any (passes p) t ≡ false
    → kept (λ x. not (p x)) t ≡ t
all_kept {X = X} p t h = kept-all (λ x. not (p x)) t (λ n x is.
    not_from_false (p x) (sym (ap (passes p) is) ∙ none_at p t h n))

-- ---- FACES

pub faces_none : (c : Complex) → without_faces c [] ≡ c
unfolding without_faces
faces_none c = ap (λ (t : List (Option FaceRec)). record c { faces = t })
    (kept_names-all (λ n. not (is_face_among [] (record { 0 = n }))) c.faces (λ n. refl))

pub faces_more : (c : Complex) (fs : List FaceName) (i : ℕ) (d : FaceName) → i < length fs
    → without_face (without_faces c (take i fs)) (get_or fs i d) ≡ without_faces c (take (i + 1) fs)
unfolding without_faces
faces_more c fs i d less =
    ap (λ (t : List (Option FaceRec)). record c { faces = t }) (next_killed number_of_face fs c.faces i d less)

pub faces_live : (c : Complex) (fs : List FaceName) (i : ℕ) (d : FaceName) → is_rising (face_numbers fs) ≡ true
    → i < length fs → IsThere c.faces (get_or fs i d).0
    → IsThere (without_faces c (take i fs)).faces (get_or fs i d).0
unfolding without_faces
faces_live c fs i d rising less there = next_there number_of_face fs c.faces i d rising less there

-- ---- EDGES, WITH THE FACES ALONG THEM

pub edges_none : (c : Complex) → without_edges c [] ≡ c
unfolding without_edges
edges_none c = rw (
  kept_names-all (λ n. not (is_edge_among [] (record { 0 = n }))) c.edges (λ n. refl),
  kept-all (λ f. not (uses_edge_among [] f)) c.faces (λ n f is.
      not_from_false (uses_edge_among [] f) (list_any_none (λ (k : CornerRec). is_edge_among [] k.edge) f.corners
      (λ i d less. refl))),
) refl

or_apart : (a b : Bool) → (not a && not b) ≡ not (a || b)
or_apart true b = refl
or_apart false b = refl

pub any_or : {X : Type 0} (p q : X → Bool) (xs : List X) → list_any (λ x. p x || q x) xs ≡ (list_any p xs || list_any q xs)
any_or p q [] = refl
any_or p q (x ∷ xs) = ap (λ (b : Bool). (p x || q x) || b) (any_or p q xs)
    ∙ regroup (p x) (q x) (list_any p xs) (list_any q xs)
  where
    regroup : (a b c d : Bool) → ((a || b) || (c || d)) ≡ ((a || c) || (b || d))
    regroup true b c d = refl
    regroup false true true d = refl
    regroup false true false d = refl
    regroup false false true d = refl
    regroup false false false d = refl

pub any_same : {X : Type 0} (p q : X → Bool) (xs : List X) → ((x : X) → p x ≡ q x) → list_any p xs ≡ list_any q xs
any_same p q [] h = refl
any_same p q (x ∷ xs) h = rw (h x, any_same p q xs h) refl

-- one edge more along which a face may have a corner
uses_more : (es : List EdgeName) (i : ℕ) (d : EdgeName) (f : FaceRec) → i < length es
    → uses_edge_among (take (i + 1) es) f ≡ (uses_edge_among (take i es) f || uses_edge (get_or es i d) f)
uses_more es i d f less =
    any_same (λ (k : CornerRec). is_edge_among (take (i + 1) es) k.edge)
    (λ (k : CornerRec). is_edge_among (take i es) k.edge || eqb (get_or es i d).0 k.edge.0) f.corners
    (λ k. list_any_more (λ (x : EdgeName). eqb x.0 k.edge.0) es i d less)
    ∙ any_or (λ (k : CornerRec). is_edge_among (take i es) k.edge) (λ (k : CornerRec). eqb (get_or es i d).0 k.edge.0)
    f.corners
    ∙ ap (λ (b : Bool). uses_edge_among (take i es) f || b)
    (any_same (λ (k : CornerRec). eqb (get_or es i d).0 k.edge.0) (is_along (get_or es i d)) f.corners
    (λ k. nat_eq_equiv.symm (get_or es i d).0 k.edge.0))

-- two tests, one after the other, are both
pub kept_twice : {X : Type 0} (p q r : X → Bool) (t : List (Option X)) → ((x : X) → r x ≡ (p x && q x))
    → kept q (kept p t) ≡ kept r t
kept_twice {X = X} p q r t h = same_tables (kept q (kept p t)) (kept r t)
    (length-kept q (kept p t) ∙ length-kept p t ∙ sym (length-kept r t))
    (λ n. at-kept q (kept p t) n ∙ ap (only_if q) (at-kept p t n) ∙ both (at t n) ∙ sym (at-kept r t n))
  where
    both : (o : Option X) → only_if q (only_if p o) ≡ only_if r o
    both None = refl
    both (Some x) = by_first (p x) refl
      where
        by_first : (b : Bool) → p x ≡ b → only_if q (cond b (Some x) None) ≡ cond (r x) (Some x) None
        by_first true is = ap (λ (b : Bool). cond b (Some x) None) (sym (h x ∙ ap (λ (a : Bool). a && q x) is))
        by_first false is = ap (λ (b : Bool). cond b (Some x) None) (sym (h x ∙ ap (λ (a : Bool). a && q x) is))

pub edges_more : (c : Complex) (es : List EdgeName) (i : ℕ) (d : EdgeName) → i < length es
    → without_edge (without_edges c (take i es)) (get_or es i d) ≡ without_edges c (take (i + 1) es)
unfolding without_edges
edges_more c es i d less = rw (
  next_killed number_of_edge es c.edges i d less,
  kept_twice (λ f. not (uses_edge_among (take i es) f)) (λ f. not (uses_edge (get_or es i d) f))
      (λ f. not (uses_edge_among (take (i + 1) es) f)) c.faces
      (λ f. ap not (uses_more es i d f less)
      ∙ sym (or_apart (uses_edge_among (take i es) f) (uses_edge (get_or es i d) f))),
) refl

pub edges_live : (c : Complex) (es : List EdgeName) (i : ℕ) (d : EdgeName) → is_rising (edge_numbers es) ≡ true
    → i < length es → IsThere c.edges (get_or es i d).0
    → IsThere (without_edges c (take i es)).edges (get_or es i d).0
unfolding without_edges
edges_live c es i d rising less there = next_there number_of_edge es c.edges i d rising less there

-- ---- LOOSE EDGES

pub loose_none : (c : Complex) → without_loose c [] ≡ c
unfolding without_loose
loose_none c = ap (λ (t : List (Option EdgeRec)). record c { edges = t })
    (kept_names-all (λ n. not (is_edge_among [] (record { 0 = n }) && is_loose c (record { 0 = n }))) c.edges (λ n. refl))

abbrev loose_at : Complex → ℕ → Bool
loose_at c n = is_loose c (record { 0 = n })

loose_kill : (c : Complex) (es : List EdgeName) (i : ℕ) (d : EdgeName) → i < length es
    → is_loose (without_loose c (take i es)) (get_or es i d) ≡ true
    → without_edge (without_loose c (take i es)) (get_or es i d) ≡ without_loose c (take (i + 1) es)
unfolding without_loose
loose_kill c es i d less loose = rw (
  one_killed number_of_edge es (loose_at c) c.edges i d less loose,
  all_kept (uses_edge (get_or es i d)) c.faces
      (not-true (list_any (passes (uses_edge (get_or es i d))) c.faces) loose),
) refl

loose_keep : (c : Complex) (es : List EdgeName) (i : ℕ) (d : EdgeName) → i < length es
    → is_loose (without_loose c (take i es)) (get_or es i d) ≡ false
    → without_loose c (take i es) ≡ without_loose c (take (i + 1) es)
unfolding without_loose
loose_keep c es i d less used = ap (λ (t : List (Option EdgeRec)). record c { edges = t })
    (one_kept number_of_edge es (loose_at c) c.edges i d less used)

pub loose_live : (c : Complex) (es : List EdgeName) (i : ℕ) (d : EdgeName) → is_rising (edge_numbers es) ≡ true
    → i < length es → IsThere c.edges (get_or es i d).0
    → IsThere (without_loose c (take i es)).edges (get_or es i d).0
unfolding without_loose
loose_live c es i d rising less there = still_there number_of_edge es (loose_at c) c.edges i d rising less there

pub loose_more : (c : Complex) (es : List EdgeName) (i : ℕ) (d : EdgeName) → i < length es
    → without_if_loose (without_loose c (take i es)) (get_or es i d) ≡ without_loose c (take (i + 1) es)
unfolding without_if_loose
loose_more c es i d less =
    let m = without_loose c (take i es) in
    elim (cases_Bool (is_loose m (get_or es i d))) [
      | inl is ↦ cond-true (is_loose m (get_or es i d)) (without_edge m (get_or es i d)) m is
          ∙ loose_kill c es i d less is
      | inr is ↦ cond-false (is_loose m (get_or es i d)) (without_edge m (get_or es i d)) m is
          ∙ loose_keep c es i d less is
    ]

-- ---- BARE VERTICES

-- no face has a corner along an edge of a bare vertex
no_edge_there : (c : Complex) (v : VertName) → is_bare c v ≡ true → (o : Option FaceRec)
    → passes (uses_edge_at c v) o ≡ false
no_edge_there c v bare None = refl
no_edge_there c v bare (Some f) = list_any_none (λ (k : CornerRec). passes (has_end v) (at c.edges k.edge.0)) f.corners
    (λ i d less. none_at (has_end v) c.edges (not-true (list_any (passes (has_end v)) c.edges) bare)
    (get_or f.corners i d).edge.0)

pub bare_none : (c : Complex) → without_bare c [] ≡ c
unfolding without_bare
bare_none c = ap (λ (t : List (Option VertRec)). record c { verts = t })
    (kept_names-all (λ n. not (is_among [] (record { 0 = n }) && is_bare c (record { 0 = n }))) c.verts (λ n. refl))

abbrev bare_at : Complex → ℕ → Bool
bare_at c n = is_bare c (record { 0 = n })

bare_kill : (c : Complex) (vs : List VertName) (i : ℕ) (d : VertName) → i < length vs
    → is_bare (without_bare c (take i vs)) (get_or vs i d) ≡ true
    → without_vert (without_bare c (take i vs)) (get_or vs i d) ≡ without_bare c (take (i + 1) vs)
unfolding without_bare
bare_kill c vs i d less bare = rw (
  one_killed number_of_vert vs (bare_at c) c.verts i d less bare,
  all_kept (has_end (get_or vs i d)) c.edges
      (not-true (list_any (passes (has_end (get_or vs i d))) c.edges) bare),
  kept-all (λ f. not (uses_edge_at c (get_or vs i d) f)) c.faces (λ n f is.
      not_from_false (uses_edge_at c (get_or vs i d) f) (no_edge_there c (get_or vs i d) bare (Some f))),
) refl

bare_keep : (c : Complex) (vs : List VertName) (i : ℕ) (d : VertName) → i < length vs
    → is_bare (without_bare c (take i vs)) (get_or vs i d) ≡ false
    → without_bare c (take i vs) ≡ without_bare c (take (i + 1) vs)
unfolding without_bare
bare_keep c vs i d less used = ap (λ (t : List (Option VertRec)). record c { verts = t })
    (one_kept number_of_vert vs (bare_at c) c.verts i d less used)

pub bare_live : (c : Complex) (vs : List VertName) (i : ℕ) (d : VertName) → is_rising (vert_numbers vs) ≡ true
    → i < length vs → IsThere c.verts (get_or vs i d).0
    → IsThere (without_bare c (take i vs)).verts (get_or vs i d).0
unfolding without_bare
bare_live c vs i d rising less there = still_there number_of_vert vs (bare_at c) c.verts i d rising less there

pub bare_more : (c : Complex) (vs : List VertName) (i : ℕ) (d : VertName) → i < length vs
    → without_if_bare (without_bare c (take i vs)) (get_or vs i d) ≡ without_bare c (take (i + 1) vs)
unfolding without_if_bare
bare_more c vs i d less =
    let m = without_bare c (take i vs) in
    elim (cases_Bool (is_bare m (get_or vs i d))) [
      | inl is ↦ cond-true (is_bare m (get_or vs i d)) (without_vert m (get_or vs i d)) m is
          ∙ bare_kill c vs i d less is
      | inr is ↦ cond-false (is_bare m (get_or vs i d)) (without_vert m (get_or vs i d)) m is
          ∙ bare_keep c vs i d less is
    ]

-- what a vertex's going asks doesn't change
pub bare_spare : (c m : Complex) (vs : List VertName) (v : VertName) → m ≡ without_bare c vs → can_lose_vert c v ≡ true
    → is_bare m v ≡ true → can_lose_vert m v ≡ true
unfolding without_bare
bare_spare c m vs v is can bare = ap (λ (x : Complex). can_lose_vert x v) is ∙ can
