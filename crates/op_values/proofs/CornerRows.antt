-- The rows of the corners of a face changed, one after another, as one change.
use Rattle.std.proofs.Common.{◌≡◌, ℕ, zero, suc, ◌+◌, ◌<◌, ◌≤◌, ℤ, Bool, true, false, cond, eqb, List, [], ◌∷◌, ◌++◌, length}
use Rattle.std.proofs.Common.{map, take, drop, refl, sym, ap, subst, ◌∙◌, Option, Some, None, is_some, arith}
use Rattle.std.specs.Prelude.{slice_set, slice_get}
use Rattle.std.specs.Option.{option_map}
use Rattle.std.proofs.lemmas.List.{length-append, length-take, length-drop, length-map, take_all, drop_all, append-nil}
use Rattle.mesh_model.specs.Table.{at, update, IsThere}
use Rattle.mesh_model.specs.Complex.{Complex, corners_of}
use Rattle.mesh_model.specs.Kernel.{changed_at, with_corners_by, with_corner_vals}
use Rattle.mesh_model.specs.declared.names.FaceName.{FaceName}
use Rattle.mesh_model.specs.declared.records.CornerRec.{CornerRec}
use Rattle.mesh_model.specs.declared.records.FaceRec.{FaceRec}
use Rattle.mesh_model.proofs.Tables.{at-update, update-same, update-update}
use Rattle.op_values.specs.Putting.{with_corner_row, with_corner_rows, corners_put}

-- the first corners with other rows
abbrev pub half_put : (List ℤ → List ℤ) → ℕ → List CornerRec → List CornerRec
half_put f i ks = map (with_corner_row f) (take i ks) ++ drop i ks

-- one corner more
half_more : (f : List ℤ → List ℤ) (i : ℕ) (ks : List CornerRec) (k : CornerRec) (new : List ℤ)
    → slice_get ks i ≡ Some k → new ≡ f k.vals
    → changed_at (half_put f i ks) i (λ (x : CornerRec). record x { vals = new }) ≡ half_put f (suc i) ks
half_more f i [] k new is made = absurd (cc)
half_more f zero (x ∷ ks) k new is made =
    let same : x ≡ k = cc in
    ap (λ (vals : List ℤ). let y : CornerRec = record x { vals = vals } in y ∷ ks)
    (made ∙ ap (λ (y : CornerRec). f y.vals) (sym same))
half_more f (suc i) (x ∷ ks) k new is made =
    ap (λ (xs : List CornerRec). with_corner_row f x ∷ xs) (half_more f i ks k new is made)

update_where : {X : Type 0} (table : List (Option X)) (n : ℕ) (f g : X → X)
    → ((x : X) → at table n ≡ Some x → f x ≡ g x) → update table n f ≡ update table n g
update_where {X = X} table n f g h = ap (slice_set table n) (of (at table n) refl)
  where
    of : (o : Option X) → at table n ≡ o → option_map f o ≡ option_map g o
    of None is = refl
    of (Some x) is = ap (λ (y : X). let z : Option X = Some y in z) (h x is)

pub half-none : (f : List ℤ → List ℤ) (c : Complex) (x : FaceName) → with_corners_by c x (half_put f 0) ≡ c
half-none f c x = ap (λ (t : List (Option FaceRec)). record c { faces = t })
    (update-same c.faces x.0 (λ (r : FaceRec). record r { corners = half_put f 0 r.corners }) (λ r is. refl))

pub half-more : (f : List ℤ → List ℤ) (c : Complex) (x : FaceName) (i : ℕ) (k : CornerRec) (new : List ℤ)
    → slice_get (corners_of (at c.faces x.0)) i ≡ Some k → new ≡ f k.vals
    → with_corner_vals (with_corners_by c x (half_put f i)) x i new ≡ with_corners_by c x (half_put f (i + 1))
half-more f c x i k new here made =
    let one : CornerRec → CornerRec = λ y. record y { vals = new } in
    let next : suc i ≡ i + 1 = omega arith in
    ap (λ (t : List (Option FaceRec)). record c { faces = t })
    (update-update c.faces x.0 (λ (r : FaceRec). record r { corners = half_put f i r.corners })
    (λ (r : FaceRec). record r { corners = changed_at r.corners i one })
    ∙ update_where c.faces x.0
    (λ (r : FaceRec). let y : FaceRec = record r { corners = changed_at (half_put f i r.corners) i one } in y)
    (λ (r : FaceRec). record r { corners = half_put f (i + 1) r.corners }) (λ r is.
    ap (λ (ks : List CornerRec). let y : FaceRec = record r { corners = ks } in y)
    (half_more f i r.corners k new
    (ap (λ (o : Option FaceRec). slice_get (corners_of o) i) (sym is) ∙ here) made
    ∙ ap (λ (n : ℕ). half_put f n r.corners) next)))

pub half-all : (f : List ℤ → List ℤ) (c : Complex) (x : FaceName) (i : ℕ)
    → i ≡ length (corners_of (at c.faces x.0)) → with_corners_by c x (half_put f i) ≡ corners_put f c x
unfolding corners_put
half-all f c x i all = ap (λ (t : List (Option FaceRec)). record c { faces = t })
    (update_where c.faces x.0 (λ (r : FaceRec). record r { corners = half_put f i r.corners }) (with_corner_rows f)
    (λ r is. let long : length r.corners ≤ i = omega (arith, ap (λ (o : Option FaceRec). length (corners_of o)) is) in
    ap (λ (ks : List CornerRec). let y : FaceRec = record r { corners = ks } in y)
    (ap (λ (xs : List CornerRec). map (with_corner_row f) (take i r.corners) ++ xs) (drop_all i r.corners long)
    ∙ append-nil (map (with_corner_row f) (take i r.corners))
    ∙ ap (map (with_corner_row f)) (take_all i r.corners long))))

-- the face stands, with as many corners
pub half-there : (f : List ℤ → List ℤ) (c : Complex) (x : FaceName) (i : ℕ) → IsThere c.faces x.0
    → IsThere (with_corners_by c x (half_put f i)).faces x.0
half-there f c x i there =
    ap is_some (at-update c.faces x.0 x.0 (λ (r : FaceRec). record r { corners = half_put f i r.corners }))
    ∙ either (eqb x.0 x.0) (at c.faces x.0) there
  where
    either : (b : Bool) (o : Option FaceRec) → is_some o ≡ true
        → is_some (cond b
        (option_map (λ (r : FaceRec). let y : FaceRec = record r { corners = half_put f i r.corners } in y) o) o) ≡ true
    either true None h = h
    either true (Some r) h = refl
    either false o h = h

pub half-long : (f : List ℤ → List ℤ) (c : Complex) (x : FaceName) (i : ℕ) → i < length (corners_of (at c.faces x.0))
    → i < length (corners_of (at (with_corners_by c x (half_put f i)).faces x.0))
half-long f c x i less =
    subst (λ (n : ℕ). i < n) (sym (ap (λ (o : Option FaceRec). length (corners_of o))
    (at-update c.faces x.0 x.0 (λ (r : FaceRec). record r { corners = half_put f i r.corners }))
    ∙ either (eqb x.0 x.0) (at c.faces x.0))) less
  where
    same : (ks : List CornerRec) → length (half_put f i ks) ≡ length ks
    same ks = omega (
      arith,
      length-append (map (with_corner_row f) (take i ks)) (drop i ks),
      length-map (take i ks) (with_corner_row f),
      length-take i ks,
      length-drop i ks,
    )

    either : (b : Bool) (o : Option FaceRec)
        → length (corners_of (cond b
        (option_map (λ (r : FaceRec). let y : FaceRec = record r { corners = half_put f i r.corners } in y) o) o))
        ≡ length (corners_of o)
    either true None = refl
    either true (Some r) = same r.corners
    either false o = refl
