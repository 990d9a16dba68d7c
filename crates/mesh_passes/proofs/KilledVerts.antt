-- Vertices taken away with their edges and faces, one after another, as one change.
use Rattle.std.proofs.Common.{◌≡◌, ℕ, ◌+◌, ◌<◌, Bool, true, false, not, eqb, ◌&&◌, ◌||◌, List, [], ◌∷◌, length, take, get_or}
use Rattle.std.proofs.Common.{refl, sym, ap, ◌∙◌, Option, Some, None, cond}
use Rattle.std.specs.List.{list_any}
use Rattle.std.proofs.lemmas.Bool.{not_from_false}
use Rattle.std.proofs.lemmas.List.Folds.{list_any_more, list_any_none}
use Rattle.mesh_model.specs.Table.{at, kept, kept_names, only_if, IsThere}
use Rattle.mesh_model.specs.Complex.{Complex}
use Rattle.mesh_model.specs.Elements.{is_among}
use Rattle.mesh_model.specs.Naming.{is_rising, vert_numbers}
use Rattle.mesh_model.specs.Kernel.{without_vert, can_lose_vert}
use Rattle.mesh_model.specs.Deleting.{has_end_among, has_corner_among, without_verts}
use Rattle.mesh_model.specs.Valid.{IsValid}
use Rattle.mesh_model.specs.declared.names.VertName.{VertName}
use Rattle.mesh_model.specs.declared.records.EdgeRec.{EdgeRec}
use Rattle.mesh_model.specs.declared.records.CornerRec.{CornerRec}
use Rattle.mesh_model.specs.declared.records.FaceRec.{FaceRec}
use Rattle.mesh_model.proofs.Tables.{kept-all, kept_names-all, at-kept_names, same_tables, length-kept_names}
use Rattle.mesh_model.proofs.Deletings.{AreClosed-valid, IsValid-without_verts}
use Rattle.mesh_model.proofs.KernelKillings.{without_vert-without_verts}
use Rattle.mesh_passes.proofs.Named.{next_there}
use Rattle.mesh_passes.proofs.Killings.{any_or, any_same, kept_twice}
use Rattle.mesh_passes.proofs.KilledParts.{can_lose}

-- two tests of names, one after the other, are both
kept_names_twice : {X : Type 0} (p q r : ℕ → Bool) (t : List (Option X)) → ((n : ℕ) → r n ≡ (p n && q n))
    → kept_names q (kept_names p t) ≡ kept_names r t
kept_names_twice {X = X} p q r t h = same_tables (kept_names q (kept_names p t)) (kept_names r t)
    (length-kept_names q (kept_names p t) ∙ length-kept_names p t ∙ sym (length-kept_names r t))
    (λ n. at-kept_names q (kept_names p t) n
    ∙ ap (only_if (λ (_ : X). q n)) (at-kept_names p t n)
    ∙ both (p n) (q n) (r n) (h n) (at t n)
    ∙ sym (at-kept_names r t n))
  where
    both : (a b e : Bool) → e ≡ (a && b) → (o : Option X)
        → only_if (λ (_ : X). b) (only_if (λ (_ : X). a) o) ≡ only_if (λ (_ : X). e) o
    both a b e is None = refl
    both true b e is (Some x) = ap (λ (k : Bool). cond k (Some x) None) (sym is)
    both false b e is (Some x) = ap (λ (k : Bool). cond k (Some x) None) (sym is)

-- neither among some nor one more
neither : (a b : Bool) → not (a || b) ≡ (not a && not (b || false))
neither true b = refl
neither false true = refl
neither false false = refl

-- no end among some nor at one more
neither_end : (a b x y : Bool) → not ((a || x) || (b || y)) ≡ (not (a || b) && not ((x || false) || (y || false)))
neither_end true b x y = refl
neither_end false true true y = refl
neither_end false true false y = refl
neither_end false false true y = refl
neither_end false false false true = refl
neither_end false false false false = refl

or_false : (b : Bool) → (b || false) ≡ b
or_false true = refl
or_false false = refl

more_among : (vs : List VertName) (i : ℕ) (d w : VertName) → i < length vs
    → is_among (take (i + 1) vs) w ≡ (is_among (take i vs) w || eqb (get_or vs i d).0 w.0)
more_among vs i d w less = list_any_more (λ (x : VertName). eqb x.0 w.0) vs i d less

-- without some, and then without one more
with_one_more : (c : Complex) (vs : List VertName) (i : ℕ) (d : VertName) → i < length vs
    → without_verts (without_verts c (take i vs)) (get_or vs i d ∷ []) ≡ without_verts c (take (i + 1) vs)
with_one_more c vs i d less = rw (
  kept_names_twice (λ n. not (is_among (take i vs) (record { 0 = n })))
      (λ n. not (is_among (get_or vs i d ∷ []) (record { 0 = n })))
      (λ n. not (is_among (take (i + 1) vs) (record { 0 = n }))) c.verts
      (λ n. ap not (more_among vs i d (record { 0 = n }) less)
      ∙ neither (is_among (take i vs) (record { 0 = n })) (eqb (get_or vs i d).0 n)),
  kept_twice (λ e. not (has_end_among (take i vs) e)) (λ e. not (has_end_among (get_or vs i d ∷ []) e))
      (λ e. not (has_end_among (take (i + 1) vs) e)) c.edges edge_spared,
  kept_twice (λ f. not (has_corner_among (take i vs) f)) (λ f. not (has_corner_among (get_or vs i d ∷ []) f))
      (λ f. not (has_corner_among (take (i + 1) vs) f)) c.faces face_spared,
) refl
  where
    edge_spared : (e : EdgeRec) → not (has_end_among (take (i + 1) vs) e)
        ≡ (not (has_end_among (take i vs) e) && not (has_end_among (get_or vs i d ∷ []) e))
    edge_spared e = rw (more_among vs i d e.a less, more_among vs i d e.b less)
        (neither_end (is_among (take i vs) e.a) (is_among (take i vs) e.b) (eqb (get_or vs i d).0 e.a.0)
        (eqb (get_or vs i d).0 e.b.0))

    face_spared : (f : FaceRec) → not (has_corner_among (take (i + 1) vs) f)
        ≡ (not (has_corner_among (take i vs) f) && not (has_corner_among (get_or vs i d ∷ []) f))
    face_spared f =
        ap not (any_same (λ (k : CornerRec). is_among (take (i + 1) vs) k.vert)
        (λ (k : CornerRec). is_among (take i vs) k.vert || is_among (get_or vs i d ∷ []) k.vert) f.corners
        (λ k. more_among vs i d k.vert less
        ∙ ap (λ (b : Bool). is_among (take i vs) k.vert || b) (sym (or_false (eqb (get_or vs i d).0 k.vert.0))))
        ∙ any_or (λ (k : CornerRec). is_among (take i vs) k.vert)
        (λ (k : CornerRec). is_among (get_or vs i d ∷ []) k.vert) f.corners)
        ∙ apart (has_corner_among (take i vs) f) (has_corner_among (get_or vs i d ∷ []) f)
      where
        apart : (a b : Bool) → not (a || b) ≡ (not a && not b)
        apart true b = refl
        apart false b = refl

pub verts_none : (c : Complex) → without_verts c [] ≡ c
verts_none c = rw (
  kept_names-all (λ n. not (is_among [] (record { 0 = n }))) c.verts (λ n. refl),
  kept-all (λ e. not (has_end_among [] e)) c.edges (λ n e is. refl),
  kept-all (λ f. not (has_corner_among [] f)) c.faces (λ n f is. not_from_false (has_corner_among [] f)
      (list_any_none (λ (k : CornerRec). is_among [] k.vert) f.corners (λ i d less. refl))),
) refl

-- the next one goes
pub verts_more : (c : Complex) (vs : List VertName) (i : ℕ) (d : VertName) → IsValid c → i < length vs
    → without_vert (without_verts c (take i vs)) (get_or vs i d) ≡ without_verts c (take (i + 1) vs)
verts_more c vs i d h less =
    without_vert-without_verts (without_verts c (take i vs)) (get_or vs i d)
    (AreClosed-valid (without_verts c (take i vs)) (IsValid-without_verts c (take i vs) h))
    ∙ with_one_more c vs i d less

-- the next one is still there
pub verts_live : (c : Complex) (vs : List VertName) (i : ℕ) (d : VertName) → is_rising (vert_numbers vs) ≡ true
    → i < length vs → IsThere c.verts (get_or vs i d).0
    → IsThere (without_verts c (take i vs)).verts (get_or vs i d).0
verts_live c vs i d rising less there = next_there (λ (v : VertName). v.0) vs c.verts i d rising less there

-- and can go
pub verts_spare : (c : Complex) (vs : List VertName) (v : VertName) → IsValid c
    → can_lose_vert (without_verts c vs) v ≡ true
verts_spare c vs v h = can_lose (without_verts c vs) v (AreClosed-valid (without_verts c vs) (IsValid-without_verts c vs h))
