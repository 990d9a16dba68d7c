-- What a test tells that answers None: each of its conditions holds.
use Rattle.std.proofs.Common.{◌≡◌, ℕ, ◌<◌, Bool, true, false, cond, ltb, leb, List, ◌∷◌, length, get_or, refl, sym, ap}
use Rattle.std.proofs.Common.{◌∙◌, arith, Option, Some, None}
use Rattle.std.specs.Option.{option_map}
use Rattle.std.specs.List.{position, position_or_len}
use Rattle.std.proofs.lemmas.List.Sums.{fails_before_first}
use Rattle.std.proofs.lemmas.Bool.{leb-true, ltb-false}
use Rattle.mesh_model.specs.Table.{at, passes}
use Rattle.mesh_model.specs.Complex.{Complex, has, counters_of}
use Rattle.mesh_model.specs.Valid.{IsWithinLimits}
use Rattle.mesh_model.specs.Lookups.{least_face}
use Rattle.mesh_model.specs.Refusals.{first_of, unless, unless_at, refused_at, refused_of, unless_there, limit_passed}
use Rattle.mesh_model.specs.Refusals.{unless_too_many}
use Rattle.mesh_model.specs.declared.limits.TheConstants.{MAX_VERTS, MAX_EDGES, MAX_FACES, MAX_CORNERS}
use Rattle.mesh_model.specs.declared.names.Elem.{Elem}
use Rattle.mesh_model.specs.declared.names.FaceName.{FaceName}
use Rattle.mesh_model.specs.declared.names.Kind.{Kind}
use Rattle.mesh_model.specs.declared.names.Kind.TheVariants.{Verts, Edges, Corners, Faces}
use Rattle.mesh_model.specs.declared.records.FaceRec.{FaceRec}
use Rattle.mesh_model.specs.declared.refusal.Refusal.{Refusal}
use Rattle.mesh_model.specs.declared.refusal.Why.{Why}
use Rattle.mesh_model.specs.declared.refusal.Why.TheVariants.{NoSuch, TooMany}
use Rattle.mesh_model.proofs.Tables.{at-below}

-- no condition refuses: not the first, and none of the others
pub first_of-none : (o : Option Refusal) (os : List (Option Refusal)) → first_of (o ∷ os) ≡ None
    → (o ≡ None) × (first_of os ≡ None)
first_of-none None os h = (refl, h)
first_of-none (Some r) os h = absurd (cc)

pub unless-none : (holds : Bool) (why : Why) → unless holds why ≡ None → holds ≡ true
unless-none true why h = refl
unless-none false why h = absurd (cc)

pub unless_at-none : (holds : Bool) (why : Why) (x : Elem) → unless_at holds why x ≡ None → holds ≡ true
unless_at-none true why x h = refl
unless_at-none false why x h = absurd (cc)

pub there-none : (c : Complex) (x : Elem) → unless_there c x ≡ None → has c x ≡ true
there-none c x h = unless_at-none (has c x) NoSuch x h

pub refused_at-none : (why : Why) (o : Option Elem) → refused_at why o ≡ None → o ≡ None
refused_at-none why None h = refl
refused_at-none why (Some x) h = absurd (cc)

pub mapped-none : {X Y : Type 0} (f : X → Y) (o : Option X) → option_map f o ≡ None → o ≡ None
mapped-none f None h = refl
mapped-none f (Some x) h = absurd (cc)

-- where no place is found, no element passes
no_place : {X : Type 0} (b : Bool) (x : X) → cond b (Some x) None ≡ None → b ≡ false
no_place true x h = absurd (cc)
no_place false x h = refl

pub position-none : {X : Type 0} (p : X → Bool) (xs : List X) (k : ℕ) (d : X) → position p xs ≡ None → k < length xs
    → p (get_or xs k d) ≡ false
position-none p xs k d h less =
    let past = ltb-false (position_or_len p xs) (length xs)
    (no_place (ltb (position_or_len p xs) (length xs)) (position_or_len p xs) h) in
    fails_before_first p xs k d (omega arith)

-- where no face is found, no face passes
pub least_face-none : (test : FaceRec → Bool) (c : Complex) → least_face test c ≡ None → (n : ℕ) (f : FaceRec)
    → at c.faces n ≡ Some f → test f ≡ false
least_face-none test c h n f is =
    let nowhere = mapped-none (λ (k : ℕ). let g : FaceName = record { 0 = k } in
    g) (position (passes test) c.faces) h in
    ap (passes test) (sym is) ∙ position-none (passes test) c.faces n None nowhere (at-below c.faces n f is)

-- no limit is passed
below_limit : (b : Bool) (o : Option Kind) (kind : Kind) → cond b o (Some kind) ≡ None → (b ≡ true) × (o ≡ None)
below_limit true o kind h = (refl, h)
below_limit false o kind h = absurd (cc)

refused_of-none : (why : Why) (o : Option Kind) → refused_of why o ≡ None → o ≡ None
refused_of-none why None h = refl
refused_of-none why (Some kind) h = absurd (cc)

pub limits-none : (c : Complex) → unless_too_many c ≡ None → IsWithinLimits c
limits-none c h =
    let n = counters_of c in
    let verts = below_limit (leb n.verts MAX_VERTS) _ Verts (refused_of-none TooMany (limit_passed (counters_of c)) h)
    in
    let edges = below_limit (leb n.edges MAX_EDGES) _ Edges verts.1 in
    let faces = below_limit (leb n.faces MAX_FACES) _ Faces edges.1 in
    let corners = below_limit (leb n.corners MAX_CORNERS) _ Corners faces.1 in
    record {
      verts = leb-true n.verts MAX_VERTS verts.0;
      edges = leb-true n.edges MAX_EDGES edges.0;
      faces =
          leb-true n.faces MAX_FACES faces.0;
      corners = leb-true n.corners MAX_CORNERS corners.0;
    }
