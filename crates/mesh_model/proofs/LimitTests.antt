-- No limit is passed where all hold.
use Rattle.std.proofs.Common.{◌≡◌, ◌↔◌, Bool, true, false, cond, nat_le, refl, length, Option, Some, None}
use Rattle.std.proofs.lemmas.Bool.{leb-true, le-leb}
use Rattle.mesh_model.specs.Complex.{Complex, corner_sum, counters_of}
use Rattle.mesh_model.specs.Refusals.{limit_passed}
use Rattle.mesh_model.specs.Valid.{IsWithinLimits}
use Rattle.mesh_model.specs.declared.limits.TheConstants.{MAX_VERTS, MAX_EDGES, MAX_FACES, MAX_CORNERS}
use Rattle.mesh_model.specs.declared.names.Kind.TheVariants.{Verts, Edges, Corners, Faces}

not_passed : {X : Type 0} (b : Bool) (x : X) (rest : Option X) → cond b rest (Some x) ≡ None
    → (b ≡ true) × (rest ≡ None)
not_passed true x rest h = (refl, h)
not_passed false x rest h = absurd (cc)

pub no_limit_passed : (c : Complex) → (limit_passed (counters_of c) ≡ None) ↔ IsWithinLimits c
no_limit_passed c = (
  λ h.
      let verts = not_passed (nat_le (length c.verts) MAX_VERTS) Verts _ h in
      let edges = not_passed (nat_le (length c.edges) MAX_EDGES) Edges _ verts.1 in
      let faces = not_passed (nat_le (length c.faces) MAX_FACES) Faces _ edges.1 in
      let corners = not_passed (nat_le (corner_sum c.faces) MAX_CORNERS) Corners None faces.1 in
      record {
        verts = leb-true (length c.verts) MAX_VERTS verts.0;
        edges = leb-true (length c.edges) MAX_EDGES edges.0;
        faces = leb-true (length c.faces) MAX_FACES faces.0;
        corners = leb-true (corner_sum c.faces) MAX_CORNERS corners.0;
      },
  λ h. rw (
    le-leb (length c.verts) MAX_VERTS h.verts,
    le-leb (length c.edges) MAX_EDGES h.edges,
    le-leb (length c.faces) MAX_FACES h.faces,
    le-leb (corner_sum c.faces) MAX_CORNERS h.corners,
  ) refl,
)
