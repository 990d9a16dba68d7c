-- A vertex is made: what its conditions say, and what it gives.
use Rattle.std.proofs.Common.{◌≡◌, ◌+◌, ◌<◌, ◌≤◌, true, [], ◌∷◌, ◌++◌, ℕ, length, sym, ap, ◌∙◌, arith, None, Some}
use Rattle.std.proofs.lemmas.List.{length_push}
use Rattle.mesh_model.specs.Complex.{Complex, counters_of}
use Rattle.mesh_model.specs.Kernel.{with_vert_like, vert_vals_like}
use Rattle.mesh_model.specs.Refusals.{unless, unless_too_many}
use Rattle.mesh_model.specs.Valid.{is_on_grid, IsSound}
use Rattle.mesh_model.specs.declared.limits.TheConstants.{MAX_VERTS}
use Rattle.mesh_model.specs.declared.records.Counters.{Counters}
use Rattle.mesh_model.specs.declared.records.Point.{Point}
use Rattle.mesh_model.specs.declared.records.VertRec.{VertRec}
use Rattle.mesh_model.specs.declared.refusal.Why.TheVariants.{BadValue}
use Rattle.mesh_model.proofs.KernelMakings.{IsValid-with_vert_like, IsSimple-with_vert_like}
use Rattle.mesh_passes.proofs.Conditions.{none_refused, unless_holds, last_of, within_limits}
use Rattle.op_basic.specs.Making.{make_vert_refusal}

abbrev made : Complex → Point → VertRec
made c p = record { point = p; vals = vert_vals_like c None }

pub one_more : (c : Complex) (p : Point) (n : Counters) → n ≡ counters_of c
    → record n { verts = n.verts + 1 } ≡ counters_of (with_vert_like c p None)
one_more c p n is =
    ap (λ (m : Counters). let k : Counters = record m { verts = m.verts + 1 } in k) is
    ∙ ap (λ (k : ℕ). let m : Counters = record (counters_of c) { verts = k } in m) (sym (length_push c.verts (Some (made c p))))

pub vert_may : (c : Complex) (p : Point) → make_vert_refusal p c ≡ None
    → (is_on_grid p ≡ true) × (length c.verts < MAX_VERTS)
vert_may c p h =
    let both = none_refused (unless (is_on_grid p) BadValue) (unless_too_many (with_vert_like c p None) ∷ []) h in
    let limits = within_limits (with_vert_like c p None)
    (last_of (unless_too_many (with_vert_like c p None)) ∙ both.1) in
    let few : length (c.verts ++ Some (made c p) ∷ []) ≤ MAX_VERTS = limits.verts in
    (unless_holds (is_on_grid p) BadValue both.0, omega (arith, length_push c.verts (Some (made c p))))

pub IsSound-made : (c : Complex) (p : Point) → make_vert_refusal p c ≡ None → IsSound c
    → IsSound (with_vert_like c p None)
IsSound-made c p may h =
    let both = vert_may c p may in
    record {
      valid = IsValid-with_vert_like c p None both.1 both.0 h.valid;
      simple = IsSimple-with_vert_like c p None h.simple;
    }
