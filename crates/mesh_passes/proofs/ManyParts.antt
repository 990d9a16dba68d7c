-- What is left after a pass that changes records is valid and simple where the complex was.
use Rattle.std.proofs.Common.{◌≡◌, ℕ, zero, suc, ◌+◌, ◌<◌, ◌≤◌, Bool, true, false, List, [], ◌∷◌, length, take, get_or, refl}
use Rattle.std.proofs.Common.{sym, ap, ◌∙◌, subst, arith, Option, Some, None, All}
use Rattle.std.proofs.lemmas.Bool.{and_parts}
use Rattle.std.proofs.lemmas.List.{take_all}
use Rattle.mesh_model.specs.Table.{at, passes, IsThere}
use Rattle.mesh_model.specs.Complex.{Complex}
use Rattle.mesh_model.specs.Naming.{is_rising, vert_numbers, face_numbers}
use Rattle.mesh_model.specs.Kernel.{reversed_face}
use Rattle.mesh_model.specs.Valid.{IsSound, is_on_grid}
use Rattle.mesh_model.specs.declared.names.VertName.{VertName}
use Rattle.mesh_model.specs.declared.names.FaceName.{FaceName}
use Rattle.mesh_model.specs.declared.records.Point.{Point}
use Rattle.mesh_model.specs.declared.records.VertRec.{VertRec}
use Rattle.mesh_model.proofs.Tables.{stands}
use Rattle.mesh_model.proofs.Updates.{IsValid-update_vert}
use Rattle.mesh_model.proofs.KernelUpdates.{IsValid-reversed_face, IsSimple-reversed_face}
use Rattle.mesh_passes.specs.Turning.{turned_over}
use Rattle.mesh_passes.specs.Moving.{moved, moved_one, moved_vert, stays_on_grid, first_leaving}
use Rattle.mesh_passes.proofs.Turnings.{turned_none, turned_more, turned_live}
use Rattle.mesh_passes.proofs.Movings.{moved_none, moved_more, moved_stays}

-- what holds at first, and after each step, holds at last
pub each_step : {N : Type 0} (P : List N → Type 0) (xs : List N) → P []
    → ((i : ℕ) → i < length xs → P (take i xs) → P (take (i + 1) xs)) → P xs
each_step P xs start next = subst P (take_all (length xs) xs (omega arith)) (upto (length xs) (omega arith))
  where
    upto : (k : ℕ) → k ≤ length xs → P (take k xs)
    upto zero le = start
    upto (suc k) le = let same : k + 1 ≡ suc k = omega arith in
        subst (λ (n : ℕ). P (take n xs)) same (next k (omega arith) (upto k (omega arith)))

-- ---- FACES TURNED OVER

sound_turned : (c : Complex) (f : FaceName) → IsThere c.faces f.0 → IsSound c → IsSound (reversed_face c f)
sound_turned c f there h = let it = stands (at c.faces f.0) there in
    record { valid = IsValid-reversed_face c f it.0 it.1 h.valid; simple = IsSimple-reversed_face c f h.simple }

pub IsSound-turned_over : (c : Complex) (fs : List FaceName) → is_rising (face_numbers fs) ≡ true
    → All (λ (f : FaceName). IsThere c.faces f.0) fs → IsSound c → IsSound (turned_over c fs)
IsSound-turned_over c fs rising live h =
    let none : FaceName = record { 0 = 0 } in
    each_step (λ gs. IsSound (turned_over c gs)) fs (subst IsSound (sym (turned_none c)) h)
    (λ i less so_far. subst IsSound (turned_more c fs i none rising less)
    (sound_turned (turned_over c (take i fs)) (get_or fs i none)
    (turned_live c fs i none rising less (live i none less)) so_far))

-- ---- VERTICES MOVED

sound_moved : (to : Point → Point) (c : Complex) (v : VertName) → passes (stays_on_grid to) (at c.verts v.0) ≡ true
    → IsSound c → IsSound (moved_one to c v)
unfolding moved_one
sound_moved to c v stays h = record {
  valid = IsValid-update_vert c v (moved_vert to) (λ r is.
      let on = sym (ap (passes (stays_on_grid to)) is) ∙ stays in (
        record { vals = (h.valid.linked.verts v.0 r is).vals },
        record {
          point = (and_parts (is_on_grid r.point) (is_on_grid (to r.point)) on).1;
          vals = (h.valid.verts v.0 r is).vals;
        },
      )) h.valid;
  simple = h.simple;
}

pub IsSound-moved : (to : Point → Point) (c : Complex) (vs : List VertName) → is_rising (vert_numbers vs) ≡ true
    → All (λ (v : VertName). IsThere c.verts v.0) vs → first_leaving to c vs ≡ None → IsSound c
    → IsSound (moved to c vs)
IsSound-moved to c vs rising live none_leaves h =
    let none : VertName = record { 0 = 0 } in
    each_step (λ ws. IsSound (moved to c ws)) vs (subst IsSound (sym (moved_none to c)) h)
    (λ i less so_far. subst IsSound (moved_more to c vs i none rising less)
    (sound_moved to (moved to c (take i vs)) (get_or vs i none)
    (moved_stays to c vs i none rising less (live i none less) none_leaves h.valid) so_far))
