-- What stands where notes lead.
use Rattle.std.proofs.Common.{◌≡◌, ℕ, ◌<◌, ◌≤◌, true, false, not, List, [], ◌∷◌, length, refl, sym, ap, ◌∙◌, arith, Option, Some, None, is_some}
use Rattle.std.specs.FinMap.{get}
use Rattle.std.specs.List.{All}
use Rattle.std.proofs.lemmas.List.Elements.{All-head}
use Rattle.mesh_model.specs.Table.{at, IsThere}
use Rattle.mesh_model.specs.Complex.{Complex, corners_of, width}
use Rattle.mesh_model.specs.Valid.{IsCornerLinked}
use Rattle.mesh_model.specs.declared.names.Kind.TheVariants.{Corners}
use Rattle.mesh_model.specs.declared.records.CornerRec.{CornerRec}
use Rattle.mesh_model.specs.declared.records.FaceRec.{FaceRec}
use Rattle.mesh_trail.specs.Wide.{IsCornerWide}
use Rattle.mesh_model.specs.ChangeSetNotes.{Notes, put_back, led_back}
use Rattle.mesh_model.proofs.Leads.{at-led_back, past-led_back, length-led_back}
use Rattle.mesh_model.proofs.Tables.{there-below}
use Rattle.mesh_trail.specs.Noted.{noted, record_in, is_absent}

put_noted : {R : Type 0} (o : Option (Option R)) (now : Option R) → is_some o ≡ true → put_back o now ≡ record_in o
put_noted None now some = absurd (cc)
put_noted (Some was) now some = refl

put_plain : {R : Type 0} (o : Option (Option R)) (now : Option R) → is_some o ≡ false → put_back o now ≡ now
put_plain None now none = refl
put_plain (Some was) now none = absurd (cc)

stood : {R : Type 0} (o : Option (Option R)) → is_some o ≡ true → is_some (record_in o) ≡ not (is_absent o)
stood None some = absurd (cc)
stood (Some None) some = refl
stood (Some (Some r)) some = refl

-- below the earlier next name a noted name has what is noted
pub at_noted : {R : Type 0} (next : ℕ) (notes : Notes R) (now : List (Option R)) (q : ℕ) → q < next
    → is_some (get notes q) ≡ true → at (led_back next notes now) q ≡ noted notes q
at_noted next notes now q less some = at-led_back next notes now q less ∙ put_noted (get notes q) (at now q) some

-- and each other one has what stands now
pub at_plain : {R : Type 0} (next : ℕ) (notes : Notes R) (now : List (Option R)) (q : ℕ) → q < next
    → is_some (get notes q) ≡ false → at (led_back next notes now) q ≡ at now q
at_plain next notes now q less none = at-led_back next notes now q less ∙ put_plain (get notes q) (at now q) none

-- nothing stands from the earlier next name on
pub there_past : {R : Type 0} (next : ℕ) (notes : Notes R) (now : List (Option R)) (q : ℕ) → next ≤ q
    → is_some (at (led_back next notes now) q) ≡ false
there_past next notes now q over = ap is_some (past-led_back next notes now q over)

-- a noted name stands unless it is noted as not there
pub there_noted : {R : Type 0} (next : ℕ) (notes : Notes R) (now : List (Option R)) (q : ℕ) → q < next
    → is_some (get notes q) ≡ true → is_some (at (led_back next notes now) q) ≡ not (is_absent (get notes q))
there_noted next notes now q less some = ap is_some (at_noted next notes now q less some) ∙ stood (get notes q) some

pub there_plain : {R : Type 0} (next : ℕ) (notes : Notes R) (now : List (Option R)) (q : ℕ) → q < next
    → is_some (get notes q) ≡ false → is_some (at (led_back next notes now) q) ≡ is_some (at now q)
there_plain next notes now q less none = ap is_some (at_plain next notes now q less none)

-- what stands is below the earlier next name
pub there_below : {R : Type 0} (next : ℕ) (notes : Notes R) (now : List (Option R)) (q : ℕ)
    → IsThere (led_back next notes now) q → q < next
there_below next notes now q there =
    omega (arith, there-below (led_back next notes now) q there, length-led_back next notes now)

-- where something stands, it is what is noted or what stands now
pub is_noted : {R : Type 0} (next : ℕ) (notes : Notes R) (now : List (Option R)) (q : ℕ)
    → IsThere (led_back next notes now) q → is_some (get notes q) ≡ true
    → at (led_back next notes now) q ≡ noted notes q
is_noted next notes now q there some = at_noted next notes now q (there_below next notes now q there) some

pub is_plain : {R : Type 0} (next : ℕ) (notes : Notes R) (now : List (Option R)) (q : ℕ)
    → IsThere (led_back next notes now) q → is_some (get notes q) ≡ false
    → at (led_back next notes now) q ≡ at now q
is_plain next notes now q there none = at_plain next notes now q (there_below next notes now q there) none

-- ---- CORNERS

-- a face that has a corner stands
pub corner_stands : (o : Option FaceRec) (i : ℕ) → i < length (corners_of o) → is_some o ≡ true
corner_stands None i less = absurd (omega arith)
corner_stands (Some f) i less = refl

-- the rows of a face's corners have one width
pub corners_agree : (ks : List CornerRec) (c : Complex) (w : ℕ) → 0 < length ks → All (IsCornerLinked c) ks
    → All (IsCornerWide w) ks → width c Corners ≡ w
corners_agree [] c w some linked wide = absurd (omega arith)
corners_agree (k ∷ ks) c w some linked wide =
    sym (All-head (IsCornerLinked c) k ks linked).vals ∙ All-head (IsCornerWide w) k ks wide
