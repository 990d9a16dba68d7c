-- Rows are as wide as is said.
use Rattle.std.proofs.Common.{◌≡◌, ℕ, ℤ, ◌+◌, ◌*◌, List, [], ◌∷◌, length, take, drop, refl, sym, ap, ◌∙◌, subst, arith, Option, Some, None, length-drop}
use Rattle.std.specs.FinMap.{get}
use Rattle.std.specs.List.{All}
use Rattle.std.proofs.Math.Nat.{suc-mul}
use Rattle.std.proofs.lemmas.List.{length-take-le}
use Rattle.std.proofs.lemmas.List.Elements.{All-nil, All-cons, All-take, All-drop}
use Rattle.std.proofs.lemmas.Option.{none-some, same_Some}
use Rattle.mesh_model.specs.ChangeSetNotes.{Notes}
use Rattle.mesh_model.specs.declared.names.VertName.{VertName}
use Rattle.mesh_model.specs.declared.names.EdgeName.{EdgeName}
use Rattle.mesh_model.specs.declared.records.CornerRec.{CornerRec}
use Rattle.mesh_trail.specs.Noted.{map_notes, record_in}
use Rattle.mesh_trail.specs.Kept.{kept_row, corner_recs, corner_at, face_of, AreWithin}
use Rattle.mesh_trail.specs.Wide.{EachNoted, HasRow, IsCornerWide, IsFaceWide}
use Rattle.mesh_trail.specs.declared.table.Kept.{Kept}
use Rattle.mesh_trail.specs.declared.faces.Span.{Span}
use Rattle.mesh_trail.proofs.MapNotes.{read_by, get-map_notes}

-- what each record has once it is read in another form, each noted record has in that form
pub each_read : {A B : Type 0} (f : A → B) (P : B → Type 0) (notes : Notes A)
    → ((q : ℕ) (a : A) → get notes q ≡ Some (Some a) → P (f a)) → EachNoted P (map_notes f notes)
each_read {A = A} {B = B} f P notes given q b is =
    split (get notes q) (given q) (sym (ap record_in (get-map_notes f notes q)) ∙ is)
  where
    split : (o : Option (Option A)) → ((a : A) → o ≡ Some (Some a) → P (f a)) → record_in (read_by f o) ≡ Some b → P b
    split None each h = absurd (none-some b h)
    split (Some None) each h = absurd (none-some b h)
    split (Some (Some a)) each h = subst P (same_Some (f a) b h) (each a refl)

-- the rows of a table
pub rows_wide : {B : Type 0} (width : ℕ) (values : List ℤ) (notes : Notes (Kept B))
    → AreWithin width (length values) notes → EachNoted (HasRow width) (map_notes (kept_row width values) notes)
rows_wide {B = B} width values notes within =
    each_read (kept_row width values) (HasRow width) notes
    (λ q k at_q. length-take-le width (drop k.row values)
    (omega (arith, length-drop k.row values, within q k at_q)))

-- the rows of corners
pub corners_wide : (width : ℕ) (pairs : List (VertName × EdgeName)) (values : List ℤ)
    → length values ≡ length pairs * width → All (IsCornerWide width) (corner_recs width pairs values)
corners_wide width [] values long = All-nil (IsCornerWide width)
corners_wide width (p ∷ ps) values long =
    let all : length values ≡ length ps * width + width = long ∙ suc-mul (length ps) width in
    let rest = length-drop width values in
    All-cons (IsCornerWide width) (corner_at p (take width values)) (corner_recs width ps (drop width values))
    (length-take-le width values (omega arith)) (corners_wide width ps (drop width values) (omega arith))

-- the rows of faces
pub faces_wide : (width corner_width : ℕ) (corners : List CornerRec) (spans : Notes (Span × List ℤ))
    → EachNoted (HasRow width) spans → All (IsCornerWide corner_width) corners
    → EachNoted (IsFaceWide width corner_width) (map_notes (face_of corners) spans)
faces_wide width corner_width corners spans wide all =
    each_read (face_of corners) (IsFaceWide width corner_width) spans
    (λ q r at_q. record {
      vals = wide q r (ap record_in at_q);
      corners = All-take (IsCornerWide corner_width) r.0.count (drop r.0.from corners)
          (All-drop (IsCornerWide corner_width) r.0.from corners all);
    })
