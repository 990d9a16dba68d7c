-- A noted face more.
use Rattle.std.proofs.Common.{◌≡◌, ℕ, ℤ, ◌+◌, ◌≤◌, true, List, ◌++◌, length, take, drop, refl, sym, ap, ◌∙◌, ◌<◌, arith, Option, Some, None, is_some, length-drop, length-take, length-append}
use Rattle.std.specs.FinMap.{get, insert}
use Rattle.std.specs.Prelude.{slice_get}
use Rattle.std.specs.Option.{option_map}
use Rattle.std.proofs.lemmas.List.{take_all, length-take-le}
use Rattle.std.proofs.lemmas.Option.{none-some, same_Some}
use Rattle.mesh_model.specs.Table.{at}
use Rattle.mesh_model.specs.Complex.{Complex, width, corners_of}
use Rattle.mesh_model.specs.Valid.{IsLinked}
use Rattle.mesh_model.specs.ChangeSetNotes.{Notes}
use Rattle.mesh_model.specs.declared.names.Kind.TheVariants.{Faces}
use Rattle.mesh_model.specs.declared.records.CornerRec.{CornerRec}
use Rattle.mesh_model.specs.declared.records.FaceRec.{FaceRec}
use Rattle.mesh_trail.specs.Noted.{map_notes, noted}
use Rattle.mesh_trail.proofs.CornerRows.{get_taken, get_dropped}
use Rattle.mesh_trail.specs.Kept.{kept_row, row_at, face_of, face_in, face_row, face_vals, AreSpans, AreKeptSpans}
use Rattle.mesh_trail.specs.declared.table.Kept.{Kept}
use Rattle.mesh_trail.specs.declared.faces.Span.{Span}
use Rattle.mesh_trail.proofs.MapNotes.{read_by, get-map_notes, noted-map_notes, noted_is, map_notes-insert, note_inserted, part_kept, part_new}

-- corners more leave the faces that are noted
pub face_kept : (corners ks : List CornerRec) (longest : ℕ) (spans : Notes (Span × List ℤ))
    → AreSpans (length corners) longest spans → (q : ℕ) (r : Span × List ℤ) → get spans q ≡ Some (Some r)
    → face_of (corners ++ ks) r ≡ face_of corners r
face_kept corners ks longest spans stored q r at_q =
    let within = (stored q r at_q).0 in
    let part : take r.0.count (drop r.0.from (corners ++ ks)) ≡ take r.0.count (drop r.0.from corners) =
    part_kept r.0.from r.0.count corners ks within in
    λ i. record { corners = part i; vals = r.1 }

-- a face more, whose corners were put at the end
pub faces_noted : (corners ks : List CornerRec) (longest : ℕ) (spans : Notes (Span × List ℤ)) (name : ℕ) (s : Span)
    (row : List ℤ) (o : Option FaceRec) → AreSpans (length corners) longest spans
    → s.from ≡ length corners → s.count ≡ length ks → o ≡ Some (record { corners = ks; vals = row })
    → map_notes (face_of (corners ++ ks)) (insert spans name (Some (s, row)))
    ≡ insert (map_notes (face_of corners) spans) name o
faces_noted corners ks longest spans name s row o stored from count is =
    let part : take s.count (drop s.from (corners ++ ks)) ≡ ks = part_new s.from s.count corners ks from count in
    let new : Some (face_of (corners ++ ks) (s, row)) ≡ o =
    (λ i. Some (record { corners = part i; vals = row })) ∙ sym is in
    map_notes-insert (face_of corners) (face_of (corners ++ ks)) spans name (Some (s, row))
    (face_kept corners ks longest spans stored)
    ∙ ap (λ (x : Option FaceRec). insert (map_notes (face_of corners) spans) name x) new

pub spans_noted : (count longest more most : ℕ) (spans : Notes (Span × List ℤ)) (name : ℕ) (s : Span) (row : List ℤ)
    → AreSpans count longest spans → count ≤ more → longest ≤ most → s.from + s.count ≤ more → s.count ≤ most
    → AreSpans more most (insert spans name (Some (s, row)))
spans_noted count longest more most spans name s row stored wider longer fits holds q r at_q =
    note_inserted {P = λ (r : Span × List ℤ). (r.0.from + r.0.count ≤ more) × (r.0.count ≤ most)} spans name
    (Some (s, row))
    (λ a new. (let from : s.from ≡ a.0.from =
    ap (λ (x : Span × List ℤ). x.0.from) (same_Some (s, row) a new) in let long : s.count ≡ a.0.count =
    ap (λ (x : Span × List ℤ). x.0.count) (same_Some (s, row) a new) in (omega arith, omega arith)))
    (λ q a old. (let le = (stored q a old).0 in omega arith, let le = (stored q a old).1 in omega arith)) q r at_q

pub faces_absent : (corners : List CornerRec) (spans : Notes (Span × List ℤ)) (name : ℕ) (o : Option FaceRec) → o ≡ None
    → map_notes (face_of corners) (insert spans name None) ≡ insert (map_notes (face_of corners) spans) name o
faces_absent corners spans name o none =
    map_notes-insert (face_of corners) (face_of corners) spans name None (λ q r at_q. refl)
    ∙ ap (λ (x : Option FaceRec). insert (map_notes (face_of corners) spans) name x) (sym none)

pub spans_absent : (count longest : ℕ) (spans : Notes (Span × List ℤ)) (name : ℕ) → AreSpans count longest spans
    → AreSpans count longest (insert spans name None)
spans_absent count longest spans name stored q r at_q =
    note_inserted {P = λ (r : Span × List ℤ). (r.0.from + r.0.count ≤ count) × (r.0.count ≤ longest)} spans name None
    (λ a new. absurd (none-some a new)) stored q r at_q

-- spans stay within more
pub spans_wider : (count longest more most : ℕ) (spans : Notes (Span × List ℤ)) → AreSpans count longest spans
    → count ≤ more → longest ≤ most → AreSpans more most spans
spans_wider count longest more most spans stored wider longer q r at_q =
    (let le = (stored q r at_q).0 in omega arith, let le = (stored q r at_q).1 in omega arith)

-- the record of a face by its corners and its row
pub face_stands : (c : Complex) (n : ℕ) → IsLinked c → is_some (at c.faces n) ≡ true
    → at c.faces n ≡ Some (record { corners = corners_of (at c.faces n); vals = face_row c n })
face_stands c n linked there = go (at c.faces n) refl there
  where
    go : (o : Option FaceRec) → at c.faces n ≡ o → is_some o ≡ true
        → o ≡ Some (record { corners = corners_of o; vals = take (width c Faces) (face_vals o) })
    go None is some = absurd (cc)
    go (Some f) is some =
        let long = (linked.faces n f is).vals in
        let all : take (width c Faces) f.vals ≡ f.vals = take_all (width c Faces) f.vals (omega arith) in
        λ i. Some (record { corners = f.corners; vals = sym all i })

-- ---- NOTED FACES THAT ARE READ

-- the span of a noted face, and its row
pub span_row : (o : Option (Span × List ℤ)) (s : Span) → option_map (λ r. r.0) o ≡ Some s
    → (row : List ℤ) × (o ≡ Some (s, row))
span_row None s is = absurd (none-some s is)
span_row (Some r) s is = (r.1, (λ i. Some (same_Some r.0 s is i, r.1)))

-- the corners of a noted face stand at its span
pub face_corners : (corners : List CornerRec) (spans : Notes (Span × List ℤ)) (q : ℕ) (s : Span)
    → option_map (λ r. r.0) (noted spans q) ≡ Some s
    → corners_of (noted (map_notes (face_of corners) spans) q) ≡ take s.count (drop s.from corners)
face_corners corners spans q s is =
    let it = span_row (noted spans q) s is in
    ap corners_of (noted-map_notes (face_of corners) spans q
    ∙ ap (λ (o : Option (Span × List ℤ)). option_map (face_of corners) o) it.1)

pub face_within : (count longest : ℕ) (spans : Notes (Span × List ℤ)) (q : ℕ) (s : Span) → AreSpans count longest spans
    → option_map (λ r. r.0) (noted spans q) ≡ Some s → s.from + s.count ≤ count
face_within count longest spans q s stored is = let it =
    span_row (noted spans q) s is in (stored q (s, it.0) (noted_is spans q (s, it.0) it.1)).0

pub face_count : (corners : List CornerRec) (longest : ℕ) (spans : Notes (Span × List ℤ)) (q : ℕ) (s : Span)
    → AreSpans (length corners) longest spans → option_map (λ r. r.0) (noted spans q) ≡ Some s
    → s.count ≡ length (corners_of (noted (map_notes (face_of corners) spans) q))
face_count corners longest spans q s stored is =
    let within = face_within (length corners) longest spans q s stored is in
    let cut = length-drop s.from corners in
    let long = length-take-le s.count (drop s.from corners) (omega arith) in
    sym (ap length (face_corners corners spans q s is) ∙ long)

-- where a name has no record, it has no corner
pub none_face : {P : Type 0} (corners : List CornerRec) (spans : Notes (Span × List ℤ)) (q i : ℕ)
    → option_map (λ r. r.0) (noted spans q) ≡ None
    → i < length (corners_of (noted (map_notes (face_of corners) spans) q)) → P
none_face corners spans q i none less =
    let gone : noted (map_notes (face_of corners) spans) q ≡ None =
    noted-map_notes (face_of corners) spans q ∙ go (noted spans q) none in
    let empty : length (corners_of (noted (map_notes (face_of corners) spans) q)) ≡ 0 =
    ap (λ (o : Option FaceRec). length (corners_of o)) gone in
    absurd (omega arith)
  where
    go : (o : Option (Span × List ℤ)) → option_map (λ r. r.0) o ≡ None → option_map (face_of corners) o ≡ None
    go None is = refl
    go (Some r) is = absurd (none-some r.0 (sym is))

-- a corner of a noted face stands behind its span's beginning
pub face_corner : (corners : List CornerRec) (spans : Notes (Span × List ℤ)) (q i : ℕ) (s : Span)
    → option_map (λ r. r.0) (noted spans q) ≡ Some s
    → i < length (corners_of (noted (map_notes (face_of corners) spans) q))
    → slice_get (corners_of (noted (map_notes (face_of corners) spans) q)) i ≡ slice_get corners (s.from + i)
face_corner corners spans q i s is less =
    let at = face_corners corners spans q s is in
    let cut = length-take s.count (drop s.from corners) in
    let long = ap length at in
    ap (λ (ks : List CornerRec). slice_get ks i) at ∙ get_taken s.count i (drop s.from corners) (omega arith)
    ∙ get_dropped s.from (s.from + i) i corners refl

-- what holds of the spans of a table holds of what is kept of them
pub kept_spans : (count longest width : ℕ) (values : List ℤ) (notes : Notes (Kept Span))
    → AreSpans count longest (map_notes (kept_row width values) notes) → AreKeptSpans count longest notes
kept_spans count longest width values notes stored q k at_q =
    stored q (kept_row width values k) (get-map_notes (kept_row width values) notes q
    ∙ ap (λ (o : Option (Option (Kept Span))). read_by (kept_row width values) o) at_q)

-- ---- FACES THAT ARE COPIED

part_long : (from count : ℕ) (other : List CornerRec) → from + count ≤ length other
    → length (take count (drop from other)) ≡ count
part_long from count other within = let cut =
    length-drop from other in length-take-le count (drop from other) (omega arith)

-- a face more, whose corners are a part of other ones
pub face_copied : (corners other : List CornerRec) (longest w : ℕ) (values : List ℤ) (spans : Notes (Span × List ℤ))
    (name : ℕ) (k : Kept Span) (s : Span) → AreSpans (length corners) longest spans → s.from ≡ length corners
    → s.count ≡ k.body.count
    → k.body.from + k.body.count ≤ length other
    → map_notes (face_of (corners ++ take k.body.count (drop k.body.from other)))
    (insert spans name (Some (s, row_at w values k.row)))
    ≡ insert (map_notes (face_of corners) spans) name (Some (face_in other w values k))
face_copied corners other longest w values spans name k s stored from count within =
    faces_noted corners (take k.body.count (drop k.body.from other)) longest spans name s (row_at w values k.row)
    (Some (face_in other w values k)) stored from (count ∙ sym (part_long k.body.from k.body.count other within))
    refl

pub spans_copied : (corners other : List CornerRec) (longest most w : ℕ) (values : List ℤ)
    (spans : Notes (Span × List ℤ)) (name : ℕ) (k : Kept Span) (s : Span) → AreSpans (length corners) longest spans
    → longest ≤ most → s.from ≡ length corners → s.count ≡ k.body.count
    → k.body.count ≤ most → k.body.from + k.body.count ≤ length other
    → AreSpans (length (corners ++ take k.body.count (drop k.body.from other))) most
    (insert spans name (Some (s, row_at w values k.row)))
spans_copied corners other longest most w values spans name k s stored longer from count holds within =
    let long = length-append corners (take k.body.count (drop k.body.from other)) in
    let part = part_long k.body.from k.body.count other within in
    spans_noted (length corners) longest (length (corners ++ take k.body.count (drop k.body.from other))) most spans
    name s (row_at w values k.row) stored (omega (arith, long)) longer (omega (arith, long, part, from, count))
    (omega (arith, count, holds))

-- spans stay within more corners
pub spans_longer : (corners other : List CornerRec) (longest most : ℕ) (spans : Notes (Span × List ℤ))
    → AreSpans (length corners) longest spans → longest ≤ most → AreSpans (length (corners ++ other)) most spans
spans_longer corners other longest most spans stored longer =
    spans_wider (length corners) longest (length (corners ++ other)) most spans stored
    (let long = length-append corners other in omega arith) longer
