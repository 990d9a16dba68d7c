use Rattle.std.proofs.Common.{◌≡◌, ◌≤◌, ◌+◌, List, length, take, ap, sym, ◌∙◌, arith, length-append}
use Rattle.std.specs.FinMap.{get}
use Rattle.std.proofs.lemmas.List.{length-take-le}
use Rattle.mesh_model.specs.Table.{at}
use Rattle.mesh_model.specs.Complex.{Complex, corners_of}
use Rattle.mesh_model.specs.declared.records.CornerRec.{CornerRec}
use Rattle.mesh_trail.specs.Kept.{KeptRows, KeptCorners, face_of, face_row}
use Rattle.mesh_trail.specs.declared.faces.Span.{Span}
use Rattle.mesh_trail.proofs.MapNotes.{is_none, none-map_notes}
use Rattle.mesh_trail.proofs.FaceNotes.{faces_noted, spans_noted, faces_absent, spans_absent, face_stands}
use Rattle.mesh_trail.proofs.faces.FaceTable.note.Goals as goal

pub note_absent-requires : goal.note_absent-requires
note_absent-requires g c = let t = c.self.inside in none-map_notes (face_of t.corners.corners) t.spans.names
    c.args.name.0 (rw (← c.self.view_is) at c.requires.none)

pub note_row-requires-clause-none : goal.note_row-requires-clause-none
note_row-requires-clause-none g c = let t =
    c.self.inside in none-map_notes (face_of t.corners.corners) t.spans.names c.args.name.0
    (rw (← c.self.view_is) at c.requires.none)

pub invariant_of-self : goal.invariant_of-self
invariant_of-self g c = λ name r at_name.
    c.self.invariant name r (sym (ap (λ (k : KeptRows Span). get k.names name) c.in_err-note_absent.ensures.err)
    ∙ at_name)

pub invariant_of-self-then-not-has : goal.invariant_of-self-then-not-has
invariant_of-self-then-not-has g c =
    let t = c.self.inside in
    rw c.in_ok-note_absent.ensures.ok (spans_absent (length t.corners.corners) t.corners.longest t.spans.names
    c.args.name.0 c.self.invariant)

pub returns-then-not-has-clause-ok : goal.returns-then-not-has-clause-ok
returns-then-not-has-clause-ok g c =
    let t = c.self.inside in
    rw (← c.self.view_is, c.in_ok-note_absent.ensures.ok) (faces_absent t.corners.corners t.spans.names c.args.name.0 _
    (is_none _ (sym c.has.ensures ∙ c.if-not-has.true)))

pub invariant_of-self-in-Ok : goal.invariant_of-self-in-Ok
invariant_of-self-in-Ok g c =
    let t = c.self.inside in
    let ks : List CornerRec = corners_of (at (g.S.Shape.complex c.args.now.now).faces c.args.name.0) in
    let long : length c.append.new.self.corners ≡ length t.corners.corners + length ks =
    ap length c.in_ok-append.ensures.ok ∙ length-append t.corners.corners ks in
    let s : Span = record { from = c.len-from.result; count = c.corner_count-count.result } in
    let from : s.from ≡ length t.corners.corners = c.len-from.ensures in
    let count : s.count ≡ length ks = c.corner_count-count.ensures in
    let holds : length ks ≤ c.append.new.self.longest = c.in_ok-append.ensures.holds in
    rw c.in-Ok.ensures.ok (spans_noted (length t.corners.corners) t.corners.longest (length c.append.new.self.corners)
    c.append.new.self.longest t.spans.names c.args.name.0 s
    (face_row (g.S.Shape.complex c.args.now.now) c.args.name.0)
    c.self.invariant (omega arith) c.append.ensures.longest (omega arith) (omega arith))

pub invariant_of-self-in-Err : goal.invariant_of-self-in-Err
invariant_of-self-in-Err g c =
    let t = c.self.inside in
    let ks : List CornerRec = corners_of (at (g.S.Shape.complex c.args.now.now).faces c.args.name.0) in
    let long : length c.append.new.self.corners ≡ length t.corners.corners + length ks =
    ap length c.in_ok-append.ensures.ok ∙ length-append t.corners.corners ks in
    let from : c.len-from.result ≡ length t.corners.corners = c.len-from.ensures in
    let cut : length c.cut.new.self.corners ≡ length (take c.len-from.result c.append.new.self.corners) =
    ap (λ (k : KeptCorners). length k.corners) c.cut.ensures in
    let left = length-take-le c.len-from.result c.append.new.self.corners (omega arith) in
    let most : c.cut.new.self.longest ≡ c.append.new.self.longest = ap (λ (k : KeptCorners). k.longest) c.cut.ensures in
    let longer = c.append.ensures.longest in
    λ name r at_name. (let it = c.self.invariant name r (sym
    (ap (λ (k : KeptRows Span). get k.names name) c.in-Err.ensures.err) ∙ at_name) in
    (omega (arith, it.0), omega (arith, it.1)))

pub returns-in-Ok-clause-ok : goal.returns-in-Ok-clause-ok
returns-in-Ok-clause-ok g c =
    let t = c.self.inside in
    let complex : Complex = g.S.Shape.complex c.args.now.now in
    let ks : List CornerRec = corners_of (at complex.faces c.args.name.0) in
    let s : Span = record { from = c.len-from.result; count = c.corner_count-count.result } in
    rw (← c.self.view_is, c.in-Ok.ensures.ok, c.in_ok-append.ensures.ok)
    (faces_noted t.corners.corners ks t.corners.longest t.spans.names c.args.name.0 s (face_row complex c.args.name.0)
    (at complex.faces c.args.name.0) c.self.invariant c.len-from.ensures c.corner_count-count.ensures
    (face_stands complex c.args.name.0 c.counters.ensures.linked (sym c.has.ensures ∙ c.if-not-has.false)))
