use Rattle.std.proofs.Common.{◌≤◌, ◌+◌, length, refl, ap}
use Rattle.std.specs.Option.{option_map}
use Rattle.mesh_trail.specs.Kept.{face_of, face_in}
use Rattle.mesh_trail.specs.declared.faces.Span.{Span}
use Rattle.mesh_trail.proofs.MapNotes.{none-map_notes}
use Rattle.mesh_trail.proofs.FaceNotes.{spans_absent, faces_absent, face_copied, spans_copied}
use Rattle.mesh_trail.proofs.faces.FaceTable.put.Goals as goal

pub note_absent-requires : goal.note_absent-requires
note_absent-requires c = let t = c.self.inside in none-map_notes (face_of t.corners.corners) t.spans.names c.args.name
    (rw (← c.self.view_is) at c.requires.none)

pub put-requires-clause-none : goal.put-requires-clause-none
put-requires-clause-none c = let t = c.self.inside in none-map_notes (face_of t.corners.corners) t.spans.names
    c.args.name (rw (← c.self.view_is) at c.requires.none)

pub invariant_of-self-in-None : goal.invariant_of-self-in-None
invariant_of-self-in-None c = let t = c.self.inside in rw c.in_ok-note_absent-in-None.ensures.ok
    (spans_absent (length t.corners.corners) t.corners.longest t.spans.names c.args.name c.self.invariant)

pub returns-in_ok-note_absent-in-None-clause-ok : goal.returns-in_ok-note_absent-in-None-clause-ok
returns-in_ok-note_absent-in-None-clause-ok c =
    let t = c.self.inside in
    let f = face_in c.args.corners.now.corners t.spans.width c.args.values.now in
    rw (← c.self.view_is, c.in_ok-note_absent-in-None.ensures.ok)
    (faces_absent t.corners.corners t.spans.names c.args.name _ (ap (λ (o : _). option_map f o) c.in-None.is))

pub invariant_of-self-in-Some : goal.invariant_of-self-in-Some
invariant_of-self-in-Some c =
    let t = c.self.inside in
    let k = c.in-Some.kept in
    let s : Span = record { from = c.len-from.result; count = k.body.count } in
    let within : k.body.from + k.body.count ≤ length c.args.corners.now.corners =
    rw c.in-Some.is at c.requires.stored in
    rw (c.in_ok-put-in-Some.ensures.ok, c.in_ok-append_part-in-Some.ensures.ok)
    (spans_copied t.corners.corners c.args.corners.now.corners t.corners.longest c.append_part.new.self.longest
    t.spans.width c.args.values.now t.spans.names c.args.name k s
    c.self.invariant c.append_part.ensures.longest c.len-from.ensures refl c.in_ok-append_part-in-Some.ensures.holds
    within)

pub returns-in_ok-put-in-Some-clause-ok : goal.returns-in_ok-put-in-Some-clause-ok
returns-in_ok-put-in-Some-clause-ok c =
    let t = c.self.inside in
    let k = c.in-Some.kept in
    let s : Span = record { from = c.len-from.result; count = k.body.count } in
    let within : k.body.from + k.body.count ≤ length c.args.corners.now.corners =
    rw c.in-Some.is at c.requires.stored in
    rw (c.in-Some.is, ← c.self.view_is, c.in_ok-put-in-Some.ensures.ok, c.in_ok-append_part-in-Some.ensures.ok)
    (face_copied t.corners.corners c.args.corners.now.corners t.corners.longest t.spans.width c.args.values.now
    t.spans.names c.args.name k s
    c.self.invariant c.len-from.ensures refl within)
