use Rattle.std.proofs.Common.{refl, sym, ap, ◌∙◌, arith}
use Rattle.mesh_model.specs.Table.{allows}
use Rattle.mesh_core.specs.Seen.{Seen, now}
use Rattle.mesh_core.proofs.Losing.{lets_go, all_more, all_but, all_of}
use Rattle.mesh_records.specs.ReadOff.{face_at}
use Rattle.mesh_records.proofs.Tables.{length_table}
use Rattle.mesh_core.proofs.mesh.Mesh.can_lose_vert.Goals as goal

pub loop-f-init : goal.loop-f-init
loop-f-init c = refl

pub loop-f-preserved : goal.loop-f-preserved
loop-f-preserved c =
    let long = length_table (face_at c.args.self.now.stored) c.args.self.now.next.faces in
    let same = ap (λ (m : Seen). m.next.faces) c.self.view_is in
    all_more (allows (lets_go (now c.args.self.now) c.args.v)) (now c.args.self.now).faces c.loop-f.f (omega arith)
    c.loop-f.invariant (sym c.can_face_lose.ensures ∙ c.if-not-can_face_lose.false)

pub returns-then-not-can_face_lose : goal.returns-then-not-can_face_lose
returns-then-not-can_face_lose c =
    let long = length_table (face_at c.args.self.now.stored) c.args.self.now.next.faces in
    let same = ap (λ (m : Seen). m.next.faces) c.self.view_is in
    sym (all_but (allows (lets_go (now c.args.self.now) c.args.v)) (now c.args.self.now).faces c.loop-f.f (omega arith)
    (sym c.can_face_lose.ensures ∙ c.if-not-can_face_lose.true))

pub returns : goal.returns
returns c =
    let long = length_table (face_at c.args.self.now.stored) c.args.self.now.next.faces in
    let same = ap (λ (m : Seen). m.next.faces) c.self.view_is in
    sym (all_of (allows (lets_go (now c.args.self.now) c.args.v)) (now c.args.self.now).faces c.loop-f.f (omega arith)
    c.loop-f.invariant)
