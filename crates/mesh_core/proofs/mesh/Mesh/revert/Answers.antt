use Rattle.std.proofs.Common.{sym, ap, ◌∙◌, subst}
use Rattle.mesh_model.specs.Complex.{Complex}
use Rattle.mesh_model.specs.Valid.{IsValid}
use Rattle.mesh_model.specs.declared.records.Counters.{Counters}
use Rattle.mesh_records.specs.Room.{Covers}
use Rattle.mesh_core.specs.Seen.{room}
use Rattle.mesh_core.proofs.Filled.{becomes_reserved}
use Rattle.mesh_core.proofs.mesh.Mesh.revert.Goals as goal

pub refill-requires : goal.refill-requires
refill-requires c =
    let led = c.in_ok-led.led in
    let is = c.in_ok-led.ensures ∙ c.new.ensures in
    let stays = c.in_ok-reserve.ensures.stays.now in
    let C = λ (n : Counters). Covers (room c.reserve.new.self)
    (record { verts = n.verts; edges = n.edges; corners = n.corners; faces = n.faces }) in
    becomes_reserved c.reserve.new.self led (subst IsValid (sym is) c.requires.valid)
    (subst C c.counters-next.ensures.counters c.in_ok-reserve.ensures.ok)
    (ap (λ (x : Complex). x.layers) stays ∙ sym (ap (λ (x : Complex). x.layers) is))
    (ap (λ (x : Complex). x.materials) stays ∙ sym (ap (λ (x : Complex). x.materials) is))
    (ap (λ (x : Complex). x.libraries) stays ∙ sym (ap (λ (x : Complex). x.libraries) is))
