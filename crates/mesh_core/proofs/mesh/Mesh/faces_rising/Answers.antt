use Rattle.std.proofs.Common.{ℕ, ap, ◌∙◌}
use Rattle.raw_pool.specs.declared.pool.Slot.{Slot}
use Rattle.mesh_model.specs.declared.names.FaceName.{FaceName}
use Rattle.mesh_records.specs.ReadOff.{NameLists}
use Rattle.mesh_core.specs.Seen.{now}
use Rattle.mesh_records.specs.ReadOff.{read_off}
use Rattle.mesh_records.specs.StandsFor.{face_name}
use Rattle.mesh_records.specs.Order.{faces_in_order}
use Rattle.mesh_records.proofs.ByName.{face_named}
use Rattle.mesh_records.proofs.Order.{names_all}
use Rattle.mesh_records.proofs.Stands.{stands_for}
use Rattle.mesh_core.proofs.mesh.Mesh.faces_rising.Goals as goal

pub returns-clause-items : goal.returns-clause-items
returns-clause-items c =
    let st = c.self.inside.store in
    let n = c.self.inside.next in
    let w = c.self.invariant.whole in
    let lists : NameLists = record { materials = c.self.inside.materials; libraries = c.self.inside.libraries } in
    let name = λ (k : ℕ). let x : FaceName = record { 0 = k } in x in
    c.faces_by_name.ensures.items
    ∙ names_all (λ (s : Slot). face_name st s.0) name st.faces.names (read_off st n lists).faces
    (stands_for st n lists w).faces.same
    (λ k s e. λ i. record { 0 = face_named st n w.records k s e i })
    ∙ ap faces_in_order (ap now c.self.view_is)
