use Rattle.std.proofs.Common.{ℕ, ap, ◌∙◌}
use Rattle.raw_pool.specs.declared.pool.Slot.{Slot}
use Rattle.mesh_model.specs.declared.names.VertName.{VertName}
use Rattle.mesh_records.specs.ReadOff.{NameLists}
use Rattle.mesh_core.specs.Seen.{now}
use Rattle.mesh_records.specs.ReadOff.{vert_name, read_off}
use Rattle.mesh_records.specs.Order.{verts_in_order}
use Rattle.mesh_records.proofs.ByName.{vert_named}
use Rattle.mesh_records.proofs.Order.{names_all}
use Rattle.mesh_records.proofs.Stands.{stands_for}
use Rattle.mesh_core.proofs.mesh.Mesh.verts_rising.Goals as goal

pub returns-clause-items : goal.returns-clause-items
returns-clause-items c =
    let st = c.self.inside.store in
    let n = c.self.inside.next in
    let w = c.self.invariant.whole in
    let lists : NameLists = record { materials = c.self.inside.materials; libraries = c.self.inside.libraries } in
    let name = λ (k : ℕ). let x : VertName = record { 0 = k } in x in
    c.verts_by_name.ensures.items
    ∙ names_all (λ (s : Slot). vert_name st s.0) name st.verts.names (read_off st n lists).verts
    (stands_for st n lists w).verts.same
    (λ k s e. λ i. record { 0 = vert_named st n w.records k s e i })
    ∙ ap verts_in_order (ap now c.self.view_is)
