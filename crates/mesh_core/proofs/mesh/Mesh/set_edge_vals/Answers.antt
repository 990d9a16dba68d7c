use Rattle.std.proofs.Common.{◌≡◌, length, sym, ap, ◌∙◌, subst}
use Rattle.cust_data.specs.Layers.{LayerTable, with_row}
use Rattle.mesh_store.specs.Stored.{Stored}
use Rattle.mesh_store.specs.declared.layers.Part.TheVariants.{Edge}
use Rattle.mesh_model.specs.Complex.{Complex, width}
use Rattle.mesh_model.specs.Kernel.{with_edge_vals}
use Rattle.mesh_model.specs.declared.names.Kind.TheVariants.{Edges}
use Rattle.mesh_records.specs.ReadOff.{NameLists}
use Rattle.mesh_core.specs.Seen.{Seen, now, disks}
use Rattle.mesh_records.proofs.Elements.{name_live}
use Rattle.mesh_records.proofs.Examples.{edge_of_name}
use Rattle.mesh_records.specs.Rewrites.{Rewrites}
use Rattle.mesh_records.proofs.RowsWritten.{writes_edge}
use Rattle.mesh_records.specs.Room.{none_of_all}
use Rattle.mesh_records.proofs.Places.{keeps_valued}
use Rattle.mesh_core.proofs.Kept.{mesh_kept, places_seen}
use Rattle.mesh_core.proofs.mesh.Mesh.set_edge_vals.Goals as goal

pub slot_of_edge-edge-requires : goal.slot_of_edge-edge-requires
slot_of_edge-edge-requires c = edge_of_name c.self.inside.store c.self.inside.next _ (now c.args.self.now) c.args.e.0
    (ap now c.self.view_is) c.requires.there

pub set_row-requires-clause-live : goal.set_row-requires-clause-live
set_row-requires-clause-live c = name_live c.self.invariant.whole.records.named.edges c.args.e.0
    c.slot_of_edge-edge.result c.slot_of_edge-edge.ensures

pub set_row-requires-clause-wide : goal.set_row-requires-clause-wide
set_row-requires-clause-wide c = let P =
    λ (x : Complex). length c.args.vals.now ≡ width x Edges in subst P (sym (ap now c.self.view_is)) c.requires.wide

written : (c : goal.After-set_row) → Rewrites c.self.inside.store c.set_row.new.self c.self.inside.next
    (λ (x : Complex). with_edge_vals x c.args.e c.args.vals.now)
written c =
    let P = λ (x : Complex). length c.args.vals.now ≡ width x Edges in
    let R = λ (t : Stored). Rewrites c.self.inside.store t c.self.inside.next
    (λ (x : Complex). with_edge_vals x c.args.e c.args.vals.now) in
    subst R (sym c.set_row.ensures) (writes_edge c.self.inside.store c.self.inside.next c.self.invariant.whole c.args.vals.now
    c.args.e c.slot_of_edge-edge.result c.slot_of_edge-edge.ensures
    (subst P (sym (ap now c.self.view_is)) c.requires.wide))

pub invariant_of-self : goal.invariant_of-self
invariant_of-self c =
    let lists : NameLists = record { materials = c.self.inside.materials; libraries = c.self.inside.libraries } in
    mesh_kept none_of_all c.self.invariant (written c).whole
    (keeps_valued c.self.inside.store c.set_row.new.self Edge (λ (t : LayerTable). with_row t c.slot_of_edge-edge.result.0 c.args.vals.now)
    c.set_row.ensures)
    (ap (λ (x : Complex). x.layers) ((written c).read lists))

pub returns-clause-now : goal.returns-clause-now
returns-clause-now c =
    let lists : NameLists = record { materials = c.self.inside.materials; libraries = c.self.inside.libraries } in
    (written c).read lists
    ∙ ap (λ (x : Complex). with_edge_vals x c.args.e c.args.vals.now) (ap now c.self.view_is)

pub returns-clause-disks : goal.returns-clause-disks
returns-clause-disks c = (written c).disks ∙ ap disks c.self.view_is

pub returns-clause-places : goal.returns-clause-places
returns-clause-places c = places_seen none_of_all c.args.self.now
    (ap (λ (m : Seen). m.stored) c.self.view_is)
    (keeps_valued c.self.inside.store c.set_row.new.self Edge (λ (t : LayerTable). with_row t c.slot_of_edge-edge.result.0 c.args.vals.now)
    c.set_row.ensures)
