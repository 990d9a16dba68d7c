-- The loops of the cycle around an edge are the corners along it.
use Rattle.std.proofs.Common.{◌≡◌, ℕ, Option, Some, None, map, sym, ap, ◌∙◌}
use Rattle.std.specs.Option.{option_map, option_map_or}
use Rattle.std.proofs.lemmas.Bool.{eqb-true, eq-eqb}
use Rattle.raw_pool.specs.declared.pool.Slot.{Slot}
use Rattle.link_ring.specs.Mapped.{mapped_to}
use Rattle.mesh_store.specs.Slots.{at}
use Rattle.mesh_store.specs.Stored.{Stored}
use Rattle.mesh_store.specs.declared.cells.Radial.{Radial}
use Rattle.mesh_cycles.specs.Owners.{edge_of}
use Rattle.mesh_cycles.specs.Cycles.{radial_of}
use Rattle.mesh_cycles.specs.Found.{loops_along}
use Rattle.mesh_cycles.proofs.Around.{along_once, along_live, along_names}
use Rattle.mesh_model.specs.Incidence.{is_along, corners_at_edge}
use Rattle.mesh_model.specs.declared.records.Counters.{Counters}
use Rattle.mesh_model.specs.declared.records.CornerRec.{CornerRec}
use Rattle.mesh_records.specs.ReadOff.{NameLists}
use Rattle.mesh_records.specs.AtSlots.{StoredLoop, loop_in}
use Rattle.mesh_records.specs.ReadOff.{edge_name, loop_rec, no_corner, corner_rec, read_off}
use Rattle.mesh_records.specs.StandsFor.{ListsOnce, place_of}
use Rattle.mesh_records.specs.Whole.{IsWhole}
use Rattle.mesh_records.proofs.Options.{has_key, there}
use Rattle.mesh_records.proofs.Elements.{edge_of_in}
use Rattle.mesh_records.proofs.ByName.{edge_leads, edge_named}
use Rattle.mesh_records.proofs.CornersWhere.{corners_list}

module _ (st : Stored) (n : Counters) (lists : NameLists) (w : IsWhole st n) (k : ℕ) (s : Slot)
    (named : at st.edges.names k ≡ Some s) where
  -- the corner of a loop
  corner_is : (l : Slot) (c : StoredLoop) → loop_in st l.0 ≡ Some c → corner_rec st l ≡ loop_rec st c
  corner_is l c e = ap (λ (o : Option StoredLoop). option_map_or (loop_rec st) o no_corner) e

  pub along_lists : ListsOnce (map (place_of st) (loops_along st s.0))
      (corners_at_edge (read_off st n lists) (record { 0 = k }))
  along_lists =
      corners_list st n lists w (is_along (record { 0 = k })) (loops_along st s.0) (along_once st w.cycles.cycles s.0)
      (along_live st w.cycles.cycles s.0)
      (λ l m.
      let c = has_key (λ (y : StoredLoop). y.edge.0) (loop_in st l.0) s.0
      (edge_of_in st l ∙ along_names st w.cycles.cycles s.0 l m) in
      let edge : (corner_rec st l).edge.0 ≡ k =
      ap (λ (r : CornerRec). r.edge.0) (corner_is l c.cell c.is) ∙ ap (λ (e : ℕ). (edge_name st e).0) c.same
      ∙ edge_named st n w.records k s named in
      eq-eqb (corner_rec st l).edge.0 k edge)
      (λ l is passed.
      let c = there (loop_in st l.0) is in
      let name : (edge_name st c.0.edge.0).0 ≡ k =
      ap (λ (r : CornerRec). r.edge.0) (sym (corner_is l c.0 c.1)) ∙ eqb-true (corner_rec st l).edge.0 k passed in
      let both : Some c.0.edge ≡ Some s = sym (edge_leads st n w.records c.0.edge (w.records.linked.edge l.0 c.0 c.1))
      ∙ ap (λ (z : ℕ). at st.edges.names z) name ∙ named in
      let same : c.0.edge.0 ≡ s.0 = ap (λ (o : Option Slot). elim o [ None ↦ c.0.edge.0 | Some z ↦ z.0 ]) both in
      let edge : edge_of st l ≡ Some s.0 = sym (edge_of_in st l) ∙ ap (option_map (λ (y : StoredLoop). y.edge.0)) c.1
      ∙ ap (λ (z : ℕ). Some z) same in
      mapped_to (λ (r : Radial). r.0) (radial_of st s.0) (record { 0 = l }) (w.cycles.complete.radials l s.0 edge))
