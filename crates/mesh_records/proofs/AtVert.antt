-- The first edge around a vertex, and a vertex without edges.
use Rattle.std.proofs.Common.{◌≡◌, ℕ, true, not, List, [], Option, Some, None, map, sym, ap, ◌∙◌, subst}
use Rattle.std.specs.List.{list_any}
use Rattle.std.specs.Option.{option_map, option_and_then}
use Rattle.std.proofs.lemmas.Bool.{false≢true, false_from_ne_true}
use Rattle.std.proofs.lemmas.List.Folds.{list_any_at}
use Rattle.raw_pool.specs.declared.pool.Slot.{Slot}
use Rattle.link_ring.specs.Members.{HasMember}
use Rattle.link_ring.specs.Mapped.{mapped_to}
use Rattle.mesh_store.specs.Slots.{at}
use Rattle.mesh_store.specs.Stored.{Stored, dart_links}
use Rattle.mesh_store.specs.declared.cells.Dart.{Dart}
use Rattle.mesh_store.specs.declared.cells.VertCell.{VertCell}
use Rattle.mesh_cycles.specs.Owners.{dart_at, first_dart}
use Rattle.mesh_cycles.specs.Lists.{ring_list, same_dart}
use Rattle.mesh_cycles.specs.Cycles.{disk_of, dart_limit}
use Rattle.mesh_cycles.specs.Found.{edges_around}
use Rattle.mesh_cycles.proofs.Cells.{live_cell}
use Rattle.mesh_cycles.proofs.Stays.{first_member}
use Rattle.mesh_model.specs.Table.{passes}
use Rattle.mesh_model.specs.Incidence.{has_end, is_bare}
use Rattle.mesh_model.specs.declared.names.VertName.{VertName}
use Rattle.mesh_model.specs.declared.names.EdgeName.{EdgeName}
use Rattle.mesh_model.specs.declared.records.Counters.{Counters}
use Rattle.mesh_records.specs.ReadOff.{NameLists}
use Rattle.mesh_records.specs.ReadOff.{table, edge_name, edge_at, read_off}
use Rattle.mesh_records.specs.Whole.{IsWhole}
use Rattle.mesh_records.proofs.Along.{any_at}
use Rattle.mesh_records.proofs.AroundVert.{around_lists}
use Rattle.mesh_records.proofs.Elements.{name_live}
use Rattle.mesh_records.proofs.Gone.{passes_below}
use Rattle.mesh_records.proofs.Listing.{numbered_from, numbered_to}
use Rattle.mesh_records.proofs.Options.{has_key}

module _ (st : Stored) (n : Counters) (lists : NameLists) (w : IsWhole st n) (v : VertName) (s : Slot)
    (named : at st.verts.names v.0 ≡ Some s) where
  -- the first edge is one around the vertex
  pub first_around : (e : Slot) → option_map (λ (c : VertCell). c.first_edge) (at st.verts.cells s.0) ≡ Some (Some e)
      → HasMember (edges_around st s.0) e
  first_around e first =
      let k = has_key (λ (c : VertCell). c.first_edge) (at st.verts.cells s.0) (Some e) first in
      let d = dart_at st s.0 e in
      let begins : first_dart st s.0 ≡ Some d =
      ap (option_and_then (λ (c : VertCell). option_map (dart_at st s.0) c.first_edge)) k.is
      ∙ ap (option_map (dart_at st s.0)) k.same in
      mapped_to (λ (x : Dart). x.edge) (disk_of st s.0) d (first_member d (w.cycles.cycles.disks s.0) begins)

  -- an edge around the vertex ends there
  pub around_passes : (e : Slot) → HasMember (edges_around st s.0) e
      → passes (has_end v) (at (read_off st n lists).edges (edge_name st e.0).0) ≡ true
  around_passes e m =
      let name : ℕ → EdgeName = λ k. record { 0 = k } in
      let t = table (edge_at st) n.edges in
      let member = mapped_to (λ (x : Slot). edge_name st x.0) (edges_around st s.0) e m in
      let p = numbered_from None name (passes (has_end v)) t (edge_name st e.0)
      (((around_lists st n lists w v.0 s named).same (edge_name st e.0)).0 member) in
      ap (λ (x : EdgeName). passes (has_end v) (at t x.0)) (sym p.named) ∙ p.passed

  pub first_passes : (e : Slot) → option_map (λ (c : VertCell). c.first_edge) (at st.verts.cells s.0) ≡ Some (Some e)
      → passes (has_end v) (at (read_off st n lists).edges (edge_name st e.0).0) ≡ true
  first_passes e first = around_passes e (first_around e first)

  first_none : option_map (λ (c : VertCell). c.first_edge) (at st.verts.cells s.0) ≡ Some None → disk_of st s.0 ≡ []
  first_none first =
      let k = has_key (λ (c : VertCell). c.first_edge) (at st.verts.cells s.0) None first in
      let begins : first_dart st s.0 ≡ None =
      ap (option_and_then (λ (c : VertCell). option_map (dart_at st s.0) c.first_edge)) k.is
      ∙ ap (option_map (dart_at st s.0)) k.same in
      ap (ring_list same_dart (dart_links st) (dart_limit st)) begins

  -- a vertex without a first edge has none
  pub none_bare : option_map (λ (c : VertCell). c.first_edge) (at st.verts.cells s.0) ≡ Some None
      → is_bare (read_off st n lists) v ≡ true
  none_bare first =
      let name : ℕ → EdgeName = λ k. record { 0 = k } in
      let t = table (edge_at st) n.edges in
      ap not (false_from_ne_true (list_any (passes (has_end v)) t) (λ h.
      let a = any_at (passes (has_end v)) t None h in
      let listed = numbered_to None name (passes (has_end v)) t a.place a.low a.passed in
      let P = λ (ds : List Dart). HasMember (map (λ (x : Slot). edge_name st x.0) (map (λ (d : Dart). d.edge) ds))
      (name a.place) in
      subst P (first_none first) (((around_lists st n lists w v.0 s named).same (name a.place)).1 listed)))

  -- and no dart is around a vertex that has none
  pub bare_empty : is_bare (read_off st n lists) v ≡ true → disk_of st s.0 ≡ []
  bare_empty bare =
      let c = live_cell st.verts.cells s.0 (name_live w.records.named.verts v.0 s named) in
      by_first c.0.first_edge (ap (option_map (λ (x : VertCell). x.first_edge)) c.1)
    where
      by_first : (o : Option Slot) → option_map (λ (x : VertCell). x.first_edge) (at st.verts.cells s.0) ≡ Some o
          → disk_of st s.0 ≡ []
      by_first None first = first_none first
      by_first (Some e) first =
          let t = table (edge_at st) n.edges in
          let here = first_passes e first in
          let k = (edge_name st e.0).0 in
          absurd (false≢true (ap not (sym (list_any_at (passes (has_end v)) t k None (passes_below (has_end v) t k here)
          here)) ∙ bare))
