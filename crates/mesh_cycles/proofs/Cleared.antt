-- A store in which no cycle begins.
use Rattle.std.proofs.Common.{◌≡◌, ℕ, Bool, List, [], Option, Some, None, length, sym, ap, ◌∙◌, subst}
use Rattle.std.specs.Option.{option_map, option_and_then}
use Rattle.raw_pool.specs.declared.pool.Slot.{Slot}
use Rattle.link_ring.specs.Ring.{LinkMap, ReadsAs}
use Rattle.link_ring.proofs.Members.{member_of}
use Rattle.mesh_store.specs.Stored.{Stored, dart_links, radial_links, round_links}
use Rattle.mesh_store.specs.Parts.{cleared}
use Rattle.mesh_store.specs.declared.cells.VertCell.{VertCell}
use Rattle.mesh_store.specs.declared.cells.EdgeCell.{EdgeCell}
use Rattle.mesh_store.specs.declared.cells.FaceCell.{FaceCell}
use Rattle.mesh_store.proofs.Growth.{at_vacant}
use Rattle.mesh_cycles.specs.Owners.{dart_at, first_dart, first_radial, first_round}
use Rattle.mesh_cycles.specs.Lists.{ring_list, same_dart, same_radial, same_round}
use Rattle.mesh_cycles.specs.Cycles.{AreCycles, HaveNoFirsts, EndsDiffer, dart_limit, loop_limit, disk_of, radial_of, round_of}

-- the list that has no first member is empty
none_listed : {K : Type 0} (same : K → K → Bool) (m : LinkMap K) (limit : ℕ) (first : Option K) → first ≡ None
    → ring_list same m limit first ≡ []
none_listed same m limit first e = ap (ring_list same m limit) e

-- and reads as it
none_read : {K : Type 0} (m : LinkMap K) (first : Option K) (zs : List K) → first ≡ None → zs ≡ [] → ReadsAs m first zs
none_read m first zs e n = subst (ReadsAs m first) (sym n) (record { ring = tt; start = e })

-- where no cycle has a first member, all cycles hold
pub none_begin : (st : Stored) → HaveNoFirsts st → EndsDiffer st.edges.cells → AreCycles st
none_begin st n differ =
    let disk : (v : ℕ) → disk_of st v ≡ [] =
    λ v. none_listed same_dart (dart_links st) (dart_limit st) (first_dart st v) (n.verts v) in
    let radial : (e : ℕ) → radial_of st e ≡ [] =
    λ e. none_listed same_radial (radial_links st) (loop_limit st) (first_radial st e) (n.edges e) in
    let round : (f : ℕ) → round_of st f ≡ [] =
    λ f. none_listed same_round (round_links st) (loop_limit st) (first_round st f) (n.faces f) in
    record {
      disks = λ v. none_read (dart_links st) (first_dart st v) (disk_of st v) (n.verts v) (disk v);
      radials = λ e. none_read (radial_links st) (first_radial st e) (radial_of st e) (n.edges e) (radial e);
      rounds = λ f. none_read (round_links st) (first_round st f) (round_of st f) (n.faces f) (round f);
      disk_ends = λ v d m. absurd (member_of d m (disk v));
      radial_edges = λ e l m. absurd (member_of l m (radial e));
      round_faces = λ f l m. absurd (member_of l m (round f));
      differ = differ;
    }

-- so they do in a store that was cleared
pub cleared_cycles : (st : Stored) → AreCycles (cleared st)
cleared_cycles st = none_begin (cleared st)
    (record {
      verts = λ v. ap (option_and_then (λ (c : VertCell). option_map (dart_at (cleared st) v) c.first_edge))
          (at_vacant (length st.verts.cells) v);
      edges = λ e. ap (option_and_then (λ (c : EdgeCell). option_map (λ (l : Slot). record { 0 = l }) c.first_loop))
          (at_vacant (length st.edges.cells) e);
      faces = λ f. ap (option_and_then (λ (c : FaceCell). option_map (λ (l : Slot). record { 0 = l }) c.first_loop))
          (at_vacant (length st.faces.cells) f);
    })
    (λ e c is. absurd (let q : None ≡ Some c = sym (at_vacant (length st.edges.cells) e) ∙ is in cc))
