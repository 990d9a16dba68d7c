-- A loop is added and put last along its edge and in its face.
use Rattle.std.proofs.Common.{◌≡◌, ◌+◌, ◌<◌, ◌++◌, ℕ, List, [], ◌∷◌, Some, None, length, refl, sym, ap, ◌∙◌, subst}
use Rattle.std.specs.Prelude.{slice_set}
use Rattle.std.specs.Option.{option_map}
use Rattle.std.proofs.lemmas.List.{length-set}
use Rattle.cust_data.specs.Layers.{LayerTable, total, zeros, with_row}
use Rattle.raw_pool.specs.declared.pool.Slot.{Slot}
use Rattle.raw_pool.specs.Slots.{holds, IsLive, spare_count}
use Rattle.link_ring.proofs.Members.{member_of}
use Rattle.mesh_store.specs.Slots.{at}
use Rattle.mesh_store.specs.Stored.{Stored, new_loop}
use Rattle.mesh_store.specs.Parts.{change_table}
use Rattle.mesh_store.specs.declared.layers.Part.TheVariants.{Loop}
use Rattle.mesh_store.specs.declared.cells.Round.{Round}
use Rattle.mesh_store.specs.declared.cells.Radial.{Radial}
use Rattle.mesh_store.specs.declared.cells.LoopCell.{LoopCell}
use Rattle.mesh_cycles.specs.Owners.{edge_of, face_of, len_of}
use Rattle.mesh_cycles.specs.Cycles.{AreCycles, HaveCycles, radial_of, round_of, IsInNoRound, IsCounted}
use Rattle.mesh_cycles.specs.Edits.{EditsRadial, EditsRound, bare, bare_loop, bare_face}
use Rattle.mesh_cycles.specs.Adds.{AddsLoop}
use Rattle.mesh_cycles.proofs.Cells.{as_long}
use Rattle.mesh_cycles.proofs.Besides.{radial_lens, radial_face_of, round_lens, bare_pools}
use Rattle.mesh_cycles.proofs.Elements.{loop_added}
use Rattle.mesh_cycles.proofs.Completeness.{live_len}
use Rattle.mesh_records.specs.Frames.{SameSize}
use Rattle.mesh_records.specs.Puts.{with_loop_at, PutsLoop}
use Rattle.mesh_records.proofs.Elements.{same_along, same_bare, same_then}
use Rattle.mesh_records.proofs.Added.{size_along, sizes_then}
use Rattle.mesh_records.proofs.Joins.{edge_size}
use Rattle.mesh_records.proofs.Frames.{cycles_beside_values}

-- everything but cycles has the sizes
pub face_size : (old new : Stored) → bare new ≡ bare old → SameSize old.faces.cells new.faces.cells
face_size old new e = record {
  long = as_long bare_face old.faces.cells new.faces.cells
      (ap (λ (t : Stored). t.faces.cells) e);
  spare = (bare_pools old new e).faces.spare;
}

pub loop_size : (old new : Stored) → bare new ≡ bare old → SameSize old.loops new.loops
loop_size old new e = record {
  long = as_long bare_loop old.loops new.loops (ap (λ (t : Stored). t.loops) e);
  spare = (bare_pools old new e).loops.spare;
}

-- the loop with its row of values
pub loop_cleared : (old alone made : Stored) (v e f l : Slot)
    → alone ≡ record old { loops = slice_set old.loops l.0 (Some (new_loop v e f l)) }
    → made ≡ change_table Loop (λ (t : LayerTable). with_row t l.0 (zeros (total t.layers))) alone
    → made ≡ with_loop_at old v e f l
loop_cleared old alone made v e f l adds clears =
    clears ∙ ap (change_table Loop (λ (t : LayerTable). with_row t l.0 (zeros (total t.layers)))) adds

-- the loop is there and in no cycle, and every cycle has its members
loop_filled : (old : Stored) (v e f l : Slot) → AreCycles old → (l.0 < length old.loops) × (at old.loops l.0 ≡ None)
    → AddsLoop old (with_loop_at old v e f l) l (new_loop v e f l)
loop_filled old v e f l h vacant =
    let made : Stored = record old { loops = slice_set old.loops l.0 (Some (new_loop v e f l)) } in
    let a = loop_added old made l h v e f vacant refl in
    record {
      same = record {
        cycles = cycles_beside_values made (with_loop_at old v e f l).values a.same.cycles;
        disks = a.same.disks;
        radials = a.same.radials;
        rounds = a.same.rounds;
      };
      there = a.there;
      no_radial = a.no_radial;
      no_round = a.no_round;
    }

module _ (old made : Stored) (f v e l : Slot) (h : HaveCycles old)
    (vacant : (l.0 < length old.loops) × (at old.loops l.0 ≡ None)) (adds : made ≡ with_loop_at old v e f l) where
  pub given : AddsLoop old made l (new_loop v e f l)
  given = let P = λ (t : Stored). AddsLoop old t l (new_loop v e f l) in subst P (sym adds)
      (loop_filled old v e f l h.cycles vacant)

  pub given_edge : edge_of made l ≡ Some e.0
  given_edge = ap (option_map (λ (c : LoopCell). c.edge.0)) given.there

  module _ (one : Stored) (a : EditsRadial made one e.0 (record { 0 = l } ∷ radial_of made e.0)
      (radial_of made e.0 ++ record { 0 = l } ∷ [])) where
    pub one_face : IsLive old.faces.cells f.0 → IsLive one.faces.cells f.0
    one_face live = (bare_pools made one a.stays).faces.live f.0
        ∙ ap (λ (t : Stored). holds (at t.faces.cells f.0)) adds ∙ live

    pub one_counted : IsLive old.faces.cells f.0 → IsCounted one f.0
    one_counted live =
        radial_lens made one e.0 a.rest f.0 ∙ ap (λ (t : Stored). len_of t f.0) adds ∙ live_len old f.0 h.counted live
        ∙ ap (λ (ls : List Round). Some (length ls)) (sym (a.rounds f.0 ∙ given.same.rounds f.0))

    pub one_face_of : face_of one l ≡ Some f.0
    one_face_of = radial_face_of made one e.0 a.rest l ∙ ap (option_map (λ (c : LoopCell). c.face.0)) given.there

    pub one_apart : IsInNoRound one l
    one_apart g m = given.no_round g (member_of _ m (a.rounds g))

    pub puts_loop : (two : Stored) → EditsRound one two f.0 (record { 0 = l } ∷ round_of one f.0)
        (round_of one f.0 ++ record { 0 = l } ∷ []) → spare_count made.loops + 1 ≡ spare_count old.loops
        → PutsLoop old two f v e l
    puts_loop two b spare =
        let s = given.same in
        let rounds = λ (g : ℕ). a.rounds g ∙ s.rounds g in
        let sizes = sizes_then (loop_size made one a.stays) (loop_size one two b.stays) in
        record {
          low = vacant.0;
          vacant = vacant.1;
          elements = same_then (same_along adds) (same_then (same_bare made one a.stays) (same_bare one two b.stays));
          values = ap (λ (t : Stored). t.values) b.stays ∙ ap (λ (t : Stored). t.values) a.stays
              ∙ ap (λ (t : Stored). t.values) adds;
          cycles = b.cycles;
          disks = λ w. b.disks w ∙ a.disks w ∙ s.disks w;
          own = b.own ∙ ap (λ (ls : List Round). ls ++ record { 0 = l } ∷ []) (rounds f.0);
          others = λ g ne. b.others g ne ∙ rounds g;
          along = b.radials e.0 ∙ a.own ∙ ap (λ (ls : List Radial). ls ++ record { 0 = l } ∷ []) (s.radials e.0);
          besides = λ d ne. b.radials d ∙ a.others d ne ∙ s.radials d;
          counted = b.len;
          lens = λ g ne. round_lens one two f.0 b.rest g ne ∙ radial_lens made one e.0 a.rest g
              ∙ ap (λ (t : Stored). len_of t g) adds;
          spare = ap (λ (k : ℕ). k + 1) sizes.spare ∙ spare;
          long = sizes.long ∙ ap (λ (t : Stored). length t.loops) adds
              ∙ length-set old.loops l.0 (Some (new_loop v e f l));
          verts = ap (λ (t : Stored). t.verts) b.rest ∙ ap (λ (t : Stored). t.verts) a.rest
              ∙ ap (λ (t : Stored). t.verts) adds;
          edges = sizes_then (size_along (ap (λ (t : Stored). t.edges.cells) adds))
              (sizes_then (edge_size made one a.stays) (edge_size one two b.stays));
          edge_names = ap (λ (t : Stored). t.edges.names) b.rest ∙ ap (λ (t : Stored). t.edges.names) a.rest
              ∙ ap (λ (t : Stored). t.edges.names) adds;
          faces = sizes_then (size_along (ap (λ (t : Stored). t.faces.cells) adds))
              (sizes_then (face_size made one a.stays) (face_size one two b.stays));
          face_names = ap (λ (t : Stored). t.faces.names) b.rest ∙ ap (λ (t : Stored). t.faces.names) a.rest
              ∙ ap (λ (t : Stored). t.faces.names) adds;
        }
