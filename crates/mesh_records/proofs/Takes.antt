-- A loop is taken out of its cycles and dropped.
use Rattle.std.proofs.Common.{◌≡◌, ◌+◌, ◌<◌, ℕ, List, Option, Some, None, length, sym, ap, ◌∙◌, subst, inl, inr}
use Rattle.std.specs.Prelude.{slice_set}
use Rattle.std.specs.Option.{option_map}
use Rattle.std.proofs.lemmas.Bool.{cases_eq}
use Rattle.std.proofs.lemmas.List.{length-set}
use Rattle.std.proofs.lemmas.Option.{same_Some}
use Rattle.cust_data.specs.Layers.{row_of}
use Rattle.raw_pool.specs.declared.pool.Slot.{Slot}
use Rattle.raw_pool.specs.Slots.{IsLive, spare_count}
use Rattle.link_ring.specs.Members.{HasMember}
use Rattle.link_ring.proofs.Members.{member_of}
use Rattle.mesh_store.specs.Slots.{at}
use Rattle.mesh_store.specs.Stored.{Stored}
use Rattle.mesh_store.specs.declared.cells.Round.{Round}
use Rattle.mesh_store.specs.declared.cells.LoopCell.{LoopCell}
use Rattle.mesh_store.proofs.Places.{written, unwritten}
use Rattle.mesh_cycles.specs.Owners.{edge_of, len_of}
use Rattle.mesh_cycles.specs.Lists.{same_radial, same_round, without}
use Rattle.mesh_cycles.specs.Cycles.{HaveCycles, radial_of, round_of, IsInNoRadial, IsInNoRound, IsCounted}
use Rattle.mesh_cycles.specs.Edits.{EditsRadial, EditsRound}
use Rattle.mesh_cycles.proofs.Besides.{radial_lens, round_lens, bare_pools}
use Rattle.mesh_cycles.proofs.Elements.{loop_dropped}
use Rattle.mesh_cycles.proofs.Completeness.{live_len}
use Rattle.mesh_records.specs.AtSlots.{StoredLoop, vert_in, edge_in, loop_in, face_in}
use Rattle.mesh_records.specs.ReadOff.{layers_in}
use Rattle.mesh_records.specs.Frames.{SameElements}
use Rattle.mesh_records.specs.Takes.{without_loop_at, TakesLoop}
use Rattle.mesh_records.proofs.Elements.{same_bare, same_then}
use Rattle.mesh_records.proofs.Added.{size_along, sizes_then}
use Rattle.mesh_records.proofs.Joins.{edge_size}
use Rattle.mesh_records.proofs.LoopJoins.{face_size, loop_size}

-- what is told of a loop of a store
told_of : Stored → ℕ → LoopCell → StoredLoop
told_of st s c = record { vert = c.vert; edge = c.edge; face = c.face; vals = row_of st.values.loops s }

-- stores with the same loops have the same without one of them
dropped : (old two : Stored) (l : Slot) (s : ℕ) → l.0 < length old.loops → l.0 < length two.loops
    → loop_in two s ≡ loop_in old s → loop_in (without_loop_at two l) s ≡ loop_in (without_loop_at old l) s
unfolding told_of
dropped old two l s low low' same = elim (cases_eq s l.0) [
  | inl q ↦
      let P = λ (k : ℕ). loop_in (without_loop_at two l) k ≡ loop_in (without_loop_at old l) k in
      subst P (sym q) (ap (option_map (told_of two l.0)) (written two.loops l.0 None low')
      ∙ sym (ap (option_map (told_of old l.0)) (written old.loops l.0 None low)))
  | inr ne ↦
      ap (option_map (told_of two s)) (unwritten two.loops l.0 s None ne) ∙ same
      ∙ sym (ap (option_map (told_of old s)) (unwritten old.loops l.0 s None ne))
]

module _ (old one : Stored) (f l : Slot) (e : ℕ) (h : HaveCycles old)
    (a : EditsRadial old one e (radial_of old e) (without same_radial (record { 0 = l }) (radial_of old e)))
    (no_radial : IsInNoRadial one l) where
  pub face_still : IsLive old.faces.cells f.0 → IsLive one.faces.cells f.0
  face_still live = (bare_pools old one a.stays).faces.live f.0 ∙ live

  pub counted_still : IsLive old.faces.cells f.0 → IsCounted one f.0
  counted_still live = radial_lens old one e a.rest f.0 ∙ live_len old f.0 h.counted live
      ∙ ap (λ (ls : List Round). Some (length ls)) (sym (a.rounds f.0))

  pub member_still : HasMember (round_of old f.0) (record { 0 = l }) → HasMember (round_of one f.0) (record { 0 = l })
  member_still m = member_of _ m (sym (a.rounds f.0))

  module _ (two : Stored) (b : EditsRound one two f.0 (round_of one f.0)
      (without same_round (record { 0 = l }) (round_of one f.0))) (no_round : IsInNoRound two l) where
    pub takes_loop : (new : Stored) → edge_of old l ≡ Some e → l.0 < length old.loops
        → new ≡ record two { loops = slice_set two.loops l.0 None } → spare_count new.loops ≡ spare_count two.loops + 1
        → TakesLoop old new f l
    takes_loop new of_edge low drops spare =
        let none : Option LoopCell = None in
        let same = loop_dropped two new l b.cycles (λ d m. no_radial d (member_of _ m (b.radials d))) no_round drops in
        let k : SameElements old two = same_then (same_bare old one a.stays) (same_bare one two b.stays) in
        let sizes = sizes_then (loop_size old one a.stays) (loop_size one two b.stays) in
        let L = λ (j : ℕ). l.0 < j in
        let is = λ (d : ℕ) (p : edge_of old l ≡ Some d). same_Some d e (sym p ∙ of_edge) in
        record {
          elements = record {
            verts = λ s. ap (λ (t : Stored). vert_in t s) drops ∙ k.verts s;
            edges = λ s. ap (λ (t : Stored). edge_in t s) drops ∙ k.edges s;
            loops = λ s. ap (λ (t : Stored). loop_in t s) drops
                ∙ dropped old two l s low (subst L (sym sizes.long) low) (k.loops s);
            faces = λ s. ap (λ (t : Stored). face_in t s) drops ∙ k.faces s;
            vert_names = λ j. ap (λ (t : Stored). at t.verts.names j) drops ∙ k.vert_names j;
            edge_names = λ j. ap (λ (t : Stored). at t.edges.names j) drops ∙ k.edge_names j;
            face_names = λ j. ap (λ (t : Stored). at t.faces.names j) drops ∙ k.face_names j;
            layers = ap layers_in drops ∙ k.layers;
          };
          values = ap (λ (t : Stored). t.values) drops ∙ ap (λ (t : Stored). t.values) b.stays
              ∙ ap (λ (t : Stored). t.values) a.stays;
          cycles = same.cycles;
          disks = λ v. same.disks v ∙ b.disks v ∙ a.disks v;
          own = same.rounds f.0 ∙ b.own ∙ ap (without same_round (record { 0 = l })) (a.rounds f.0);
          others = λ g ne. same.rounds g ∙ b.others g ne ∙ a.rounds g;
          along = λ d p.
              let P = λ (j : ℕ). radial_of new j ≡ without same_radial (record { 0 = l }) (radial_of old j) in
              subst P (sym (is d p)) (same.radials e ∙ b.radials e ∙ a.own);
          besides = λ d j p ne. same.radials j ∙ b.radials j ∙ a.others j (λ q. ne (q ∙ sym (is d p)));
          counted = ap (λ (t : Stored). len_of t f.0) drops ∙ b.len
              ∙ ap (λ (ls : List Round). Some (length ls)) (sym (same.rounds f.0));
          lens = λ g ne. ap (λ (t : Stored). len_of t g) drops ∙ round_lens one two f.0 b.rest g ne
              ∙ radial_lens old one e a.rest g;
          spare = spare ∙ ap (λ (j : ℕ). j + 1) sizes.spare;
          long = ap (λ (t : Stored). length t.loops) drops ∙ length-set two.loops l.0 none ∙ sizes.long;
          verts = ap (λ (t : Stored). t.verts) drops ∙ ap (λ (t : Stored). t.verts) b.rest
              ∙ ap (λ (t : Stored). t.verts) a.rest;
          edges = sizes_then (sizes_then (edge_size old one a.stays) (edge_size one two b.stays))
              (size_along (ap (λ (t : Stored). t.edges.cells) drops));
          edge_names = ap (λ (t : Stored). t.edges.names) drops ∙ ap (λ (t : Stored). t.edges.names) b.rest
              ∙ ap (λ (t : Stored). t.edges.names) a.rest;
          faces = sizes_then (sizes_then (face_size old one a.stays) (face_size one two b.stays))
              (size_along (ap (λ (t : Stored). t.faces.cells) drops));
          face_names = ap (λ (t : Stored). t.faces.names) drops ∙ ap (λ (t : Stored). t.faces.names) b.rest
              ∙ ap (λ (t : Stored). t.faces.names) a.rest;
        }
