-- A whole mesh stands for what is read off it.
use Rattle.std.proofs.Common.{◌≡◌, true, is_some, Option, Some, None, refl, sym, ap, ◌∙◌}
use Rattle.std.specs.Option.{option_map, option_and_then}
use Rattle.raw_pool.specs.declared.pool.Slot.{Slot}
use Rattle.mesh_store.specs.Slots.{at}
use Rattle.mesh_store.specs.Stored.{Stored}
use Rattle.mesh_model.specs.declared.records.VertRec.{VertRec}
use Rattle.mesh_model.specs.declared.records.EdgeRec.{EdgeRec}
use Rattle.mesh_model.specs.declared.records.FaceRec.{FaceRec}
use Rattle.mesh_model.specs.declared.records.Counters.{Counters}
use Rattle.mesh_records.specs.ReadOff.{NameLists}
use Rattle.mesh_records.specs.AtSlots.{vert_in, edge_in, face_in}
use Rattle.mesh_records.specs.ReadOff.{vert_rec, edge_rec, face_rec, vert_at, edge_at, face_at, read_off}
use Rattle.mesh_records.specs.StandsFor.{StandsFor}
use Rattle.mesh_records.specs.Whole.{IsWhole}
use Rattle.mesh_records.proofs.Options.{some_told}
use Rattle.mesh_records.proofs.Elements.{name_live, vert_is_at, edge_is_at, face_is_at}
use Rattle.mesh_records.proofs.Tables.{length_table}
use Rattle.mesh_records.proofs.ByName.{verts_all, edges_all, faces_all}
use Rattle.mesh_records.proofs.AroundVert.{around_lists}
use Rattle.mesh_records.proofs.AlongEdge.{along_lists}

-- a name leads somewhere just where something stands at it
there_same : {V R : Type 0} (told : Slot → Option V) (f : Slot → V → R) (o : Option Slot)
    → ((s : Slot) → o ≡ Some s → is_some (told s) ≡ true)
    → is_some o ≡ is_some (option_and_then (λ (s : Slot). option_map (f s) (told s)) o)
there_same told f None h = refl
there_same told f (Some s) h = sym (some_told (f s) (told s) ∙ h s refl)

module _ (st : Stored) (n : Counters) (lists : NameLists) (w : IsWhole st n) where
  pub stands_for : StandsFor st n lists (read_off st n lists)
  stands_for =
      let r = w.records in
      record {
        next_verts = length_table (vert_at st) n.verts;
        next_edges = length_table (edge_at st) n.edges;
        next_faces = length_table (face_at st) n.faces;
        verts = record {
          named = r.named.verts;
          same = λ k. there_same (λ (s : Slot). vert_in st s.0) (λ (s : Slot). vert_rec) (at st.verts.names k)
              (λ s e. vert_is_at st s.0 (name_live r.named.verts k s e))
              ∙ ap (λ (o : Option VertRec). is_some o) (sym (verts_all st n r k));
        };
        edges = record {
          named = r.named.edges;
          same = λ k. there_same (λ (s : Slot). edge_in st s.0) (λ (s : Slot). edge_rec st) (at st.edges.names k)
              (λ s e. edge_is_at st s.0 (name_live r.named.edges k s e))
              ∙ ap (λ (o : Option EdgeRec). is_some o) (sym (edges_all st n r k));
        };
        faces = record {
          named = r.named.faces;
          same = λ k. there_same (λ (s : Slot). face_in st s.0) (λ (s : Slot). face_rec st s.0) (at st.faces.names k)
              (λ s e. face_is_at st s.0 (name_live r.named.faces k s e))
              ∙ ap (λ (o : Option FaceRec). is_some o) (sym (faces_all st n r k));
        };
        points = λ k s e. verts_all st n r k ∙ ap (option_and_then (λ (x : Slot). option_map vert_rec (vert_in st x.0)))
            e;
        ends = λ k s e. edges_all st n r k ∙ ap (option_and_then
            (λ (x : Slot). option_map (edge_rec st) (edge_in st x.0))) e;
        corners = λ k s e. faces_all st n r k ∙ ap (option_and_then
            (λ (x : Slot). option_map (face_rec st x.0) (face_in st x.0))) e;
        layers = refl;
        materials = refl;
        libraries = refl;
        cycles = w.cycles.cycles;
        disks = λ k s e. around_lists st n lists w k s e;
        radials = λ k s e. along_lists st n lists w k s e;
        lens = w.cycles.counted;
        rounds = w.cycles.complete.rounds;
      }
