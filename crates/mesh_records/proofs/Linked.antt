-- What is read off a whole mesh is linked.
use Rattle.std.proofs.Common.{◌≡◌, ◌<◌, ◌≤◌, ℕ, ℤ, is_some, List, [], ◌∷◌, Option, Some, None, length, map, refl, sym, ap, ◌∙◌, subst, inl, inr, arith}
use Rattle.std.specs.List.{All}
use Rattle.std.specs.Option.{option_map, option_map_or, option_and_then}
use Rattle.std.proofs.lemmas.List.{length-map}
use Rattle.std.proofs.lemmas.List.Elements.{All-nil, All-cons}
use Rattle.cust_data.specs.Layers.{LayerTable, IsTable, total, row_of}
use Rattle.raw_pool.specs.declared.pool.Slot.{Slot}
use Rattle.raw_pool.specs.Slots.{IsLive}
use Rattle.link_ring.specs.Members.{HasMember}
use Rattle.link_ring.specs.Mapped.{mapped_from}
use Rattle.mesh_store.specs.Slots.{at}
use Rattle.mesh_store.specs.Stored.{Stored}
use Rattle.mesh_store.specs.declared.cells.VertCell.{VertCell}
use Rattle.mesh_store.specs.declared.cells.EdgeCell.{EdgeCell}
use Rattle.mesh_store.specs.declared.cells.LoopCell.{LoopCell}
use Rattle.mesh_store.specs.declared.cells.FaceCell.{FaceCell}
use Rattle.mesh_store.specs.declared.cells.Round.{Round}
use Rattle.mesh_store.proofs.Places.{below}
use Rattle.mesh_cycles.specs.Cycles.{round_of}
use Rattle.mesh_cycles.specs.Found.{loops_in}
use Rattle.mesh_model.specs.Table.{at as record_at, IsThere}
use Rattle.mesh_model.specs.Valid.{IsLinked, IsVertLinked, IsEdgeLinked, IsFaceLinked, IsCornerLinked}
use Rattle.mesh_model.specs.declared.records.VertRec.{VertRec}
use Rattle.mesh_model.specs.declared.records.EdgeRec.{EdgeRec}
use Rattle.mesh_model.specs.declared.records.FaceRec.{FaceRec}
use Rattle.mesh_model.specs.declared.records.Counters.{Counters}
use Rattle.mesh_records.specs.ReadOff.{NameLists}
use Rattle.mesh_records.specs.AtSlots.{StoredVert, StoredEdge, StoredLoop, StoredFace, vert_in, edge_in, loop_in, face_in, end_of, IsAt}
use Rattle.mesh_records.specs.ReadOff.{table, vert_name, edge_name, vert_rec, edge_rec, loop_rec, no_corner, corner_rec, face_rec, vert_at, edge_at, face_at, read_off}
use Rattle.mesh_records.specs.Whole.{IsWhole}
use Rattle.mesh_records.proofs.Options.{has_key, there, holds_by}
use Rattle.mesh_records.proofs.Elements.{loop_is_at}
use Rattle.mesh_records.proofs.Values.{row_long}
use Rattle.mesh_records.proofs.ByName.{led_to, verts_all, edges_all, faces_all, vert_leads, edge_leads}

-- what holds of each member's image holds of all of them
pub all_mapped : {A B : Type 0} (P : B → Type 0) (f : A → B) (xs : List A) → ((x : A) → HasMember xs x → P (f x))
    → All P (map f xs)
all_mapped P f [] h = All-nil P
all_mapped P f (x ∷ xs) h = All-cons P (f x) (map f xs) (h x (inl refl)) (all_mapped P f xs (λ y m. h y (inr m)))

-- the row of a live cell is as long as the layers are wide
row_told : {X Z : Type 0} (tell : X → List ℤ → Z) (vals : Z → List ℤ) → ((x : X) (r : List ℤ) → vals (tell x r) ≡ r)
    → (cells : List (Option X)) (t : LayerTable) (s : ℕ) (z : Z) → IsTable t → length cells ≤ length t.rows
    → option_map (λ (x : X). tell x (row_of t s)) (at cells s) ≡ Some z → length (vals z) ≡ total t.layers
row_told {X} tell vals is cells t s z table rows e =
    let k = has_key (λ (x : X). tell x (row_of t s)) (at cells s) z e in
    let low = below cells s k.cell k.is in
    ap length (ap vals (sym k.same) ∙ is k.cell (row_of t s)) ∙ row_long t s table (omega arith)

-- a list that isn't empty has a member
some_mapped : {A B : Type 0} (f : A → B) (xs : List A) → (xs ≡ [] → ⊥) → 0 < length (map f xs)
some_mapped f [] h = absurd (h refl)
some_mapped f (x ∷ xs) h = omega arith

module _ (st : Stored) (n : Counters) (lists : NameLists) (w : IsWhole st n) where
  -- an end's name is there
  pub vert_there : (t : ℕ) → IsAt (vert_in st) t → IsThere (table (vert_at st) n.verts) (vert_name st t).0
  vert_there t is =
      let c = there (vert_in st t) is in
      ap (λ (o : Option VertRec). is_some o)
      (verts_all st n w.records (vert_name st t).0
      ∙ ap (option_and_then (λ (s : Slot). option_map vert_rec (vert_in st s.0)))
      (vert_leads st n w.records (record { 0 = t }) is)
      ∙ ap (option_map vert_rec) c.1)

  pub edge_there : (t : ℕ) → IsAt (edge_in st) t → IsThere (table (edge_at st) n.edges) (edge_name st t).0
  edge_there t is =
      let c = there (edge_in st t) is in
      ap (λ (o : Option EdgeRec). is_some o)
      (edges_all st n w.records (edge_name st t).0
      ∙ ap (option_and_then (λ (s : Slot). option_map (edge_rec st) (edge_in st s.0)))
      (edge_leads st n w.records (record { 0 = t }) is)
      ∙ ap (option_map (edge_rec st)) c.1)

  -- two vertices with one name are at one slot
  pub one_vert : (s t : ℕ) → IsAt (vert_in st) s → IsAt (vert_in st) t → (vert_name st s).0 ≡ (vert_name st t).0 → s ≡ t
  one_vert s t p q e =
      let a = vert_leads st n w.records (record { 0 = s }) p in
      let b = vert_leads st n w.records (record { 0 = t }) q in
      let both : Some (record { 0 = s }) ≡ Some (record { 0 = t }) =
      sym a ∙ ap (λ (k : ℕ). at st.verts.names k) e ∙ b in
      ap (λ (o : Option Slot). elim o [ None ↦ s | Some x ↦ x.0 ]) both

  vert_linked : (k : ℕ) (r : VertRec) → record_at (table (vert_at st) n.verts) k ≡ Some r
      → IsVertLinked (read_off st n lists) r
  vert_linked k r e =
      let d = led_to (λ (s : Slot). vert_in st s.0) (λ (s : Slot). vert_rec) (at st.verts.names k) r
      (sym (verts_all st n w.records k) ∙ e) in
      let P = IsVertLinked (read_off st n lists) in
      subst P d.same (record {
        vals = row_told (λ (c : VertCell) (x : List ℤ). let v : StoredVert =
            record { number = c.number; point = c.point; vals = x } in v) (λ (v : StoredVert). v.vals) (λ c x. refl)
            st.verts.cells st.values.verts d.slot.0 d.value w.values.verts w.values.rows.verts d.is;
      })

  edge_linked : (k : ℕ) (r : EdgeRec) → record_at (table (edge_at st) n.edges) k ≡ Some r
      → IsEdgeLinked (read_off st n lists) r
  edge_linked k r e =
      let d = led_to (λ (s : Slot). edge_in st s.0) (λ (s : Slot). edge_rec st) (at st.edges.names k) r
      (sym (edges_all st n w.records k) ∙ e) in
      let tell = λ (c : EdgeCell) (x : List ℤ). let v : StoredEdge =
      record { number = c.number; ends = c.ends; vals = x } in v in
      let a = w.records.linked.a d.slot.0 d.value d.is in
      let b = w.records.linked.b d.slot.0 d.value d.is in
      let c = has_key (λ (x : EdgeCell). tell x (row_of st.values.edges d.slot.0)) (at st.edges.cells d.slot.0) d.value
      d.is in
      let P = IsEdgeLinked (read_off st n lists) in
      subst P d.same (record {
        a = vert_there (end_of 0 d.value) a;
        b = vert_there (end_of 1 d.value) b;
        differ = λ q. w.cycles.cycles.differ d.slot.0 c.cell c.is
            (ap (end_of 0) c.same ∙ one_vert (end_of 0 d.value) (end_of 1 d.value) a b q ∙ sym (ap (end_of 1) c.same));
        vals = row_told tell (λ (v : StoredEdge). v.vals) (λ c x. refl) st.edges.cells st.values.edges d.slot.0 d.value
            w.values.edges w.values.rows.edges d.is;
      })

  corner_linked : (s : ℕ) (l : Slot) → HasMember (loops_in st s) l
      → IsCornerLinked (read_off st n lists) (corner_rec st l)
  corner_linked s l m =
      let t = mapped_from (λ (r : Round). r.0) (round_of st s) l m in
      let L = λ (k : Slot). IsLive st.loops k.0 in
      let live = subst L t.is (holds_by (λ (c : LoopCell). c.face.0) (at st.loops t.of.0.0) s
      (w.cycles.cycles.round_faces s t.of t.member)) in
      let c = there (loop_in st l.0) (loop_is_at st l.0 live) in
      let made : IsCornerLinked (read_off st n lists) (loop_rec st c.0) = record {
        vert = vert_there c.0.vert.0 (w.records.linked.vert l.0 c.0 c.1);
        edge = edge_there c.0.edge.0 (w.records.linked.edge l.0 c.0 c.1);
        vals = row_told (λ (k : LoopCell) (x : List ℤ). let v : StoredLoop =
            record { vert = k.vert; edge = k.edge; face = k.face; vals = x } in v) (λ (v : StoredLoop). v.vals)
            (λ c x. refl)
            st.loops st.values.loops l.0 c.0 w.values.loops w.values.rows.loops c.1;
      } in
      let Q = IsCornerLinked (read_off st n lists) in
      subst Q (sym (ap (λ (o : Option StoredLoop). option_map_or (loop_rec st) o no_corner) c.1)) made

  face_linked : (k : ℕ) (r : FaceRec) → record_at (table (face_at st) n.faces) k ≡ Some r
      → IsFaceLinked (read_off st n lists) r
  face_linked k r e =
      let d = led_to (λ (s : Slot). face_in st s.0) (λ (s : Slot). face_rec st s.0) (at st.faces.names k) r
      (sym (faces_all st n w.records k) ∙ e) in
      let P = IsFaceLinked (read_off st n lists) in
      let slot = λ (x : Round). x.0 in
      subst P d.same (record {
        some = (let more = some_mapped slot (round_of st d.slot.0)
            (w.some d.slot.0 (ap (λ (o : Option StoredFace). is_some o) d.is)) in let same =
            length-map (loops_in st d.slot.0) (corner_rec st) in omega arith);
        corners = all_mapped (IsCornerLinked (read_off st n lists)) (corner_rec st) (loops_in st d.slot.0)
            (λ l m. corner_linked d.slot.0 l m);
        vals = row_told (λ (c : FaceCell) (x : List ℤ). let v : StoredFace =
            record { number = c.number; vals = x } in v) (λ (v : StoredFace). v.vals) (λ c x. refl)
            st.faces.cells st.values.faces d.slot.0 d.value w.values.faces w.values.rows.faces d.is;
      })

  pub whole_linked : IsLinked (read_off st n lists)
  whole_linked = record {
    layers = record {
      verts = w.values.verts.layers;
      edges = w.values.edges.layers;
      corners = w.values.loops.layers;
      faces = w.values.faces.layers;
    };
    verts = vert_linked;
    edges = edge_linked;
    faces = face_linked;
  }
