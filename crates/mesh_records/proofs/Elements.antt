-- Elements at slots and by name.
use Rattle.std.proofs.Common.{◌≡◌, ℕ, List, Option, Some, refl, ap, ◌∙◌}
use Rattle.std.specs.Option.{option_map}
use Rattle.cust_data.specs.Layers.{row_of}
use Rattle.raw_pool.specs.declared.pool.Slot.{Slot}
use Rattle.raw_pool.specs.Slots.{IsLive}
use Rattle.mesh_store.specs.Slots.{at}
use Rattle.mesh_store.specs.Naming.{AreNamed}
use Rattle.mesh_store.specs.Stored.{Stored}
use Rattle.mesh_store.specs.declared.layers.Layers.{Layers}
use Rattle.mesh_store.specs.declared.cells.Dart.{Dart}
use Rattle.mesh_store.specs.declared.cells.VertCell.{VertCell}
use Rattle.mesh_store.specs.declared.cells.EdgeCell.{EdgeCell}
use Rattle.mesh_store.specs.declared.cells.LoopCell.{LoopCell}
use Rattle.mesh_store.specs.declared.cells.FaceCell.{FaceCell}
use Rattle.mesh_cycles.specs.Owners.{dart_end, edge_of, face_of}
use Rattle.mesh_cycles.specs.Edits.{bare}
use Rattle.mesh_cycles.proofs.Besides.{bare_vert_told, bare_edge_told, bare_loop_told, bare_face_told, bare_pools}
use Rattle.mesh_records.specs.AtSlots.{StoredVert, StoredEdge, StoredLoop, StoredFace, vert_in, edge_in, loop_in, face_in, end_of, IsAt}
use Rattle.mesh_records.specs.ReadOff.{layers_in}
use Rattle.mesh_records.specs.Frames.{Extends, SameElements}
use Rattle.mesh_records.proofs.Options.{holds_told, told_held, told_twice, holds_by, within_same}

-- ---- live cells

module _ (st : Stored) (s : ℕ) where
  pub vert_live : IsAt (vert_in st) s → IsLive st.verts.cells s
  vert_live = holds_told (λ (c : VertCell). let v : StoredVert =
      record { number = c.number; point = c.point; vals = row_of st.values.verts s } in v) (at st.verts.cells s)

  pub edge_live : IsAt (edge_in st) s → IsLive st.edges.cells s
  edge_live = holds_told (λ (c : EdgeCell). let e : StoredEdge =
      record { number = c.number; ends = c.ends; vals = row_of st.values.edges s } in e) (at st.edges.cells s)

  pub loop_live : IsAt (loop_in st) s → IsLive st.loops s
  loop_live = holds_told (λ (c : LoopCell). let l : StoredLoop =
      record { vert = c.vert; edge = c.edge; face = c.face; vals = row_of st.values.loops s } in l) (at st.loops s)

  pub face_live : IsAt (face_in st) s → IsLive st.faces.cells s
  face_live = holds_told (λ (c : FaceCell). let f : StoredFace =
      record { number = c.number; vals = row_of st.values.faces s } in f) (at st.faces.cells s)

  pub vert_is_at : IsLive st.verts.cells s → IsAt (vert_in st) s
  vert_is_at = told_held (λ (c : VertCell). let v : StoredVert =
      record { number = c.number; point = c.point; vals = row_of st.values.verts s } in v) (at st.verts.cells s)

  pub edge_is_at : IsLive st.edges.cells s → IsAt (edge_in st) s
  edge_is_at = told_held (λ (c : EdgeCell). let e : StoredEdge =
      record { number = c.number; ends = c.ends; vals = row_of st.values.edges s } in e) (at st.edges.cells s)

  pub loop_is_at : IsLive st.loops s → IsAt (loop_in st) s
  loop_is_at = told_held (λ (c : LoopCell). let l : StoredLoop =
      record { vert = c.vert; edge = c.edge; face = c.face; vals = row_of st.values.loops s } in l) (at st.loops s)

  pub face_is_at : IsLive st.faces.cells s → IsAt (face_in st) s
  face_is_at = told_held (λ (c : FaceCell). let f : StoredFace =
      record { number = c.number; vals = row_of st.values.faces s } in f) (at st.faces.cells s)

-- ---- names

-- the number of a name is that of its cell
pub vert_number : (st : Stored) (s : ℕ)
    → option_map (λ (v : StoredVert). v.number) (vert_in st s)
    ≡ option_map (λ (c : VertCell). c.number) (at st.verts.cells s)
vert_number st s = told_twice (λ (c : VertCell). record {
  number = c.number;
  point = c.point;
  vals = row_of st.values.verts s;
}) (λ (v : StoredVert). v.number) (at st.verts.cells s)

pub edge_number : (st : Stored) (s : ℕ)
    → option_map (λ (e : StoredEdge). e.number) (edge_in st s)
    ≡ option_map (λ (c : EdgeCell). c.number) (at st.edges.cells s)
edge_number st s = told_twice (λ (c : EdgeCell). record {
  number = c.number;
  ends = c.ends;
  vals = row_of st.values.edges s;
}) (λ (e : StoredEdge). e.number) (at st.edges.cells s)

pub face_number : (st : Stored) (s : ℕ)
    → option_map (λ (f : StoredFace). f.number) (face_in st s)
    ≡ option_map (λ (c : FaceCell). c.number) (at st.faces.cells s)
face_number st s = told_twice (λ (c : FaceCell). record { number = c.number; vals = row_of st.values.faces s })
    (λ (f : StoredFace). f.number) (at st.faces.cells s)

-- a name leads to a live slot
pub name_live : {X : Type 0} {number : X → ℕ} {cells : List (Option X)} {names : List (Option Slot)}
    → AreNamed number cells names → (k : ℕ) (s : Slot) → at names k ≡ Some s → IsLive cells s.0
name_live {number = number} {cells = cells} n k s e = holds_by number (at cells s.0) k (n.live k s e)

-- ---- owners

pub dart_end_in : (st : Stored) (d : Dart) → option_map (end_of d.side) (edge_in st d.edge.0) ≡ dart_end st d
dart_end_in st d = told_twice (λ (c : EdgeCell). record {
  number = c.number;
  ends = c.ends;
  vals = row_of st.values.edges d.edge.0;
}) (end_of d.side) (at st.edges.cells d.edge.0)

pub edge_of_in : (st : Stored) (l : Slot) → option_map (λ (k : StoredLoop). k.edge.0) (loop_in st l.0) ≡ edge_of st l
edge_of_in st l = told_twice (λ (c : LoopCell). record {
  vert = c.vert;
  edge = c.edge;
  face = c.face;
  vals = row_of st.values.loops l.0;
}) (λ (k : StoredLoop). k.edge.0) (at st.loops l.0)

pub face_of_in : (st : Stored) (l : Slot) → option_map (λ (k : StoredLoop). k.face.0) (loop_in st l.0) ≡ face_of st l
face_of_in st l = told_twice (λ (c : LoopCell). record {
  vert = c.vert;
  edge = c.edge;
  face = c.face;
  vals = row_of st.values.loops l.0;
}) (λ (k : StoredLoop). k.face.0) (at st.loops l.0)

-- ---- the same elements

pub same_extend : {old new : Stored} → SameElements old new → Extends old new
same_extend p = record {
  verts = within_same p.verts;
  edges = within_same p.edges;
  loops = within_same p.loops;
  faces = within_same p.faces;
}

pub same_then : {old mid new : Stored} → SameElements old mid → SameElements mid new → SameElements old new
same_then p q = record {
  verts = λ s. q.verts s ∙ p.verts s;
  edges = λ s. q.edges s ∙ p.edges s;
  loops = λ s. q.loops s ∙ p.loops s;
  faces = λ s. q.faces s ∙ p.faces s;
  vert_names = λ k. q.vert_names k ∙ p.vert_names k;
  edge_names = λ k. q.edge_names k ∙ p.edge_names k;
  face_names = λ k. q.face_names k ∙ p.face_names k;
  layers = q.layers ∙ p.layers;
}

pub same_along : {old new : Stored} → new ≡ old → SameElements old new
same_along e = record {
  verts = λ s. ap (λ (t : Stored). vert_in t s) e;
  edges = λ s. ap (λ (t : Stored). edge_in t s) e;
  loops = λ s. ap (λ (t : Stored). loop_in t s) e;
  faces = λ s. ap (λ (t : Stored). face_in t s) e;
  vert_names = λ k. ap (λ (t : Stored). at t.verts.names k) e;
  edge_names = λ k. ap (λ (t : Stored). at t.edges.names k) e;
  face_names = λ k. ap (λ (t : Stored). at t.faces.names k) e;
  layers = ap layers_in e;
}

-- everything but cycles has the elements
pub same_bare : (old new : Stored) → bare new ≡ bare old → SameElements old new
same_bare old new e =
    let values : new.values ≡ old.values = ap (λ (t : Stored). t.values) e in
    let pools = bare_pools old new e in
    record {
      verts = λ s.
          let read = λ (v : Layers). option_map (λ (c : VertCell). let r : StoredVert =
          record { number = c.number; point = c.point; vals = row_of v.verts s } in r) in
          bare_vert_told old new e (read new.values) (λ c. refl) s
          ∙ ap (λ (v : Layers). read v (at old.verts.cells s)) values;
      edges = λ s.
          let read = λ (v : Layers). option_map (λ (c : EdgeCell). let r : StoredEdge =
          record { number = c.number; ends = c.ends; vals = row_of v.edges s } in r) in
          bare_edge_told old new e (read new.values) (λ c. refl) s
          ∙ ap (λ (v : Layers). read v (at old.edges.cells s)) values;
      loops = λ s.
          let read = λ (v : Layers). option_map (λ (c : LoopCell). let r : StoredLoop =
          record { vert = c.vert; edge = c.edge; face = c.face; vals = row_of v.loops s } in r) in
          bare_loop_told old new e (read new.values) (λ c. refl) s
          ∙ ap (λ (v : Layers). read v (at old.loops s)) values;
      faces = λ s.
          let read = λ (v : Layers). option_map (λ (c : FaceCell). let r : StoredFace =
          record { number = c.number; vals = row_of v.faces s } in r) in
          bare_face_told old new e (read new.values) (λ c. refl) s
          ∙ ap (λ (v : Layers). read v (at old.faces.cells s)) values;
      vert_names = λ k. ap (λ (xs : List (Option Slot)). at xs k) pools.vert_names;
      edge_names = λ k. ap (λ (xs : List (Option Slot)). at xs k) pools.edge_names;
      face_names = λ k. ap (λ (xs : List (Option Slot)). at xs k) pools.face_names;
      layers = λ i. record {
        verts = (values i).verts.layers;
        edges = (values i).edges.layers;
        corners = (values i).loops.layers;
        faces = (values i).faces.layers;
      };
    }
