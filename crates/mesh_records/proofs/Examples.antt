-- Examples: their slots, and the rows of values that new elements take from them.
use Rattle.std.proofs.Common.{◌≡◌, ℕ, ℤ, true, is_some, List, Option, Some, None, refl, sym, ap, ◌∙◌, subst}
use Rattle.std.specs.Prelude.{IfSome}
use Rattle.std.specs.Option.{option_map, option_map_or, option_and_then}
use Rattle.cust_data.specs.Layers.{LayerTable, zeros, total, row_of}
use Rattle.raw_pool.specs.declared.pool.Slot.{Slot}
use Rattle.raw_pool.specs.Slots.{IsLive}
use Rattle.mesh_store.specs.Slots.{at}
use Rattle.mesh_store.specs.Naming.{AreNamed}
use Rattle.mesh_store.specs.Stored.{Stored}
use Rattle.mesh_store.specs.declared.cells.VertCell.{VertCell}
use Rattle.mesh_store.specs.declared.cells.EdgeCell.{EdgeCell}
use Rattle.mesh_store.specs.declared.cells.FaceCell.{FaceCell}
use Rattle.mesh_model.specs.Table.{IsThere}
use Rattle.mesh_model.specs.Complex.{Complex}
use Rattle.mesh_model.specs.Kernel.{vert_vals_like, edge_vals_like, face_vals_like}
use Rattle.mesh_model.specs.declared.names.VertName.{VertName}
use Rattle.mesh_model.specs.declared.names.EdgeName.{EdgeName}
use Rattle.mesh_model.specs.declared.names.FaceName.{FaceName}
use Rattle.mesh_model.specs.declared.records.VertRec.{VertRec}
use Rattle.mesh_model.specs.declared.records.EdgeRec.{EdgeRec}
use Rattle.mesh_model.specs.declared.records.FaceRec.{FaceRec}
use Rattle.mesh_model.specs.declared.records.Counters.{Counters}
use Rattle.mesh_records.specs.ReadOff.{NameLists}
use Rattle.mesh_records.specs.AtSlots.{StoredVert, StoredEdge, StoredFace, vert_in, edge_in, face_in}
use Rattle.mesh_records.specs.ReadOff.{table, vert_rec, edge_rec, face_rec, vert_at, edge_at, face_at, read_off}
use Rattle.mesh_records.specs.Puts.{row_like}
use Rattle.mesh_records.specs.Whole.{AreRecords}
use Rattle.mesh_records.proofs.Options.{has_key, there, led_there}
use Rattle.mesh_records.proofs.Tables.{below_bound}
use Rattle.mesh_records.proofs.Elements.{name_live}
use Rattle.mesh_records.proofs.ByName.{led_to, verts_all, edges_all, faces_all}

-- the slot of an example is live
pub example_live : {X N : Type 0} {number : X → ℕ} {cells : List (Option X)} {names : List (Option Slot)} (name : N → ℕ)
    → AreNamed number cells names → (example : Option N) (like : Option Slot)
    → like ≡ option_and_then (λ (v : N). at names (name v)) example → IfSome like (λ (s : Slot). IsLive cells s.0)
example_live name n example None e = tt
example_live name n None (Some s) e = absurd (let no : None ≡ Some s = sym e in cc)
example_live name n (Some v) (Some s) e = name_live n (name v) s (sym e)

-- what holds of a value if there is one holds of it
pub if_some_at : {X : Type 0} (P : X → Type 0) (o : Option X) → IfSome o P → (x : X) → o ≡ Some x → P x
if_some_at P None h x e = absurd (let no : None ≡ Some x = e in cc)
if_some_at {X} P (Some y) h x e = subst P (ap (λ (o : Option X). elim o [ None ↦ y | Some z ↦ z ]) e) h

-- what is told of a cell and its row has the row
pub row_is : {X Z : Type 0} (tell : X → List ℤ → Z) (vals : Z → List ℤ) → ((x : X) (r : List ℤ) → vals (tell x r) ≡ r)
    → (cells : List (Option X)) (t : LayerTable) (s : ℕ) (z : Z)
    → option_map (λ (x : X). tell x (row_of t s)) (at cells s) ≡ Some z → row_of t s ≡ vals z
row_is {X} tell vals is cells t s z e =
    let k = has_key (λ (x : X). tell x (row_of t s)) (at cells s) z e in
    sym (is k.cell (row_of t s)) ∙ ap vals k.same

module _ (st : Stored) (n : Counters) (lists : NameLists) (r : AreRecords st n) where
  pub vert_row : (example : Option VertName)
      → IfSome example (λ (v : VertName). IsThere (table (vert_at st) n.verts) v.0)
      → row_like st.values.verts (option_and_then (λ (v : VertName). at st.verts.names v.0) example)
      ≡ vert_vals_like (read_off st n lists) example
  vert_row None h = refl
  vert_row (Some v) h =
      let c = there (at (table (vert_at st) n.verts) v.0) h in
      let d = led_to (λ (s : Slot). vert_in st s.0) (λ (s : Slot). vert_rec) (at st.verts.names v.0) c.0
      (sym (verts_all st n r v.0) ∙ c.1) in
      let tell = λ (k : VertCell) (x : List ℤ). let y : StoredVert =
      record { number = k.number; point = k.point; vals = x } in y in
      let row = row_is tell (λ (y : StoredVert). y.vals) (λ k x. refl) st.verts.cells st.values.verts d.slot.0 d.value
      d.is in
      let none = zeros (total st.values.verts.layers) in
      ap (row_like st.values.verts) d.leads ∙ row ∙ ap (λ (x : VertRec). x.vals) d.same
      ∙ sym (ap (λ (o : Option VertRec). option_map_or (λ (x : VertRec). x.vals) o none) c.1)

  pub edge_row : (example : Option EdgeName)
      → IfSome example (λ (e : EdgeName). IsThere (table (edge_at st) n.edges) e.0)
      → row_like st.values.edges (option_and_then (λ (e : EdgeName). at st.edges.names e.0) example)
      ≡ edge_vals_like (read_off st n lists) example
  edge_row None h = refl
  edge_row (Some v) h =
      let c = there (at (table (edge_at st) n.edges) v.0) h in
      let d = led_to (λ (s : Slot). edge_in st s.0) (λ (s : Slot). edge_rec st) (at st.edges.names v.0) c.0
      (sym (edges_all st n r v.0) ∙ c.1) in
      let tell = λ (k : EdgeCell) (x : List ℤ). let y : StoredEdge =
      record { number = k.number; ends = k.ends; vals = x } in y in
      let row = row_is tell (λ (y : StoredEdge). y.vals) (λ k x. refl) st.edges.cells st.values.edges d.slot.0 d.value
      d.is in
      let none = zeros (total st.values.edges.layers) in
      ap (row_like st.values.edges) d.leads ∙ row ∙ ap (λ (x : EdgeRec). x.vals) d.same
      ∙ sym (ap (λ (o : Option EdgeRec). option_map_or (λ (x : EdgeRec). x.vals) o none) c.1)

  pub face_row : (example : Option FaceName)
      → IfSome example (λ (f : FaceName). IsThere (table (face_at st) n.faces) f.0)
      → row_like st.values.faces (option_and_then (λ (f : FaceName). at st.faces.names f.0) example)
      ≡ face_vals_like (read_off st n lists) example
  face_row None h = refl
  face_row (Some v) h =
      let c = there (at (table (face_at st) n.faces) v.0) h in
      let d = led_to (λ (s : Slot). face_in st s.0) (λ (s : Slot). face_rec st s.0) (at st.faces.names v.0) c.0
      (sym (faces_all st n r v.0) ∙ c.1) in
      let tell = λ (k : FaceCell) (x : List ℤ). let y : StoredFace = record { number = k.number; vals = x } in y in
      let row = row_is tell (λ (y : StoredFace). y.vals) (λ k x. refl) st.faces.cells st.values.faces d.slot.0 d.value
      d.is in
      let none = zeros (total st.values.faces.layers) in
      ap (row_like st.values.faces) d.leads ∙ row ∙ ap (λ (x : FaceRec). x.vals) d.same
      ∙ sym (ap (λ (o : Option FaceRec). option_map_or (λ (x : FaceRec). x.vals) o none) c.1)

-- what a complex has, a name of its store leads to
pub vert_of_name : (st : Stored) (n : Counters) (lists : NameLists) (c : Complex) (k : ℕ) → read_off st n lists ≡ c
    → IsThere c.verts k → is_some (at st.verts.names k) ≡ true
vert_of_name st n lists c k e h =
    let P = λ (x : Complex). IsThere x.verts k in
    led_there (λ (s : Slot). option_map vert_rec (vert_in st s.0)) (at st.verts.names k)
    (below_bound (vert_at st) n.verts k (subst P (sym e) h)).1

-- the row of a vertex's example is that of the complex
pub vert_row_in : (st : Stored) (n : Counters) (lists : NameLists) (c : Complex) (example : Option VertName)
    (like : Option Slot) → AreRecords st n → read_off st n lists ≡ c
    → IfSome example (λ (v : VertName). IsThere c.verts v.0)
    → like ≡ option_and_then (λ (v : VertName). at st.verts.names v.0) example
    → row_like st.values.verts like ≡ vert_vals_like c example
vert_row_in st n lists c example like r e h is =
    let P = λ (x : Complex). IfSome example (λ (v : VertName). IsThere x.verts v.0) in
    ap (row_like st.values.verts) is ∙ vert_row st n lists r example (subst P (sym e) h)
    ∙ ap (λ (x : Complex). vert_vals_like x example) e

-- so is the row of an edge's example
pub edge_row_in : (st : Stored) (n : Counters) (lists : NameLists) (c : Complex) (example : Option EdgeName)
    (like : Option Slot) → AreRecords st n → read_off st n lists ≡ c
    → IfSome example (λ (v : EdgeName). IsThere c.edges v.0)
    → like ≡ option_and_then (λ (v : EdgeName). at st.edges.names v.0) example
    → row_like st.values.edges like ≡ edge_vals_like c example
edge_row_in st n lists c example like r e h is =
    let P = λ (x : Complex). IfSome example (λ (v : EdgeName). IsThere x.edges v.0) in
    ap (row_like st.values.edges) is ∙ edge_row st n lists r example (subst P (sym e) h)
    ∙ ap (λ (x : Complex). edge_vals_like x example) e

-- the same of faces
pub face_row_in : (st : Stored) (n : Counters) (lists : NameLists) (c : Complex) (example : Option FaceName)
    (like : Option Slot) → AreRecords st n → read_off st n lists ≡ c
    → IfSome example (λ (f : FaceName). IsThere c.faces f.0)
    → like ≡ option_and_then (λ (f : FaceName). at st.faces.names f.0) example
    → row_like st.values.faces like ≡ face_vals_like c example
face_row_in st n lists c example like r e h is =
    let P = λ (x : Complex). IfSome example (λ (f : FaceName). IsThere x.faces f.0) in
    ap (row_like st.values.faces) is ∙ face_row st n lists r example (subst P (sym e) h)
    ∙ ap (λ (x : Complex). face_vals_like x example) e

pub edge_of_name : (st : Stored) (n : Counters) (lists : NameLists) (c : Complex) (k : ℕ) → read_off st n lists ≡ c
    → IsThere c.edges k → is_some (at st.edges.names k) ≡ true
edge_of_name st n lists c k e h =
    let P = λ (x : Complex). IsThere x.edges k in
    led_there (λ (s : Slot). option_map (edge_rec st) (edge_in st s.0)) (at st.edges.names k)
    (below_bound (edge_at st) n.edges k (subst P (sym e) h)).1

pub face_of_name : (st : Stored) (n : Counters) (lists : NameLists) (c : Complex) (k : ℕ) → read_off st n lists ≡ c
    → IsThere c.faces k → is_some (at st.faces.names k) ≡ true
face_of_name st n lists c k e h =
    let P = λ (x : Complex). IsThere x.faces k in
    led_there (λ (s : Slot). option_map (face_rec st s.0) (face_in st s.0)) (at st.faces.names k)
    (below_bound (face_at st) n.faces k (subst P (sym e) h)).1
