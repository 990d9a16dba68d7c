-- What stands at a name of a whole mesh, and the slot to which the name leads.
use Rattle.std.proofs.Common.{◌≡◌, ℕ, true, is_some, List, Option, Some, None, refl, sym, ap, ◌∙◌, subst}
use Rattle.std.specs.Option.{option_map, option_map_or, option_and_then}
use Rattle.std.proofs.lemmas.Bool.{false≢true}
use Rattle.std.proofs.lemmas.Option.{same_Some}
use Rattle.raw_pool.specs.declared.pool.Slot.{Slot}
use Rattle.mesh_store.specs.Slots.{at}
use Rattle.mesh_store.specs.Naming.{AreNamed}
use Rattle.mesh_store.specs.Stored.{Stored}
use Rattle.mesh_store.specs.declared.cells.VertCell.{VertCell}
use Rattle.mesh_store.specs.declared.cells.EdgeCell.{EdgeCell}
use Rattle.mesh_store.specs.declared.cells.FaceCell.{FaceCell}
use Rattle.mesh_model.specs.declared.records.Counters.{Counters}
use Rattle.mesh_records.specs.AtSlots.{StoredVert, StoredEdge, StoredFace, vert_in, edge_in, face_in, IsAt}
use Rattle.mesh_records.specs.ReadOff.{table, vert_name, edge_name, vert_rec, edge_rec, face_rec, vert_at, edge_at, face_at}
use Rattle.mesh_records.specs.StandsFor.{face_name}
use Rattle.mesh_records.specs.Whole.{AreRecords}
use Rattle.mesh_records.proofs.Tables.{at_all}
use Rattle.mesh_records.proofs.Elements.{vert_number, edge_number, face_number}

-- the slot to which a name leads, and what is told of what is there
pub record Led {V R : Type 0} (told : Slot → Option V) (f : Slot → V → R) (o : Option Slot) (r : R) : Type 0 where
  pub slot : Slot
  pub leads : o ≡ Some slot
  pub value : V
  pub is : told slot ≡ Some value
  pub same : f slot value ≡ r

pub led_to : {V R : Type 0} (told : Slot → Option V) (f : Slot → V → R) (o : Option Slot) (r : R)
    → option_and_then (λ (s : Slot). option_map (f s) (told s)) o ≡ Some r → Led told f o r
led_to told f None r e = absurd (let q : None ≡ Some r = e in cc)
led_to {V} {R} told f (Some s) r e = by_value (told s) refl e
  where
    by_value : (v : Option V) → told s ≡ v → option_map (f s) v ≡ Some r → Led told f (Some s) r
    by_value None is q = absurd (let no : None ≡ Some r = q in cc)
    by_value (Some v) is q = record { slot = s; leads = refl; value = v; is = is; same = same_Some _ _ q }

-- the number of a live cell leads back to its slot
leads_back : {X : Type 0} (number : X → ℕ) (cells : List (Option X)) (names : List (Option Slot))
    → AreNamed number cells names → (s : Slot) (k : ℕ) → option_map number (at cells s.0) ≡ Some k → at names k ≡ Some s
leads_back {X} number cells names n s k e = by_cell (at cells s.0) refl e
  where
    by_cell : (o : Option X) → at cells s.0 ≡ o → option_map number o ≡ Some k → at names k ≡ Some s
    by_cell None is q = absurd (let no : None ≡ Some k = q in cc)
    by_cell (Some x) is q = let P = λ (j : ℕ). at names j ≡ Some s in subst P (same_Some _ _ q) (n.named s.0 x is)

-- the number that is told where something is
number_told : {V : Type 0} (number : V → ℕ) (o : Option V) → is_some o ≡ true
    → option_map number o ≡ Some (option_map_or number o 0)
number_told number None h = absurd (false≢true h)
number_told number (Some v) h = refl

-- and of what a number is told it is that
pub told_number : {V : Type 0} (number : V → ℕ) (o : Option V) (k : ℕ) → option_map number o ≡ Some k
    → option_map_or number o 0 ≡ k
told_number number None k e = absurd (let no : None ≡ Some k = e in cc)
told_number number (Some v) k e = same_Some _ _ e

module _ (st : Stored) (n : Counters) (r : AreRecords st n) where
  -- the tables are what stands at each name
  pub verts_all : (k : ℕ) → at (table (vert_at st) n.verts) k ≡ vert_at st k
  verts_all = at_all (vert_at st) n.verts (λ k ge.
      ap (option_and_then (λ (s : Slot). option_map vert_rec (vert_in st s.0))) (r.below.verts k ge))

  pub edges_all : (k : ℕ) → at (table (edge_at st) n.edges) k ≡ edge_at st k
  edges_all = at_all (edge_at st) n.edges (λ k ge.
      ap (option_and_then (λ (s : Slot). option_map (edge_rec st) (edge_in st s.0))) (r.below.edges k ge))

  pub faces_all : (k : ℕ) → at (table (face_at st) n.faces) k ≡ face_at st k
  faces_all = at_all (face_at st) n.faces (λ k ge.
      ap (option_and_then (λ (s : Slot). option_map (face_rec st s.0) (face_in st s.0))) (r.below.faces k ge))

  -- the name of an element leads to its slot
  pub vert_leads : (s : Slot) → IsAt (vert_in st) s.0 → at st.verts.names (vert_name st s.0).0 ≡ Some s
  vert_leads s is = leads_back (λ (c : VertCell). c.number) st.verts.cells st.verts.names r.named.verts s
      (vert_name st s.0).0
      (sym (vert_number st s.0) ∙ number_told (λ (v : StoredVert). v.number) (vert_in st s.0) is)

  pub edge_leads : (s : Slot) → IsAt (edge_in st) s.0 → at st.edges.names (edge_name st s.0).0 ≡ Some s
  edge_leads s is = leads_back (λ (c : EdgeCell). c.number) st.edges.cells st.edges.names r.named.edges s
      (edge_name st s.0).0
      (sym (edge_number st s.0) ∙ number_told (λ (v : StoredEdge). v.number) (edge_in st s.0) is)

  pub face_leads : (s : Slot) → IsAt (face_in st) s.0 → at st.faces.names (face_name st s.0).0 ≡ Some s
  face_leads s is = leads_back (λ (c : FaceCell). c.number) st.faces.cells st.faces.names r.named.faces s
      (face_name st s.0).0
      (sym (face_number st s.0) ∙ number_told (λ (v : StoredFace). v.number) (face_in st s.0) is)

  -- and the slot to which a name leads has that name
  pub vert_named : (k : ℕ) (s : Slot) → at st.verts.names k ≡ Some s → (vert_name st s.0).0 ≡ k
  vert_named k s e = told_number (λ (v : StoredVert). v.number) (vert_in st s.0) k
      (vert_number st s.0 ∙ r.named.verts.live k s e)

  pub edge_named : (k : ℕ) (s : Slot) → at st.edges.names k ≡ Some s → (edge_name st s.0).0 ≡ k
  edge_named k s e = told_number (λ (v : StoredEdge). v.number) (edge_in st s.0) k
      (edge_number st s.0 ∙ r.named.edges.live k s e)

  pub face_named : (k : ℕ) (s : Slot) → at st.faces.names k ≡ Some s → (face_name st s.0).0 ≡ k
  face_named k s e = told_number (λ (v : StoredFace). v.number) (face_in st s.0) k
      (face_number st s.0 ∙ r.named.faces.live k s e)
