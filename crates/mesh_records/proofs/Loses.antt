-- A face loses its loops.
use Rattle.std.proofs.Common.{◌≡◌, ◌≢◌, ◌+◌, ◌<◌, ℕ, Bool, false, not, is_some, List, [], Option, Some, None, length, refl, sym, ap, ◌∙◌, subst, inl, inr, arith}
use Rattle.std.specs.Prelude.{slice_set}
use Rattle.std.specs.Option.{option_map, option_and_then}
use Rattle.std.proofs.lemmas.Bool.{cases_eq, false_from_ne_true}
use Rattle.std.proofs.lemmas.Option.{same_Some}
use Rattle.cust_data.specs.Layers.{IsTable, row_of}
use Rattle.raw_pool.specs.declared.pool.Slot.{Slot}
use Rattle.raw_pool.specs.Slots.{IsLive}
use Rattle.link_ring.specs.Members.{HasMember}
use Rattle.link_ring.proofs.Members.{member_of}
use Rattle.link_ring.proofs.Paths.{IsIdentityTest}
use Rattle.mesh_store.specs.Slots.{at}
use Rattle.mesh_store.specs.Stored.{Stored, round_links}
use Rattle.mesh_store.specs.Naming.{NamedCells}
use Rattle.mesh_store.specs.declared.cells.Round.{Round}
use Rattle.mesh_store.specs.declared.cells.Radial.{Radial}
use Rattle.mesh_store.specs.declared.cells.VertCell.{VertCell}
use Rattle.mesh_store.specs.declared.cells.LoopCell.{LoopCell}
use Rattle.mesh_store.specs.declared.cells.FaceCell.{FaceCell}
use Rattle.mesh_store.specs.declared.layers.Layers.{Layers}
use Rattle.mesh_store.proofs.Places.{written, unwritten, below}
use Rattle.mesh_cycles.specs.Owners.{edge_of, face_of, len_of, first_round}
use Rattle.mesh_cycles.specs.Lists.{ring_list, same_radial, same_round, without}
use Rattle.mesh_cycles.specs.Cycles.{AreCycles, HaveCycles, radial_of, round_of, loop_limit}
use Rattle.mesh_cycles.proofs.Frames.{radial_test, round_test}
use Rattle.mesh_cycles.proofs.Mapped.{filtered_to}
use Rattle.mesh_cycles.proofs.RingLists.{parted}
use Rattle.mesh_cycles.proofs.Stays.{first_member}
use Rattle.mesh_cycles.proofs.Completeness.{whole_same}
use Rattle.mesh_model.specs.declared.records.Counters.{Counters}
use Rattle.mesh_records.specs.AtSlots.{StoredLoop, StoredFace, loop_in, face_in, IsAt}
use Rattle.mesh_records.specs.Takes.{without_loop_at, TakesLoop, LosesLoops}
use Rattle.mesh_records.specs.Whole.{AreLinked, IsNearlyWhole}
use Rattle.mesh_records.proofs.Options.{has_key}
use Rattle.mesh_records.proofs.Elements.{edge_live, face_of_in, edge_of_in}
use Rattle.mesh_records.proofs.Added.{few_same, size_along, sizes_then}
use Rattle.mesh_records.proofs.Frames.{linked_stay, records_stay, darts_same, ends_same, edges_of_same, faces_of_same}

-- another member stays when one is taken
pub stays_without : {K : Type 0} (same : K → K → Bool) → IsIdentityTest same → (k j : K) (xs : List K) → (j ≡ k → ⊥)
    → HasMember xs j → HasMember (without same k xs) j
stays_without {K} same t k j xs ne m =
    let other : same j k ≡ false = false_from_ne_true (same j k) (λ e. ne (t.one j k e)) in
    filtered_to (λ x. not (same x k)) xs j m (ap not other)

-- what is told of a cell that is left when one is taken
module _ {X Z : Type 0} (tell : ℕ → X → Z) (xs : List (Option X)) (s : ℕ) where
  -- it isn't the one
  pub told_left : s < length xs → (k : ℕ) (z : Z) → option_map (tell k) (at (slice_set xs s None) k) ≡ Some z → k ≢ s
  told_left low k z is q =
      let none : None ≡ Some z = sym (ap (λ (j : ℕ). option_map (tell k) (at (slice_set xs s None) j)) q
      ∙ ap (option_map (tell k)) (written xs s None low)) ∙ is in
      absurd (cc)

  -- and it was there
  pub told_was : s < length xs → (k : ℕ) (z : Z) → option_map (tell k) (at (slice_set xs s None) k) ≡ Some z
      → option_map (tell k) (at xs k) ≡ Some z
  told_was low k z is = sym (ap (option_map (tell k)) (unwritten xs s k None (told_left low k z is))) ∙ is

module _ (old new : Stored) (f l : Slot) (low : l.0 < length old.loops) (t : TakesLoop old new f l) where
  pub loop_was : (s : ℕ) (x : StoredLoop) → loop_in new s ≡ Some x → loop_in old s ≡ Some x
  loop_was s x is =
      told_was (λ (k : ℕ) (c : LoopCell). let y : StoredLoop =
      record { vert = c.vert; edge = c.edge; face = c.face; vals = row_of old.values.loops k } in y) old.loops l.0
      low s x (sym (t.elements.loops s) ∙ is)

  -- a loop that is left, by its edge
  edge_was : (k : Slot) (e : ℕ) → edge_of new k ≡ Some e → (k.0 ≢ l.0) × (edge_of old k ≡ Some e)
  edge_was k e is =
      let told = sym (edges_of_same (without_loop_at old l) new t.elements k) ∙ is in (
        told_left (λ (j : ℕ) (c : LoopCell). c.edge.0) old.loops l.0 low k.0 e told,
        told_was (λ (j : ℕ) (c : LoopCell). c.edge.0) old.loops l.0 low k.0 e told,
      )

  -- and by its face
  face_was : (k : Slot) (g : ℕ) → face_of new k ≡ Some g → (k.0 ≢ l.0) × (face_of old k ≡ Some g)
  face_was k g is =
      let told = sym (faces_of_same (without_loop_at old l) new t.elements k) ∙ is in (
        told_left (λ (j : ℕ) (c : LoopCell). c.face.0) old.loops l.0 low k.0 g told,
        told_was (λ (j : ℕ) (c : LoopCell). c.face.0) old.loops l.0 low k.0 g told,
      )

  linked_without : AreLinked old → AreLinked (without_loop_at old l)
  linked_without k =
      let was = λ (s : ℕ) (x : StoredLoop) (is : loop_in (without_loop_at old l) s ≡ Some x).
      told_was (λ (j : ℕ) (c : LoopCell). let y : StoredLoop =
      record { vert = c.vert; edge = c.edge; face = c.face; vals = row_of old.values.loops j } in y) old.loops l.0
      low s x is in
      record {
        a = k.a;
        b = k.b;
        vert = λ s x is. k.vert s x (was s x is);
        edge = λ s x is. k.edge s x (was s x is);
        face = λ s x is. k.face s x (was s x is);
      }

  pub linked_left : AreLinked old → AreLinked new
  linked_left k = linked_stay (without_loop_at old l) new t.elements (linked_without k)

  pub face_left : IsAt (face_in old) f.0 → IsAt (face_in new) f.0
  face_left is = ap (λ (o : Option StoredFace). is_some o) (t.elements.faces f.0) ∙ is

  module _ (edge : ℕ) (of_edge : edge_of old l ≡ Some edge) where
    pub cycles_left : HaveCycles old → HaveCycles new
    cycles_left h =
        let radial = λ (s : Slot). let r : Radial = record { 0 = s } in r in
        let round = λ (s : Slot). let r : Round = record { 0 = s } in r in
        record {
          cycles = t.cycles;
          complete = record {
            disks = whole_same old new (darts_same (without_loop_at old l) new t.elements)
                (ends_same (without_loop_at old l) new t.elements) t.disks h.complete.disks;
            radials = λ k e is.
                let o = edge_was k e is in
                let m = h.complete.radials k e o.1 in
                elim (cases_eq e edge) [
                  | inl q ↦
                      let P = λ (x : ℕ). HasMember (radial_of new x) (radial k) in
                      let Q = λ (x : ℕ). HasMember (radial_of old x) (radial k) in
                      subst P (sym q) (member_of (radial k) (stays_without same_radial radial_test (radial l) (radial k)
                      (radial_of old edge) (λ r. o.0 (ap (λ (x : Radial). x.0.0) r)) (subst Q q m))
                      (sym (t.along edge of_edge)))
                  | inr ne ↦ member_of (radial k) m (sym (t.besides edge e of_edge ne))
                ];
            rounds = λ k g is.
                let o = face_was k g is in
                let m = h.complete.rounds k g o.1 in
                elim (cases_eq g f.0) [
                  | inl q ↦
                      let P = λ (x : ℕ). HasMember (round_of new x) (round k) in
                      let Q = λ (x : ℕ). HasMember (round_of old x) (round k) in
                      subst P (sym q) (member_of (round k) (stays_without same_round round_test (round l) (round k)
                      (round_of old f.0) (λ r. o.0 (ap (λ (x : Round). x.0.0) r)) (subst Q q m)) (sym t.own))
                  | inr ne ↦ member_of (round k) m (sym (t.others g ne))
                ];
          };
          counted = λ g n is. elim (cases_eq g f.0) [
            | inl q ↦ (let P = λ (x : ℕ). len_of new x
                ≡ Some (length (round_of new x)) in same_Some _ _ (sym is ∙ subst P (sym q) t.counted))
            | inr ne ↦ h.counted g n (sym (t.lens g ne) ∙ is)
                ∙ ap (λ (ls : List Round). length ls) (sym (t.others g ne))
          ];
        }

    pub nearly_left : (n : Counters) → IsNearlyWhole old n → IsNearlyWhole new n
    nearly_left n w =
        let r = w.records in
        let z = w.sizes in
        let v = w.values in
        record {
          records = records_stay (without_loop_at old l) new t.elements n (record {
            linked = linked_without r.linked;
            named = record { verts = r.named.verts; edges = r.named.edges; faces = r.named.faces };
            below = record { verts = r.below.verts; edges = r.below.edges; faces = r.below.faces };
          });
          cycles = cycles_left w.cycles;
          values = record {
            verts = (let P = λ (x : Layers). IsTable x.verts in subst P (sym t.values) v.verts);
            edges = (let P = λ (x : Layers). IsTable x.edges in subst P (sym t.values) v.edges);
            loops = (let P = λ (x : Layers). IsTable x.loops in subst P (sym t.values) v.loops);
            faces = (let P = λ (x : Layers). IsTable x.faces in subst P (sym t.values) v.faces);
            rows = record {
              verts = (let long = ap (λ (x : Layers). length x.verts.rows) t.values in let size =
                  ap (λ (x : NamedCells VertCell). length x.cells) t.verts in let was = v.rows.verts in omega arith);
              edges = (let long = ap (λ (x : Layers). length x.edges.rows) t.values in let size =
                  t.edges.long in let was = v.rows.edges in omega arith);
              loops = (let long = ap (λ (x : Layers). length x.loops.rows) t.values in let size = t.long in let was =
                  v.rows.loops in omega arith);
              faces = (let long = ap (λ (x : Layers). length x.faces.rows) t.values in let size =
                  t.faces.long in let was = v.rows.faces in omega arith);
              few = (let size = t.long in let was = v.rows.few in omega arith);
            };
          };
          sizes = record {
            vert_limit = z.vert_limit;
            edge_limit = z.edge_limit;
            face_limit = z.face_limit;
            corner_limit = z.corner_limit;
            vert_reach = (let a = ap (λ (p : NamedCells VertCell). length p.names) t.verts in let b =
                z.vert_reach in omega arith);
            edge_reach = (let a = ap (λ (xs : List (Option Slot)). length xs) t.edge_names in let b =
                z.edge_reach in omega arith);
            face_reach = (let a = ap (λ (xs : List (Option Slot)). length xs) t.face_names in let b =
                z.face_reach in omega arith);
            verts = few_same n.verts (size_along (ap (λ (p : NamedCells VertCell). p.cells) t.verts)) z.verts;
            edges = few_same n.edges t.edges z.edges;
            faces = few_same n.faces t.faces z.faces;
            loops = (let a = t.long in let b = t.spare in let c = z.loops.live in let d =
                z.loops.small in record { live = omega arith; small = omega arith });
          };
        }

  -- one loop less
  pub one_less : AreCycles old → HasMember (round_of old f.0) (record { 0 = l })
      → length (round_of old f.0) ≡ length (round_of new f.0) + 1
  one_less h m =
      let p = parted same_round round_test (record { 0 = l }) (h.rounds f.0) m in
      p.count ∙ ap (λ (ls : List Round). length ls + 1) (sym (t.own ∙ p.less))

-- no loop is lost yet
pub loses_none : (st : Stored) (f : ℕ) → LosesLoops st st f
loses_none st f = record {
  loops = λ s x e. e;
  verts_in = λ s. refl;
  edges_in = λ s. refl;
  faces_in = λ s. refl;
  values = refl;
  disks = λ v. refl;
  rounds = λ g ne. refl;
  spare = refl;
  long = refl;
  verts = refl;
  edges = record { long = refl; spare = refl };
  edge_names = refl;
  faces = record { long = refl; spare = refl };
  face_names = refl;
}

-- one more is lost
pub loses_more : (old mid new : Stored) (f l : Slot) → LosesLoops old mid f.0 → AreCycles mid
    → HasMember (round_of mid f.0) (record { 0 = l }) → l.0 < length mid.loops → TakesLoop mid new f l
    → LosesLoops old new f.0
loses_more old mid new f l a h m low t =
    let less = one_less mid new f l low t h m in
    record {
      loops = λ s x e. a.loops s x (loop_was mid new f l low t s x e);
      verts_in = λ s. t.elements.verts s ∙ a.verts_in s;
      edges_in = λ s. t.elements.edges s ∙ a.edges_in s;
      faces_in = λ s. t.elements.faces s ∙ a.faces_in s;
      values = t.values ∙ a.values;
      disks = λ v. t.disks v ∙ a.disks v;
      rounds = λ g ne. t.others g ne ∙ a.rounds g ne;
      spare = (let x = t.spare in let y = a.spare in omega arith);
      long = t.long ∙ a.long;
      verts = t.verts ∙ a.verts;
      edges = sizes_then a.edges t.edges;
      edge_names = t.edge_names ∙ a.edge_names;
      faces = sizes_then a.faces t.faces;
      face_names = t.face_names ∙ a.face_names;
    }

-- the loop with which a face begins
pub first_in : (st : Stored) (f l : Slot) → AreCycles st
    → option_map (λ (c : FaceCell). c.first_loop) (at st.faces.cells f.0) ≡ Some (Some l)
    → HasMember (round_of st f.0) (record { 0 = l })
first_in st f l h e =
    let k = has_key (λ (c : FaceCell). c.first_loop) (at st.faces.cells f.0) (Some l) e in
    let round = λ (x : Slot). let r : Round = record { 0 = x } in r in
    let first : first_round st f.0 ≡ Some (record { 0 = l }) =
    ap (option_and_then (λ (c : FaceCell). option_map round c.first_loop)) k.is ∙ ap (option_map round) k.same in
    first_member (record { 0 = l }) (h.rounds f.0) first

-- a face without a first loop has none
pub none_in : (st : Stored) (f : Slot) → option_map (λ (c : FaceCell). c.first_loop) (at st.faces.cells f.0) ≡ Some None
    → round_of st f.0 ≡ []
none_in st f e =
    let k = has_key (λ (c : FaceCell). c.first_loop) (at st.faces.cells f.0) None e in
    let round = λ (x : Slot). let r : Round = record { 0 = x } in r in
    let first : first_round st f.0 ≡ None =
    ap (option_and_then (λ (c : FaceCell). option_map round c.first_loop)) k.is ∙ ap (option_map round) k.same in
    ap (ring_list same_round (round_links st) (loop_limit st)) first

-- what a loop of a face has
pub record LoopOf (st : Stored) (f l : Slot) : Type 0 where
  pub edge : ℕ
  pub of_edge : edge_of st l ≡ Some edge
  pub live : IsLive st.edges.cells edge
  pub low : l.0 < length st.loops

pub loop_of : (st : Stored) (f l : Slot) → AreCycles st → AreLinked st → HasMember (round_of st f.0) (record { 0 = l })
    → LoopOf st f l
loop_of st f l h k m =
    let c = has_key (λ (x : StoredLoop). x.face.0) (loop_in st l.0) f.0
    (face_of_in st l ∙ h.round_faces f.0 (record { 0 = l }) m) in
    let tell = λ (x : LoopCell). let y : StoredLoop =
    record { vert = x.vert; edge = x.edge; face = x.face; vals = row_of st.values.loops l.0 } in y in
    let cell = has_key tell (at st.loops l.0) c.cell c.is in
    record {
      edge = c.cell.edge.0;
      of_edge = sym (edge_of_in st l) ∙ ap (option_map (λ (x : StoredLoop). x.edge.0)) c.is;
      live = edge_live st c.cell.edge.0 (k.edge l.0 c.cell c.is);
      low = below st.loops l.0 cell.cell cell.is;
    }
