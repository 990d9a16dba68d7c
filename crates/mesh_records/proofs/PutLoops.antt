-- A loop is put: the rule stays nearly whole.
use Rattle.std.proofs.Common.{◌≡◌, ◌≢◌, ◌+◌, ◌<◌, ◌≤◌, ◌^◌, ℕ, ℤ, List, [], ◌∷◌, Option, Some, length, refl, sym, ap, ◌∙◌, subst, inl, inr, arith}
use Rattle.std.specs.Option.{option_map}
use Rattle.std.proofs.lemmas.Bool.{cases_eq}
use Rattle.std.proofs.lemmas.List.{length-set, length-replicate}
use Rattle.std.proofs.lemmas.Option.{same_Some}
use Rattle.cust_data.specs.Layers.{IsTable, total, zeros}
use Rattle.raw_pool.specs.declared.pool.Slot.{Slot}
use Rattle.link_ring.specs.Members.{HasMember}
use Rattle.link_ring.proofs.Members.{member_of, member_left, member_right}
use Rattle.mesh_store.specs.Naming.{NamedCells}
use Rattle.mesh_store.specs.Stored.{Stored, new_loop}
use Rattle.mesh_store.specs.declared.cells.VertCell.{VertCell}
use Rattle.mesh_store.specs.declared.cells.LoopCell.{LoopCell}
use Rattle.mesh_store.specs.declared.cells.Radial.{Radial}
use Rattle.mesh_store.specs.declared.cells.Round.{Round}
use Rattle.mesh_store.specs.declared.layers.Layers.{Layers}
use Rattle.mesh_store.proofs.Places.{written, unwritten}
use Rattle.mesh_cycles.specs.Owners.{edge_of, face_of, len_of}
use Rattle.mesh_cycles.specs.Cycles.{HaveCycles, radial_of, round_of}
use Rattle.mesh_cycles.proofs.Completeness.{whole_same}
use Rattle.mesh_model.specs.declared.records.Counters.{Counters}
use Rattle.mesh_records.specs.AtSlots.{StoredLoop, vert_in, edge_in, loop_in, face_in, IsAt}
use Rattle.mesh_records.specs.Frames.{Extends}
use Rattle.mesh_records.specs.Puts.{with_loop_at, PutsLoop}
use Rattle.mesh_records.specs.Whole.{HaveValues, IsNearlyWhole}
use Rattle.mesh_records.proofs.Added.{told_before, told_beside, told_here, few_more, few_same, size_along}
use Rattle.mesh_records.proofs.Values.{table_written}
use Rattle.mesh_records.proofs.Frames.{records_stay, darts_same, ends_same, edges_of_same, faces_of_same}

-- what is told of a loop
tell : LoopCell → List ℤ → StoredLoop
tell c r = record { vert = c.vert; edge = c.edge; face = c.face; vals = r }

module _ (old new : Stored) (f v e l : Slot) (p : PutsLoop old new f v e l) where
  pub put_extends : Extends old new
  unfolding tell
  put_extends = record {
    verts = λ k x is. p.elements.verts k ∙ is;
    edges = λ k x is. p.elements.edges k ∙ is;
    loops = λ k x is. p.elements.loops k ∙ told_before tell old.loops old.values.loops l.0 (new_loop v e f l)
        (zeros (total old.values.loops.layers)) p.vacant k x is;
    faces = λ k x is. p.elements.faces k ∙ is;
  }

  -- the new loop
  pub here : length old.loops ≤ length old.values.loops.rows
      → loop_in (with_loop_at old v e f l) l.0
      ≡ Some (record { vert = v; edge = e; face = f; vals = zeros (total old.values.loops.layers) })
  unfolding tell
  here rows = told_here tell old.loops old.values.loops l.0 (new_loop v e f l) (zeros (total old.values.loops.layers))
      p.low (let low = p.low in omega arith)

  beside : (t : ℕ) → t ≢ l.0 → loop_in (with_loop_at old v e f l) t ≡ loop_in old t
  unfolding tell
  beside t ne = told_beside tell old.loops old.values.loops l.0 (new_loop v e f l)
      (zeros (total old.values.loops.layers)) t ne

  -- the edge and the face of the new loop and of the others
  edge_of_new : edge_of new l ≡ Some e.0
  edge_of_new = edges_of_same (with_loop_at old v e f l) new p.elements l
      ∙ ap (option_map (λ (c : LoopCell). c.edge.0)) (written old.loops l.0 (Some (new_loop v e f l)) p.low)

  face_of_new : face_of new l ≡ Some f.0
  face_of_new = faces_of_same (with_loop_at old v e f l) new p.elements l
      ∙ ap (option_map (λ (c : LoopCell). c.face.0)) (written old.loops l.0 (Some (new_loop v e f l)) p.low)

  edge_of_old : (k : Slot) → k.0 ≢ l.0 → edge_of new k ≡ edge_of old k
  edge_of_old k ne = edges_of_same (with_loop_at old v e f l) new p.elements k
      ∙ ap (option_map (λ (c : LoopCell). c.edge.0)) (unwritten old.loops l.0 k.0 (Some (new_loop v e f l)) ne)

  face_of_old : (k : Slot) → k.0 ≢ l.0 → face_of new k ≡ face_of old k
  face_of_old k ne = faces_of_same (with_loop_at old v e f l) new p.elements k
      ∙ ap (option_map (λ (c : LoopCell). c.face.0)) (unwritten old.loops l.0 k.0 (Some (new_loop v e f l)) ne)

  -- members stay
  grown : (d : ℕ) (r : Radial) → HasMember (radial_of old d) r → HasMember (radial_of new d) r
  grown d r m = elim (cases_eq d e.0) [
    | inl q ↦
        let P = λ (x : ℕ). HasMember (radial_of new x) r in
        let Q = λ (x : ℕ). HasMember (radial_of old x) r in
        subst P (sym q) (member_of r (member_left (radial_of old e.0) (record { 0 = l } ∷ []) r (subst Q q m))
        (sym p.along))
    | inr ne ↦ member_of r m (sym (p.besides d ne))
  ]

  grown_round : (g : ℕ) (r : Round) → HasMember (round_of old g) r → HasMember (round_of new g) r
  grown_round g r m = elim (cases_eq g f.0) [
    | inl q ↦
        let P = λ (x : ℕ). HasMember (round_of new x) r in
        let Q = λ (x : ℕ). HasMember (round_of old x) r in
        subst P (sym q) (member_of r (member_left (round_of old f.0) (record { 0 = l } ∷ []) r (subst Q q m))
        (sym p.own))
    | inr ne ↦ member_of r m (sym (p.others g ne))
  ]

  -- the cycles hold with the loop
  cycles_given : HaveCycles old → HaveCycles new
  cycles_given h = record {
    cycles = p.cycles;
    complete = record {
      disks = whole_same old new (darts_same (with_loop_at old v e f l) new p.elements)
          (ends_same (with_loop_at old v e f l) new p.elements) p.disks h.complete.disks;
      radials = λ k d is. elim (cases_eq k.0 l.0) [
        | inl q ↦
            let slot : l ≡ k = λ i. record { 0 = sym q i } in
            let at_e : d ≡ e.0 = same_Some _ _ (sym is ∙ ap (edge_of new) (sym slot) ∙ edge_of_new) in
            let P = λ (x : ℕ). HasMember (radial_of new x) (record { 0 = k }) in
            let Q = λ (x : Slot). HasMember (radial_of new e.0) (record { 0 = x }) in
            subst P (sym at_e) (subst Q slot (member_of _ (member_right (radial_of old e.0) (record { 0 = l } ∷ []) _
            (inl refl)) (sym p.along)))
        | inr ne ↦ grown d _ (h.complete.radials k d (sym (edge_of_old k ne) ∙ is))
      ];
      rounds = λ k g is. elim (cases_eq k.0 l.0) [
        | inl q ↦
            let slot : l ≡ k = λ i. record { 0 = sym q i } in
            let at_f : g ≡ f.0 = same_Some _ _ (sym is ∙ ap (face_of new) (sym slot) ∙ face_of_new) in
            let P = λ (x : ℕ). HasMember (round_of new x) (record { 0 = k }) in
            let Q = λ (x : Slot). HasMember (round_of new f.0) (record { 0 = x }) in
            subst P (sym at_f) (subst Q slot (member_of _ (member_right (round_of old f.0) (record { 0 = l } ∷ []) _
            (inl refl)) (sym p.own)))
        | inr ne ↦ grown_round g _ (h.complete.rounds k g (sym (face_of_old k ne) ∙ is))
      ];
    };
    counted = λ g n is. elim (cases_eq g f.0) [
      | inl q ↦ (let P = λ (x : ℕ). len_of new x
          ≡ Some (length (round_of new x)) in same_Some _ _ (sym is ∙ subst P (sym q) p.counted))
      | inr ne ↦ h.counted g n (sym (p.lens g ne) ∙ is) ∙ ap (λ (ls : List Round). length ls) (sym (p.others g ne))
    ];
  }

  values_given : HaveValues old → HaveValues new
  values_given w =
      let wide = length-replicate (total old.values.loops.layers) _ in
      let table = table_written old.values.loops l.0 (zeros (total old.values.loops.layers)) wide w.loops in
      let rows = length-set old.values.loops.rows l.0 (zeros (total old.values.loops.layers)) in
      record {
        verts = (let P = λ (x : Layers). IsTable x.verts in subst P (sym p.values) w.verts);
        edges = (let P = λ (x : Layers). IsTable x.edges in subst P (sym p.values) w.edges);
        loops = (let P = λ (x : Layers). IsTable x.loops in subst P (sym p.values) table);
        faces = (let P = λ (x : Layers). IsTable x.faces in subst P (sym p.values) w.faces);
        rows = record {
          verts = (let long = ap (λ (x : Layers). length x.verts.rows) p.values in let size =
              ap (λ (x : NamedCells VertCell). length x.cells) p.verts in let was = w.rows.verts in omega arith);
          edges = (let long = ap (λ (x : Layers). length x.edges.rows) p.values in let size = p.edges.long in let was =
              w.rows.edges in omega arith);
          loops = (let long = ap (λ (x : Layers). length x.loops.rows) p.values in let size = p.long in let was =
              w.rows.loops in omega arith);
          faces = (let long = ap (λ (x : Layers). length x.faces.rows) p.values in let size = p.faces.long in let was =
              w.rows.faces in omega arith);
          few = (let size = p.long in let was = w.rows.few in omega arith);
        };
      }

  pub nearly_put : (n : Counters) → IsNearlyWhole old n → n.corners < 2 ^ 24 → IsAt (vert_in old) v.0
      → IsAt (edge_in old) e.0 → IsAt (face_in old) f.0 → IsNearlyWhole new (record n { corners = n.corners + 1 })
  nearly_put n w few at_v at_e at_f =
      let r = w.records in
      let z = w.sizes in
      let k = r.linked in
      let made = with_loop_at old v e f l in
      let V = λ (x : ℕ). IsAt (vert_in old) x in
      let E = λ (x : ℕ). IsAt (edge_in old) x in
      let F = λ (x : ℕ). IsAt (face_in old) x in
      let one = λ (t : ℕ) (x : StoredLoop) (q : t ≡ l.0) (is : loop_in made t ≡ Some x). same_Some _ x
      (sym (here w.values.rows.loops) ∙ ap (loop_in made) (sym q) ∙ is) in
      record {
        records = records_stay made new p.elements (record n { corners = n.corners + 1 }) (record {
          linked = record {
            a = k.a;
            b = k.b;
            vert = λ t x is. elim (cases_eq t l.0) [
              | inl q ↦ subst V (ap (λ (y : StoredLoop). y.vert.0) (one t x q is))
                  at_v
              | inr ne ↦ k.vert t x (sym (beside t ne) ∙ is)
            ];
            edge = λ t x is. elim (cases_eq t l.0) [
              | inl q ↦ subst E (ap (λ (y : StoredLoop). y.edge.0) (one t x q is))
                  at_e
              | inr ne ↦ k.edge t x (sym (beside t ne) ∙ is)
            ];
            face = λ t x is. elim (cases_eq t l.0) [
              | inl q ↦ subst F (ap (λ (y : StoredLoop). y.face.0) (one t x q is))
                  at_f
              | inr ne ↦ k.face t x (sym (beside t ne) ∙ is)
            ];
          };
          named = record { verts = r.named.verts; edges = r.named.edges; faces = r.named.faces };
          below = record { verts = r.below.verts; edges = r.below.edges; faces = r.below.faces };
        });
        cycles = cycles_given w.cycles;
        values = values_given w.values;
        sizes = record {
          vert_limit = z.vert_limit;
          edge_limit = z.edge_limit;
          face_limit = z.face_limit;
          corner_limit = omega arith;
          vert_reach = (let a = ap (λ (x : NamedCells VertCell). length x.names) p.verts in let b =
              z.vert_reach in omega arith);
          edge_reach = (let a = ap (λ (xs : List (Option Slot)). length xs) p.edge_names in let b =
              z.edge_reach in omega arith);
          face_reach = (let a = ap (λ (xs : List (Option Slot)). length xs) p.face_names in let b =
              z.face_reach in omega arith);
          verts = few_same n.verts (size_along (ap (λ (x : NamedCells VertCell). x.cells) p.verts)) z.verts;
          edges = few_same n.edges p.edges z.edges;
          faces = few_same n.faces p.faces z.faces;
          loops = few_more p.long p.spare z.loops;
        };
      }
