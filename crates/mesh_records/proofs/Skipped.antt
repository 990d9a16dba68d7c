-- A name is passed over: nothing stands at it.
use Rattle.std.proofs.Common.{◌≡◌, ◌<◌, ◌+◌, ◌++◌, ℕ, List, [], ◌∷◌, Option, Some, None, length, refl, ap, ◌∙◌, sym, arith}
use Rattle.std.specs.Option.{option_map, option_and_then}
use Rattle.std.proofs.lemmas.List.Sums.{sum_by_push}
use Rattle.raw_pool.specs.declared.pool.Slot.{Slot}
use Rattle.mesh_store.specs.Slots.{at}
use Rattle.mesh_store.specs.Stored.{Stored}
use Rattle.mesh_model.specs.Complex.{Complex, corner_sum, corners_of}
use Rattle.mesh_model.specs.declared.limits.TheConstants.{MAX_VERTS, MAX_EDGES, MAX_FACES}
use Rattle.mesh_model.specs.declared.records.FaceRec.{FaceRec}
use Rattle.mesh_model.specs.declared.records.Counters.{Counters}
use Rattle.mesh_records.specs.AtSlots.{vert_in, edge_in, face_in}
use Rattle.mesh_records.specs.Loading.{with_vert_name, with_edge_name, with_face_name}
use Rattle.mesh_records.specs.ReadOff.{NameLists, table, vert_rec, edge_rec, face_rec, vert_at, edge_at, face_at, read_off, layers_in}
use Rattle.mesh_records.specs.Whole.{IsFew, IsWhole}
use Rattle.mesh_records.proofs.Tables.{table_more}

-- the rule holds with one name more, and this is read
pub record Skips (st : Stored) (old new : Counters) (change : Complex → Complex) : Type 0 where
  pub whole : IsWhole st new
  pub read : (lists : NameLists) → read_off st new lists ≡ change (read_off st old lists)

few_more : {X : Type 0} (cells : List (Option X)) (n : ℕ) → IsFew cells n → IsFew cells (n + 1)
few_more cells n h = record { live = (let a = h.live in omega arith); small = h.small }

module _ (st : Stored) (n : Counters) (w : IsWhole st n) where
  pub skips_vert : n.verts < MAX_VERTS → n.verts < length st.verts.names
      → Skips st n (record n { verts = n.verts + 1 }) (λ (c : Complex). with_vert_name c None)
  skips_vert low reach =
      let r = w.records in
      let z = w.sizes in
      let none : vert_at st n.verts ≡ None =
      ap (option_and_then (λ (s : Slot). option_map vert_rec (vert_in st s.0))) (r.below.verts n.verts (omega arith)) in
      let more = table_more None (vert_at st) (vert_at st) n.verts None (λ k lt. refl) none in
      record {
        whole = record {
          records = record {
            linked = r.linked;
            named = r.named;
            below = record {
              verts = λ k le. r.below.verts k (omega arith);
              edges = r.below.edges;
              faces = r.below.faces;
            };
          };
          cycles = w.cycles;
          values = w.values;
          sizes = record {
            vert_limit = omega arith;
            edge_limit = z.edge_limit;
            face_limit = z.face_limit;
            corner_limit = z.corner_limit;
            vert_reach = omega arith;
            edge_reach = z.edge_reach;
            face_reach = z.face_reach;
            verts = few_more st.verts.cells n.verts z.verts;
            edges = z.edges;
            faces = z.faces;
            loops = z.loops;
          };
          some = w.some;
          corners = w.corners;
        };
        read = λ lists. λ i. record {
          verts = more i;
          edges = table (edge_at st) n.edges;
          faces = table (face_at st) n.faces;
          layers = layers_in st;
          materials = lists.materials;
          libraries = lists.libraries;
        };
      }

  pub skips_edge : n.edges < MAX_EDGES → n.edges < length st.edges.names
      → Skips st n (record n { edges = n.edges + 1 }) (λ (c : Complex). with_edge_name c None)
  skips_edge low reach =
      let r = w.records in
      let z = w.sizes in
      let none : edge_at st n.edges ≡ None =
      ap (option_and_then (λ (s : Slot). option_map (edge_rec st) (edge_in st s.0)))
      (r.below.edges n.edges (omega arith)) in
      let more = table_more None (edge_at st) (edge_at st) n.edges None (λ k lt. refl) none in
      record {
        whole = record {
          records = record {
            linked = r.linked;
            named = r.named;
            below = record {
              verts = r.below.verts;
              edges = λ k le. r.below.edges k (omega arith);
              faces = r.below.faces;
            };
          };
          cycles = w.cycles;
          values = w.values;
          sizes = record {
            vert_limit = z.vert_limit;
            edge_limit = omega arith;
            face_limit = z.face_limit;
            corner_limit = z.corner_limit;
            vert_reach = z.vert_reach;
            edge_reach = omega arith;
            face_reach = z.face_reach;
            verts = z.verts;
            edges = few_more st.edges.cells n.edges z.edges;
            faces = z.faces;
            loops = z.loops;
          };
          some = w.some;
          corners = w.corners;
        };
        read = λ lists. λ i. record {
          verts = table (vert_at st) n.verts;
          edges = more i;
          faces = table (face_at st) n.faces;
          layers = layers_in st;
          materials = lists.materials;
          libraries = lists.libraries;
        };
      }

  pub skips_face : n.faces < MAX_FACES → n.faces < length st.faces.names
      → Skips st n (record n { faces = n.faces + 1 }) (λ (c : Complex). with_face_name c None)
  skips_face low reach =
      let r = w.records in
      let z = w.sizes in
      let none : face_at st n.faces ≡ None =
      ap (option_and_then (λ (s : Slot). option_map (face_rec st s.0) (face_in st s.0)))
      (r.below.faces n.faces (omega arith)) in
      let more = table_more None (face_at st) (face_at st) n.faces None (λ k lt. refl) none in
      let nothing : Option FaceRec = None in
      let sum = ap corner_sum more
      ∙ sum_by_push (λ (o : Option FaceRec). length (corners_of o)) (table (face_at st) n.faces) nothing in
      record {
        whole = record {
          records = record {
            linked = r.linked;
            named = r.named;
            below = record {
              verts = r.below.verts;
              edges = r.below.edges;
              faces = λ k le. r.below.faces k (omega arith);
            };
          };
          cycles = w.cycles;
          values = w.values;
          sizes = record {
            vert_limit = z.vert_limit;
            edge_limit = z.edge_limit;
            face_limit = omega arith;
            corner_limit = z.corner_limit;
            vert_reach = z.vert_reach;
            edge_reach = z.edge_reach;
            face_reach = omega arith;
            verts = z.verts;
            edges = z.edges;
            faces = few_more st.faces.cells n.faces z.faces;
            loops = z.loops;
          };
          some = w.some;
          corners = w.corners ∙ (let c = sum in omega arith);
        };
        read = λ lists. λ i. record {
          verts = table (vert_at st) n.verts;
          edges = table (edge_at st) n.edges;
          faces = more i;
          layers = layers_in st;
          materials = lists.materials;
          libraries = lists.libraries;
        };
      }
