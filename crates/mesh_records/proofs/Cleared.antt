-- A store that was cleared is a whole mesh without a name.
use Rattle.std.proofs.Common.{◌≡◌, ◌≤◌, ◌+◌, ℕ, zero, suc, true, is_some, List, Option, Some, None, [], ◌∷◌, length, replicate, refl, sym, ap, ◌∙◌, subst, arith}
use Rattle.std.specs.Prelude.{IsTrue}
use Rattle.std.specs.Option.{option_map, option_and_then}
use Rattle.std.proofs.lemmas.Bool.{false≢true}
use Rattle.std.proofs.lemmas.List.{length-replicate}
use Rattle.cust_data.specs.Layers.{row_of}
use Rattle.raw_pool.specs.declared.pool.Slot.{Slot}
use Rattle.raw_pool.specs.Slots.{spare_count}
use Rattle.mesh_store.specs.Slots.{at, vacated}
use Rattle.mesh_store.specs.Naming.{AreNamed}
use Rattle.mesh_store.specs.Parts.{cleared}
use Rattle.mesh_store.specs.Stored.{Stored, dart_links}
use Rattle.mesh_store.specs.declared.cells.VertCell.{VertCell}
use Rattle.mesh_store.specs.declared.cells.EdgeCell.{EdgeCell}
use Rattle.mesh_store.specs.declared.cells.LoopCell.{LoopCell}
use Rattle.mesh_store.specs.declared.cells.FaceCell.{FaceCell}
use Rattle.mesh_store.proofs.Growth.{at_vacant}
use Rattle.mesh_cycles.specs.Cycles.{HaveCycles, round_of}
use Rattle.mesh_cycles.specs.Owners.{edge_of, face_of, len_of}
use Rattle.mesh_cycles.proofs.Cleared.{cleared_cycles}
use Rattle.mesh_model.specs.declared.records.Counters.{Counters}
use Rattle.mesh_records.specs.AtSlots.{StoredEdge, StoredLoop, edge_in, loop_in, face_in}
use Rattle.mesh_records.specs.Places.{KeepsCells, KeepsPlaces}
use Rattle.mesh_records.specs.Room.{none_of_all}
use Rattle.mesh_records.specs.Whole.{AreRecords, HaveValues, AreSizes, IsFew, IsWhole}

-- there is nothing in None
nothing : {X P : Type 0} (x : X) (o : Option X) → o ≡ None → o ≡ Some x → P
nothing {X} x o none e = absurd (let q : None ≡ Some x = sym none ∙ e in cc)

-- nor where a function of it is read
nothing_told : {X Y P : Type 0} (f : X → Y) (y : Y) (o : Option X) → o ≡ None → option_map f o ≡ Some y → P
nothing_told {X} {Y} f y o none e = nothing y (option_map f o) (ap (option_map f) none) e

-- ---- one pool

-- all its places are vacant
pub vacant_spare : (X : Type 0) (n : ℕ) → spare_count (replicate {A = Option X} n None) ≡ n
vacant_spare X zero = refl
vacant_spare X (suc n) = let more = vacant_spare X n in omega arith

vacated_long : {X : Type 0} (xs : List (Option X)) → length (vacated xs) ≡ length xs
vacated_long {X} xs = length-replicate (length xs) None

vacated_cells : {X : Type 0} (xs : List (Option X)) → spare_count xs ≤ length xs → KeepsCells 0 xs (vacated xs)
vacated_cells {X} xs le =
    let long = vacated_long xs in
    let spare = vacant_spare X (length xs) in
    record { long = omega arith; spare = omega arith }

-- a pool has no more vacant places than places
pub spare_short : {X : Type 0} (xs : List (Option X)) → spare_count xs ≤ length xs
spare_short [] = omega arith
spare_short (None ∷ xs) = let more = spare_short xs in omega arith
spare_short (Some x ∷ xs) = let more = spare_short xs in omega arith

vacated_few : {X : Type 0} (xs : List (Option X)) (given : ℕ) → IsFew xs given → IsFew (vacated xs) 0
vacated_few {X} xs given few =
    let long = vacated_long xs in
    let spare = vacant_spare X (length xs) in
    let small = few.small in
    record { live = omega arith; small = omega arith }

vacated_names : {X : Type 0} (number : X → ℕ) (cells : List (Option X)) (names : List (Option Slot))
    → AreNamed number (vacated cells) (vacated names)
vacated_names number cells names = record {
  named = λ s x e. nothing x (at (vacated cells) s) (at_vacant (length cells) s) e;
  live = λ n s e. nothing s (at (vacated names) n) (at_vacant (length names) n) e;
}

-- ---- a store

module _ (st : Stored) where
  pub keeps_cleared : KeepsPlaces none_of_all st (cleared st)
  keeps_cleared =
      let vn = vacated_long st.verts.names in
      let en = vacated_long st.edges.names in
      let fn = vacated_long st.faces.names in
      record {
        verts = vacated_cells st.verts.cells (spare_short st.verts.cells);
        edges = vacated_cells st.edges.cells (spare_short st.edges.cells);
        loops = vacated_cells st.loops (spare_short st.loops);
        faces = vacated_cells st.faces.cells (spare_short st.faces.cells);
        vert_reach = omega arith;
        edge_reach = omega arith;
        face_reach = omega arith;
      }

  cleared_records : AreRecords (cleared st) (record { verts = 0; edges = 0; faces = 0; corners = 0 })
  cleared_records =
      let no_edge = at_vacant (length st.edges.cells) in
      let no_loop = at_vacant (length st.loops) in
      record {
        linked = record {
          a = λ s e is. nothing_told _ e (at (cleared st).edges.cells s) (no_edge s) is;
          b = λ s e is. nothing_told _ e (at (cleared st).edges.cells s) (no_edge s) is;
          vert = λ s l is. nothing_told _ l (at (cleared st).loops s) (no_loop s) is;
          edge = λ s l is. nothing_told _ l (at (cleared st).loops s) (no_loop s) is;
          face = λ s l is. nothing_told _ l (at (cleared st).loops s) (no_loop s) is;
        };
        named = record {
          verts = vacated_names _ st.verts.cells st.verts.names;
          edges = vacated_names _ st.edges.cells st.edges.names;
          faces = vacated_names _ st.faces.cells st.faces.names;
        };
        below = record {
          verts = λ k le. at_vacant (length st.verts.names) k;
          edges = λ k le. at_vacant (length st.edges.names) k;
          faces = λ k le. at_vacant (length st.faces.names) k;
        };
      }

  cleared_links : HaveCycles (cleared st)
  cleared_links = record {
    cycles = cleared_cycles st;
    complete = record {
      disks = λ v d h e. nothing_told _ v (at (cleared st).edges.cells d.edge.0)
          (at_vacant (length st.edges.cells) d.edge.0) e;
      radials = λ l e is. nothing_told _ e (at (cleared st).loops l.0) (at_vacant (length st.loops) l.0) is;
      rounds = λ l f is. nothing_told _ f (at (cleared st).loops l.0) (at_vacant (length st.loops) l.0) is;
    };
    counted = λ f n is. nothing_told _ n (at (cleared st).faces.cells f) (at_vacant (length st.faces.cells) f) is;
  }

  cleared_values : HaveValues st → HaveValues (cleared st)
  cleared_values v =
      let vc = vacated_long st.verts.cells in
      let ec = vacated_long st.edges.cells in
      let lc = vacated_long st.loops in
      let fc = vacated_long st.faces.cells in
      let rows = v.rows in
      let rv = rows.verts in
      let re = rows.edges in
      let rl = rows.loops in
      let rf = rows.faces in
      let few = rows.few in
      record {
        verts = v.verts;
        edges = v.edges;
        loops = v.loops;
        faces = v.faces;
        rows = record {
          verts = omega arith;
          edges = omega arith;
          loops = omega arith;
          faces = omega arith;
          few = omega arith;
        };
      }

  cleared_sizes : (n : Counters) → AreSizes st n
      → AreSizes (cleared st) (record { verts = 0; edges = 0; faces = 0; corners = 0 })
  cleared_sizes n z =
      record {
        vert_limit = omega arith;
        edge_limit = omega arith;
        face_limit = omega arith;
        corner_limit = omega arith;
        vert_reach = omega arith;
        edge_reach = omega arith;
        face_reach = omega arith;
        verts = vacated_few st.verts.cells n.verts z.verts;
        edges = vacated_few st.edges.cells n.edges z.edges;
        faces = vacated_few st.faces.cells n.faces z.faces;
        loops = vacated_few st.loops n.corners z.loops;
      }

  pub cleared_whole : (n : Counters) → IsWhole st n
      → IsWhole (cleared st) (record { verts = 0; edges = 0; faces = 0; corners = 0 })
  cleared_whole n w = record {
    records = cleared_records;
    cycles = cleared_links;
    values = cleared_values w.values;
    sizes = cleared_sizes n w.sizes;
    some = λ f is q. false≢true (sym (ap (λ (o : Option FaceCell). is_some o)
        (at_vacant (length st.faces.cells) f)) ∙ told_there _ (at (cleared st).faces.cells f) is);
    corners = refl;
  }
    where
      told_there : {X Y : Type 0} (f : X → Y) (o : Option X) → is_some (option_map f o) ≡ true → is_some o ≡ true
      told_there f None h = h
      told_there f (Some x) h = refl
