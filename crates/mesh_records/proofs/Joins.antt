-- An edge is added, and its darts are put around its ends.
use Rattle.std.proofs.Common.{◌≡◌, ◌≢◌, ◌+◌, ◌<◌, ◌++◌, ◌&&◌, ℕ, true, nat_lt, is_some, IsTrue, List, [], ◌∷◌, Option, Some, None, length, refl, sym, ap, ◌∙◌, subst}
use Rattle.std.specs.Prelude.{slice_set}
use Rattle.std.specs.Option.{option_map}
use Rattle.std.proofs.lemmas.List.{length-set}
use Rattle.cust_data.specs.Layers.{LayerTable, with_row}
use Rattle.raw_pool.specs.declared.pool.Slot.{Slot}
use Rattle.raw_pool.specs.Slots.{spare_count}
use Rattle.mesh_store.specs.Slots.{at}
use Rattle.mesh_store.specs.Stored.{Stored, dart_links, new_edge}
use Rattle.mesh_store.specs.Parts.{change_table}
use Rattle.mesh_store.specs.declared.layers.Part.TheVariants.{Edge}
use Rattle.mesh_store.specs.declared.cells.Dart.{Dart}
use Rattle.mesh_store.specs.declared.cells.EdgeCell.{EdgeCell}
use Rattle.mesh_cycles.specs.Owners.{end_on, dart_end, len_of}
use Rattle.mesh_cycles.specs.Cycles.{AreCycles, disk_of, IsInNoDisk}
use Rattle.mesh_cycles.specs.Edits.{EditsDisk, bare, bare_vert, bare_edge}
use Rattle.mesh_cycles.specs.Adds.{AddsEdge}
use Rattle.mesh_cycles.proofs.Cells.{as_long}
use Rattle.mesh_cycles.proofs.Besides.{disk_darts, disk_ends, disk_lens, bare_pools}
use Rattle.mesh_cycles.proofs.Elements.{edge_added}
use Rattle.mesh_cycles.proofs.Completeness.{grown_apart, whole_edge, whole_put}
use Rattle.mesh_records.specs.Frames.{SameSize}
use Rattle.mesh_records.specs.Puts.{dart_on, row_like, with_edge_at, PutsEdge}
use Rattle.mesh_records.proofs.Elements.{same_along, same_bare, same_then}
use Rattle.mesh_records.proofs.Added.{size_along, sizes_then}
use Rattle.mesh_records.proofs.Frames.{cycles_beside_values}

-- everything but cycles has the sizes
pub vert_size : (old new : Stored) → bare new ≡ bare old → SameSize old.verts.cells new.verts.cells
vert_size old new e = record {
  long = as_long bare_vert old.verts.cells new.verts.cells
      (ap (λ (t : Stored). t.verts.cells) e);
  spare = (bare_pools old new e).verts.spare;
}

pub edge_size : (old new : Stored) → bare new ≡ bare old → SameSize old.edges.cells new.edges.cells
edge_size old new e = record {
  long = as_long bare_edge old.edges.cells new.edges.cells
      (ap (λ (t : Stored). t.edges.cells) e);
  spare = (bare_pools old new e).edges.spare;
}

-- the edge with its row of values
pub filled : (old alone made : Stored) (name : ℕ) (from to s : Slot) (like : Option Slot)
    → alone ≡ record old {
      edges = record {
        cells =
            slice_set old.edges.cells s.0 (Some (new_edge name (from ∷ to ∷ []) s));
        names = slice_set old.edges.names name (Some s);
      };
    }
    → made ≡ change_table Edge (λ (t : LayerTable). with_row t s.0 (row_like t like)) alone
    → made ≡ with_edge_at old name from to s like
filled old alone made name from to s like adds fills =
    fills ∙ ap (change_table Edge (λ (t : LayerTable). with_row t s.0 (row_like t like))) adds

-- the edge is there, its darts are in no cycle, and every cycle has its members
edge_filled : (old : Stored) (name : ℕ) (from to s : Slot) (like : Option Slot) → AreCycles old → from.0 ≢ to.0
    → (s.0 < length old.edges.cells) × (at old.edges.cells s.0 ≡ None)
    → AddsEdge old (with_edge_at old name from to s like) s (new_edge name (from ∷ to ∷ []) s)
edge_filled old name from to s like h differ vacant =
    let ends = from ∷ to ∷ [] in
    let names = slice_set old.edges.names name (Some s) in
    let made : Stored = record old {
      edges =
          record { cells = slice_set old.edges.cells s.0 (Some (new_edge name ends s)); names = names };
    } in
    let a = edge_added old made s h name ends names vacant differ refl in
    record {
      same = record {
        cycles = cycles_beside_values made (with_edge_at old name from to s like).values a.same.cycles;
        disks = a.same.disks;
        radials = a.same.radials;
        rounds = a.same.rounds;
      };
      there = a.there;
      alone = a.alone;
      empty = a.empty;
    }

module _ (old made : Stored) (name : ℕ) (from to s : Slot) (like : Option Slot) (h : AreCycles old)
    (differ : from.0 ≢ to.0) (vacant : (s.0 < length old.edges.cells) × (at old.edges.cells s.0 ≡ None))
    (adds : made ≡ with_edge_at old name from to s like) where
  pub joined : AddsEdge old made s (new_edge name (from ∷ to ∷ []) s)
  joined = let P = λ (t : Stored). AddsEdge old t s (new_edge name (from ∷ to ∷ []) s) in subst P (sym adds)
      (edge_filled old name from to s like h differ vacant)

  pub dart_made : (side : ℕ) → nat_lt side 2 ≡ true → IsTrue ((dart_links made).has (dart_on s side))
  dart_made side low = ap (λ (o : Option EdgeCell). is_some o && nat_lt side 2) joined.there ∙ low

  pub end_made : (side : ℕ) → dart_end made (dart_on s side) ≡ Some (end_on side (new_edge name (from ∷ to ∷ []) s))
  end_made side = ap (option_map (end_on side)) joined.there

  module _ (mid : Stored) (a : EditsDisk made mid from.0 (dart_on s 0 ∷ disk_of made from.0)
      (disk_of made from.0 ++ dart_on s 0 ∷ [])) where
    pub second_there : IsTrue ((dart_links mid).has (dart_on s 1))
    second_there = disk_darts made mid from.0 a.rest (dart_on s 1) ∙ dart_made 1 refl

    pub second_end : dart_end mid (dart_on s 1) ≡ Some to.0
    second_end = disk_ends made mid from.0 a.rest (dart_on s 1) ∙ end_made 1

    pub second_apart : IsInNoDisk mid (dart_on s 1)
    second_apart = grown_apart made mid from.0 (dart_on s 0) a.own a.others (dart_on s 1) (joined.alone 1)
        (λ e. let p : 0 ≡ 1 = ap (λ (d : Dart). d.side) e in cc)

    pub puts_edge : (new : Stored) → EditsDisk mid new to.0 (dart_on s 1 ∷ disk_of mid to.0)
        (disk_of mid to.0 ++ dart_on s 1 ∷ []) → spare_count made.edges.cells + 1 ≡ spare_count old.edges.cells
        → PutsEdge old new name from to like s
    puts_edge new b spare =
        let j = joined in
        let first = edge_size made mid a.stays in
        let second = edge_size mid new b.stays in
        let cells = ap (λ (t : Stored). t.edges.cells) adds in
        let names = λ (t : Stored). length t.edges.names in
        let reach = λ (t : Stored). length t.verts.names in
        record {
          low = vacant.0;
          vacant = vacant.1;
          elements = same_then (same_along adds) (same_then (same_bare made mid a.stays) (same_bare mid new b.stays));
          values = ap (λ (t : Stored). t.values) b.stays ∙ ap (λ (t : Stored). t.values) a.stays
              ∙ ap (λ (t : Stored). t.values) adds;
          cycles = b.cycles;
          around_from = b.others from.0 differ ∙ a.own
              ∙ ap (λ (ds : List Dart). ds ++ dart_on s 0 ∷ []) (j.same.disks from.0);
          around_to = b.own ∙ ap (λ (ds : List Dart). ds ++ dart_on s 1 ∷ [])
              (a.others to.0 (λ e. differ (sym e)) ∙ j.same.disks to.0);
          others = λ v p q. b.others v q ∙ a.others v p ∙ j.same.disks v;
          radials = λ e. b.radials e ∙ a.radials e ∙ j.same.radials e;
          rounds = λ f. b.rounds f ∙ a.rounds f ∙ j.same.rounds f;
          complete = λ w. whole_put made mid new from.0 to.0 s a b (end_made 0) (end_made 1)
              (whole_edge old made s (new_edge name (from ∷ to ∷ []) s) j cells w);
          lens = λ f. disk_lens mid new to.0 b.rest f ∙ disk_lens made mid from.0 a.rest f
              ∙ ap (λ (t : Stored). len_of t f) adds;
          spare = ap (λ (k : ℕ). k + 1) (second.spare ∙ first.spare) ∙ spare;
          long = second.long ∙ first.long ∙ ap (λ (xs : List (Option EdgeCell)). length xs) cells
              ∙ length-set old.edges.cells s.0 (Some (new_edge name (from ∷ to ∷ []) s));
          edge_reach = ap names b.rest ∙ ap names a.rest ∙ ap names adds ∙ length-set old.edges.names name (Some s);
          verts = sizes_then (size_along (ap (λ (t : Stored). t.verts.cells) adds))
              (sizes_then (vert_size made mid a.stays) (vert_size mid new b.stays));
          vert_reach = ap reach b.rest ∙ ap reach a.rest ∙ ap reach adds;
          loops = ap (λ (t : Stored). t.loops) b.rest ∙ ap (λ (t : Stored). t.loops) a.rest
              ∙ ap (λ (t : Stored). t.loops) adds;
          faces = ap (λ (t : Stored). t.faces) b.rest ∙ ap (λ (t : Stored). t.faces) a.rest
              ∙ ap (λ (t : Stored). t.faces) adds;
        }
