-- Each step keeps places and names.
use Rattle.std.proofs.Common.{◌≡◌, ◌≤◌, ◌<◌, ◌+◌, ◌^◌, ℕ, ℤ, List, Option, Some, None, length, refl, sym, ap, ◌∙◌, arith, length-append}
use Rattle.std.specs.Prelude.{slice_set}
use Rattle.std.specs.Option.{option_map}
use Rattle.std.proofs.lemmas.List.{length-set, length-replicate}
use Rattle.cust_data.specs.Layers.{LayerTable}
use Rattle.raw_pool.specs.declared.pool.Slot.{Slot}
use Rattle.raw_pool.specs.Slots.{spare_count, GrowsFor}
use Rattle.raw_pool.proofs.Growing.{spare_push}
use Rattle.mesh_store.specs.Slots.{at, WidensTo}
use Rattle.mesh_store.specs.Room.{WidensStore}
use Rattle.mesh_store.specs.Naming.{NamedCells, number_in, without_cell}
use Rattle.mesh_store.specs.Parts.{change_table}
use Rattle.mesh_store.specs.Stored.{Stored, new_vert, new_face, change_vert}
use Rattle.mesh_store.specs.declared.cells.VertCell.{VertCell}
use Rattle.mesh_store.specs.declared.cells.EdgeCell.{EdgeCell}
use Rattle.mesh_store.specs.declared.cells.LoopCell.{LoopCell}
use Rattle.mesh_store.specs.declared.cells.FaceCell.{FaceCell}
use Rattle.mesh_store.specs.declared.layers.Part.{Part}
use Rattle.mesh_store.specs.declared.layers.Part.TheVariants.{Face}
use Rattle.mesh_cycles.specs.Cycles.{round_of}
use Rattle.mesh_cycles.specs.Edits.{bare}
use Rattle.mesh_cycles.proofs.Besides.{bare_pools}
use Rattle.mesh_records.specs.Corners.{of_corners}
use Rattle.mesh_records.specs.Frames.{SameSize}
use Rattle.mesh_records.specs.MovesEnd.{MovesEnd}
use Rattle.mesh_records.specs.Places.{KeepsCells, KeepsPlaces, CanTake, CanBecome}
use Rattle.mesh_model.specs.Complex.{Complex}
use Rattle.mesh_records.specs.ReadOff.{NameLists, layers_in}
use Rattle.mesh_records.specs.Puts.{PutsVert, PutsEdge, PutsLoop, PutsCorner}
use Rattle.mesh_records.specs.Room.{Amounts, none_of_all, of_verts, of_edges, of_face}
use Rattle.mesh_records.specs.Takes.{TakesLoop, LosesLoops}
use Rattle.mesh_records.specs.TakesEdge.{TakesEdge}
use Rattle.mesh_records.proofs.Joins.{vert_size, edge_size}
use Rattle.mesh_records.proofs.Listed.{spare_changed}
use Rattle.mesh_records.proofs.LoopJoins.{face_size, loop_size}

-- ---- one pool

pub cells_same : {X : Type 0} {old new : List (Option X)} → new ≡ old → KeepsCells 0 old new
cells_same {X} {old} {new} e =
    let long = ap (λ (xs : List (Option X)). length xs) e in
    let spare = ap (λ (xs : List (Option X)). spare_count xs) e in
    record { long = omega arith; spare = omega arith }

pub cells_sized : {X : Type 0} {old new : List (Option X)} → SameSize old new → KeepsCells 0 old new
cells_sized s =
    let long = s.long in
    let spare = s.spare in
    record { long = omega arith; spare = omega arith }

pub cells_then : {X : Type 0} {old mid new : List (Option X)} (a b c : ℕ) → a + b ≤ c → KeepsCells a old mid
    → KeepsCells b mid new → KeepsCells c old new
cells_then a b c le first second =
    let l1 = first.long in
    let l2 = second.long in
    let s1 = first.spare in
    let s2 = second.spare in
    record { long = omega arith; spare = omega arith }

-- ---- a store

pub keeps_same : (old new : Stored) → new ≡ old → KeepsPlaces none_of_all old new
keeps_same old new e =
    let vn = ap (λ (t : Stored). length t.verts.names) e in
    let en = ap (λ (t : Stored). length t.edges.names) e in
    let fn = ap (λ (t : Stored). length t.faces.names) e in
    record {
      verts = cells_same (ap (λ (t : Stored). t.verts.cells) e);
      edges = cells_same (ap (λ (t : Stored). t.edges.cells) e);
      loops = cells_same (ap (λ (t : Stored). t.loops) e);
      faces = cells_same (ap (λ (t : Stored). t.faces.cells) e);
      vert_reach = omega arith;
      edge_reach = omega arith;
      face_reach = omega arith;
    }

-- pools are the same, whatever the values are
pub keeps_pools : (old new : Stored) → new.verts ≡ old.verts → new.edges ≡ old.edges → new.loops ≡ old.loops
    → new.faces ≡ old.faces → KeepsPlaces none_of_all old new
keeps_pools old new v e l f =
    let vn = ap (λ (p : NamedCells VertCell). length p.names) v in
    let en = ap (λ (p : NamedCells EdgeCell). length p.names) e in
    let fn = ap (λ (p : NamedCells FaceCell). length p.names) f in
    record {
      verts = cells_same (ap (λ (p : NamedCells VertCell). p.cells) v);
      edges = cells_same (ap (λ (p : NamedCells EdgeCell). p.cells) e);
      loops = cells_same l;
      faces = cells_same (ap (λ (p : NamedCells FaceCell). p.cells) f);
      vert_reach = omega arith;
      edge_reach = omega arith;
      face_reach = omega arith;
    }

-- two steps use together what each of them uses
pub record Sums (a b c : Amounts) : Type 0 where
  pub verts : a.verts + b.verts ≤ c.verts
  pub edges : a.edges + b.edges ≤ c.edges
  pub corners : a.corners + b.corners ≤ c.corners
  pub faces : a.faces + b.faces ≤ c.faces

pub keeps_then : (a b c : Amounts) (old mid new : Stored) → Sums a b c → KeepsPlaces a old mid → KeepsPlaces b mid new
    → KeepsPlaces c old new
keeps_then a b c old mid new s first second =
    let v1 = first.vert_reach in
    let v2 = second.vert_reach in
    let e1 = first.edge_reach in
    let e2 = second.edge_reach in
    let f1 = first.face_reach in
    let f2 = second.face_reach in
    record {
      verts = cells_then a.verts b.verts c.verts s.verts first.verts second.verts;
      edges = cells_then a.edges b.edges c.edges s.edges first.edges second.edges;
      loops = cells_then a.corners b.corners c.corners s.corners first.loops second.loops;
      faces = cells_then a.faces b.faces c.faces s.faces first.faces second.faces;
      vert_reach = omega arith;
      edge_reach = omega arith;
      face_reach = omega arith;
    }

-- nothing more is used
pub none_more : (a : Amounts) → Sums a none_of_all a
none_more a = record { verts = omega arith; edges = omega arith; corners = omega arith; faces = omega arith }

pub none_first : (a : Amounts) → Sums none_of_all a a
none_first a = record { verts = omega arith; edges = omega arith; corners = omega arith; faces = omega arith }

-- ---- room is made

grown : {X : Type 0} {old new : List (Option X)} {n chunk : ℕ} → GrowsFor old new n chunk → KeepsCells 0 old new
grown {X} {old} {new} g =
    let long : length new ≡ length old + g.more =
    ap (λ (xs : List (Option X)). length xs) g.same ∙ simp (length-append, length-replicate) in
    let spare : spare_count new ≡ spare_count old + g.more =
    ap (λ (xs : List (Option X)). spare_count xs) g.same ∙ spare_push old g.more in
    record { long = omega arith; spare = omega arith }

reaches : {old new : List (Option Slot)} {bound : ℕ} → WidensTo old new bound → length old ≤ length new
reaches {old} {new} w = let long : length new ≡ length old + w.more =
    ap (λ (xs : List (Option Slot)). length xs) w.same ∙ simp (length-append, length-replicate) in omega arith

pub keeps_widened : (old new : Stored) (a b c d chunk : ℕ) (reach : List ℕ) → WidensStore old new a b c d chunk reach
    → KeepsPlaces none_of_all old new
keeps_widened old new a b c d chunk reach w = record {
  verts = grown w.verts.cells.grows;
  edges = grown w.edges.cells.grows;
  loops = grown w.loops.grows;
  faces = grown w.faces.cells.grows;
  vert_reach = reaches w.verts.names;
  edge_reach = reaches w.edges.names;
  face_reach = reaches w.faces.names;
}

-- ---- where everything but cycles stays

pub keeps_bare_places : (old new : Stored) → bare new ≡ bare old → KeepsPlaces none_of_all old new
keeps_bare_places old new e =
    let pools = bare_pools old new e in
    let vn = ap (λ (xs : List (Option Slot)). length xs) pools.vert_names in
    let en = ap (λ (xs : List (Option Slot)). length xs) pools.edge_names in
    let fn = ap (λ (xs : List (Option Slot)). length xs) pools.face_names in
    record {
      verts = cells_sized (vert_size old new e);
      edges = cells_sized (edge_size old new e);
      loops = cells_sized (loop_size old new e);
      faces = cells_sized (face_size old new e);
      vert_reach = omega arith;
      edge_reach = omega arith;
      face_reach = omega arith;
    }

-- ---- elements come

pub keeps_vert : (old new : Stored) (name : ℕ) (point : List ℤ) (like : Option Slot) (s : Slot)
    → PutsVert old new name point like s → KeepsPlaces (of_verts 1) old new
keeps_vert old new name point like s p =
    let long = ap (λ (t : Stored). length t.verts.cells) p.puts in
    let names = ap (λ (t : Stored). length t.verts.names) p.puts in
    let one = length-set {A = Option VertCell} in
    let two = length-set {A = Option Slot} in
    let spare = p.spare in
    let en = ap (λ (t : Stored). length t.edges.names) p.puts in
    let fn = ap (λ (t : Stored). length t.faces.names) p.puts in
    record {
      verts = record { long = omega (arith, one old.verts.cells s.0 (Some (new_vert name point))); spare = omega arith };
      edges = cells_same (ap (λ (t : Stored). t.edges.cells) p.puts);
      loops = cells_same (ap (λ (t : Stored). t.loops) p.puts);
      faces = cells_same (ap (λ (t : Stored). t.faces.cells) p.puts);
      vert_reach = omega (arith, two old.verts.names name (Some s));
      edge_reach = omega arith;
      face_reach = omega arith;
    }

pub keeps_edge : (old new : Stored) (name : ℕ) (from to : Slot) (like : Option Slot) (s : Slot)
    → PutsEdge old new name from to like s → KeepsPlaces (of_edges 1) old new
keeps_edge old new name from to like s p =
    let spare = p.spare in
    let long = p.long in
    let reach = p.edge_reach in
    let vr = p.vert_reach in
    let fn = ap (λ (q : NamedCells FaceCell). length q.names) p.faces in
    record {
      verts = cells_sized p.verts;
      edges = record { long = omega arith; spare = omega arith };
      loops = cells_same p.loops;
      faces = cells_same (ap (λ (q : NamedCells FaceCell). q.cells) p.faces);
      vert_reach = omega arith;
      edge_reach = omega arith;
      face_reach = omega arith;
    }

pub keeps_loop : (old new : Stored) (f v e l : Slot) → PutsLoop old new f v e l → KeepsPlaces (of_corners 1) old new
keeps_loop old new f v e l p =
    let spare = p.spare in
    let long = p.long in
    let vn = ap (λ (q : NamedCells VertCell). length q.names) p.verts in
    let en = ap (λ (xs : List (Option Slot)). length xs) p.edge_names in
    let fn = ap (λ (xs : List (Option Slot)). length xs) p.face_names in
    record {
      verts = cells_same (ap (λ (q : NamedCells VertCell). q.cells) p.verts);
      edges = cells_sized p.edges;
      loops = record { long = omega arith; spare = omega arith };
      faces = cells_sized p.faces;
      vert_reach = omega arith;
      edge_reach = omega arith;
      face_reach = omega arith;
    }

pub keeps_corner : (old new : Stored) (f v e : Slot) (row : List ℤ) (l : Slot) → PutsCorner old new f v e row l
    → KeepsPlaces (of_corners 1) old new
keeps_corner old new f v e row l p =
    keeps_then (of_corners 1) none_of_all (of_corners 1) old p.bare new (none_more (of_corners 1))
    (keeps_loop old p.bare f v e l p.puts)
    (keeps_pools p.bare new (ap (λ (t : Stored). t.verts) p.writes) (ap (λ (t : Stored). t.edges) p.writes)
    (ap (λ (t : Stored). t.loops) p.writes) (ap (λ (t : Stored). t.faces) p.writes))

-- ---- elements go

pub keeps_without_loop : (old new : Stored) (f l : Slot) → TakesLoop old new f l → KeepsPlaces none_of_all old new
keeps_without_loop old new f l p =
    let spare = p.spare in
    let long = p.long in
    let vn = ap (λ (q : NamedCells VertCell). length q.names) p.verts in
    let en = ap (λ (xs : List (Option Slot)). length xs) p.edge_names in
    let fn = ap (λ (xs : List (Option Slot)). length xs) p.face_names in
    record {
      verts = cells_same (ap (λ (q : NamedCells VertCell). q.cells) p.verts);
      edges = cells_sized p.edges;
      loops = record { long = omega arith; spare = omega arith };
      faces = cells_sized p.faces;
      vert_reach = omega arith;
      edge_reach = omega arith;
      face_reach = omega arith;
    }

-- the loop's place is vacant again
pub loop_is_spare : (old new : Stored) (f l : Slot) → TakesLoop old new f l
    → spare_count new.loops ≡ spare_count old.loops + 1
loop_is_spare old new f l p = p.spare

pub keeps_without_edge : (old new : Stored) (e : Slot) → TakesEdge old new e → KeepsPlaces none_of_all old new
keeps_without_edge old new e p =
    let spare = p.spare in
    let long = p.long in
    let reach = p.edge_reach in
    let vr = p.vert_reach in
    let fn = ap (λ (q : NamedCells FaceCell). length q.names) p.faces in
    record {
      verts = cells_sized p.verts;
      edges = record { long = omega arith; spare = omega arith };
      loops = cells_same p.loops;
      faces = cells_same (ap (λ (q : NamedCells FaceCell). q.cells) p.faces);
      vert_reach = omega arith;
      edge_reach = omega arith;
      face_reach = omega arith;
    }

pub keeps_without_loops : (old new : Stored) (f : ℕ) → LosesLoops old new f
    → length (round_of new f) ≤ length (round_of old f) → KeepsPlaces none_of_all old new
keeps_without_loops old new f p fewer =
    let spare = p.spare in
    let long = p.long in
    let vn = ap (λ (q : NamedCells VertCell). length q.names) p.verts in
    let en = ap (λ (xs : List (Option Slot)). length xs) p.edge_names in
    let fn = ap (λ (xs : List (Option Slot)). length xs) p.face_names in
    record {
      verts = cells_same (ap (λ (q : NamedCells VertCell). q.cells) p.verts);
      edges = cells_sized p.edges;
      loops = record { long = omega arith; spare = omega arith };
      faces = cells_sized p.faces;
      vert_reach = omega arith;
      edge_reach = omega arith;
      face_reach = omega arith;
    }

-- ---- an end is moved

pub keeps_moved : (old new : Stored) (e : Slot) (side from : ℕ) (to : Slot) → MovesEnd old new e side from to
    → KeepsPlaces none_of_all old new
keeps_moved old new e side from to p =
    let vn = ap (λ (xs : List (Option Slot)). length xs) p.vert_names in
    let en = ap (λ (xs : List (Option Slot)). length xs) p.edge_names in
    let fn = ap (λ (q : NamedCells FaceCell). length q.names) p.faces in
    record {
      verts = cells_sized p.verts;
      edges = cells_sized p.edges;
      loops = cells_same p.loops;
      faces = cells_same (ap (λ (q : NamedCells FaceCell). q.cells) p.faces);
      vert_reach = omega arith;
      edge_reach = omega arith;
      face_reach = omega arith;
    }

-- ---- a face comes

pub keeps_face : (old mid new : Stored) (name : ℕ) (s : Slot) (f : LayerTable → LayerTable)
    → mid ≡ record old {
      faces = record {
        cells = slice_set old.faces.cells s.0 (Some (new_face name));
        names = slice_set old.faces.names name (Some s);
      };
    } → spare_count mid.faces.cells + 1 ≡ spare_count old.faces.cells → new ≡ change_table Face f mid
    → KeepsPlaces (of_face 0) old new
keeps_face old mid new name s f puts spare fills =
    let long = ap (λ (t : Stored). length t.faces.cells) puts in
    let names = ap (λ (t : Stored). length t.faces.names) puts in
    let long' = ap (λ (t : Stored). length t.faces.cells) fills in
    let names' = ap (λ (t : Stored). length t.faces.names) fills in
    let spare' = ap (λ (t : Stored). spare_count t.faces.cells) fills in
    let one = length-set {A = Option FaceCell} in
    let two = length-set {A = Option Slot} in
    let vn = ap (λ (t : Stored). length t.verts.names) fills ∙ ap (λ (t : Stored). length t.verts.names) puts in
    let en = ap (λ (t : Stored). length t.edges.names) fills ∙ ap (λ (t : Stored). length t.edges.names) puts in
    record {
      verts = cells_same (ap (λ (t : Stored). t.verts.cells) fills ∙ ap (λ (t : Stored). t.verts.cells) puts);
      edges = cells_same (ap (λ (t : Stored). t.edges.cells) fills ∙ ap (λ (t : Stored). t.edges.cells) puts);
      loops = cells_same (ap (λ (t : Stored). t.loops) fills ∙ ap (λ (t : Stored). t.loops) puts);
      faces = record { long = omega (arith, one old.faces.cells s.0 (Some (new_face name))); spare = omega arith };
      vert_reach = omega arith;
      edge_reach = omega arith;
      face_reach = omega (arith, two old.faces.names name (Some s));
    }

-- ---- a loop is put back elsewhere

pub keeps_shifted : (old mid new : Stored) (f l g v e : Slot) (row : List ℤ) (k : Slot) → TakesLoop old mid f l
    → PutsCorner mid new g v e row k → KeepsPlaces none_of_all old new
keeps_shifted old mid new f l g v e row k t p =
    let first = keeps_without_loop old mid f l t in
    let second = keeps_corner mid new g v e row k p in
    let spare = t.spare in
    let l1 = first.loops.long in
    let l2 = second.loops.long in
    let s2 = second.loops.spare in
    let v1 = first.vert_reach in
    let v2 = second.vert_reach in
    let e1 = first.edge_reach in
    let e2 = second.edge_reach in
    let f1 = first.face_reach in
    let f2 = second.face_reach in
    record {
      verts = cells_then 0 0 0 (omega arith) first.verts second.verts;
      edges = cells_then 0 0 0 (omega arith) first.edges second.edges;
      loops = record { long = omega arith; spare = omega arith };
      faces = cells_then 0 0 0 (omega arith) first.faces second.faces;
      vert_reach = omega arith;
      edge_reach = omega arith;
      face_reach = omega arith;
    }

-- ---- what a store can take

pub takes_still : (used : Amounts) (old new : Stored) (c : Complex) → KeepsPlaces used old new
    → layers_in new ≡ layers_in old → CanTake old c → CanTake new c
takes_still used old new c k layers t =
    let v = k.verts.long in
    let e = k.edges.long in
    let l = k.loops.long in
    let f = k.faces.long in
    let vr = k.vert_reach in
    let er = k.edge_reach in
    let fr = k.face_reach in
    let tv = t.verts in
    let te = t.edges in
    let tc = t.corners in
    let tf = t.faces in
    let tvr = t.vert_reach in
    let ter = t.edge_reach in
    let tfr = t.face_reach in
    record {
      layers = layers ∙ t.layers;
      verts = omega arith;
      edges = omega arith;
      corners = omega arith;
      faces = omega arith;
      vert_reach = omega arith;
      edge_reach = omega arith;
      face_reach = omega arith;
      vert_limit = t.vert_limit;
      edge_limit = t.edge_limit;
      face_limit = t.face_limit;
      corner_limit = t.corner_limit;
    }

pub becomes_still : (used : Amounts) (old new : Stored) (lists : NameLists) (c : Complex) → KeepsPlaces used old new
    → layers_in new ≡ layers_in old → CanBecome old lists c → CanBecome new lists c
becomes_still used old new lists c k layers b = record {
  takes = takes_still used old new c k layers b.takes;
  materials = b.materials;
  libraries = b.libraries;
}

-- ---- one element goes, or is changed in place

pub cells_any : {X : Type 0} {old new : List (Option X)} (used : ℕ) → KeepsCells 0 old new → KeepsCells used old new
cells_any used k =
    let long = k.long in
    let spare = k.spare in
    record { long = long; spare = omega arith }

-- what uses nothing uses no more than anything
pub keeps_any : (used : Amounts) (old new : Stored) → KeepsPlaces none_of_all old new → KeepsPlaces used old new
keeps_any used old new k = record {
  verts = cells_any used.verts k.verts;
  edges = cells_any used.edges k.edges;
  loops = cells_any used.corners k.loops;
  faces = cells_any used.faces k.faces;
  vert_reach = k.vert_reach;
  edge_reach = k.edge_reach;
  face_reach = k.face_reach;
}

pub keeps_less_vert : (old new : Stored) (s : ℕ)
    → new ≡ record old { verts = without_cell (λ (c : VertCell). c.number) old.verts s }
    → spare_count new.verts.cells ≡ spare_count old.verts.cells + 1 → KeepsPlaces none_of_all old new
keeps_less_vert old new s e spare =
    let long = ap (λ (t : Stored). length t.verts.cells) e in
    let names = ap (λ (t : Stored). length t.verts.names) e in
    let one = length-set {A = Option VertCell} in
    let two = length-set {A = Option Slot} in
    let en = ap (λ (t : Stored). length t.edges.names) e in
    let fn = ap (λ (t : Stored). length t.faces.names) e in
    record {
      verts = record { long = omega (arith, one old.verts.cells s None); spare = omega arith };
      edges = cells_same (ap (λ (t : Stored). t.edges.cells) e);
      loops = cells_same (ap (λ (t : Stored). t.loops) e);
      faces = cells_same (ap (λ (t : Stored). t.faces.cells) e);
      vert_reach = omega (
        arith,
        two old.verts.names
            (number_in (λ (c : VertCell). c.number) (at old.verts.cells s)) None,
      );
      edge_reach = omega arith;
      face_reach = omega arith;
    }

pub keeps_less_face : (old new : Stored) (s : ℕ)
    → new ≡ record old { faces = without_cell (λ (c : FaceCell). c.number) old.faces s }
    → spare_count new.faces.cells ≡ spare_count old.faces.cells + 1 → KeepsPlaces none_of_all old new
keeps_less_face old new s e spare =
    let long = ap (λ (t : Stored). length t.faces.cells) e in
    let names = ap (λ (t : Stored). length t.faces.names) e in
    let one = length-set {A = Option FaceCell} in
    let two = length-set {A = Option Slot} in
    let vn = ap (λ (t : Stored). length t.verts.names) e in
    let en = ap (λ (t : Stored). length t.edges.names) e in
    record {
      verts = cells_same (ap (λ (t : Stored). t.verts.cells) e);
      edges = cells_same (ap (λ (t : Stored). t.edges.cells) e);
      loops = cells_same (ap (λ (t : Stored). t.loops) e);
      faces = record { long = omega (arith, one old.faces.cells s None); spare = omega arith };
      vert_reach = omega arith;
      edge_reach = omega arith;
      face_reach = omega (
        arith,
        two old.faces.names
            (number_in (λ (c : FaceCell). c.number) (at old.faces.cells s)) None,
      );
    }

pub keeps_changed_vert : (old new : Stored) (f : VertCell → VertCell) (s : ℕ) → new ≡ change_vert f old s
    → KeepsPlaces none_of_all old new
keeps_changed_vert old new f s e =
    let long = ap (λ (t : Stored). length t.verts.cells) e in
    let one = length-set {A = Option VertCell} in
    let spare = ap (λ (t : Stored). spare_count t.verts.cells) e ∙ spare_changed f old.verts.cells s in
    let vn = ap (λ (t : Stored). length t.verts.names) e in
    let en = ap (λ (t : Stored). length t.edges.names) e in
    let fn = ap (λ (t : Stored). length t.faces.names) e in
    record {
      verts = record {
        long = omega (arith, one old.verts.cells s (option_map f (at old.verts.cells s)));
        spare = omega arith;
      };
      edges = cells_same (ap (λ (t : Stored). t.edges.cells) e);
      loops = cells_same (ap (λ (t : Stored). t.loops) e);
      faces = cells_same (ap (λ (t : Stored). t.faces.cells) e);
      vert_reach = omega arith;
      edge_reach = omega arith;
      face_reach = omega arith;
    }

-- rows of values are written
pub keeps_valued : (old new : Stored) (part : Part) (f : LayerTable → LayerTable) → new ≡ change_table part f old
    → KeepsPlaces none_of_all old new
keeps_valued old new part f e = keeps_pools old new (ap (λ (t : Stored). t.verts) e) (ap (λ (t : Stored). t.edges) e)
    (ap (λ (t : Stored). t.loops) e) (ap (λ (t : Stored). t.faces) e)
