-- Elements come and go, fields are written, and room is made: calls of a store that leave every cycle as it is.
--
-- A lemma on a call takes what the call ensures as it stands there: `vacant` and `adds`, `drops`, `widens`, or what is
-- written.
use Rattle.std.proofs.Common.{◌≡◌, ◌≢◌, ◌<◌, ◌*◌, ℕ, ℤ, zero, suc, true, is_some, List, [], ◌∷◌, Option, Some, None, length, refl, sym, ap, ◌∙◌, subst}
use Rattle.std.specs.Prelude.{slice_set, slice_index_or}
use Rattle.std.specs.Option.{option_map, option_and_then}
use Rattle.std.proofs.lemmas.Bool.{false≢true}
use Rattle.std.proofs.lemmas.Option.{same_Some}
use Rattle.raw_pool.specs.declared.pool.Slot.{Slot}
use Rattle.raw_pool.specs.Slots.{GrowsFor}
use Rattle.link_ring.specs.Members.{HasMember}
use Rattle.link_ring.proofs.Members.{member_of}
use Rattle.mesh_store.specs.Limits.{is_dart}
use Rattle.mesh_store.specs.Slots.{at}
use Rattle.mesh_store.specs.Naming.{NamedCells, without_cell}
use Rattle.mesh_store.specs.Stored.{Stored, empty_store, dart_links, radial_links, round_links, new_vert, new_edge, new_loop, new_face, no_slot, with_point, with_ends, with_loop_vert, with_loop_edge, with_loop_face, with_face_len, change_vert, change_edge, change_loop, change_face}
use Rattle.mesh_store.specs.Room.{WidensStore}
use Rattle.mesh_store.specs.declared.cells.Dart.{Dart}
use Rattle.mesh_store.specs.declared.cells.Radial.{Radial}
use Rattle.mesh_store.specs.declared.cells.Round.{Round}
use Rattle.mesh_store.specs.declared.cells.VertCell.{VertCell}
use Rattle.mesh_store.specs.declared.cells.EdgeCell.{EdgeCell}
use Rattle.mesh_store.specs.declared.cells.LoopCell.{LoopCell}
use Rattle.mesh_store.specs.declared.cells.FaceCell.{FaceCell}
use Rattle.mesh_store.proofs.Growth.{at_longer}
use Rattle.mesh_store.proofs.Places.{written, unwritten}
use Rattle.mesh_cycles.specs.Owners.{end_on, dart_at, first_radial, first_round}
use Rattle.mesh_cycles.specs.Lists.{ring_list, same_dart, same_radial, same_round}
use Rattle.mesh_cycles.specs.Cycles.{AreCycles, disk_of, radial_of, round_of, IsInNoDisk, IsInNoRadial, IsInNoRound, EndsDiffer}
use Rattle.mesh_cycles.specs.Adds.{SameCycles, AddsVert, AddsEdge, AddsLoop, AddsFace}
use Rattle.mesh_cycles.proofs.RingLists.{member_key}
use Rattle.mesh_cycles.proofs.Cells.{covered}
use Rattle.mesh_cycles.proofs.Rounds.{face_loop_in}
use Rattle.mesh_cycles.proofs.Stays.{radial_part, round_part, same_cycles, first_edge_in, first_by, empty_first}

-- ---- one cell of a pool

-- what g tells of each cell stays where one is written of which it tells the same
pub told_set : {X Z : Type 0} (g : Option X → Z) (xs : List (Option X)) (s : ℕ) (o : Option X) → g o ≡ g (at xs s)
    → (t : ℕ) → g (at (slice_set xs s o) t) ≡ g (at xs t)
told_set g [] s o e t = refl
told_set g (x ∷ xs) zero o e zero = e
told_set g (x ∷ xs) zero o e (suc t) = refl
told_set g (x ∷ xs) (suc s) o e zero = refl
told_set g (x ∷ xs) (suc s) o e (suc t) = told_set g xs s o e t

-- the two ends of an edge differ, where they do in the one that is written
pub differ_set : (xs : List (Option EdgeCell)) (s : ℕ) (o : Option EdgeCell)
    → ((c : EdgeCell) → o ≡ Some c → end_on 0 c ≢ end_on 1 c) → EndsDiffer xs → EndsDiffer (slice_set xs s o)
differ_set [] s o p d e c is = d e c is
differ_set (x ∷ xs) zero o p d zero c is = p c is
differ_set (x ∷ xs) zero o p d (suc e) c is = d (suc e) c is
differ_set (x ∷ xs) (suc s) o p d zero c is = d zero c is
differ_set (x ∷ xs) (suc s) o p d (suc e) c is = differ_set xs s o p (λ k b q. d (suc k) b q) e c is

-- a live place is not a vacant one
apart : {X : Type 0} (xs : List (Option X)) (s t : ℕ) → is_some (at xs s) ≡ true → at xs t ≡ None → s ≢ t
apart {X} xs s t live vacant e = false≢true (sym (ap (λ (k : ℕ). is_some (at xs k)) e
    ∙ ap (λ (o : Option X). is_some o) vacant) ∙ live)

-- where f of a value is none, so is the value
none_mapped : {X Y : Type 0} (f : X → Y) (o : Option X) → option_map f o ≡ None → o ≡ None
none_mapped f None e = refl
none_mapped f (Some x) e = cc

-- ---- an empty store

pub empty_cycles : (st : Stored) → st ≡ empty_store → AreCycles st
empty_cycles st e = subst AreCycles (sym e) (record {
  disks = λ v. record { ring = tt; start = refl };
  radials = λ v. record { ring = tt; start = refl };
  rounds = λ f. record { ring = tt; start = refl };
  disk_ends = λ v d m. absurd m;
  radial_edges = λ v l m. absurd m;
  round_faces = λ f l m. absurd m;
  differ = λ v c p. cc;
})

module _ (old : Stored) (h : AreCycles old) where
  -- ---- the members of cycles are live

  dart_live : (v : ℕ) (d : Dart) → HasMember (disk_of old v) d → is_some (at old.edges.cells d.edge.0) ≡ true
  dart_live v d m = (is_dart old d (member_key d (h.disks v) m)).0

  radial_live : (e : ℕ) (l : Radial) → HasMember (radial_of old e) l → is_some (at old.loops l.0.0) ≡ true
  radial_live e l m = member_key l (h.radials e) m

  round_live : (f : ℕ) (l : Round) → HasMember (round_of old f) l → is_some (at old.loops l.0.0) ≡ true
  round_live f l m = member_key l (h.rounds f) m

  -- ---- one pool changes

  verts_change : (verts : NamedCells VertCell)
      → ((v : ℕ) → first_edge_in (at verts.cells v) ≡ first_edge_in (at old.verts.cells v))
      → SameCycles old (record old { verts = verts })
  verts_change verts first = same_cycles old (record old { verts = verts }) h (record {
    first_edges = first;
    first_loops = λ e. refl;
    face_loops = λ f. refl;
    darts = λ v d m. refl;
    radials = λ e l m. refl;
    rounds = λ f l m. refl;
    differ = h.differ;
  })

  edges_change : (edges : NamedCells EdgeCell)
      → ((e : ℕ) → first_radial (record old { edges = edges }) e ≡ first_radial old e)
      → ((v : ℕ) (d : Dart) → HasMember (disk_of old v) d → at edges.cells d.edge.0 ≡ at old.edges.cells d.edge.0)
      → EndsDiffer edges.cells → SameCycles old (record old { edges = edges })
  edges_change edges first darts differ = same_cycles old (record old { edges = edges }) h (record {
    first_edges = λ v. refl;
    first_loops = first;
    face_loops = λ f. refl;
    darts = darts;
    radials = λ e l m. refl;
    rounds = λ f l m. refl;
    differ = differ;
  })

  loops_change : (loops : List (Option LoopCell))
      → ((e : ℕ) (l : Radial) → HasMember (radial_of old e) l
      → option_map radial_part (at loops l.0.0) ≡ option_map radial_part (at old.loops l.0.0))
      → ((f : ℕ) (l : Round) → HasMember (round_of old f) l
      → option_map round_part (at loops l.0.0) ≡ option_map round_part (at old.loops l.0.0))
      → SameCycles old (record old { loops = loops })
  loops_change loops radials rounds = same_cycles old (record old { loops = loops }) h (record {
    first_edges = λ v. refl;
    first_loops = λ e. refl;
    face_loops = λ f. refl;
    darts = λ v d m. refl;
    radials = radials;
    rounds = rounds;
    differ = h.differ;
  })

  faces_change : (faces : NamedCells FaceCell)
      → ((f : ℕ) → first_round (record old { faces = faces }) f ≡ first_round old f)
      → SameCycles old (record old { faces = faces })
  faces_change faces first = same_cycles old (record old { faces = faces }) h (record {
    first_edges = λ v. refl;
    first_loops = λ e. refl;
    face_loops = first;
    darts = λ v d m. refl;
    radials = λ e l m. refl;
    rounds = λ f l m. refl;
    differ = h.differ;
  })

-- the radial cycle with which an edge begins
abbrev pub first_loop_in : Option EdgeCell → Option Radial
first_loop_in = option_and_then (λ (c : EdgeCell). option_map (λ (l : Slot). record { 0 = l }) c.first_loop)

-- ---- what is in no cycle is no member

not_dart : (st : Stored) (s : Slot) → ((side : ℕ) → IsInNoDisk st (record { edge = s; side = side }))
    → (v : ℕ) (d : Dart) → HasMember (disk_of st v) d → d.edge.0 ≢ s.0
not_dart st s alone v d m e = let P = HasMember (disk_of st v) in alone d.side v
    (subst P (λ i. record { edge = record { 0 = e i }; side = d.side }) m)

not_radial : (st : Stored) (s : Slot) → IsInNoRadial st s → (e : ℕ) (l : Radial) → HasMember (radial_of st e) l
    → l.0.0 ≢ s.0
not_radial st s none e l m p = let P = HasMember (radial_of st e) in none e
    (subst P (λ i. record { 0 = record { 0 = p i } }) m)

not_round : (st : Stored) (s : Slot) → IsInNoRound st s → (f : ℕ) (l : Round) → HasMember (round_of st f) l
    → l.0.0 ≢ s.0
not_round st s none f l m p = let P = HasMember (round_of st f) in none f
    (subst P (λ i. record { 0 = record { 0 = p i } }) m)

-- ---- what a write of one field leaves

-- the ends of an edge that were written differ
pub ends_differ : (to : List Slot) (o : Option EdgeCell)
    → (slice_index_or to 0 no_slot).0 ≢ (slice_index_or to 1 no_slot).0 → (c : EdgeCell)
    → option_map (with_ends to) o ≡ Some c → end_on 0 c ≢ end_on 1 c
ends_differ to None n c e = absurd (let q : None ≡ Some c = e in cc)
ends_differ to (Some b) n c e = let Q = λ (x : EdgeCell). end_on 0 x ≢ end_on 1 x in subst Q (same_Some _ _ e) n

module _ (old new : Stored) (s : Slot) (h : AreCycles old) where
  -- ---- an element is added

  pub vert_added : (name : ℕ) (point : List ℤ) (names : List (Option Slot))
      → (s.0 < length old.verts.cells) × (at old.verts.cells s.0 ≡ None)
      → new ≡ record old {
        verts = record {
          cells = slice_set old.verts.cells s.0 (Some (new_vert name point));
          names = names;
        };
      } → AddsVert old new s (new_vert name point)
  vert_added name point names vacant adds =
      let cells = old.verts.cells in
      let c = new_vert name point in
      let same = verts_change old h (record { cells = slice_set cells s.0 (Some c); names = names })
      (told_set first_edge_in cells s.0 (Some c) (ap first_edge_in (sym vacant.1))) in
      let none = ap (λ (o : Option VertCell). ring_list same_dart (dart_links old) (2 * length old.edges.cells)
      (option_and_then (λ (b : VertCell). option_map (dart_at old s.0) b.first_edge) o)) vacant.1 in
      let P = λ (t : Stored). AddsVert old t s c in
      subst P (sym adds) (record {
        same = same;
        there = written cells s.0 (Some c) vacant.0;
        empty = same.disks s.0 ∙ none;
      })

  pub edge_added : (name : ℕ) (ends : List Slot) (names : List (Option Slot))
      → (s.0 < length old.edges.cells) × (at old.edges.cells s.0 ≡ None)
      → end_on 0 (new_edge name ends s) ≢ end_on 1 (new_edge name ends s)
      → new ≡ record old {
        edges = record {
          cells = slice_set old.edges.cells s.0 (Some (new_edge name ends s));
          names = names;
        };
      } → AddsEdge old new s (new_edge name ends s)
  edge_added name ends names vacant differ adds =
      let cells = old.edges.cells in
      let c = new_edge name ends s in
      let same = edges_change old h (record { cells = slice_set cells s.0 (Some c); names = names })
      (told_set first_loop_in cells s.0 (Some c) (ap first_loop_in (sym vacant.1)))
      (λ v d m. unwritten cells s.0 d.edge.0 (Some c) (apart cells d.edge.0 s.0 (dart_live old h v d m) vacant.1))
      (differ_set cells s.0 (Some c) (λ b p. let Q =
      λ (x : EdgeCell). end_on 0 x ≢ end_on 1 x in subst Q (let q : c ≡ b = cc in q) differ) h.differ) in
      let none = ap (λ (o : Option EdgeCell). ring_list same_radial (radial_links old) (length old.loops)
      (first_loop_in o)) vacant.1 in
      let P = λ (t : Stored). AddsEdge old t s c in
      subst P (sym adds) (record {
        same = same;
        there = written cells s.0 (Some c) vacant.0;
        alone = λ side v m. (let d : Dart = record { edge = s; side = side } in apart cells s.0 s.0
            (dart_live old h v d (member_of d m (same.disks v))) vacant.1 refl);
        empty = same.radials s.0 ∙ none;
      })

  pub loop_added : (vert edge face : Slot) → (s.0 < length old.loops) × (at old.loops s.0 ≡ None)
      → new ≡ record old { loops = slice_set old.loops s.0 (Some (new_loop vert edge face s)) }
      → AddsLoop old new s (new_loop vert edge face s)
  loop_added vert edge face vacant adds =
      let loops = old.loops in
      let c = new_loop vert edge face s in
      let same = loops_change old h (slice_set loops s.0 (Some c))
      (λ e l m. ap (option_map radial_part) (unwritten loops s.0 l.0.0 (Some c)
      (apart loops l.0.0 s.0 (radial_live old h e l m) vacant.1)))
      (λ f l m. ap (option_map round_part) (unwritten loops s.0 l.0.0 (Some c)
      (apart loops l.0.0 s.0 (round_live old h f l m) vacant.1))) in
      let P = λ (t : Stored). AddsLoop old t s c in
      subst P (sym adds) (record {
        same = same;
        there = written loops s.0 (Some c) vacant.0;
        no_radial = λ e m. (let l : Radial = record { 0 = s } in apart loops s.0 s.0
            (radial_live old h e l (member_of l m (same.radials e))) vacant.1 refl);
        no_round = λ f m. (let l : Round = record { 0 = s } in apart loops s.0 s.0
            (round_live old h f l (member_of l m (same.rounds f))) vacant.1 refl);
      })

  pub face_added : (name : ℕ) (names : List (Option Slot))
      → (s.0 < length old.faces.cells) × (at old.faces.cells s.0 ≡ None)
      → new ≡ record old {
        faces = record {
          cells = slice_set old.faces.cells s.0 (Some (new_face name));
          names = names;
        };
      } → AddsFace old new s (new_face name)
  face_added name names vacant adds =
      let cells = old.faces.cells in
      let c = new_face name in
      let same = faces_change old h (record { cells = slice_set cells s.0 (Some c); names = names })
      (told_set face_loop_in cells s.0 (Some c) (ap face_loop_in (sym vacant.1))) in
      let none = ap (λ (o : Option FaceCell). ring_list same_round (round_links old) (length old.loops)
      (face_loop_in o)) vacant.1 in
      let P = λ (t : Stored). AddsFace old t s c in
      subst P (sym adds) (record {
        same = same;
        there = written cells s.0 (Some c) vacant.0;
        empty = same.rounds s.0 ∙ none;
      })

  -- ---- an element is dropped

  pub vert_dropped : disk_of old s.0 ≡ [] → new ≡ record old { verts = without_cell (λ c. c.number) old.verts s.0 }
      → SameCycles old new
  vert_dropped empty drops =
      let first = first_edge_in (at old.verts.cells s.0) in
      let none : first ≡ None = none_mapped (dart_at old s.0) first
      (sym (first_by old s.0) ∙ empty_first (h.disks s.0) empty) in
      subst (SameCycles old) (sym drops)
      (verts_change old h (without_cell (λ c. c.number) old.verts s.0)
      (told_set first_edge_in old.verts.cells s.0 None (sym none)))

  pub edge_dropped : ((side : ℕ) → IsInNoDisk old (record { edge = s; side = side })) → radial_of old s.0 ≡ []
      → new ≡ record old { edges = without_cell (λ c. c.number) old.edges s.0 } → SameCycles old new
  edge_dropped alone empty drops =
      let cells = old.edges.cells in
      let none : first_radial old s.0 ≡ None = empty_first (h.radials s.0) empty in
      subst (SameCycles old) (sym drops)
      (edges_change old h (without_cell (λ c. c.number) old.edges s.0)
      (told_set first_loop_in cells s.0 None (sym none))
      (λ v d m. unwritten cells s.0 d.edge.0 None (not_dart old s alone v d m))
      (differ_set cells s.0 None (λ c p. absurd (let q : None ≡ Some c = p in cc)) h.differ))

  pub loop_dropped : IsInNoRadial old s → IsInNoRound old s → new ≡ record old { loops = slice_set old.loops s.0 None }
      → SameCycles old new
  loop_dropped no_radial no_round drops =
      subst (SameCycles old) (sym drops)
      (loops_change old h (slice_set old.loops s.0 None)
      (λ e l m. ap (option_map radial_part) (unwritten old.loops s.0 l.0.0 None (not_radial old s no_radial e l m)))
      (λ f l m. ap (option_map round_part) (unwritten old.loops s.0 l.0.0 None (not_round old s no_round f l m))))

  pub face_dropped : round_of old s.0 ≡ [] → new ≡ record old { faces = without_cell (λ c. c.number) old.faces s.0 }
      → SameCycles old new
  face_dropped empty drops =
      let none : first_round old s.0 ≡ None = empty_first (h.rounds s.0) empty in
      subst (SameCycles old) (sym drops)
      (faces_change old h (without_cell (λ c. c.number) old.faces s.0)
      (told_set face_loop_in old.faces.cells s.0 None (sym none)))

  -- ---- a point is written

  pub point_written : (to : List ℤ) → new ≡ change_vert (with_point to) old s.0 → SameCycles old new
  point_written to is =
      let cells = old.verts.cells in
      subst (SameCycles old) (sym is)
      (verts_change old h (record {
        cells = slice_set cells s.0 (option_map (with_point to) (at cells s.0));
        names = old.verts.names;
      })
      (told_set first_edge_in cells s.0 (option_map (with_point to) (at cells s.0)) (same_edge (at cells s.0))))
    where
      same_edge : (o : Option VertCell) → first_edge_in (option_map (with_point to) o) ≡ first_edge_in o
      same_edge None = refl
      same_edge (Some c) = refl

  -- ---- a field of a loop, an edge or a face is written

  -- the vertex of any loop
  pub loop_vert_written : (to : Slot) → new ≡ change_loop (with_loop_vert to) old s.0 → SameCycles old new
  loop_vert_written to is =
      let now = option_map (with_loop_vert to) (at old.loops s.0) in
      subst (SameCycles old) (sym is)
      (loops_change old h (slice_set old.loops s.0 now)
      (λ e l m. told_set (option_map radial_part) old.loops s.0 now
      (covered (with_loop_vert to) radial_part (λ c. refl) (at old.loops s.0)) l.0.0)
      (λ f l m. told_set (option_map round_part) old.loops s.0 now
      (covered (with_loop_vert to) round_part (λ c. refl) (at old.loops s.0)) l.0.0))

  -- the edge of a loop that is in no radial cycle
  pub loop_edge_written : (to : Slot) → IsInNoRadial old s → new ≡ change_loop (with_loop_edge to) old s.0
      → SameCycles old new
  loop_edge_written to no_radial is =
      let now = option_map (with_loop_edge to) (at old.loops s.0) in
      subst (SameCycles old) (sym is)
      (loops_change old h (slice_set old.loops s.0 now)
      (λ e l m. ap (option_map radial_part) (unwritten old.loops s.0 l.0.0 now (not_radial old s no_radial e l m)))
      (λ f l m. told_set (option_map round_part) old.loops s.0 now
      (covered (with_loop_edge to) round_part (λ c. refl) (at old.loops s.0)) l.0.0))

  -- the face of a loop that is in no loop cycle
  pub loop_face_written : (to : Slot) → IsInNoRound old s → new ≡ change_loop (with_loop_face to) old s.0
      → SameCycles old new
  loop_face_written to no_round is =
      let now = option_map (with_loop_face to) (at old.loops s.0) in
      subst (SameCycles old) (sym is)
      (loops_change old h (slice_set old.loops s.0 now)
      (λ e l m. told_set (option_map radial_part) old.loops s.0 now
      (covered (with_loop_face to) radial_part (λ c. refl) (at old.loops s.0)) l.0.0)
      (λ f l m. ap (option_map round_part) (unwritten old.loops s.0 l.0.0 now (not_round old s no_round f l m))))

  -- the ends of an edge whose darts are in no disk cycle: two different ones
  pub ends_written : (to : List Slot) → ((side : ℕ) → IsInNoDisk old (record { edge = s; side = side }))
      → (slice_index_or to 0 no_slot).0 ≢ (slice_index_or to 1 no_slot).0
      → new ≡ change_edge (with_ends to) old s.0 → SameCycles old new
  ends_written to alone differ is =
      let cells = old.edges.cells in
      let now = option_map (with_ends to) (at cells s.0) in
      subst (SameCycles old) (sym is)
      (edges_change old h (record { cells = slice_set cells s.0 now; names = old.edges.names })
      (told_set first_loop_in cells s.0 now (same_loop (at cells s.0)))
      (λ v d m. unwritten cells s.0 d.edge.0 now (not_dart old s alone v d m))
      (differ_set cells s.0 now (ends_differ to (at cells s.0) differ) h.differ))
    where
      same_loop : (o : Option EdgeCell) → first_loop_in (option_map (with_ends to) o) ≡ first_loop_in o
      same_loop None = refl
      same_loop (Some c) = refl

  -- the length of a face
  pub face_len_written : (to : ℕ) → new ≡ change_face (with_face_len to) old s.0 → SameCycles old new
  face_len_written to is =
      let cells = old.faces.cells in
      let now = option_map (with_face_len to) (at cells s.0) in
      subst (SameCycles old) (sym is)
      (faces_change old h (record { cells = slice_set cells s.0 now; names = old.faces.names })
      (told_set face_loop_in cells s.0 now (same_loop (at cells s.0))))
    where
      same_loop : (o : Option FaceCell) → face_loop_in (option_map (with_face_len to) o) ≡ face_loop_in o
      same_loop None = refl
      same_loop (Some c) = refl

-- ---- room is made

-- vacant places at the end hold nothing
pub at_grown : {X : Type 0} {old new : List (Option X)} {n most : ℕ} → GrowsFor old new n most → (t : ℕ)
    → at new t ≡ at old t
at_grown {X} {old} {new} g t = ap (λ (xs : List (Option X)). at xs t) g.same ∙ at_longer old g.more t

pub room_made : (old new : Stored) (verts edges corners faces chunk : ℕ) (reach : List ℕ) → AreCycles old
    → WidensStore old new verts edges corners faces chunk reach → SameCycles old new
room_made old new verts edges corners faces chunk reach h w = same_cycles old new h (record {
  first_edges = λ v. ap first_edge_in (at_grown w.verts.cells.grows v);
  first_loops = λ e. ap first_loop_in (at_grown w.edges.cells.grows e);
  face_loops = λ f. ap face_loop_in (at_grown w.faces.cells.grows f);
  darts = λ v d m. at_grown w.edges.cells.grows d.edge.0;
  radials = λ e l m. ap (option_map radial_part) (at_grown w.loops.grows l.0.0);
  rounds = λ f l m. ap (option_map round_part) (at_grown w.loops.grows l.0.0);
  differ = λ e c is. h.differ e c (sym (at_grown w.edges.cells.grows e) ∙ is);
})
