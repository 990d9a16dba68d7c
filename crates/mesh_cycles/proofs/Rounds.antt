-- A loop cycle changes.
use Rattle.std.proofs.Common.{◌≡◌, ℕ, is_some, List, Option, Some, None, map, length, refl, sym, ap, ◌∙◌, subst}
use Rattle.std.specs.Option.{option_map, option_map_or, option_and_then}
use Rattle.raw_pool.specs.declared.pool.Slot.{Slot}
use Rattle.link_ring.specs.Members.{HasMember}
use Rattle.link_ring.specs.Ring.{LinkMap, ReadsAs}
use Rattle.link_ring.specs.Changes.{SameOutside}
use Rattle.link_ring.proofs.Reading.{reads_at}
use Rattle.mesh_store.specs.Limits.{rounds_limited}
use Rattle.mesh_store.specs.Slots.{at, changed}
use Rattle.mesh_store.specs.Stored.{Stored, round_links, with_face_loop, with_face_len, change_face, without_round, beside_rounds}
use Rattle.mesh_store.specs.declared.cells.Dart.{Dart}
use Rattle.mesh_store.specs.declared.cells.Radial.{Radial}
use Rattle.mesh_store.specs.declared.cells.Round.{Round}
use Rattle.mesh_store.specs.declared.cells.LoopCell.{LoopCell}
use Rattle.mesh_store.specs.declared.cells.FaceCell.{FaceCell}
use Rattle.mesh_cycles.specs.Owners.{face_of, len_of}
use Rattle.mesh_cycles.specs.Lists.{same_dart, same_radial, same_round}
use Rattle.mesh_cycles.specs.Cycles.{AreCycles, EndsDiffer}
use Rattle.mesh_cycles.specs.Edits.{bare_face, beside_round, EditsRound}
use Rattle.mesh_cycles.proofs.CycleKinds.{Kind, Holds, Changes, cycle_at, own_cycle, other_cycles, still_holds}
use Rattle.mesh_cycles.proofs.Besides.{round_bare}
use Rattle.mesh_cycles.proofs.Cells.{told, as_long, changed_twice, changed_over, changed_here, changed_elsewhere}
use Rattle.mesh_cycles.proofs.Frames.{disk_kind, radial_kind, round_kind, disks_hold, radials_hold, rounds_hold, are_cycles, round_test}

-- the loop by its place in a loop cycle
abbrev pub as_round : Slot → Round
as_round l = record { 0 = l }

-- the loop with which a face's cycle begins
abbrev pub face_loop_in : Option FaceCell → Option Round
face_loop_in = option_and_then (λ (c : FaceCell). option_map as_round c.first_loop)

-- the first loop and the length
abbrev pub with_loop_and_len : Option Slot → ℕ → FaceCell → FaceCell
with_loop_and_len to len c = with_face_len len (with_face_loop to c)

-- two changes of a face are one
face_twice : (f g : FaceCell → FaceCell) (st : Stored) (s : ℕ)
    → change_face g (change_face f st s) s ≡ change_face (λ c. g (f c)) st s
face_twice f g st s = ap (λ (cs : List (Option FaceCell)). record st
    { faces = record { cells = cs; names = st.faces.names } }) (changed_twice f g st.faces.cells s)

-- ---- a write

-- first only links around faces were written, and then a face's first loop and length, or one of them
pub record WritesRound (old mid new : Stored) (f : ℕ) (g : FaceCell → FaceCell) : Type 0 where
  pub rest : beside_rounds mid ≡ beside_rounds old
  pub write : new ≡ change_face g mid f
  pub covered : (c : FaceCell) → bare_face (g c) ≡ bare_face c

-- both were written
pub writes_both : {old mid between new : Stored} (f : ℕ) (to : Option Slot) (len : ℕ)
    → beside_rounds mid ≡ beside_rounds old → between ≡ change_face (with_face_loop to) mid f
    → new ≡ change_face (with_face_len len) between f → WritesRound old mid new f (with_loop_and_len to len)
writes_both {old} {mid} {between} f to len rest first second = record {
  rest = rest;
  write = second ∙ ap (λ (t : Stored). change_face (with_face_len len) t f) first
      ∙ face_twice (with_face_loop to) (with_face_len len) mid f;
  covered = λ c. refl;
}

module _ {old mid new : Stored} {f : ℕ} {g : FaceCell → FaceCell} (w : WritesRound old mid new f g) where
  -- ---- what stays

  -- the loops agree beside their links around faces
  loops_beside : map (option_map without_round) new.loops ≡ map (option_map without_round) old.loops
  loops_beside = ap (λ (t : Stored). map (option_map without_round) t.loops) w.write
      ∙ ap (λ (t : Stored). t.loops) w.rest

  -- one face has another first loop or length
  faces_now : new.faces.cells ≡ changed g old.faces.cells f
  faces_now = ap (λ (t : Stored). t.faces.cells) w.write ∙ ap (λ (t : Stored). changed g t.faces.cells f) w.rest

  verts_same : new.verts.cells ≡ old.verts.cells
  verts_same = ap (λ (t : Stored). t.verts.cells) w.write ∙ ap (λ (t : Stored). t.verts.cells) w.rest

  edges_same : new.edges.cells ≡ old.edges.cells
  edges_same = ap (λ (t : Stored). t.edges.cells) w.write ∙ ap (λ (t : Stored). t.edges.cells) w.rest

  -- all but the links around faces, and that first loop and length
  round_beside : beside_round new f ≡ beside_round old f
  round_beside =
      ap (λ (t : Stored). beside_round t f) w.write
      ∙ ap (λ (cs : List (Option FaceCell)). beside_rounds (record mid
      { faces = record { cells = cs; names = mid.faces.names } }))
      (changed_over g bare_face w.covered mid.faces.cells f)
      ∙ ap (λ (t : Stored). change_face bare_face t f) w.rest

  -- what h tells of a loop beside its links around its face
  loop_told : {Z : Type 0} (h : Option LoopCell → Z) → ((c : LoopCell) → h (Some c) ≡ h (Some (without_round c)))
      → (s : ℕ) → h (at new.loops s) ≡ h (at old.loops s)
  loop_told h same s = told without_round h same old.loops new.loops loops_beside s

  -- the disk cycles
  disks_stay : disk_kind new ≡ disk_kind old
  disks_stay = λ i. disk_kind (record old {
    verts = record { cells = verts_same i; names = old.verts.names };
    edges = record { cells = edges_same i; names = old.edges.names };
  })

  -- the radial cycles
  radials_stay : radial_kind new ≡ radial_kind old
  radials_stay =
      let has = λ (l : Radial). loop_told (λ (o : Option LoopCell). is_some o) (λ c. refl) l.0.0 in
      let next = λ (l : Radial). loop_told (λ (o : Option LoopCell). option_map_or (λ (c : LoopCell). c.radial_next) o
      l) (λ c. refl) l.0.0 in
      let prev = λ (l : Radial). loop_told (λ (o : Option LoopCell). option_map_or (λ (c : LoopCell). c.radial_prev) o
      l) (λ c. refl) l.0.0 in
      let owner = λ (l : Radial). loop_told (option_map (λ (c : LoopCell). c.edge.0)) (λ c. refl) l.0.0 in
      let long = as_long without_round old.loops new.loops loops_beside in
      λ i. record (radial_kind (record old { edges = record { cells = edges_same i; names = old.edges.names } })) {
        links = record { has = λ l. has l i; next = λ l. next l i; prev = λ l. prev l i };
        limit = long i;
        owner = λ l. owner l i;
      }

  -- ---- what changes

  -- what h tells of the face
  face_told : {Z : Type 0} (h : Option FaceCell → Z)
      → h (at new.faces.cells f) ≡ h (option_map g (at old.faces.cells f))
  face_told h = ap (λ (cs : List (Option FaceCell)). h (at cs f)) faces_now ∙ ap h (changed_here g old.faces.cells f)

  -- the loop cycle of the face reads as the list `now`
  pub round_changes : (first : Option Round) (touched now : List Round)
      → face_loop_in (option_map g (at old.faces.cells f)) ≡ first
      → ReadsAs (round_links mid) first now → SameOutside (round_links old) (round_links mid) touched
      → ((l : Round) → HasMember touched l → face_of old l.0 ≡ Some f)
      → ((l : Round) → HasMember now l → face_of old l.0 ≡ Some f)
      → Changes (round_kind old) (round_kind new) f touched now
  round_changes first touched now is r outside near ends =
      let links : round_links new ≡ round_links mid = ap round_links w.write in
      let P = λ (m : LinkMap Round). ReadsAs m first now in
      let Q = λ (m : LinkMap Round). SameOutside (round_links old) m touched in
      record {
        reads = reads_at (subst P (sym links) r) (sym (face_told face_loop_in ∙ is));
        firsts = λ p ne. ap (λ (cs : List (Option FaceCell)). face_loop_in (at cs p)) faces_now
            ∙ ap face_loop_in (changed_elsewhere g old.faces.cells f p ne);
        owners = λ l. loop_told (option_map (λ (c : LoopCell). c.face.0)) (λ c. refl) l.0.0;
        outside = subst Q (sym links) outside;
        near = near;
        members = ends;
        limited = rounds_limited new;
      }

  -- the length of the face
  len_now : (was len : ℕ) → len_of old f ≡ Some was → ((c : FaceCell) → (g c).len ≡ len) → len_of new f ≡ Some len
  len_now was len counted is = face_told (option_map (λ (c : FaceCell). c.len))
      ∙ len_written (at old.faces.cells f) counted
    where
      len_written : (o : Option FaceCell) → option_map (λ (c : FaceCell). c.len) o ≡ Some was
          → option_map (λ (c : FaceCell). c.len) (option_map g o) ≡ Some len
      len_written None h = absurd (let e : None ≡ Some was = h in cc)
      len_written (Some c) h = ap (λ (n : ℕ). Some n) (is c)

  -- what follows of all cycles, where the length is right
  pub round_kept : {touched now : List Round} → AreCycles old → Changes (round_kind old) (round_kind new) f touched now
      → len_of new f ≡ Some (length now) → EditsRound old new f touched now
  round_kept h c len =
      let rounds = rounds_hold old h in
      let own = own_cycle same_round round_test c in
      record {
        own = own;
        links = c.outside;
        len = len ∙ ap (λ (ls : List Round). Some (length ls)) (sym own);
        disks = λ v. ap (λ (k : Kind Dart). cycle_at same_dart k v) disks_stay;
        radials = λ e. ap (λ (k : Kind Radial). cycle_at same_radial k e) radials_stay;
        others = other_cycles same_round round_test rounds c;
        rest = round_beside;
        stays = round_bare old new f round_beside;
        cycles = are_cycles new (subst (Holds same_dart) (sym disks_stay) (disks_hold old h))
            (subst (Holds same_radial) (sym radials_stay) (radials_hold old h))
            (still_holds same_round round_test rounds c) (subst EndsDiffer (sym edges_same) h.differ);
      }

  -- and where it was written
  pub round_edited : {touched now : List Round} (was len : ℕ) → AreCycles old
      → Changes (round_kind old) (round_kind new) f touched now
      → len_of old f ≡ Some was → ((c : FaceCell) → (g c).len ≡ len) → len ≡ length now
      → EditsRound old new f touched now
  round_edited was len h c counted is fits = round_kept h c (len_now was len counted is ∙ ap (λ (n : ℕ). Some n) fits)
