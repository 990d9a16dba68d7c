-- What is read of live elements stays where the elements do.
use Rattle.std.proofs.Common.{◌≡◌, ℕ, List, [], ◌∷◌, ◌++◌, Option, Some, map, sym, ap, ◌∙◌, subst}
use Rattle.std.specs.Option.{option_map, option_map_or}
use Rattle.std.proofs.lemmas.List.{map-append}
use Rattle.raw_pool.specs.declared.pool.Slot.{Slot}
use Rattle.raw_pool.specs.Slots.{IsLive}
use Rattle.link_ring.specs.Mapped.{mapped_from}
use Rattle.mesh_store.specs.Slots.{at}
use Rattle.mesh_store.specs.Naming.{AreNamed}
use Rattle.mesh_store.specs.Stored.{Stored}
use Rattle.mesh_store.specs.declared.cells.Dart.{Dart}
use Rattle.mesh_store.specs.declared.cells.Round.{Round}
use Rattle.mesh_store.specs.declared.cells.LoopCell.{LoopCell}
use Rattle.mesh_cycles.specs.Owners.{end_on}
use Rattle.mesh_cycles.specs.Cycles.{AreCycles, disk_of, round_of}
use Rattle.mesh_cycles.specs.Found.{edges_around, loops_in}
use Rattle.mesh_model.specs.declared.names.EdgeName.{EdgeName}
use Rattle.mesh_model.specs.declared.records.EdgeRec.{EdgeRec}
use Rattle.mesh_model.specs.declared.records.FaceRec.{FaceRec}
use Rattle.mesh_model.specs.declared.records.CornerRec.{CornerRec}
use Rattle.mesh_records.specs.AtSlots.{StoredVert, StoredEdge, StoredLoop, vert_in, edge_in, loop_in, face_in, end_of, IsAt}
use Rattle.mesh_records.specs.ReadOff.{vert_name, edge_name, vert_rec, edge_rec, loop_rec, no_corner, corner_rec, face_rec, vert_at, edge_at, face_at, names_around, disk_at}
use Rattle.mesh_records.specs.Frames.{Extends}
use Rattle.mesh_records.specs.Whole.{AreLinked}
use Rattle.mesh_records.proofs.Options.{there, led, led_or, map_members, same_at, holds_by}
use Rattle.mesh_records.proofs.Elements.{name_live, vert_is_at, edge_is_at, loop_is_at, face_is_at}

module _ (small big : Stored) (x : Extends small big) where
  pub vert_name_same : (s : ℕ) → IsAt (vert_in small) s → vert_name big s ≡ vert_name small s
  vert_name_same s is = ap (λ (o : Option StoredVert). record { 0 = option_map_or (λ (v : StoredVert). v.number) o 0 })
      (same_at s x.verts is)

  pub edge_name_same : (s : ℕ) → IsAt (edge_in small) s → edge_name big s ≡ edge_name small s
  edge_name_same s is = ap (λ (o : Option StoredEdge). record { 0 = option_map_or (λ (e : StoredEdge). e.number) o 0 })
      (same_at s x.edges is)

  -- a vertex
  pub vert_same : AreNamed (λ c. c.number) small.verts.cells small.verts.names → (k : ℕ)
      → at big.verts.names k ≡ at small.verts.names k → vert_at big k ≡ vert_at small k
  vert_same named k e =
      led (λ s. option_map vert_rec (vert_in big s.0)) (λ s. option_map vert_rec (vert_in small s.0))
      (at small.verts.names k) (at big.verts.names k) e
      (λ s is. ap (option_map vert_rec) (same_at s.0 x.verts (vert_is_at small s.0 (name_live named k s is))))

  module _ (linked : AreLinked small) where
    -- an edge
    edge_in_same : (s : ℕ) → IsAt (edge_in small) s
        → option_map (edge_rec big) (edge_in big s) ≡ option_map (edge_rec small) (edge_in small s)
    edge_in_same s is =
        let c = there (edge_in small s) is in
        let a = vert_name_same (end_of 0 c.0) (linked.a s c.0 c.1) in
        let b = vert_name_same (end_of 1 c.0) (linked.b s c.0 c.1) in
        let same : edge_rec big c.0 ≡ edge_rec small c.0 = λ i. record { a = a i; b = b i; vals = c.0.vals } in
        ap (option_map (edge_rec big)) (x.edges s c.0 c.1) ∙ ap (λ (r : EdgeRec). Some r) same
        ∙ sym (ap (option_map (edge_rec small)) c.1)

    pub edge_same : AreNamed (λ c. c.number) small.edges.cells small.edges.names → (k : ℕ)
        → at big.edges.names k ≡ at small.edges.names k → edge_at big k ≡ edge_at small k
    edge_same named k e =
        led (λ s. option_map (edge_rec big) (edge_in big s.0)) (λ s. option_map (edge_rec small) (edge_in small s.0))
        (at small.edges.names k) (at big.edges.names k) e
        (λ s is. edge_in_same s.0 (edge_is_at small s.0 (name_live named k s is)))

    -- a corner
    pub corner_same : (l : Slot) → IsAt (loop_in small) l.0 → corner_rec big l ≡ corner_rec small l
    corner_same l is =
        let c = there (loop_in small l.0) is in
        let v = vert_name_same c.0.vert.0 (linked.vert l.0 c.0 c.1) in
        let e = edge_name_same c.0.edge.0 (linked.edge l.0 c.0 c.1) in
        let same : loop_rec big c.0 ≡ loop_rec small c.0 = λ i. record { vert = v i; edge = e i; vals = c.0.vals } in
        ap (λ (o : Option StoredLoop). option_map_or (loop_rec big) o no_corner) (x.loops l.0 c.0 c.1) ∙ same
        ∙ sym (ap (λ (o : Option StoredLoop). option_map_or (loop_rec small) o no_corner) c.1)

    module _ (h : AreCycles small) where
      -- the corners at the loops of a face
      pub corners_in : (f : ℕ) → map (corner_rec big) (loops_in small f) ≡ map (corner_rec small) (loops_in small f)
      corners_in f = map_members (corner_rec big) (corner_rec small) (loops_in small f) (λ l m.
          let t = mapped_from (λ (r : Round). r.0) (round_of small f) l m in
          let P = λ (k : Slot). IsLive small.loops k.0 in
          corner_same l (loop_is_at small l.0 (subst P t.is
          (holds_by (λ (c : LoopCell). c.face.0) (at small.loops t.of.0.0) f (h.round_faces f t.of t.member)))))

      -- the corners of a face with the same loops
      pub corners_same : (f : ℕ) → round_of big f ≡ round_of small f
          → map (corner_rec big) (loops_in big f) ≡ map (corner_rec small) (loops_in small f)
      corners_same f e = ap (λ (ls : List Round). map (corner_rec big) (map (λ (l : Round). l.0) ls)) e ∙ corners_in f

      -- the corners of a face with one loop more
      pub corners_more : (f : ℕ) (l : Round) → round_of big f ≡ round_of small f ++ l ∷ []
          → map (corner_rec big) (loops_in big f) ≡ map (corner_rec small) (loops_in small f) ++ corner_rec big l.0 ∷ []
      corners_more f l e =
          let slot = λ (r : Round). r.0 in
          ap (λ (ls : List Round). map (corner_rec big) (map slot ls)) e
          ∙ ap (map (corner_rec big)) (map-append slot (round_of small f) (l ∷ []))
          ∙ map-append (corner_rec big) (map slot (round_of small f)) (l.0 ∷ [])
          ∙ ap (λ (cs : List CornerRec). cs ++ corner_rec big l.0 ∷ []) (corners_in f)

      -- a face with the same loops
      face_in_same : (s : ℕ) → IsAt (face_in small) s → round_of big s ≡ round_of small s
          → option_map (face_rec big s) (face_in big s) ≡ option_map (face_rec small s) (face_in small s)
      face_in_same s is e =
          let c = there (face_in small s) is in
          let corners = corners_same s e in
          let same : face_rec big s c.0 ≡ face_rec small s c.0 = λ i. record { corners = corners i; vals = c.0.vals } in
          ap (option_map (face_rec big s)) (x.faces s c.0 c.1) ∙ ap (λ (r : FaceRec). Some r) same
          ∙ sym (ap (option_map (face_rec small s)) c.1)

      pub face_same : AreNamed (λ c. c.number) small.faces.cells small.faces.names → (k : ℕ)
          → at big.faces.names k ≡ at small.faces.names k
          → ((s : Slot) → at small.faces.names k ≡ Some s → round_of big s.0 ≡ round_of small s.0)
          → face_at big k ≡ face_at small k
      face_same named k e rounds =
          led (λ s. option_map (face_rec big s.0) (face_in big s.0))
          (λ s. option_map (face_rec small s.0) (face_in small s.0)) (at small.faces.names k) (at big.faces.names k)
          e
          (λ s is. face_in_same s.0 (face_is_at small s.0 (name_live named k s is)) (rounds s is))

  module _ (h : AreCycles small) where
    -- the names of the edges around a vertex
    pub names_same : (v : ℕ) → map (λ (e : Slot). edge_name big e.0) (edges_around small v)
        ≡ map (λ (e : Slot). edge_name small e.0) (edges_around small v)
    names_same v = map_members (λ (s : Slot). edge_name big s.0) (λ (s : Slot). edge_name small s.0)
        (edges_around small v) (λ s m.
        let t = mapped_from (λ (d : Dart). d.edge) (disk_of small v) s m in
        let P = λ (k : Slot). IsLive small.edges.cells k.0 in
        edge_name_same s.0 (edge_is_at small s.0 (subst P t.is
        (holds_by (end_on t.of.side) (at small.edges.cells t.of.edge.0) v (h.disk_ends v t.of t.member)))))

    -- the same with the same darts
    pub around_same : (v : Slot) → disk_of big v.0 ≡ disk_of small v.0 → names_around big v ≡ names_around small v
    around_same v e =
        ap (λ (ds : List Dart). map (λ (s : Slot). edge_name big s.0) (map (λ (d : Dart). d.edge) ds)) e
        ∙ names_same v.0

    -- with one dart more
    pub around_more : (v : Slot) (d : Dart) → disk_of big v.0 ≡ disk_of small v.0 ++ d ∷ []
        → names_around big v ≡ names_around small v ++ edge_name big d.edge.0 ∷ []
    around_more v d e =
        let name = λ (s : Slot). edge_name big s.0 in
        let edge = λ (x : Dart). x.edge in
        ap (λ (ds : List Dart). map name (map edge ds)) e
        ∙ ap (map name) (map-append edge (disk_of small v.0) (d ∷ []))
        ∙ map-append name (map edge (disk_of small v.0)) (d.edge ∷ [])
        ∙ ap (λ (es : List EdgeName). es ++ edge_name big d.edge.0 ∷ []) (names_same v.0)

    pub disk_same : (k : ℕ) → at big.verts.names k ≡ at small.verts.names k
        → ((s : Slot) → at small.verts.names k ≡ Some s → disk_of big s.0 ≡ disk_of small s.0)
        → disk_at big k ≡ disk_at small k
    disk_same k e disks = led_or (names_around big) (names_around small) [] (at small.verts.names k)
        (at big.verts.names k) e (λ s is. around_same s (disks s is))
