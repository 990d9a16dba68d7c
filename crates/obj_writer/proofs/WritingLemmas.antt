-- Lemmas on the written text.
use Rattle.std.proofs.Common.{◌≡◌, ℕ, cond, ◌+◌, ◌<◌, ◌≤◌, Bool, true, false, List, [], ◌∷◌, ◌++◌, length}
use Rattle.std.proofs.Common.{get_or, take, refl, sym, ap, ◌∙◌, arith, Option, Some, None, is_some, append_assoc}
use Rattle.std.specs.List.{flat_map, enumerate_from, slice_get}
use Rattle.std.specs.Option.{option_map}
use Rattle.std.proofs.lemmas.List.{take_more, take_all, append-nil, length_push, get_or_append_left}
use Rattle.std.proofs.Math.Seq.{get_or-append_seam}
use Rattle.std.proofs.lemmas.List.FromFn.{length-enumerate_from, get_or-enumerate_from}
use Rattle.std.proofs.lemmas.List.Sums.{count_by_more_yes, count_by_more_no}
use Rattle.std.proofs.lemmas.Grind.{flat_map-append}
use Rattle.std.proofs.lemmas.Option.{slice_get_within, get_or_from_slice_get}
use borrow.Author.Count.{below_more}
use Rattle.mesh_model.specs.Table.{at, IsThere, live}
use Rattle.mesh_model.specs.Complex.{Complex, corners_of}
use Rattle.mesh_model.specs.Valid.{IsLinked}
use Rattle.mesh_model.proofs.Tables.{there-below}
use Rattle.mesh_model.specs.declared.records.VertRec.{VertRec}
use Rattle.mesh_model.specs.declared.records.EdgeRec.{EdgeRec}
use Rattle.mesh_model.specs.declared.records.CornerRec.{CornerRec}
use Rattle.mesh_model.specs.declared.records.FaceRec.{FaceRec}
use Rattle.mesh_model.specs.Incidence.{is_loose}
use Rattle.mesh_model.specs.declared.names.VertName.{VertName}
use Rattle.mesh_model.specs.declared.names.EdgeName.{EdgeName}
use Rattle.mesh_model.specs.declared.records.Point.{Point}
use Rattle.obj_writer.specs.Written.{index, vert_line, vert_entry, loose_line, loose_entry}
use Rattle.obj_writer.specs.Ranks.{AreIndices, AreIndicesTo}

-- INDICES

-- one vertex more among those counted, or one name without a vertex
pub live_more : (table : List (Option VertRec)) (n : ℕ) → n < length table → is_some (at table n) ≡ true
    → live (take (n + 1) table) ≡ live (take n table) + 1
live_more table n here there = count_by_more_yes is_some table n None here there

pub live_same : (table : List (Option VertRec)) (n : ℕ) → n < length table → is_some (at table n) ≡ false
    → live (take (n + 1) table) ≡ live (take n table)
live_same table n here gone = count_by_more_no is_some table n None here gone

each_pushed : (c : Complex) (n before : ℕ) (table : List ℕ) → AreIndicesTo c n table → before ≡ live (take n c.verts)
    → (v : ℕ) → v < n + 1 → get_or (table ++ (before + 1) ∷ []) v 0 ≡ index c v
each_pushed c n before table h count v less =
    let P : ℕ → Type 0 = λ v. get_or (table ++ (before + 1) ∷ []) v 0 ≡ index c v in
    let old : (v : ℕ) → v < n
    → P v = λ v below. get_or_append_left table ((before + 1) ∷ []) 0 v (omega (arith, h.long)) ∙ h.each v below in
    let at_end : get_or (table ++ (before + 1) ∷ []) n 0 ≡ before + 1 =
    ap (λ (k : ℕ). get_or (table ++ (before + 1) ∷ []) k 0) (sym h.long)
    ∙ get_or-append_seam table (before + 1) [] 0 in
    let here : P n = at_end ∙ ap (λ (k : ℕ). k + 1) count in
    below_more P n old here v less

-- one index more
pub indices_more : (c : Complex) (n before : ℕ) (table new : List ℕ) → AreIndicesTo c n table
    → before ≡ live (take n c.verts) → new ≡ table ++ (before + 1) ∷ [] → AreIndicesTo c (n + 1) new
indices_more c n before table new h count pushed = record {
  long = rw pushed (length_push table (before + 1) ∙ ap (λ (k : ℕ). k + 1) h.long);
  each = λ v less. rw pushed (each_pushed c n before table h count v less);
}

-- CORNERS AND ENDS

-- an edge that stands has its ends among the vertices
pub ends_below : (c : Complex) (e : ℕ) (r : EdgeRec) → IsLinked c → at c.edges e ≡ Some r
    → (r.a.0 < length c.verts) × (r.b.0 < length c.verts)
ends_below c e r linked there =
    let ends = linked.edges e r there in
    (there-below c.verts r.a.0 ends.a, there-below c.verts r.b.0 ends.b)

-- the ends of an edge that stands, as a reader gives them
ends_of : (o : Option EdgeRec) (ends : List VertName) (d : VertName)
    → option_map (λ (r : EdgeRec). r.a ∷ r.b ∷ []) o ≡ Some ends
    → (r : EdgeRec) × (o ≡ Some r) × (get_or ends 0 d ≡ r.a) × (get_or ends 1 d ≡ r.b)
ends_of None ends d told = absurd (cc)
ends_of (Some r) ends d told =
    let same : r.a ∷ r.b ∷ [] ≡ ends = cc in (
      r,
      refl,
      ap (λ (vs : List VertName). get_or vs 0 d) (sym same),
      ap (λ (vs : List VertName). get_or vs 1 d) (sym same),
    )

pub ends_told_below : (c : Complex) (e : ℕ) (ends : List VertName) (d : VertName) → IsLinked c
    → option_map (λ (r : EdgeRec). r.a ∷ r.b ∷ []) (at c.edges e) ≡ Some ends
    → ((get_or ends 0 d).0 < length c.verts) × ((get_or ends 1 d).0 < length c.verts)
ends_told_below c e ends d linked told =
    let it = ends_of (at c.edges e) ends d told in
    let below = ends_below c e it.0 linked it.1 in
    (rw it.2 below.0, rw it.3 below.1)

-- the line of a loose edge
pub loose_told : (c : Complex) (table : List ℕ) (e : ℕ) (ends : List VertName) (d : VertName) (line : List ℕ)
    → IsLinked c → AreIndices c table → option_map (λ (r : EdgeRec). r.a ∷ r.b ∷ []) (at c.edges e) ≡ Some ends
    → is_loose c (record { 0 = e }) ≡ true
    → line ≡ loose_line (get_or table (get_or ends 0 d).0 0) (get_or table (get_or ends 1 d).0 0)
    → line ≡ loose_entry c (e, at c.edges e)
loose_told c table e ends d line linked are told loose written =
    let it = ends_of (at c.edges e) ends d told in
    let r : EdgeRec = it.0 in
    let below = ends_below c e r linked it.1 in
    let a : get_or table (get_or ends 0 d).0 0 ≡ index c r.a.0 = ap (λ (v : VertName). get_or table v.0 0) it.2
    ∙ are.each r.a.0 below.0 in
    let b : get_or table (get_or ends 1 d).0 0 ≡ index c r.b.0 = ap (λ (v : VertName). get_or table v.0 0) it.3
    ∙ are.each r.b.0 below.1 in
    written ∙ ap (λ (i : ℕ). loose_line i (get_or table (get_or ends 1 d).0 0)) a ∙ ap (loose_line (index c r.a.0)) b
    ∙ ap (λ (t : Bool). cond t (loose_line (index c r.a.0) (index c r.b.0)) []) (sym loose)
    ∙ ap (λ (o : Option EdgeRec). loose_entry c (e, o)) (sym it.1)

corner_of_face : (c : Complex) (f i : ℕ) (o : Option FaceRec) (k : CornerRec) → IsLinked c → at c.faces f ≡ o
    → slice_get (corners_of o) i ≡ Some k → k.vert.0 < length c.verts
corner_of_face c f i None k linked there get = absurd (omega (arith, slice_get_within [] i k get))
corner_of_face c f i (Some r) k linked there get =
    let here : i < length r.corners = slice_get_within r.corners i k get in
    let at_i = (linked.faces f r there).corners i k here in
    let vert : IsThere c.verts k.vert.0 = rw (get_or_from_slice_get r.corners i k k get) at at_i.vert in
    there-below c.verts k.vert.0 vert

-- a corner as a reader gives it
pub corner_of : (o : Option CornerRec) (told : VertName × EdgeName)
    → option_map (λ (k : CornerRec). (k.vert, k.edge)) o ≡ Some told
    → (k : CornerRec) × (o ≡ Some k) × (told.0 ≡ k.vert)
corner_of None told h = absurd (cc)
corner_of (Some k) told h = let same : (k.vert, k.edge) ≡ told = cc in
    (k, refl, ap (λ (t : VertName × EdgeName). t.0) (sym same))

-- a corner of a face has a vertex among the vertices
pub corner_below : (c : Complex) (f i : ℕ) (k : CornerRec) → IsLinked c
    → slice_get (corners_of (at c.faces f)) i ≡ Some k → k.vert.0 < length c.verts
corner_below c f i k linked get = corner_of_face c f i (at c.faces f) k linked refl get

-- PIECES OF TEXT

-- one piece behind another
pub then : (a b c x y : List ℕ) → b ≡ a ++ x → c ≡ b ++ y → c ≡ a ++ (x ++ y)
then a b c x y one two = two ∙ ap (λ (t : List ℕ). t ++ y) one ∙ append_assoc a x y

-- several pieces behind one another
pub three : (o0 o1 o2 o3 a b c : List ℕ) → o1 ≡ o0 ++ a → o2 ≡ o1 ++ b → o3 ≡ o2 ++ c → o3 ≡ o0 ++ (a ++ (b ++ c))
three o0 o1 o2 o3 a b c e1 e2 e3 = then o0 o1 o3 a (b ++ c) e1 (then o1 o2 o3 b c e2 e3)

pub five : (o0 o1 o2 o3 o4 o5 a b c d e : List ℕ) → o1 ≡ o0 ++ a → o2 ≡ o1 ++ b → o3 ≡ o2 ++ c → o4 ≡ o3 ++ d
    → o5 ≡ o4 ++ e → o5 ≡ o0 ++ (a ++ (b ++ (c ++ (d ++ e))))
five o0 o1 o2 o3 o4 o5 a b c d e e1 e2 e3 e4 e5 =
    three o0 o1 o2 o5 a b (c ++ (d ++ e)) e1 e2 (three o2 o3 o4 o5 c d e e3 e4 e5)

pub seven : (o0 o1 o2 o3 o4 o5 o6 o7 a b c d e f g : List ℕ) → o1 ≡ o0 ++ a → o2 ≡ o1 ++ b → o3 ≡ o2 ++ c
    → o4 ≡ o3 ++ d → o5 ≡ o4 ++ e → o6 ≡ o5 ++ f → o7 ≡ o6 ++ g
    → o7 ≡ o0 ++ (a ++ (b ++ (c ++ (d ++ (e ++ (f ++ g))))))
seven o0 o1 o2 o3 o4 o5 o6 o7 a b c d e f g e1 e2 e3 e4 e5 e6 e7 =
    three o0 o1 o2 o7 a b (c ++ (d ++ (e ++ (f ++ g)))) e1 e2 (five o2 o3 o4 o5 o6 o7 c d e f g e3 e4 e5 e6 e7)

-- a piece behind what begins with something else
pub onto : (start mid out new piece next : List ℕ) → out ≡ start ++ mid → new ≡ out ++ piece → mid ++ piece ≡ next
    → new ≡ start ++ next
onto start mid out new piece next so_far made is =
    then start out new mid piece so_far made ∙ ap (λ (t : List ℕ). start ++ t) is

-- nothing more
pub no_piece : (out piece : List ℕ) → [] ≡ piece → out ≡ out ++ piece
no_piece out piece is = sym (append-nil out) ∙ ap (λ (t : List ℕ). out ++ t) is

-- the first so many and the one that stands next
take_more_get : {X : Type 0} (xs : List X) (i : ℕ) (x : X) → slice_get xs i ≡ Some x
    → take (i + 1) xs ≡ take i xs ++ x ∷ []
take_more_get {X = X} xs i x h =
    take_more xs i x (slice_get_within xs i x h)
    ∙ ap (λ (y : X). take i xs ++ y ∷ []) (get_or_from_slice_get xs i x x h)

-- one piece more
pub flat_map_more : {X : Type 0} (f : X → List ℕ) (xs : List X) (i : ℕ) (x : X) (out new : List ℕ)
    → slice_get xs i ≡ Some x → out ≡ flat_map f (take i xs) → new ≡ out ++ f x → new ≡ flat_map f (take (i + 1) xs)
flat_map_more f xs i x out new get before made =
    made ∙ ap (λ (t : List ℕ). t ++ f x) before
    ∙ ap (λ (t : List ℕ). flat_map f (take i xs) ++ t) (sym (append-nil (f x)))
    ∙ sym (flat_map-append f (take i xs) (x ∷ [])) ∙ ap (flat_map f) (sym (take_more_get xs i x get))

-- the same for the piece at a place
pub flat_map_next : {X : Type 0} (f : X → List ℕ) (xs : List X) (i : ℕ) (d : X) (out new : List ℕ) → i < length xs
    → out ≡ flat_map f (take i xs) → new ≡ out ++ f (get_or xs i d) → new ≡ flat_map f (take (i + 1) xs)
flat_map_next f xs i d out new here before made =
    made ∙ ap (λ (t : List ℕ). t ++ f (get_or xs i d)) before
    ∙ ap (λ (t : List ℕ). flat_map f (take i xs) ++ t) (sym (append-nil (f (get_or xs i d))))
    ∙ sym (flat_map-append f (take i xs) (get_or xs i d ∷ [])) ∙ ap (flat_map f) (sym (take_more xs i d here))

-- the line of a vertex as a reader gives its point, and no line where none stands
pub vert_told : (scale : ℕ) (o : Option VertRec) (p : Point) → option_map (λ (r : VertRec). r.point) o ≡ Some p
    → vert_line scale p ≡ vert_entry scale o
vert_told scale None p told = absurd (cc)
vert_told scale (Some r) p told = let same : r.point ≡ p = cc in ap (vert_line scale) (sym same)

pub vert_gone : (scale : ℕ) (o : Option VertRec) → is_some o ≡ false → [] ≡ vert_entry scale o
vert_gone scale None gone = refl
vert_gone scale (Some r) gone = absurd (cc)

-- the same for a piece that depends on its place
pub flat_map_more_named : {X : Type 0} (f : ℕ × X → List ℕ) (xs : List X) (i : ℕ) (d : X) (out new : List ℕ)
    → i < length xs → out ≡ flat_map f (take i (enumerate_from 0 xs)) → new ≡ out ++ f (i, get_or xs i d)
    → new ≡ flat_map f (take (i + 1) (enumerate_from 0 xs))
flat_map_more_named {X = X} f xs i d out new here before made =
    let within : i < length (enumerate_from 0 xs) = omega (arith, length-enumerate_from 0 xs) in
    let entry : get_or (enumerate_from 0 xs) i (0, d) ≡ (i, get_or xs i d) = get_or-enumerate_from 0 xs i (0, d) here
    ∙ ap (λ (k : ℕ). (k, get_or xs i d)) (omega arith) in
    made ∙ ap (λ (t : List ℕ). t ++ f (i, get_or xs i d)) before
    ∙ ap (λ (e : ℕ × X). flat_map f (take i (enumerate_from 0 xs)) ++ f e) (sym entry)
    ∙ ap (λ (t : List ℕ). flat_map f (take i (enumerate_from 0 xs)) ++ t)
    (sym (append-nil (f (get_or (enumerate_from 0 xs) i (0, d)))))
    ∙ sym (flat_map-append f (take i (enumerate_from 0 xs)) (get_or (enumerate_from 0 xs) i (0, d) ∷ []))
    ∙ ap (flat_map f) (sym (take_more (enumerate_from 0 xs) i (0, d) within))

-- all pieces
pub flat_map_all_named : {X : Type 0} (f : ℕ × X → List ℕ) (xs : List X) (i : ℕ) (out : List ℕ) → length xs ≤ i
    → out ≡ flat_map f (take i (enumerate_from 0 xs)) → out ≡ flat_map f (enumerate_from 0 xs)
flat_map_all_named f xs i out past before =
    let past_all : length (enumerate_from 0 xs) ≤ i = omega (arith, length-enumerate_from 0 xs) in
    before ∙ ap (flat_map f) (take_all i (enumerate_from 0 xs) past_all)
