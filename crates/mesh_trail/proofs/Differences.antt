-- What tells whether a noted record differs from what stands now.
use Rattle.std.proofs.Common.{◌≡◌, ℕ, ℤ, ◌≤◌, Bool, true, false, not, List, length, take, drop, refl, sym, ap, ◌∙◌, arith, Option, Some, None, is_some, length-take}
use Rattle.std.specs.Prelude.{◌↔◌, ◌==◌}
use Rattle.std.proofs.lemmas.Bool.{eqb-true}
use Rattle.std.specs.Option.{option_map}
use Rattle.std.proofs.lemmas.List.{take_all}
use Rattle.std.proofs.lemmas.Option.{none-some, same_Some}
use Rattle.mesh_model.specs.Table.{at}
use Rattle.mesh_model.specs.Complex.{Complex, width, corners_of}
use Rattle.mesh_model.specs.Valid.{IsLinked}
use Rattle.mesh_model.specs.ChangeSet.{same_point, same_vert, same_edge, same_face}
use Rattle.mesh_model.specs.ChangeSetNotes.{note_between}
use Rattle.mesh_model.specs.declared.names.Kind.TheVariants.{Verts, Edges, Faces}
use Rattle.mesh_model.specs.declared.names.VertName.{VertName}
use Rattle.mesh_model.specs.declared.records.Point.{Point}
use Rattle.mesh_model.specs.declared.records.VertRec.{VertRec}
use Rattle.mesh_model.specs.declared.records.EdgeRec.{EdgeRec}
use Rattle.mesh_model.specs.declared.records.CornerRec.{CornerRec}
use Rattle.mesh_model.specs.declared.records.FaceRec.{FaceRec}
use Rattle.mesh_model.proofs.Leads.{Tells}
use Rattle.mesh_model.proofs.ChangeSets.{tells_point, tells_vert, tells_edge, tells_face}
use Rattle.mesh_trail.specs.Kept.{row_at, vert_in, edge_in, face_in, vert_row, edge_row, face_row, vert_vals, edge_vals, face_vals}
use Rattle.mesh_trail.specs.declared.table.Kept.{Kept}
use Rattle.mesh_trail.specs.declared.edges.Ends.{Ends}
use Rattle.mesh_trail.specs.declared.faces.Span.{Span}
use Rattle.mesh_trail.proofs.Trims.{told}

-- a test that holds just where the record stands there
pub told_not : {R : Type 0} (same : R → R → Bool) → Tells same → (r : R) (o : Option R) (b : Bool)
    → (o ≡ Some r → b ≡ true) → (b ≡ true → o ≡ Some r) → not b ≡ is_some (note_between same (Some r) o)
told_not same tells r o true so back = told same tells r o false (λ e is. absurd (cc)) (λ e. back refl)
told_not same tells r o false so back =
    told same tells r o true (λ e is. absurd (let b = so is in cc)) (λ e. absurd (cc))

turned : (b : Bool) → not b ≡ false → b ≡ true
turned true e = refl
turned false e = absurd (cc)

-- and a record that doesn't stand there differs
pub told_differs : {R : Type 0} (same : R → R → Bool) → Tells same → (r : R) (o : Option R) → (o ≡ Some r → ⊥)
    → true ≡ is_some (note_between same (Some r) o)
told_differs same tells r o off = told same tells r o true (λ e is. off is) (λ e. absurd (cc))

-- points that a test tells equal
pub points_same : (p q : Point) (b : Bool) → b ≡ not (same_point p q) → b ≡ false → p ≡ q
points_same p q b is e = tells_point.sound p q (turned (same_point p q) (sym is ∙ e))

-- names that a test tells equal
pub names_same : (v w : VertName) (b : Bool) → b ≡ not (v.0 == w.0) → b ≡ false → v ≡ w
names_same v w b is e = let same : v.0 ≡ w.0 =
    eqb-true v.0 w.0 (turned (v.0 == w.0) (sym is ∙ e)) in λ i. record { 0 = same i }

row_short : (w : ℕ) (vs : List ℤ) (place : ℕ) → length (row_at w vs place) ≤ w
row_short w vs place = let long = length-take w (drop place vs) in omega arith

pub vert_told : (c : Complex) (n : ℕ) (w : ℕ) (vs : List ℤ) (k : Kept Point) (p : Point) (b : Bool) → IsLinked c
    → w ≡ width c Verts → option_map (λ r. r.point) (at c.verts n) ≡ Some p → p ≡ k.body
    → (b ≡ true ↔ (row_at w vs k.row ≡ vert_row c n))
    → not b ≡ is_some (note_between same_vert (Some (vert_in w vs k)) (at c.verts n))
vert_told c n w vs k p b linked wide point body rows = go (at c.verts n) refl
  where
    there : (o : Option VertRec) → at c.verts n ≡ o → o ≡ Some (vert_in w vs k) → b ≡ true
    there o is at_n = rows.1 (sym (ap (λ (x : Option VertRec). take (width c Verts) (vert_vals x)) (is ∙ at_n)
        ∙ take_all (width c Verts) (row_at w vs k.row) (let short = row_short w vs k.row in omega arith)))

    stands : (o : Option VertRec) → at c.verts n ≡ o → b ≡ true → o ≡ Some (vert_in w vs k)
    stands None is e = absurd (none-some p (sym (ap (λ (x : Option VertRec). option_map (λ r. r.point) x) is) ∙ point))
    stands (Some s) is e =
        let at_point : s.point ≡ p = same_Some s.point p (sym
        (ap (λ (x : Option VertRec). option_map (λ r. r.point) x) is) ∙ point) in
        let long = (linked.verts n s is).vals in
        let row : s.vals ≡ row_at w vs k.row = sym (rows.0 e
        ∙ ap (λ (x : Option VertRec). take (width c Verts) (vert_vals x)) is
        ∙ take_all (width c Verts) s.vals (omega arith)) in
        λ i. Some (record { point = (at_point ∙ body) i; vals = row i })

    go : (o : Option VertRec) → at c.verts n ≡ o
        → not b ≡ is_some (note_between same_vert (Some (vert_in w vs k)) (at c.verts n))
    go o is = rw is (told_not same_vert tells_vert (vert_in w vs k) o b (there o is) (stands o is))

pub edge_told : (c : Complex) (n : ℕ) (w : ℕ) (vs : List ℤ) (k : Kept Ends) (p : Ends) (b : Bool) → IsLinked c
    → w ≡ width c Edges → option_map (λ r. record { a = r.a; b = r.b }) (at c.edges n) ≡ Some p → p ≡ k.body
    → (b ≡ true ↔ (row_at w vs k.row ≡ edge_row c n))
    → not b ≡ is_some (note_between same_edge (Some (edge_in w vs k)) (at c.edges n))
edge_told c n w vs k p b linked wide ends body rows = go (at c.edges n) refl
  where
    there : (o : Option EdgeRec) → at c.edges n ≡ o → o ≡ Some (edge_in w vs k) → b ≡ true
    there o is at_n = rows.1 (sym (ap (λ (x : Option EdgeRec). take (width c Edges) (edge_vals x)) (is ∙ at_n)
        ∙ take_all (width c Edges) (row_at w vs k.row) (let short = row_short w vs k.row in omega arith)))

    stands : (o : Option EdgeRec) → at c.edges n ≡ o → b ≡ true → o ≡ Some (edge_in w vs k)
    stands None is e = absurd (none-some p (sym (ap (λ (x : Option EdgeRec). option_map {U = Ends}
        (λ r. record { a = r.a; b = r.b }) x) is) ∙ ends))
    stands (Some s) is e =
        let at_ends : ◌≡◌ {A = Ends} (record { a = s.a; b = s.b }) p =
        same_Some (record { a = s.a; b = s.b }) p (sym (ap
        (λ (x : Option EdgeRec). option_map {U = Ends} (λ r. record { a = r.a; b = r.b }) x) is) ∙ ends) in
        let long = (linked.edges n s is).vals in
        let row : s.vals ≡ row_at w vs k.row = sym (rows.0 e
        ∙ ap (λ (x : Option EdgeRec). take (width c Edges) (edge_vals x)) is
        ∙ take_all (width c Edges) s.vals (omega arith)) in
        λ i. Some (record { a = ((at_ends ∙ body) i).a; b = ((at_ends ∙ body) i).b; vals = row i })

    go : (o : Option EdgeRec) → at c.edges n ≡ o
        → not b ≡ is_some (note_between same_edge (Some (edge_in w vs k)) (at c.edges n))
    go o is = rw is (told_not same_edge tells_edge (edge_in w vs k) o b (there o is) (stands o is))

pub face_told : (c : Complex) (n : ℕ) (w : ℕ) (corners : List CornerRec) (vs : List ℤ) (k : Kept Span) (b : Bool)
    → IsLinked c → w ≡ width c Faces → is_some (at c.faces n) ≡ true
    → take k.body.count (drop k.body.from corners) ≡ corners_of (at c.faces n)
    → (b ≡ true ↔ (row_at w vs k.row ≡ face_row c n))
    → not b ≡ is_some (note_between same_face (Some (face_in corners w vs k)) (at c.faces n))
face_told c n w corners vs k b linked wide is_there same rows = go (at c.faces n) refl
  where
    there : (o : Option FaceRec) → at c.faces n ≡ o → o ≡ Some (face_in corners w vs k) → b ≡ true
    there o is at_n = rows.1 (sym (ap (λ (x : Option FaceRec). take (width c Faces) (face_vals x)) (is ∙ at_n)
        ∙ take_all (width c Faces) (row_at w vs k.row) (let short = row_short w vs k.row in omega arith)))

    stands : (o : Option FaceRec) → at c.faces n ≡ o → b ≡ true → o ≡ Some (face_in corners w vs k)
    stands None is e = absurd (let no = ap is_some is in cc)
    stands (Some s) is e =
        let long = (linked.faces n s is).vals in
        let all : s.corners ≡ take k.body.count (drop k.body.from corners) = sym (same ∙ ap corners_of is) in
        let row : s.vals ≡ row_at w vs k.row = sym (rows.0 e
        ∙ ap (λ (x : Option FaceRec). take (width c Faces) (face_vals x)) is
        ∙ take_all (width c Faces) s.vals (omega arith)) in
        λ i. Some (record { corners = all i; vals = row i })

    go : (o : Option FaceRec) → at c.faces n ≡ o
        → not b ≡ is_some (note_between same_face (Some (face_in corners w vs k)) (at c.faces n))
    go o is = rw is (told_not same_face tells_face (face_in corners w vs k) o b (there o is) (stands o is))

-- a face of other corners differs
pub face_differs : (c : Complex) (n : ℕ) (w : ℕ) (corners : List CornerRec) (vs : List ℤ) (k : Kept Span)
    → (take k.body.count (drop k.body.from corners) ≡ corners_of (at c.faces n) → ⊥)
    → true ≡ is_some (note_between same_face (Some (face_in corners w vs k)) (at c.faces n))
face_differs c n w corners vs k off = told_differs same_face tells_face (face_in corners w vs k) (at c.faces n)
    (λ is. off (sym (ap corners_of is)))
