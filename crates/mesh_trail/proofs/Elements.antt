-- What stands at a name, by its parts and its row.
use Rattle.std.proofs.Common.{◌≡◌, ℕ, true, length, take, refl, sym, ap, ◌∙◌, arith, Option, Some, None, is_some, length-take}
use Rattle.std.specs.FinMap.{insert}
use Rattle.std.specs.Option.{option_map}
use Rattle.std.proofs.lemmas.List.{take_all}
use Rattle.std.proofs.lemmas.Option.{none-some, same_Some}
use Rattle.mesh_model.specs.Table.{at, IsThere}
use Rattle.mesh_model.specs.Complex.{Complex, width}
use Rattle.mesh_model.specs.Valid.{IsLinked}
use Rattle.mesh_model.specs.ChangeSetNotes.{Notes}
use Rattle.mesh_model.specs.declared.names.Kind.TheVariants.{Verts, Edges, Faces}
use Rattle.mesh_model.specs.declared.records.Point.{Point}
use Rattle.mesh_model.specs.declared.records.VertRec.{VertRec}
use Rattle.mesh_model.specs.declared.records.EdgeRec.{EdgeRec}
use Rattle.mesh_model.specs.declared.records.FaceRec.{FaceRec}
use Rattle.mesh_trail.specs.Noted.{map_notes}
use Rattle.mesh_trail.specs.Kept.{vert_of, edge_of, vert_row, edge_row, face_row, vert_vals, edge_vals, face_vals}
use Rattle.mesh_trail.specs.declared.edges.Ends.{Ends}
use Rattle.mesh_trail.proofs.MapNotes.{map_notes-insert}

abbrev pub ends_in : EdgeRec → Ends
ends_in r = record { a = r.a; b = r.b }

-- rows are as wide as the layers
pub vert_row_wide : (c : Complex) (n : ℕ) → IsLinked c → IsThere c.verts n → length (vert_row c n) ≡ width c Verts
vert_row_wide c n linked there = go (at c.verts n) refl there
  where
    go : (o : Option VertRec) → at c.verts n ≡ o → is_some o ≡ true
        → length (take (width c Verts) (vert_vals o)) ≡ width c Verts
    go None is some = absurd (cc)
    go (Some r) is some = let long = (linked.verts n r is).vals in let cut =
        length-take (width c Verts) r.vals in omega arith

pub edge_row_wide : (c : Complex) (n : ℕ) → IsLinked c → IsThere c.edges n → length (edge_row c n) ≡ width c Edges
edge_row_wide c n linked there = go (at c.edges n) refl there
  where
    go : (o : Option EdgeRec) → at c.edges n ≡ o → is_some o ≡ true
        → length (take (width c Edges) (edge_vals o)) ≡ width c Edges
    go None is some = absurd (cc)
    go (Some r) is some = let long = (linked.edges n r is).vals in let cut =
        length-take (width c Edges) r.vals in omega arith

pub face_row_wide : (c : Complex) (n : ℕ) → IsLinked c → IsThere c.faces n → length (face_row c n) ≡ width c Faces
face_row_wide c n linked there = go (at c.faces n) refl there
  where
    go : (o : Option FaceRec) → at c.faces n ≡ o → is_some o ≡ true
        → length (take (width c Faces) (face_vals o)) ≡ width c Faces
    go None is some = absurd (cc)
    go (Some r) is some = let long = (linked.faces n r is).vals in let cut =
        length-take (width c Faces) r.vals in omega arith

pub vert_stands : (c : Complex) (n : ℕ) (p : Point) → IsLinked c → option_map (λ r. r.point) (at c.verts n) ≡ Some p
    → Some (vert_of (p, vert_row c n)) ≡ at c.verts n
vert_stands c n p linked point = go (at c.verts n) refl point
  where
    go : (o : Option VertRec) → at c.verts n ≡ o → option_map (λ r. r.point) o ≡ Some p
        → Some (vert_of (p, take (width c Verts) (vert_vals o))) ≡ o
    go None is point = absurd (none-some p point)
    go (Some r) is point =
        let long = (linked.verts n r is).vals in
        let all : take (width c Verts) r.vals ≡ r.vals = take_all (width c Verts) r.vals (omega arith) in
        let same : p ≡ r.point = sym (same_Some r.point p point) in
        λ i. Some (record { point = same i; vals = all i })

pub edge_stands : (c : Complex) (n : ℕ) (p : Ends) → IsLinked c → option_map ends_in (at c.edges n) ≡ Some p
    → Some (edge_of (p, edge_row c n)) ≡ at c.edges n
edge_stands c n p linked ends = go (at c.edges n) refl ends
  where
    go : (o : Option EdgeRec) → at c.edges n ≡ o → option_map ends_in o ≡ Some p
        → Some (edge_of (p, take (width c Edges) (edge_vals o))) ≡ o
    go None is ends = absurd (none-some p ends)
    go (Some r) is ends =
        let long = (linked.edges n r is).vals in
        let all : take (width c Edges) r.vals ≡ r.vals = take_all (width c Edges) r.vals (omega arith) in
        let same : p ≡ ends_in r = sym (same_Some (ends_in r) p ends) in
        λ i. Some (record { a = (same i).a; b = (same i).b; vals = all i })

-- a note more, read in another form
pub noted_as : {A R : Type 0} (f : A → R) (notes : Notes A) (n : ℕ) (a : A) (o : Option R) → Some (f a) ≡ o
    → map_notes f (insert notes n (Some a)) ≡ insert (map_notes f notes) n o
noted_as {R = R} f notes n a o is = map_notes-insert f f notes n (Some a) (λ q k at_q. refl)
    ∙ ap (λ (x : Option R). insert (map_notes f notes) n x) is

pub noted_absent_as : {A R : Type 0} (f : A → R) (notes : Notes A) (n : ℕ) (o : Option R) → o ≡ None
    → map_notes f (insert notes n None) ≡ insert (map_notes f notes) n o
noted_absent_as {R = R} f notes n o none =
    map_notes-insert f f notes n None (λ q k at_q. refl)
    ∙ ap (λ (x : Option R). insert (map_notes f notes) n x) (sym none)
