-- The laws of change sets.
use Rattle.std.proofs.Common.{◌≡◌, ℕ, ℤ, Bool, true, ◌&&◌, eqb, List, [], ◌∷◌, refl, sym, ap, ◌∙◌, arith}
use Rattle.std.specs.Ordering.{int_eq}
use lib.Pointwise.{pointwise}
use Rattle.std.proofs.lemmas.Bool.{and_parts, and_from, eq-eqb, eqb-true}
use Rattle.std.proofs.lemmas.Int.{ints}
use Rattle.mesh_model.specs.ChangeSet.{next_of, same_vals, same_point, same_vert, same_edge, same_corner, same_face}
use Rattle.mesh_model.specs.ChangeSetLaws.{LeadsBack, JoinedLeads, OppositeTurns, TrimmedIsChangeSet, TrimmedLeads}
use Rattle.mesh_model.specs.declared.records.Point.{Point}
use Rattle.mesh_model.specs.declared.records.VertRec.{VertRec}
use Rattle.mesh_model.specs.declared.records.EdgeRec.{EdgeRec}
use Rattle.mesh_model.specs.declared.records.CornerRec.{CornerRec}
use Rattle.mesh_model.specs.declared.records.FaceRec.{FaceRec}
use Rattle.mesh_model.proofs.Leads.{Tells, led_back-notes_between, led_back-joined, opposite-notes_between}
use Rattle.mesh_model.proofs.Leads.{trimmed-notes_between, led_back-trimmed, length-led_back}

-- ---- TESTS THAT TELL RECORDS APART

pub tells_number : Tells eqb
tells_number = record { sound = eqb-true; itself = λ x. eq-eqb x x refl }

pub tells_int : Tells int_eq
tells_int = record { sound = λ x y e. grind (arith, ints); itself = λ x. grind (arith, ints) }

-- a test of each element tells lists apart
pub tells_list : {X : Type 0} (same : X → X → Bool) → Tells same → Tells (pointwise same)
tells_list {X = X} same tells = record { sound = sound; itself = itself }
  where
    sound : (xs ys : List X) → pointwise same xs ys ≡ true → xs ≡ ys
    sound [] [] e = refl
    sound [] (y ∷ ys) e = absurd (cc)
    sound (x ∷ xs) [] e = absurd (cc)
    sound (x ∷ xs) (y ∷ ys) e =
        let both = and_parts (same x y) (pointwise same xs ys) e in
        ap (λ (z : X). z ∷ xs) (tells.sound x y both.0) ∙ ap (λ (zs : List X). y ∷ zs) (sound xs ys both.1)

    itself : (xs : List X) → pointwise same xs xs ≡ true
    itself [] = refl
    itself (x ∷ xs) = and_from (same x x) (pointwise same xs xs) (tells.itself x) (itself xs)

-- tests of two parts tell what has them apart
tells_pair : {A B : Type 0} (p : A → A → Bool) (q : B → B → Bool) → Tells p → Tells q
    → Tells (λ (x y : A × B). p x.0 y.0 && q x.1 y.1)
tells_pair {A = A} {B = B} p q tells_a tells_b = record {
  sound = λ x y e. let both = and_parts (p x.0 y.0) (q x.1 y.1) e in
      ap (λ (a : A). let z : A × B = (a, x.1) in z) (tells_a.sound x.0 y.0 both.0)
      ∙ ap (λ (b : B). let z : A × B = (y.0, b) in z) (tells_b.sound x.1 y.1 both.1);
  itself = λ x. and_from (p x.0 x.0) (q x.1 x.1) (tells_a.itself x.0) (tells_b.itself x.1);
}

-- a test through parts that make up the whole
tells_by : {X Y : Type 0} (parts : X → Y) (whole : Y → X) → ((x : X) → whole (parts x) ≡ x) → (p : Y → Y → Bool)
    → Tells p → Tells (λ (x y : X). p (parts x) (parts y))
tells_by parts whole made p tells = record {
  sound = λ x y e. sym (made x) ∙ ap whole (tells.sound (parts x) (parts y) e) ∙ made y;
  itself = λ x. tells.itself (parts x);
}

pub tells_vals : Tells same_vals
tells_vals = tells_list int_eq tells_int

pub tells_point : Tells same_point
tells_point = tells_by {X = Point} {Y = ℤ × (ℤ × ℤ)} (λ p. (p.x, (p.y, p.z))) (λ t. record {
  x = t.0;
  y = t.1.0;
  z =
      t.1.1;
}) (λ p. refl) (λ x y. int_eq x.0 y.0 && (int_eq x.1.0 y.1.0 && int_eq x.1.1 y.1.1))
    (tells_pair int_eq (λ (x y : ℤ × ℤ). int_eq x.0 y.0 && int_eq x.1 y.1) tells_int
    (tells_pair int_eq int_eq tells_int tells_int))

pub tells_vert : Tells same_vert
tells_vert = tells_by {X = VertRec} {Y = Point × List ℤ} (λ r. (r.point, r.vals)) (λ t. record {
  point = t.0;
  vals =
      t.1;
}) (λ r. refl) (λ x y. same_point x.0 y.0 && same_vals x.1 y.1)
    (tells_pair same_point same_vals tells_point tells_vals)

pub tells_edge : Tells same_edge
tells_edge = tells_by {X = EdgeRec} {Y =
    ℕ × (ℕ × List ℤ)} (λ r. (r.a.0, (r.b.0, r.vals))) (λ t. record {
      a = record { 0 = t.0 };
      b = record { 0 = t.1.0 };
      vals = t.1.1;
    }) (λ r. refl) (λ x y. eqb x.0 y.0 && (eqb x.1.0 y.1.0 && same_vals x.1.1 y.1.1))
    (tells_pair eqb (λ (x y : ℕ × List ℤ). eqb x.0 y.0 && same_vals x.1 y.1) tells_number
    (tells_pair eqb same_vals tells_number tells_vals))

pub tells_corner : Tells same_corner
tells_corner = tells_by {X = CornerRec} {Y = ℕ × (ℕ × List ℤ)} (λ r. (r.vert.0, (r.edge.0, r.vals)))
    (λ t. record { vert = record { 0 = t.0 }; edge = record { 0 = t.1.0 }; vals = t.1.1 }) (λ r. refl)
    (λ x y. eqb x.0 y.0 && (eqb x.1.0 y.1.0 && same_vals x.1.1 y.1.1))
    (tells_pair eqb (λ (x y : ℕ × List ℤ). eqb x.0 y.0 && same_vals x.1 y.1) tells_number
    (tells_pair eqb same_vals tells_number tells_vals))

pub tells_face : Tells same_face
tells_face = tells_by {X = FaceRec} {Y = List CornerRec × List ℤ} (λ r. (r.corners, r.vals))
    (λ t. record { corners = t.0; vals = t.1 }) (λ r. refl) (λ x y. pointwise same_corner x.0 y.0 && same_vals x.1 y.1)
    (tells_pair (pointwise same_corner) same_vals (tells_list same_corner tells_corner) tells_vals)

-- ---- LAWS

pub leads_back : LeadsBack
leads_back before after alike = λ i. record {
  verts = led_back-notes_between same_vert tells_vert before.verts after.verts i;
  edges = led_back-notes_between same_edge tells_edge before.edges after.edges i;
  faces = led_back-notes_between same_face tells_face before.faces after.faces i;
  layers = sym alike.layers i;
  materials = sym alike.materials i;
  libraries = sym alike.libraries i;
}

pub joined_leads : JoinedLeads
joined_leads older newer now below = λ i. record now {
  verts = led_back-joined older.next.verts newer.next.verts older.verts newer.verts now.verts below.verts i;
  edges = led_back-joined older.next.edges newer.next.edges older.edges newer.edges now.edges below.edges i;
  faces = led_back-joined older.next.faces newer.next.faces older.faces newer.faces now.faces below.faces i;
}

pub opposite_turns : OppositeTurns
opposite_turns before now = λ i. record {
  verts = opposite-notes_between same_vert tells_vert before.verts now.verts i;
  edges = opposite-notes_between same_edge tells_edge before.edges now.edges i;
  faces = opposite-notes_between same_face tells_face before.faces now.faces i;
  next = next_of now;
}

pub trim_is_change_set : TrimmedIsChangeSet
trim_is_change_set past now whole = λ i. record {
  verts = trimmed-notes_between same_vert tells_vert past.next.verts past.verts now.verts whole.verts i;
  edges = trimmed-notes_between same_edge tells_edge past.next.edges past.edges now.edges whole.edges i;
  faces = trimmed-notes_between same_face tells_face past.next.faces past.faces now.faces whole.faces i;
  next = record {
    verts = sym (length-led_back past.next.verts past.verts now.verts) i;
    edges = sym (length-led_back past.next.edges past.edges now.edges) i;
    faces = sym (length-led_back past.next.faces past.faces now.faces) i;
  };
}

pub trim_leads : TrimmedLeads
trim_leads past now = λ i. record now {
  verts = led_back-trimmed same_vert tells_vert past.next.verts past.verts now.verts i;
  edges = led_back-trimmed same_edge tells_edge past.next.edges past.edges now.edges i;
  faces = led_back-trimmed same_face tells_face past.next.faces past.faces now.faces i;
}
