-- Lemmas on lines that set what the faces after them have.
use Rattle.std.proofs.Common.{◌≡◌, ◌<◌, ◌≤◌, ◌+◌, ◌∙◌, ◌==◌, ℕ, ℤ, pos, neg_ℤ, int_le, Bool, false, cond, List, []}
use Rattle.std.proofs.Common.{length, refl, sym, ap, ap₂, arith, Option, Some, None, Ok, IfSome, IsTrue}
use Rattle.std.specs.List.{position}
use Rattle.std.proofs.lemmas.Bool.{and_from}
use Rattle.std.proofs.lemmas.Int.{ints}
use Rattle.std.proofs.lemmas.List.{length_push}
use Rattle.std.proofs.lemmas.List.Quantifiers.{position-Some}
use Rattle.text_words.specs.Outcome.{ok_or}
use Rattle.cust_data.specs.Layers.{same_name}
use Rattle.mesh_model.specs.Complex.{Complex}
use Rattle.mesh_model.specs.Draft.{with_found_name, with_name}
use Rattle.mesh_model.specs.Valid.{is_in_range, is_material, is_smooth, IsSound}
use Rattle.mesh_model.proofs.MixedValues.{le-int_le}
use Rattle.obj_format.specs.declared.obj_fault.ObjWhy.{ObjWhy}
use Rattle.obj_reader.specs.declared.parts.Parts.{Parts}
use Rattle.obj_reader.specs.Holding.{AreParts}
use Rattle.obj_reader.specs.Statements.{with_material, with_library}
use Rattle.obj_reader.proofs.HoldingLemmas.{parts_with_draft}

-- ---- SMOOTHING GROUPS

pub group_smooth : (n : ℕ) → IsTrue (is_smooth (pos n))
group_smooth n = le-int_le (pos 0) (pos n) (omega (arith, ints))

pub group_range : (n : ℕ) → n ≤ 1000000000 → IsTrue (is_in_range (pos n))
group_range n few =
    and_from (int_le (neg_ℤ (pos 1000000000)) (pos n)) (int_le (pos n) (pos 1000000000))
    (le-int_le (neg_ℤ (pos 1000000000)) (pos n) (omega (arith, ints)))
    (le-int_le (pos n) (pos 1000000000) (omega (arith, ints)))

-- a group that was read is small
pub group_few : (v : Option ℕ) (w : ObjWhy) (n : ℕ) → IfSome v (λ k. k ≤ 1000000000) → ok_or v w ≡ Ok n → n ≤ 1000000000
group_few None w n few h = absurd (cc)
group_few (Some k) w n few h = let same : k ≡ n = cc in omega arith

-- ---- NAMES

within_found : (names : List (List ℕ)) (name : List ℕ) (found : Option ℕ) → position (same_name name) names ≡ found
    → (with_found_name names name found).1 < length (with_found_name names name found).0
within_found names name None h = omega (arith, length_push names name)
within_found names name (Some k) h = (position-Some (same_name name) names k [] h).0

-- the name stands among the names
name_within : (names : List (List ℕ)) (name : List ℕ) → (with_name names name).1 < length (with_name names name).0
name_within names name = within_found names name (position (same_name name) names) refl

longer_found : (names : List (List ℕ)) (name : List ℕ) (found : Option ℕ)
    → length (with_found_name names name found).0 ≤ length names + 1
longer_found names name None = omega (arith, length_push names name)
longer_found names name (Some k) = omega arith

number_material : (c : Complex) (k : ℕ) → k < length c.materials → IsTrue (is_material c (pos (k + 1)))
number_material c k here =
    and_from (int_le (pos 0) (pos (k + 1))) (int_le (pos (k + 1)) (pos (length c.materials)))
    (le-int_le (pos 0) (pos (k + 1)) (omega (arith, ints)))
    (le-int_le (pos (k + 1)) (pos (length c.materials)) (omega (arith, ints)))

no_material : (c : Complex) → IsTrue (is_material c (pos 0))
no_material c =
    and_from (int_le (pos 0) (pos 0)) (int_le (pos 0) (pos (length c.materials)))
    (le-int_le (pos 0) (pos 0) (omega (arith, ints))) (le-int_le (pos 0) (pos (length c.materials))
    (omega (arith, ints)))

-- a complex with a material named
abbrev pub named : Complex → List ℕ → Complex
named c name = record c { materials = (with_name c.materials name).0 }

-- the number of the material, from 1
abbrev pub number_named : Complex → List ℕ → ℤ
number_named c name = pos ((with_name c.materials name).1 + 1)

-- a material is named, and set
pub parts_named : (n : ℕ) (s : Parts) (name : List ℕ) (d : Complex) (m : ℤ) → d ≡ named s.draft name
    → m ≡ number_named s.draft name → IsSound d
    → AreParts n s → AreParts (n + 1) (record s { draft = d; material = m })
parts_named n s name d m made number sound h =
    let verts : d.verts ≡ s.draft.verts = ap (λ (x : Complex). x.verts) made in
    let names : d.materials ≡ (with_name s.draft.materials name).0 = ap (λ (x : Complex). x.materials) made in
    record {
      sound = sound;
      live = rw verts h.live;
      textures = h.textures;
      places = h.places;
      normals = omega (arith, h.normals);
      materials = rw names (omega (
        arith,
        longer_found s.draft.materials name
            (position (same_name name) s.draft.materials),
        h.materials,
      ));
      material = rw number (number_material d (with_name s.draft.materials name).1
          (rw names (name_within s.draft.materials name)));
      smooth = h.smooth;
      smooth_in_range = h.smooth_in_range;
    }

-- no material is set
pub parts_cleared : (n : ℕ) (s : Parts) → AreParts n s → AreParts (n + 1) (record s { material = pos 0 })
parts_cleared n s h = record {
  sound = h.sound;
  live = h.live;
  textures = h.textures;
  places = h.places;
  normals = omega (arith, h.normals);
  materials = omega (arith, h.materials);
  material = no_material s.draft;
  smooth = h.smooth;
  smooth_in_range = h.smooth_in_range;
}

-- a library is named
pub parts_library : (n : ℕ) (s : Parts) (names : List (List ℕ)) (d : Complex) → d ≡ record s.draft { libraries = names }
    → IsSound d
    → AreParts n s → AreParts (n + 1) (record s { draft = d })
parts_library n s names d made sound h =
    let verts : d.verts ≡ s.draft.verts = ap (λ (x : Complex). x.verts) made in
    parts_with_draft n s d sound (ap (λ (x : Complex). x.materials) made) (rw verts h.live) h

-- ---- WHAT LINES SAY

pub material_told : (s : Parts) (name : List ℕ) (d : Complex) (m : ℤ) → (length name == 0) ≡ false
    → d ≡ named s.draft name → m ≡ number_named s.draft name
    → with_material name s ≡ record s { draft = d; material = m }
material_told s name d m some made number =
    ap (λ (b : Bool). cond b (let t : Parts = record s { material = pos 0 } in t)
    (let t : Parts = record s { draft = named s.draft name; material = number_named s.draft name } in t)) some
    ∙ ap₂ (λ (x : Complex) (y : ℤ). let t : Parts = record s { draft = x; material = y } in t) (sym made) (sym number)

pub library_told : (s : Parts) (name : List ℕ) (d : Complex) → (length name == 0) ≡ false
    → d ≡ record s.draft { libraries = (with_name s.draft.libraries name).0 }
    → with_library name s ≡ record s { draft = d }
library_told s name d some made =
    ap (λ (b : Bool). cond b s (let t : Parts =
    record s { draft = record s.draft { libraries = (with_name s.draft.libraries name).0 } } in t)) some
    ∙ ap (λ (x : Complex). let t : Parts = record s { draft = x } in t) (sym made)
