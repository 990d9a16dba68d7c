-- What stands after some lines of a written text.
use Rattle.std.proofs.Common.{◌≡◌, ◌+◌, ◌∙◌, ℕ, zero, suc, ℤ, pos, List, [], ◌∷◌, ◌++◌, length, map, refl, sym, ap}
use Rattle.std.proofs.Common.{arith, Option, Some, None, slice_get}
use Rattle.std.proofs.lemmas.List.{length-map}
use Rattle.std.proofs.lemmas.List.Sums.{sum_by-cons}
use Rattle.mesh_model.specs.Complex.{Complex, fixed_layers, corner_sum, corners_of}
use Rattle.mesh_model.specs.Incidence.{edge_joining}
use Rattle.mesh_model.specs.declared.names.VertName.{VertName}
use Rattle.mesh_model.specs.declared.names.EdgeName.{EdgeName}
use Rattle.mesh_model.specs.declared.records.EdgeRec.{EdgeRec}
use Rattle.mesh_model.specs.declared.records.CornerRec.{CornerRec}
use Rattle.mesh_model.specs.declared.records.FaceRec.{FaceRec}
use Rattle.obj_format.specs.declared.texture.Uv.{Uv}
use Rattle.obj_reader.specs.declared.parts.Parts.{Parts}
use Rattle.obj_writer.specs.Whole.{place_in, numbers_of}
use Rattle.obj_text.specs.Returned.{corner_shown, material_name}
use Rattle.obj_text.proofs.PointRounds.{verts_read}
use Rattle.obj_text.proofs.RunLemmas.{Runs, runs_none, runs_then}
use Rattle.obj_text.proofs.EdgeTraces.{Side, Traces}

-- ---- STATES

-- edges and faces so far, the materials named, what the next face has, and the names of the edges that were written
pub record Now : Type 0 where
  pub edges : List (Option EdgeRec)
  pub faces : List (Option FaceRec)
  pub materials : List (List ℕ)
  pub material : ℤ
  pub smooth : ℤ
  pub names : List ℕ

-- the same with the vertices and places of a complex
abbrev pub parts : Complex → List Uv → Now → Parts
parts c uvs w = record {
  draft =
      record {
        verts = verts_read c.verts;
        edges = w.edges;
        faces = w.faces;
        layers = fixed_layers;
        materials = w.materials;
        libraries = c.libraries;
      };
  textures = uvs;
  normals = 0;
  material = w.material;
  smooth = w.smooth;
}

-- ---- MATERIALS

-- a number is that of a name, or 0 where there is none
abbrev pub IsNamed : List (List ℕ) → ℤ → Option (List ℕ) → Type 0
IsNamed names m None = m ≡ pos 0
IsNamed names m (Some name) = (k : ℕ) × (m ≡ pos (suc k)) × (slice_get names k ≡ Some name)

pub named_is : (names : List (List ℕ)) (m : ℤ) (o : Option (List ℕ)) → IsNamed names m o → material_name names m ≡ o
named_is names m None h = ap (material_name names) h
named_is names m (Some name) h = ap (material_name names) h.1 ∙ h.2

get_more : (xs ys : List (List ℕ)) (k : ℕ) (x : List ℕ) → slice_get xs k ≡ Some x → slice_get (xs ++ ys) k ≡ Some x
get_more [] ys k x h = absurd (cc)
get_more (y ∷ xs) ys zero x h = h
get_more (y ∷ xs) ys (suc k) x h = get_more xs ys k x h

pub named_more : (names more : List (List ℕ)) (m : ℤ) (o : Option (List ℕ)) → IsNamed names m o
    → IsNamed (names ++ more) m o
named_more names more m None h = h
named_more names more m (Some name) h = (h.0, h.1, get_more names more h.0 name h.2)

-- ---- FACES

-- a corner as it was read
abbrev pub corner_read : CornerRec → ℕ × Uv
corner_read k = (k.vert.0, place_in 0 k.vals)

-- a face was read as it was written
pub record IsRead (c : Complex) (names : List (List ℕ)) (g f : FaceRec) : Type 0 where
  pub number : ℤ
  pub vals : g.vals ≡ number ∷ (numbers_of c f).1 ∷ []
  pub named : IsNamed names number (material_name c.materials (numbers_of c f).0)
  pub corners : map corner_read g.corners ≡ map (corner_shown c) f.corners

-- faces were read as they were written
abbrev pub AreRead : Complex → List (List ℕ) → List (Option FaceRec) → List FaceRec → Type 0
AreRead c names [] [] = Unit {0}
AreRead c names [] (f ∷ fs) = ⊥
AreRead c names (o ∷ os) [] = ⊥
AreRead c names (None ∷ os) (f ∷ fs) = ⊥
AreRead c names (Some g ∷ os) (f ∷ fs) = IsRead c names g f × AreRead c names os fs

pub read_more : (c : Complex) (names more : List (List ℕ)) (os : List (Option FaceRec)) (fs : List FaceRec)
    → AreRead c names os fs → AreRead c (names ++ more) os fs
read_more c names more [] [] h = tt
read_more c names more [] (f ∷ fs) h = absurd h
read_more c names more (o ∷ os) [] h = absurd (none o os h)
  where
    none : (o : Option FaceRec) (os : List (Option FaceRec)) → AreRead c names (o ∷ os) [] → ⊥
    none None os h = h
    none (Some g) os h = h
read_more c names more (None ∷ os) (f ∷ fs) h = absurd h
read_more c names more (Some g ∷ os) (f ∷ fs) h = (
  record {
    number = h.0.number;
    vals = h.0.vals;
    named = named_more names more h.0.number (material_name c.materials (numbers_of c f).0) h.0.named;
    corners = h.0.corners;
  },
  read_more c names more os fs h.1,
)

pub read_push : (c : Complex) (names : List (List ℕ)) (os : List (Option FaceRec)) (fs : List FaceRec) (g f : FaceRec)
    → AreRead c names os fs → IsRead c names g f → AreRead c names (os ++ Some g ∷ []) (fs ++ f ∷ [])
read_push c names [] [] g f h one = (one, tt)
read_push c names [] (e ∷ fs) g f h one = absurd h
read_push c names (None ∷ os) [] g f h one = absurd h
read_push c names (Some d ∷ os) [] g f h one = absurd h
read_push c names (None ∷ os) (e ∷ fs) g f h one = absurd h
read_push c names (Some d ∷ os) (e ∷ fs) g f h one = (h.0, read_push c names os fs g f h.1 one)

-- the corners of faces
abbrev pub corner_total : List FaceRec → ℕ
corner_total [] = 0
corner_total (f ∷ fs) = length f.corners + corner_total fs

pub total_push : (fs : List FaceRec) (f : FaceRec) → corner_total (fs ++ f ∷ []) ≡ corner_total fs + length f.corners
total_push [] f = omega arith
total_push (e ∷ fs) f = omega (arith, total_push fs f)

read_corners : (c : Complex) (names : List (List ℕ)) (g f : FaceRec) → IsRead c names g f
    → length g.corners ≡ length f.corners
read_corners c names g f h =
    sym (length-map g.corners corner_read) ∙ ap (λ (xs : List (ℕ × Uv)). length xs) h.corners
    ∙ length-map f.corners (corner_shown c)

pub read_length : (c : Complex) (names : List (List ℕ)) (os : List (Option FaceRec)) (fs : List FaceRec)
    → AreRead c names os fs → length os ≡ length fs
read_length c names [] [] h = refl
read_length c names [] (e ∷ fs) h = absurd h
read_length c names (None ∷ os) [] h = absurd h
read_length c names (Some d ∷ os) [] h = absurd h
read_length c names (None ∷ os) (e ∷ fs) h = absurd h
read_length c names (Some d ∷ os) (e ∷ fs) h = ap suc (read_length c names os fs h.1)

pub read_total : (c : Complex) (names : List (List ℕ)) (os : List (Option FaceRec)) (fs : List FaceRec)
    → AreRead c names os fs → corner_sum os ≡ corner_total fs
read_total c names [] [] h = refl
read_total c names [] (e ∷ fs) h = absurd h
read_total c names (None ∷ os) [] h = absurd h
read_total c names (Some d ∷ os) [] h = absurd h
read_total c names (None ∷ os) (e ∷ fs) h = absurd h
read_total c names (Some d ∷ os) (e ∷ fs) h =
    omega (arith, sum_cons d os, read_corners c names d e h.0, read_total c names os fs h.1)
  where
    sum_cons : (d : FaceRec) (os : List (Option FaceRec)) → corner_sum (Some d ∷ os) ≡ length d.corners + corner_sum os
    sum_cons d os = sum_by-cons (λ (o : Option FaceRec). length (corners_of o)) (Some d) os

-- ---- WHAT STANDS

-- after these faces, the last of which has these numbers
pub record Stands (c : Complex) (fs : List FaceRec) (before : ℤ × ℤ) (w : Now) : Type 0 where
  pub traces : Traces c w.edges w.names
  pub faces : AreRead c w.materials w.faces fs
  pub material : IsNamed w.materials w.material (material_name c.materials before.0)
  pub smooth : w.smooth ≡ before.1

-- an edge joins two vertices
abbrev pub Covers : List (Option EdgeRec) → VertName → VertName → Type 0
Covers edges v w = (e : EdgeName) × (edge_joining edges v w ≡ Some e)

abbrev pub AllCovered : List (Option EdgeRec) → List Side → Type 0
AllCovered edges [] = Unit {0}
AllCovered edges (s ∷ ss) = Covers edges s.0 s.1 × AllCovered edges ss

-- a text leads on: what stands then, and that an edge joins each of these sides
pub record Goes (scale : ℕ) (c : Complex) (uvs : List Uv) (t : List ℕ) (w : Now) (fs : List FaceRec) (before : ℤ × ℤ)
    (sides : List Side) : Type 0 where
  pub next : Now
  pub runs : Runs scale t (parts c uvs w) (parts c uvs next)
  pub stands : Stands c fs before next
  pub keeps : (x y : VertName) → Covers w.edges x y → Covers next.edges x y
  pub covers : AllCovered next.edges sides

pub goes_none : (scale : ℕ) (c : Complex) (uvs : List Uv) (w : Now) (fs : List FaceRec) (before : ℤ × ℤ)
    → Stands c fs before w → Goes scale c uvs [] w fs before []
goes_none scale c uvs w fs before h = record {
  next = w;
  runs = runs_none scale (parts c uvs w);
  stands = h;
  keeps = λ x y covered. covered;
  covers = tt;
}

kept_all : (old new : List (Option EdgeRec)) (ss : List Side)
    → ((x y : VertName) → Covers old x y → Covers new x y) → AllCovered old ss → AllCovered new ss
kept_all old new [] keeps h = tt
kept_all old new (s ∷ ss) keeps h = (keeps s.0 s.1 h.0, kept_all old new ss keeps h.1)

covered_append : (edges : List (Option EdgeRec)) (ss ts : List Side) → AllCovered edges ss → AllCovered edges ts
    → AllCovered edges (ss ++ ts)
covered_append edges [] ts one two = two
covered_append edges (s ∷ ss) ts one two = (one.0, covered_append edges ss ts one.1 two)

pub goes_then : (scale : ℕ) (c : Complex) (uvs : List Uv) (t u : List ℕ) (w : Now) (fs gs : List FaceRec) (a b : ℤ × ℤ)
    (ss ts : List Side) (one : Goes scale c uvs t w fs a ss)
    → Goes scale c uvs u one.next gs b ts → Goes scale c uvs (t ++ u) w gs b (ss ++ ts)
goes_then scale c uvs t u w fs gs a b ss ts one two = record {
  next = two.next;
  runs = runs_then scale t u (parts c uvs w) (parts c uvs one.next) (parts c uvs two.next) one.runs two.runs;
  stands = two.stands;
  keeps = λ x y covered. two.keeps x y (one.keeps x y covered);
  covers = covered_append two.next.edges ss ts (kept_all one.next.edges two.next.edges ss two.keeps one.covers)
      two.covers;
}
