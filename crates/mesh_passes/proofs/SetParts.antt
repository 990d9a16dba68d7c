-- The three passes that take a set away.
use Rattle.std.proofs.Common.{◌≡◌, true, ◌&&◌, List, sym, subst, All}
use Rattle.std.proofs.lemmas.Bool.{and_parts, and_from}
use Rattle.mesh_model.specs.Table.{IsThere}
use Rattle.mesh_model.specs.Complex.{Complex}
use Rattle.mesh_model.specs.Elements.{Elements}
use Rattle.mesh_model.specs.Naming.{is_rising, are_rising, vert_numbers, edge_numbers, face_numbers}
use Rattle.mesh_model.specs.declared.names.VertName.{VertName}
use Rattle.mesh_model.specs.declared.names.EdgeName.{EdgeName}
use Rattle.mesh_model.specs.declared.names.FaceName.{FaceName}
use Rattle.mesh_passes.specs.Killing.{without_faces, without_loose}

-- the names of each kind rise
pub rising_verts : (x : Elements) → are_rising x ≡ true → is_rising (vert_numbers x.verts) ≡ true
rising_verts x h = (and_parts (is_rising (vert_numbers x.verts)) (is_rising (edge_numbers x.edges)
    && is_rising (face_numbers x.faces)) h).0

pub rising_edges : (x : Elements) → are_rising x ≡ true → is_rising (edge_numbers x.edges) ≡ true
rising_edges x h = (and_parts (is_rising (edge_numbers x.edges)) (is_rising (face_numbers x.faces))
    (and_parts (is_rising (vert_numbers x.verts)) (is_rising (edge_numbers x.edges)
    && is_rising (face_numbers x.faces)) h).1).0

pub rising_faces : (x : Elements) → are_rising x ≡ true → is_rising (face_numbers x.faces) ≡ true
rising_faces x h = (and_parts (is_rising (edge_numbers x.edges)) (is_rising (face_numbers x.faces))
    (and_parts (is_rising (vert_numbers x.verts)) (is_rising (edge_numbers x.edges)
    && is_rising (face_numbers x.faces)) h).1).1

pub rising_all : (vs : List VertName) (es : List EdgeName) (fs : List FaceName) → is_rising (vert_numbers vs) ≡ true
    → is_rising (edge_numbers es) ≡ true → is_rising (face_numbers fs) ≡ true
    → are_rising (record { verts = vs; edges = es; faces = fs }) ≡ true
rising_all vs es fs verts edges faces =
    and_from (is_rising (vert_numbers vs)) (is_rising (edge_numbers es) && is_rising (face_numbers fs)) verts
    (and_from (is_rising (edge_numbers es)) (is_rising (face_numbers fs)) edges faces)

-- edges stay where faces go
pub edges_without_faces : (c m : Complex) (fs : List FaceName) (es : List EdgeName) → m ≡ without_faces c fs
    → All (λ (e : EdgeName). IsThere c.edges e.0) es → All (λ (e : EdgeName). IsThere m.edges e.0) es
unfolding without_faces
edges_without_faces c m fs es is live =
    subst (λ (x : Complex). All (λ (e : EdgeName). IsThere x.edges e.0) es) (sym is) live

-- vertices stay where faces and edges go
pub verts_without_faces : (c m : Complex) (fs : List FaceName) (vs : List VertName) → m ≡ without_faces c fs
    → All (λ (v : VertName). IsThere c.verts v.0) vs → All (λ (v : VertName). IsThere m.verts v.0) vs
unfolding without_faces
verts_without_faces c m fs vs is live =
    subst (λ (x : Complex). All (λ (v : VertName). IsThere x.verts v.0) vs) (sym is) live

pub verts_without_loose : (c m : Complex) (es : List EdgeName) (vs : List VertName) → m ≡ without_loose c es
    → All (λ (v : VertName). IsThere c.verts v.0) vs → All (λ (v : VertName). IsThere m.verts v.0) vs
unfolding without_loose
verts_without_loose c m es vs is live =
    subst (λ (x : Complex). All (λ (v : VertName). IsThere x.verts v.0) vs) (sym is) live
