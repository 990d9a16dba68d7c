-- Whole texts, written by hand.
use Rattle.std.specs.Prelude.{◌≡◌, ℕ, ℤ, pos, true, false, List, [], ◌∷◌, ◌++◌, codes, Option, Some, None, Result, Ok}
use Rattle.text_words.specs.Outcome.{◌>>=◌}
use Rattle.mesh_model.specs.Deleting.{without_verts}
use Rattle.mesh_model.specs.Models.{vert, square}
use Rattle.mesh_model.specs.declared.records.Point.{Point}
use Rattle.obj_format.specs.declared.obj_fault.ObjRefusal.{ObjRefusal}
use Rattle.obj_format.specs.declared.texture.Uv.{Uv}
use Rattle.obj_text.specs.Returned.{Shown, points, faces_shown, has_edge}
use Rattle.obj_reader.specs.Obj.{read_text}
use Rattle.obj_writer.specs.Whole.{text}

-- what is written of the complex that a text makes
abbrev pub written_again : ℕ → List ℕ → Result (List ℕ) ObjRefusal
written_again scale given = read_text scale given >>= (λ c. Ok (text scale c))

-- a library, a loose edge, two materials, a smoothing group that ends, places that two faces share
abbrev pub sample : List ℕ
sample =
    codes "mtllib a.mtl\nv 0 0 0\nv 4 0 0\nv 4 4 0\nv 0 4 0\nvt 0.250000 0.500000\nvt 0.000000 0.000000\nl 2 4\n"
    ++ (codes "usemtl red\ns 3\nf 1/1 2/2 3/2\n"
    ++ (codes "usemtl blue\ns 0\nf 1/2 3/1 4/2\n" ++ codes "usemtl\nf 1/2 2/2 3/2 4/1\n"))

-- a text in the form that is written comes back as it was
abbrev pub SampleWritten : Type 0
SampleWritten = written_again 0 sample ≡ Ok sample

-- no place is written where all corners lie at 0 0; places that no corner has, and a second place with the same
-- numbers, are dropped
abbrev pub PlacesWritten : Type 0
PlacesWritten =
    (written_again 0 (codes "v 0 0 0\nv 4 0 0\nv 4 4 0\nvt 0\nvt 1\nf 1/1 2/1 3/1")
    ≡ Ok (codes "v 0 0 0\nv 4 0 0\nv 4 4 0\nf 1 2 3\n"))
    × (written_again 1 (codes "v 0 0 0\nv 4 0 0\nv 4 4 0.5\nvt 0\nvt 1\nvt 1 0\nf 1/2 2/3 3")
    ≡ Ok (codes "v 0.0 0.0 0.0\nv 4.0 0.0 0.0\nv 4.0 4.0 0.5\n"
    ++ codes "vt 1.000000 0.000000\nvt 0.000000 0.000000\nf 1/1 2/1 3/2\n"))

-- ---- A CUBE, with the usual kinds of lines

-- its points
abbrev pub cube_points : List ℕ
cube_points =
    codes "v 1.000000 1.000000 -1.000000\nv 1.000000 -1.000000 -1.000000\nv 1.000000 1.000000 1.000000\n"
    ++ (codes "v 1.000000 -1.000000 1.000000\nv -1.000000 1.000000 -1.000000\nv -1.000000 -1.000000 -1.000000\n"
    ++ codes "v -1.000000 1.000000 1.000000\nv -1.000000 -1.000000 1.000000\n")

-- its normals, which are only counted
abbrev pub cube_normals : List ℕ
cube_normals = let n = codes "vn 0.0000 1.0000 0.0000\n" in n ++ (n ++ (n ++ (n ++ (n ++ n))))

-- its places in the texture
abbrev pub cube_places : List ℕ
cube_places =
    codes "vt 0.625000 0.500000\nvt 0.875000 0.500000\nvt 0.875000 0.750000\nvt 0.625000 0.750000\n"
    ++ (codes "vt 0.375000 0.750000\nvt 0.625000 1.000000\nvt 0.375000 1.000000\nvt 0.375000 0.000000\n"
    ++ (codes "vt 0.625000 0.000000\nvt 0.625000 0.250000\nvt 0.375000 0.250000\nvt 0.125000 0.500000\n"
    ++ codes "vt 0.375000 0.500000\nvt 0.125000 0.750000\n"))

-- the cube as it is given
abbrev pub cube_given : List ℕ
cube_given =
    codes "# cube\nmtllib cube.mtl\no Cube\n" ++ (cube_points ++ (cube_normals ++ (cube_places
    ++ (codes "s 0\nusemtl Material\nf 1/1/1 5/2/1 7/3/1 3/4/1\nf 4/5/2 3/4/2 7/6/2 8/7/2\n"
    ++ (codes "f 8/8/3 7/9/3 5/10/3 6/11/3\nf 6/12/4 2/13/4 4/5/4 8/14/4\n"
    ++ codes "f 2/13/5 1/1/5 3/4/5 4/5/5\nf 6/11/6 5/10/6 1/1/6 2/13/6\n")))))

-- and as it is written
abbrev pub cube_written : List ℕ
cube_written =
    codes "mtllib cube.mtl\n" ++ (cube_points ++ (cube_places
    ++ (codes "usemtl Material\nf 1/1 5/2 7/3 3/4\nf 4/5 3/4 7/6 8/7\n"
    ++ (codes "f 8/8 7/9 5/10 6/11\nf 6/12 2/13 4/5 8/14\n"
    ++ codes "f 2/13 1/1 3/4 4/5\nf 6/11 5/10 1/1 2/13\n"))))

-- the cube loses its comment, its object, its normals and a smoothing group that was there from the beginning
abbrev pub CubeWritten : Type 0
CubeWritten = written_again 6 cube_given ≡ Ok cube_written

-- ---- WHAT A TEXT KEEPS

-- a point
abbrev pub at : ℕ → ℕ → ℕ → Point
at x y z = record { x = pos x; y = pos y; z = pos z }

-- the square without its first vertex: three points, of which the first and the last aren't joined
abbrev pub CutSquareShown : Type 0
CutSquareShown =
    let cut = without_verts square (vert 0 ∷ []) in
    (points cut ≡ at 4 0 0 ∷ at 4 4 0 ∷ at 0 4 0 ∷ [])
    × (has_edge cut 0 1 ≡ true) × (has_edge cut 2 1 ≡ true) × (has_edge cut 0 2 ≡ false) × (has_edge cut 0 3 ≡ false)

-- a face: the corners at ranks, each at one of the two places, its material and its smoothing group
abbrev pub shown : List (ℕ × Uv) → Option (List ℕ) → ℤ → Shown
shown corners material smooth = record { corners = corners; material = material; smooth = smooth }

-- the faces of the sample
abbrev pub SampleShown : Type 0
SampleShown =
    let p : Uv = record { u = pos 250000; v = pos 500000 } in
    let q : Uv = record { u = pos 0; v = pos 0 } in
    (read_text 0 sample >>= (λ c. Ok (faces_shown c)))
    ≡ Ok (shown ((0, p) ∷ (1, q) ∷ (2, q) ∷ []) (Some (codes "red")) (pos 3)
    ∷ shown ((0, q) ∷ (2, p) ∷ (3, q) ∷ []) (Some (codes "blue")) (pos 0)
    ∷ shown ((0, q) ∷ (1, q) ∷ (2, q) ∷ (3, p) ∷ []) None (pos 0) ∷ [])
