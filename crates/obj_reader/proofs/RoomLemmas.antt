-- Lemmas on complexes that have room for a face.
use Rattle.std.proofs.Common.{◌≡◌, ◌+◌, ◌&&◌, true, nat_le, nat_lt, List, length, refl, arith}
use Rattle.std.proofs.lemmas.Bool.{and_parts, leb-true, ltb-true}
use Rattle.mesh_model.specs.Complex.{Complex, corner_sum}
use Rattle.mesh_model.specs.Room.{has_room}
use Rattle.mesh_model.specs.Valid.{IsSound}
use Rattle.mesh_model.proofs.WithPolygons.{few-with_face_told}
use Rattle.mesh_model.specs.declared.draft.DraftCorner.{DraftCorner}
use Rattle.mesh_model.specs.declared.limits.TheConstants.{MAX_EDGES, MAX_FACES, MAX_CORNERS}
use Rattle.obj_reader.specs.Holding.{FaceRoom, IsReady}

-- room whichever edges are there
pub room_now : (c : Complex) (ks : List DraftCorner) → has_room c (length ks) ≡ true → FaceRoom c ks
room_now c ks h =
    let one = and_parts (nat_lt (length c.faces) MAX_FACES)
    (nat_le (length c.edges + length ks) MAX_EDGES && nat_le (corner_sum c.faces + length ks) MAX_CORNERS) h in
    let two = and_parts (nat_le (length c.edges + length ks) MAX_EDGES)
    (nat_le (corner_sum c.faces + length ks) MAX_CORNERS) one.1 in
    record {
      faces = ltb-true (length c.faces) MAX_FACES one.0;
      edges = λ m s. (let few = leb-true (length c.edges + length ks) MAX_EDGES two.0 in omega
          (arith, few-with_face_told c ks m s));
      corners = leb-true (corner_sum c.faces + length ks) MAX_CORNERS two.1;
    }

-- a complex is ready as it is
pub ready_now : (c : Complex) (ks : List DraftCorner) → IsSound c → has_room c (length ks) ≡ true → IsReady c c ks
ready_now c ks sound h = record { room = room_now c ks h; same = λ m s. refl; kept = refl; sound = sound }
