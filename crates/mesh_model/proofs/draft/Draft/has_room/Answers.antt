use Rattle.std.proofs.Common.{◌≡◌, length, sym, arith}
use Rattle.mesh_model.proofs.WithPolygons.{few-with_face_told}
use Rattle.mesh_model.proofs.draft.Draft.has_room.Goals as goal

pub returns-then-len-lt-MAX_FACES-clause-edges : goal.returns-then-len-lt-MAX_FACES-clause-edges
returns-then-len-lt-MAX_FACES-clause-edges c fits ks material smooth few =
    let long : length c.args.self.now.edges ≡ c.len-edges.result =
    rw (← c.self.view_is) (sym c.len-edges.ensures.len) in
    omega (arith, few-with_face_told c.args.self.now ks material smooth)
