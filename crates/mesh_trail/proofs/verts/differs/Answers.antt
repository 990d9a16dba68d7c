use Rattle.std.proofs.Common.{◌≡◌, ◌+◌, ◌-◌, arith}
use Rattle.mesh_trail.proofs.Differences.{vert_told, points_same}
use Rattle.mesh_trail.proofs.verts.differs.Goals as goal

pub returns : goal.returns
returns g c =
    let k = c.in-Some.kept in
    let cut : k.row + c.args.width - k.row ≡ c.args.width = omega arith in
    rw (c.in-Some.is) (vert_told (g.S.Shape.complex c.args.now.now) c.args.name c.args.width c.args.values.now k
    c.point.result c.same_row.result c.requires.linked c.requires.wide c.point.ensures
    (points_same c.point.result k.body c.ne.result c.ne.ensures c.if-ne.false) (rw cut at c.same_row.ensures))
