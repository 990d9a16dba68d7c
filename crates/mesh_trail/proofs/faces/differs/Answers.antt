use Rattle.std.proofs.Common.{◌≡◌, ◌+◌, ◌-◌, sym, ◌∙◌, arith}
use Rattle.mesh_trail.proofs.Differences.{face_told, face_differs}
use Rattle.mesh_trail.proofs.faces.differs.Goals as goal

pub returns-then-not-same-clause-result : goal.returns-then-not-same-clause-result
returns-then-not-same-clause-result g c =
    let k = c.in-Some.kept in
    rw (c.in-Some.is) (face_differs (g.S.Shape.complex c.args.now.now) c.args.name c.args.width
    c.args.corners.now.corners c.args.values.now k (λ is.
    absurd (let e = c.same.ensures.result.1 is in let no = c.if-not-same.true in cc)))

pub returns-clause-result : goal.returns-clause-result
returns-clause-result g c =
    let k = c.in-Some.kept in
    let cut : k.row + c.args.width - k.row ≡ c.args.width = omega arith in
    rw (c.in-Some.is) (face_told (g.S.Shape.complex c.args.now.now) c.args.name c.args.width c.args.corners.now.corners
    c.args.values.now k c.same_row.result c.requires.linked c.requires.wide
    (sym c.has-there.ensures ∙ c.if-not-there.false)
    (c.same.ensures.result.0 c.if-not-same.false) (rw cut at c.same_row.ensures))
