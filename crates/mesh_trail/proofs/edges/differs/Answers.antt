use Rattle.std.proofs.Common.{◌≡◌, ◌+◌, ◌-◌, ◌≤◌, length, drop, sym, ◌∙◌, arith, length-take, length-drop}
use Rattle.std.proofs.lemmas.Option.{MatchOption-at_some}
use Rattle.mesh_trail.specs.declared.edges.Ends.{Ends}
use Rattle.mesh_trail.specs.declared.table.Kept.{Kept}
use Rattle.mesh_trail.proofs.Differences.{edge_told, names_same}
use Rattle.mesh_trail.proofs.Elements.{edge_row_wide}
use Rattle.mesh_trail.proofs.edges.differs.Goals as goal

pub same_row-requires : goal.same_row-requires
same_row-requires g c =
    let k = c.in-Some.kept in
    let within : k.row + c.args.width ≤ length c.args.values.now =
    MatchOption-at_some _ (λ (x : Kept Ends). x.row + c.args.width ≤ length c.args.values.now) k c.in-Some.is
    c.requires.within in
    let long = length-take (k.row + c.args.width - k.row) (drop k.row c.args.values.now) in
    let rest = length-drop k.row c.args.values.now in
    let wide = edge_row_wide (g.S.Shape.complex c.args.now.now) c.args.name c.requires.linked
    (sym c.has-there.ensures ∙ c.if-not-there.false) in
    omega (arith, long, rest, wide, c.requires.wide)

pub returns : goal.returns
returns g c =
    let k = c.in-Some.kept in
    let cut : k.row + c.args.width - k.row ≡ c.args.width = omega arith in
    let same : ◌≡◌ {A = Ends} c.ends_of-ends.result k.body = (λ i. record {
      a = names_same c.ends_of-ends.result.a k.body.a c.ne.result c.ne.ensures c.if-ne.false i;
      b = names_same c.ends_of-ends.result.b k.body.b c.ne-else-ne.result c.ne-else-ne.ensures c.if-ne-2.false i;
    }) in
    rw (c.in-Some.is) (edge_told (g.S.Shape.complex c.args.now.now) c.args.name c.args.width c.args.values.now k
    c.ends_of-ends.result c.same_row.result c.requires.linked c.requires.wide c.ends_of-ends.ensures
    same (rw cut at c.same_row.ensures))
