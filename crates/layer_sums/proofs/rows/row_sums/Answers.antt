use Rattle.std.proofs.Common.{◌≡◌, ◌∙◌, ◌<◌, ◌≤◌, ℕ, length, ap, sym, subst, arith}
use Rattle.layer_sums.specs.Sums.{names_of, AreWithin}
use Rattle.layer_sums.proofs.Summing.{sums_next, sums_all, sums_long, sums_within}
use Rattle.layer_sums.proofs.rows.row_sums.Goals as goal

pub add_at-requires-clause-room : goal.add_at-requires-clause-room
add_at-requires-clause-room g c =
    let whole = g.S.Shape.complex c.args.shape.now in
    subst (AreWithin 3000000000) (sym c.deref_mut.ensures.value)
    (sums_within whole c.requires c.args.kind c.loop-n.n c.loop-n.sums.items
    (omega (arith, c.loop-n-test.true, c.names_of-n-end.ensures)) c.loop-n.invariant)
