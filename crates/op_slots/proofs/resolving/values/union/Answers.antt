use Rattle.std.proofs.Common.{refl}
use Rattle.op_slots.proofs.Choosing.{rising_union}
use Rattle.op_slots.proofs.resolving.values.union.Goals as goal

pub of-requires : goal.of-requires
of-requires g c =
    rw (
      c.from.ensures,
      c.from-2.ensures,
      c.from-3.ensures,
      c.in_ok-verts-2.ensures,
      c.in_ok-edges-2.ensures,
      c.in_ok-faces-2.ensures,
      c.deref.ensures.value,
      c.deref-2.ensures.value,
      c.deref-3.ensures.value,
      c.in_ok-verts.ensures,
      c.in_ok-edges.ensures,
      c.in_ok-faces.ensures,
    )
    (rising_union (g.S.Shape.complex c.args.shape.now) c.args.bindings.now.bound c.args.want c.args.terms.now)

pub returns : goal.returns
returns g c =
    rw (
      c.of.ensures,
      c.from.ensures,
      c.from-2.ensures,
      c.from-3.ensures,
      c.in_ok-verts-2.ensures,
      c.in_ok-edges-2.ensures,
      c.in_ok-faces-2.ensures,
      c.deref.ensures.value,
      c.deref-2.ensures.value,
      c.deref-3.ensures.value,
      c.in_ok-verts.ensures,
      c.in_ok-edges.ensures,
      c.in_ok-faces.ensures,
    ) refl
