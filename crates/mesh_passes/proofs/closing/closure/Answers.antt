use Rattle.std.proofs.Common.{◌∙◌, refl}
use Rattle.mesh_model.proofs.Closures.{rising-closure, live-closure}
use Rattle.mesh_core.specs.Seen.{now}
use Rattle.mesh_passes.proofs.closing.closure.Goals as goal

pub verts_of-requires-clause-edges : goal.verts_of-requires-clause-edges
verts_of-requires-clause-edges c = c.deref.ensures.value ∙ c.in_ok-edges.ensures

pub of-requires : goal.of-requires
of-requires c =
    rw (
      c.from.ensures,
      c.from-2.ensures,
      c.from-3.ensures,
      c.in_ok-verts.ensures,
      c.in_ok-edges.ensures,
      c.in_ok-faces.ensures,
    ) (rising-closure (now c.args.mesh.now) c.args.set.now)

pub returns-clause-closure : goal.returns-clause-closure
returns-clause-closure c =
    rw (
      c.of.ensures,
      c.from.ensures,
      c.from-2.ensures,
      c.from-3.ensures,
      c.in_ok-verts.ensures,
      c.in_ok-edges.ensures,
      c.in_ok-faces.ensures,
    ) refl

pub returns-clause-live : goal.returns-clause-live
returns-clause-live c =
    rw (
      c.of.ensures,
      c.from.ensures,
      c.from-2.ensures,
      c.from-3.ensures,
      c.in_ok-verts.ensures,
      c.in_ok-edges.ensures,
      c.in_ok-faces.ensures,
    ) (live-closure (now c.args.mesh.now) c.args.set.now c.counters.ensures.linked c.requires)
