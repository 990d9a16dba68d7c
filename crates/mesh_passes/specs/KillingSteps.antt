-- The steps of the passes that take loose edges and bare vertices away.
use Rattle.std.specs.Prelude.{if◌then◌else◌}
use Rattle.mesh_model.specs.Complex.{Complex}
use Rattle.mesh_model.specs.Incidence.{is_loose, is_bare}
use Rattle.mesh_model.specs.Kernel.{without_edge, without_vert}
use Rattle.mesh_model.specs.declared.names.VertName.{VertName}
use Rattle.mesh_model.specs.declared.names.EdgeName.{EdgeName}

-- without an edge, if no face has a corner along it
unfoldable pub without_if_loose : Complex → EdgeName → Complex
without_if_loose c e = if is_loose c e then without_edge c e else c

-- without a vertex, if no edge ends there
unfoldable pub without_if_bare : Complex → VertName → Complex
without_if_bare c v = if is_bare c v then without_vert c v else c
