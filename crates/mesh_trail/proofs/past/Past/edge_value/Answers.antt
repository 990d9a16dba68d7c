use Rattle.std.specs.Prelude.{slice_get}
use Rattle.std.proofs.Common.{w64, rules, FitsSigned}
use Rattle.std.proofs.lemmas.Int.{to_z-of_z}
use Rattle.mesh_trail.specs.Kept.{edge_of}
use Rattle.mesh_trail.proofs.MapNotes.{some-map_notes, mapped-map_notes}
use Rattle.mesh_trail.proofs.past.Past.edge_value.Goals as goal

pub value-requires-clause-there : goal.value-requires-clause-there
value-requires-clause-there c = some-map_notes edge_of c.self.inside.edges.names c.args.e.0
    (rw (← c.self.view_is) at c.requires.there)

pub returns : goal.returns
returns c =
    let fits : FitsSigned w64 c.value.result = search rules in
    rw (← c.self.view_is, to_z-of_z w64 c.value.result fits)
    (mapped-map_notes edge_of (λ r. slice_get r.vals c.args.k) c.self.inside.edges.names c.args.e.0 _
    c.value.ensures)
