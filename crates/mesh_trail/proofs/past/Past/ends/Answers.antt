use Rattle.std.proofs.Common.{[], ◌∷◌, sym, ◌∙◌}
use Rattle.mesh_trail.specs.Noted.{noted}
use Rattle.mesh_trail.specs.Kept.{edge_of}
use Rattle.mesh_trail.specs.declared.edges.Ends.{Ends}
use Rattle.mesh_trail.proofs.MapNotes.{mapped-map_notes, mapped_as, some-map_notes, mapped_none}
use Rattle.mesh_trail.proofs.past.Past.ends.Goals as goal

pub returns-in-Some : goal.returns-in-Some
returns-in-Some c =
    rw (← c.self.view_is) (mapped-map_notes edge_of (λ r. r.a ∷ r.b ∷ []) c.self.inside.edges.names c.args.e.0 _
    (mapped_as (λ r. r.0) (λ (x : Ends). x.a ∷ x.b ∷ []) (noted c.self.inside.edges.names c.args.e.0) c.in-Some.ends
    (sym c.body.ensures ∙ c.in-Some.is)))

pub returns-in-None : goal.returns-in-None
returns-in-None c = mapped_none (λ r. r.0) (noted c.self.inside.edges.names c.args.e.0)
    (sym c.body.ensures ∙ c.in-None.is) (some-map_notes edge_of c.self.inside.edges.names c.args.e.0
    (rw (← c.self.view_is) at c.requires))
