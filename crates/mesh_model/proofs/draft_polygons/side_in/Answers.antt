use Rattle.std.proofs.Common.{◌∙◌, ◌||◌, Bool, List, Option, ap, eqb, refl}
use Rattle.mesh_model.specs.NameSet.{is_in}
use Rattle.mesh_model.specs.declared.names.EdgeName.{EdgeName}
use Rattle.mesh_model.specs.declared.records.EdgeRec.{EdgeRec}
use Rattle.mesh_model.proofs.MadePolygons.{there-edge_in}
use Rattle.mesh_model.proofs.draft_polygons.side_in.Goals as goal

pub mark_used-requires : goal.mark_used-requires
mark_used-requires c =
    let edges = c.args.edges.now in
    let told = c.edge_in-edge.ensures.told in
    rw (
      ap (λ (p : List (Option EdgeRec) × EdgeName). p.0) told,
      ap (λ (p : List (Option EdgeRec) × EdgeName). p.1) told,
    )
    (there-edge_in edges.layers edges.table c.args.corner.now.vert c.args.next)

pub push_corner-requires-clause-wide : goal.push_corner-requires-clause-wide
push_corner-requires-clause-wide c =
    rw (c.as_slice.ensures, c.corner_row-row.ensures.wide, c.corner_values.ensures) refl

pub returns-clause-used : goal.returns-clause-used
returns-clause-used c =
    λ e. c.mark_used.ensures.used e.0
    ∙ ap (λ (b : Bool). b || eqb c.edge_in-edge.result.0 e.0) (c.edge_in-edge.ensures.used e.0)
    ∙ ap (λ (p : List (Option EdgeRec) × EdgeName). is_in c.args.edges.now.used e.0 || eqb p.1.0 e.0)
    c.edge_in-edge.ensures.told
