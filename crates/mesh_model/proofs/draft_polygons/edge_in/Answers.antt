use Rattle.mesh_model.proofs.GivenRows.{total-few}
use Rattle.mesh_model.proofs.draft_polygons.edge_in.Goals as goal

pub zero_row-row-requires : goal.zero_row-row-requires
zero_row-row-requires c = rw c.values.ensures (total-few c.args.edges.now.layers c.requires.layers)
