use Rattle.std.proofs.Common.{List, Option, sym, ap, ◌∙◌, subst}
use Rattle.mesh_model.specs.Table.{IsThere}
use Rattle.mesh_model.specs.Complex.{Complex}
use Rattle.mesh_model.specs.declared.records.VertRec.{VertRec}
use Rattle.mesh_records.specs.Changes.{only_without_vert}
use Rattle.mesh_core.specs.Seen.{now}
use Rattle.mesh_records.proofs.EdgesGone.{no_corner_left}
use Rattle.mesh_core.proofs.mesh.Mesh.kill_vert.Goals as goal

pub remove_vert-requires-clause-there : goal.remove_vert-requires-clause-there
remove_vert-requires-clause-there c = let P =
    λ (ts : List (Option VertRec)). IsThere ts c.args.v.0 in subst P
    (sym (ap (λ (x : Complex). x.verts) c.remove_edges_at.ensures.now)) c.requires.there

pub remove_vert-requires-clause-corners : goal.remove_vert-requires-clause-corners
remove_vert-requires-clause-corners c =
    no_corner_left c.args.v (now c.args.self.now) (now c.remove_edges_at.new.self) c.requires.corners
    (ap (λ (x : Complex). x.faces) c.remove_edges_at.ensures.now)

pub returns-clause-now : goal.returns-clause-now
returns-clause-now c = c.remove_vert.ensures.now
    ∙ ap (λ (x : Complex). only_without_vert x c.args.v) c.remove_edges_at.ensures.now
