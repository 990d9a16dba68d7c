use Rattle.std.proofs.Common.{◌≡◌, ◌<◌, length, sym, arith}
use Rattle.std.proofs.lemmas.Bool.Decides.{nat_tests}
use Rattle.mesh_model.specs.declared.limits.TheConstants.{MAX_EDGES}
use Rattle.mesh_model.proofs.Drafts.{few-edge_between}
use Rattle.mesh_model.proofs.draft.Draft.has_edge_room.Goals as goal

pub returns-clause-edge : goal.returns-clause-edge
returns-clause-edge c fits a b =
    let long : length c.args.self.now.edges ≡ c.len.result = rw (← c.self.view_is) (sym c.len.ensures.len) in
    let less : c.len.result < MAX_EDGES = grind (arith, nat_tests) in
    omega (arith, few-edge_between c.args.self.now a b)
