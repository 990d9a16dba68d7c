use Rattle.std.proofs.Common.{◌≡◌, ◌∙◌, List, Option, take, ap, arith}
use Rattle.std.proofs.lemmas.List.{take_all}
use Rattle.mesh_model.specs.Incidence.{edge_joining}
use Rattle.mesh_model.specs.declared.records.EdgeRec.{EdgeRec}
use Rattle.mesh_model.proofs.edge_index.EdgeIndex.find.Goals as goal

pub returns : goal.returns
returns c =
    let edges = c.args.edges.now.table in
    let whole : take c.args.self.now.known edges ≡ edges =
    take_all c.args.self.now.known edges (omega (arith, c.requires.all)) in
    c.copied.ensures ∙ c.get.ensures.value ∙ rw c.of.ensures (c.requires.knows.least c.args.a c.args.b)
    ∙ ap (λ (t : List (Option EdgeRec)). edge_joining t c.args.a c.args.b) whole
