use Rattle.std.proofs.Common.{refl, ap, ◌∙◌, arith}
use Rattle.mesh_model.specs.declared.records.Counters.{Counters}
use Rattle.mesh_core.proofs.Filled.{edges_done}
use Rattle.mesh_core.proofs.mesh.Mesh.fill_edges.Goals as goal

pub loop-e-init : goal.loop-e-init
loop-e-init c = record { so_far = c.requires.so_far; base = refl }

pub fill_edge-requires-clause-low : goal.fill_edge-requires-clause-low
fill_edge-requires-clause-low c =
    let long = ap (λ (n : Counters). n.edges) c.counters-next.ensures.counters in
    omega arith

pub fill_edge-requires-clause-so_far : goal.fill_edge-requires-clause-so_far
fill_edge-requires-clause-so_far c = c.loop-e.invariant.so_far

pub loop-e-preserved : goal.loop-e-preserved
loop-e-preserved c = record {
  so_far = c.fill_edge.ensures.so_far;
  base = c.fill_edge.ensures.base ∙ c.loop-e.invariant.base;
}

pub returns-clause-so_far : goal.returns-clause-so_far
returns-clause-so_far c =
    let long = ap (λ (n : Counters). n.edges) c.counters-next.ensures.counters in
    edges_done c.loop-e.self c.args.draft.now c.loop-e.e (omega arith) c.loop-e.invariant.so_far

pub returns-clause-base : goal.returns-clause-base
returns-clause-base c = c.loop-e.invariant.base
