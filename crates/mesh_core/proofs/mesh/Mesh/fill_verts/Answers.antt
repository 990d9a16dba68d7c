use Rattle.std.proofs.Common.{refl, ap, ◌∙◌, arith}
use Rattle.mesh_model.specs.declared.records.Counters.{Counters}
use Rattle.mesh_core.proofs.Filled.{verts_done}
use Rattle.mesh_core.proofs.mesh.Mesh.fill_verts.Goals as goal

pub loop-v-init : goal.loop-v-init
loop-v-init c = record { so_far = c.requires.so_far; base = refl }

pub fill_vert-requires-clause-low : goal.fill_vert-requires-clause-low
fill_vert-requires-clause-low c =
    let long = ap (λ (n : Counters). n.verts) c.counters-next.ensures.counters in
    omega arith

pub fill_vert-requires-clause-so_far : goal.fill_vert-requires-clause-so_far
fill_vert-requires-clause-so_far c = c.loop-v.invariant.so_far

pub loop-v-preserved : goal.loop-v-preserved
loop-v-preserved c = record {
  so_far = c.fill_vert.ensures.so_far;
  base = c.fill_vert.ensures.base ∙ c.loop-v.invariant.base;
}

pub returns-clause-so_far : goal.returns-clause-so_far
returns-clause-so_far c =
    let long = ap (λ (n : Counters). n.verts) c.counters-next.ensures.counters in
    verts_done c.loop-v.self c.args.draft.now c.loop-v.v (omega arith) c.loop-v.invariant.so_far

pub returns-clause-base : goal.returns-clause-base
returns-clause-base c = c.loop-v.invariant.base
