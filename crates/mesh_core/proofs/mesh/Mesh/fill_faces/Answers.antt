use Rattle.std.proofs.Common.{refl, ap, ◌∙◌, arith}
use Rattle.mesh_model.specs.declared.records.Counters.{Counters}
use Rattle.mesh_core.proofs.Loaded.{all_faces}
use Rattle.mesh_core.proofs.mesh.Mesh.fill_faces.Goals as goal

pub loop-f-init : goal.loop-f-init
loop-f-init c = record { so_far = c.requires.so_far; base = refl }

pub fill_face-requires-clause-low : goal.fill_face-requires-clause-low
fill_face-requires-clause-low c =
    let long = ap (λ (n : Counters). n.faces) c.counters-next.ensures.counters in
    omega arith

pub fill_face-requires-clause-so_far : goal.fill_face-requires-clause-so_far
fill_face-requires-clause-so_far c = c.loop-f.invariant.so_far

pub loop-f-preserved : goal.loop-f-preserved
loop-f-preserved c = record {
  so_far = c.fill_face.ensures.so_far;
  base = c.fill_face.ensures.base ∙ c.loop-f.invariant.base;
}

pub returns-clause-now : goal.returns-clause-now
returns-clause-now c =
    let long = ap (λ (n : Counters). n.faces) c.counters-next.ensures.counters in
    c.loop-f.invariant.so_far.now ∙ all_faces c.args.draft.now c.loop-f.f (omega arith)

pub returns-clause-becomes : goal.returns-clause-becomes
returns-clause-becomes c = c.loop-f.invariant.so_far.becomes

pub returns-clause-base : goal.returns-clause-base
returns-clause-base c = c.loop-f.invariant.base
