use Rattle.std.proofs.Common.{ℕ, [], ◌∷◌, None, length, sym, ap, subst, ◌∙◌}
use Rattle.mesh_model.specs.Elements.{no_elements}
use Rattle.mesh_model.specs.Kernel.{with_vert_like}
use Rattle.mesh_model.specs.Valid.{IsSound}
use Rattle.mesh_model.specs.declared.records.Counters.{Counters}
use Rattle.op_slots.specs.declared.slots.Slots.{Slots}
use Rattle.mesh_core.specs.Seen.{now}
use Rattle.mesh_passes.specs.Row.{only}
use Rattle.mesh_passes.proofs.Steps.{done}
use Rattle.op_basic.proofs.MadeVerts.{vert_may, IsSound-made}
use Rattle.op_basic.proofs.making.MakeVertArgsOperator.change.Goals as goal

pub make_vert-requires-clause-limit : goal.make_vert-requires-clause-limit
make_vert-requires-clause-limit c = (vert_may (now c.args.mesh.now) c.args.self.now.at c.requires.may).1

pub returns-clause-outcome : goal.returns-clause-outcome
returns-clause-outcome c =
    let slots : ℕ → Slots = λ n. only (record no_elements { verts = record { 0 = n } ∷ [] }) in
    done (slots (length (now c.args.mesh.now).verts)) c.only.result
    (with_vert_like (now c.args.mesh.now) c.args.self.now.at None) (now c.make_vert.new.self)
    (c.only.ensures ∙ ap only c.in_ok-geom.ensures ∙ ap slots (ap (λ (n : Counters). n.verts) c.counters.ensures.counters))
    c.in_ok-make_vert.ensures.now

pub returns-clause-sound : goal.returns-clause-sound
returns-clause-sound c = subst IsSound (sym c.in_ok-make_vert.ensures.now)
    (IsSound-made (now c.args.mesh.now) c.args.self.now.at c.requires.may c.requires.ready.sound)
