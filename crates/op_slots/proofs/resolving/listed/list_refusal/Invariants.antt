use Rattle.std.proofs.Common.{◌≡◌, drop, map}
use Rattle.mesh_model.specs.Refusals.{first_of, unless_there}
use Rattle.mesh_model.specs.declared.names.Elem.TheVariants.{Vert}
use Rattle.mesh_model.specs.declared.names.VertName.{VertName}
use Rattle.op_slots.proofs.resolving.listed.list_refusal.Given as goal

-- the vertices that are left have the first refusal
abbrev pub invariant-loop-name : goal.invariant-loop-name
invariant-loop-name g l =
    let refusal = λ (v : VertName). unless_there (g.S.Shape.complex l.shape) (Vert v) in
    first_of (map refusal (drop l.name-index l.names)) ≡ first_of (map refusal l.names)
