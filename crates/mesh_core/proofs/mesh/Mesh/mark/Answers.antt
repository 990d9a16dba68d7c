use Rattle.std.proofs.Common.{ap, ◌∙◌, sym, subst}
use Rattle.mesh_model.specs.Complex.{Complex}
use Rattle.mesh_records.specs.Places.{CanBecome}
use Rattle.mesh_records.specs.ReadOff.{NameLists}
use Rattle.mesh_records.proofs.Counted.{becomes_own}
use Rattle.mesh_core.specs.Seen.{now}
use Rattle.mesh_core.proofs.mesh.Mesh.mark.Goals as goal

pub invariant_of-self : goal.invariant_of-self
invariant_of-self c =
    let lists : NameLists = record { materials = c.self.inside.materials; libraries = c.self.inside.libraries } in
    let st = c.self.inside.store in
    let B = λ (x : Complex). CanBecome st lists x in
    record {
      whole = c.self.invariant.whole;
      back = subst B (ap now c.self.view_is ∙ sym c.in_ok-copy_of.ensures)
          (becomes_own st c.self.inside.next lists c.self.invariant.whole);
    }
