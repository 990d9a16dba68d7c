use Rattle.std.proofs.Common.{Option, sym, ◌∙◌, subst}
use Rattle.std.specs.Prelude.{IfSome}
use Rattle.mesh_model.specs.Complex.{Complex}
use Rattle.mesh_records.specs.Places.{CanBecome}
use Rattle.mesh_records.specs.ReadOff.{NameLists}
use Rattle.mesh_core.specs.Seen.{Seen}
use Rattle.mesh_core.proofs.Kept.{kept_becomes}
use Rattle.mesh_core.proofs.mesh.Mesh.back.Goals as goal

pub invariant_of-self : goal.invariant_of-self
invariant_of-self c =
    let lists : NameLists = record { materials = c.self.inside.materials; libraries = c.self.inside.libraries } in
    let B = λ (o : Option Complex). IfSome o (CanBecome c.self.inside.store lists) in
    record { whole = c.self.invariant.whole; back = subst B (sym c.take.ensures.after) tt }

pub refill-requires : goal.refill-requires
refill-requires c =
    kept_becomes c.self.inside.base _ c.self.invariant.back (sym c.take.ensures.value ∙ c.in-Some.is)

pub invariant_of-self-2 : goal.invariant_of-self-2
invariant_of-self-2 c =
    let B = λ (m : Seen). CanBecome m.stored m.lists c.in-Some.base in
    record { whole = c.self-2.invariant.whole; back = subst B (sym c.self-2.view_is) c.refill.ensures.becomes }
