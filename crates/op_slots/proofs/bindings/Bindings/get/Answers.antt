use Rattle.std.proofs.Common.{◌∙◌, ap, sym}
use Rattle.std.specs.Option.{option_map}
use Rattle.op_slots.specs.Bindings.{has_name}
use Rattle.op_slots.specs.declared.bindings.Binding.{Binding}
use Rattle.op_slots.proofs.Naming.{found_at, found_nowhere}
use Rattle.op_slots.proofs.bindings.Bindings.get.Goals as goal

pub returns-in-Some : goal.returns-in-Some
returns-in-Some c =
    sym (ap (option_map (λ (b : Binding). b.slots)) (found_at (has_name c.args.name.now) c.args.self.now.bound
    c.in-Some.k (sym c.in-Some.ensures.place) ∙ c.at.ensures))

pub returns-in-None : goal.returns-in-None
returns-in-None c = sym (ap (option_map (λ (b : Binding). b.slots))
    (found_nowhere (has_name c.args.name.now) c.args.self.now.bound (sym c.in-None.ensures.place)))
