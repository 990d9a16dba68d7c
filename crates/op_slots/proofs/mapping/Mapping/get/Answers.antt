use Rattle.std.proofs.Common.{◌∙◌, ap, sym, slice_get}
use Rattle.op_slots.proofs.Pairing.{pair_at}
use Rattle.op_slots.proofs.mapping.Mapping.get.Goals as goal

pub returns : goal.returns
returns c =
    rw (← c.self.view_is) (pair_at c.self.inside.targets.entries c.args.k c.index.result.now c.index-2.result.now
    (sym (ap (λ ks. slice_get ks c.args.k) c.keys.ensures.rest) ∙ c.index.ensures) c.index-2.ensures)
