use Rattle.std.proofs.Common.{length, List, ℤ, ap, set, ◌∙◌}
use Rattle.cust_data.proofs.Widths.{holds-set}
use Rattle.cust_data.proofs.column.Column.set.Goals as goal

-- the numbers are as wide as the others
pub invariant_of-self : goal.invariant_of-self
invariant_of-self g c = holds-set g.row.N c.self.inside.cells.items c.args.place c.copy_from_slice.new.self
    c.self.invariant (ap length c.copy_from_slice.ensures.after ∙ c.requires.wide)

-- the list of cells is the model's
pub returns : goal.returns
returns g c = rw c.copy_from_slice.ensures.after (ap (λ (cells : List (List ℤ)). set cells c.args.place c.args.from.now)
    c.self.view_is)
