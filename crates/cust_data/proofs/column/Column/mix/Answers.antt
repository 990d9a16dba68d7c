use Rattle.std.proofs.Common.{◌<◌, List, ℤ, length, get_or, set, ap, ◌∙◌, subst, sym, FitsSigned, w64}
use Rattle.std.proofs.lemmas.List.{get_or_read}
use Rattle.std.proofs.lemmas.Int.{to_z-of_z}
use Rattle.cust_data.specs.Layers.{zeros}
use Rattle.cust_data.specs.Mixing.{mix_cell}
use Rattle.cust_data.proofs.Widths.{holds-set, wide_read}
use Rattle.cust_data.proofs.column.Column.mix.Goals as goal
use Rattle.cust_data.proofs.column.Column.mix.Goals.{After-self-1}

-- the cell at a, as wide as the others
pub invariant_of-self : goal.invariant_of-self
invariant_of-self g c =
    let P = λ (cells : List (List ℤ)). c.args.a < length cells in
    let in_range : c.args.a < length c.self.inside.cells.items = subst P (sym c.self.view_is) c.requires.a in
    holds-set g.row.N c.self.inside.cells.items c.args.to c.mix_into.new.cell c.self.invariant
    (c.mix_into.auto.cell ∙ wide_read g.row.N c.self.inside.cells.items c.args.a c.index.result.now c.self.invariant
    in_range c.index.ensures)

pub returns : goal.returns
returns g c =
    let a_in : c.args.a < length c.self.inside.cells.items =
    subst (λ (cells : List (List ℤ)). c.args.a < length cells) (sym c.self.view_is) c.requires.a in
    let b_in : c.args.b < length c.self.inside.cells.items =
    subst (λ (cells : List (List ℤ)). c.args.b < length cells) (sym c.self.view_is) c.requires.b in
    let num : FitsSigned w64 c.args.num = c.ranges.num in
    let den : FitsSigned w64 c.args.den = c.ranges.den in
    let read_a = get_or_read c.self.inside.cells.items c.args.a c.index.result.now a_in c.index.ensures (zeros g.row.N)
    in
    let read_b = get_or_read c.self.inside.cells.items c.args.b c.index-2.result.now b_in c.index-2.ensures
    (zeros g.row.N) in
    let mixed = simp to_z-of_z at c.mix_into.ensures in
    rw (mixed, read_a, read_b) (ap (λ (cells : List (List ℤ)). set cells c.args.to
    (mix_cell (get_or cells c.args.a (zeros g.row.N)) (get_or cells c.args.b (zeros g.row.N)) c.args.num
    c.args.den)) c.self.view_is)
