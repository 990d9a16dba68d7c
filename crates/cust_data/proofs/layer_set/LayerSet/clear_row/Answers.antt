use Rattle.std.proofs.Common.{◌≡◌, ◌<◌, List, length, arith, sym, subst}
use Rattle.std.specs.Prelude.{All}
use Rattle.std.specs.Vec.{with_items}
use Rattle.std.proofs.lemmas.List.{with_items_is}
use Rattle.cust_data.specs.Layers.{LayerTable, zeros, total}
use Rattle.cust_data.specs.Filled.{Filled}
use Rattle.cust_data.proofs.Columns.{has_place}
use Rattle.cust_data.proofs.Written.{places_is, clear_done, row_said}
use Rattle.cust_data.proofs.layer_set.LayerSet.clear_row.Goals as goal

-- each column has the place
pub clear_cells-requires : goal.clear_cells-requires
clear_cells-requires c =
    let place_in_range : c.args.place < c.self.inside.places =
    omega (
      arith,
      c.requires,
      places_is c.self.inside.columns.items c.self.inside.places c.args.self.now
          c.self.view_is,
    ) in
    let P = λ (xs : List Filled). All (λ (x : Filled). c.args.place < length x.cells) xs in
    subst P (sym c.deref_mut.ensures.value) (has_place c.self.inside.places c.args.place c.self.inside.columns.items
    c.self.invariant.filled place_in_range)

-- the columns are as they should be
pub invariant_of-self : goal.invariant_of-self
invariant_of-self c =
    let place_in_range : c.args.place < c.self.inside.places =
    omega (
      arith,
      c.requires,
      places_is c.self.inside.columns.items c.self.inside.places c.args.self.now
          c.self.view_is,
    ) in
    let len : length c.clear_cells.new.columns ≡ c.self.inside.columns.len =
    omega (arith, c.clear_cells.auto.columns, c.deref_mut.ensures.len) in
    let written = rw c.deref_mut.ensures.value at c.clear_cells.ensures in
    let said = row_said (with_items c.self.inside.columns c.clear_cells.new.columns).items c.clear_cells.new.columns
    c.self.inside.columns.items c.self.inside.places c.args.place (λ (t : LayerTable). zeros (total t.layers))
    c.args.self.now
    (with_items_is c.self.inside.columns c.clear_cells.new.columns len)
    (clear_done c.self.inside.columns.items c.clear_cells.new.columns c.self.inside.places c.args.place c.self.invariant
    place_in_range written)
    c.self.view_is in
    said.holds

-- and make the table with the row
pub returns : goal.returns
returns c =
    let place_in_range : c.args.place < c.self.inside.places =
    omega (
      arith,
      c.requires,
      places_is c.self.inside.columns.items c.self.inside.places c.args.self.now
          c.self.view_is,
    ) in
    let len : length c.clear_cells.new.columns ≡ c.self.inside.columns.len =
    omega (arith, c.clear_cells.auto.columns, c.deref_mut.ensures.len) in
    let written = rw c.deref_mut.ensures.value at c.clear_cells.ensures in
    let said = row_said (with_items c.self.inside.columns c.clear_cells.new.columns).items c.clear_cells.new.columns
    c.self.inside.columns.items c.self.inside.places c.args.place (λ (t : LayerTable). zeros (total t.layers))
    c.args.self.now
    (with_items_is c.self.inside.columns c.clear_cells.new.columns len)
    (clear_done c.self.inside.columns.items c.clear_cells.new.columns c.self.inside.places c.args.place c.self.invariant
    place_in_range written)
    c.self.view_is in
    record { row = said.written; table = said.table }
