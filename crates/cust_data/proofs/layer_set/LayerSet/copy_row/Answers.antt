use Rattle.std.proofs.Common.{◌≡◌, ◌<◌, List, length, arith, sym, subst}
use Rattle.std.specs.Prelude.{All}
use Rattle.std.specs.Vec.{with_items}
use Rattle.std.proofs.lemmas.List.{with_items_is}
use Rattle.cust_data.specs.Layers.{LayerTable, row_of}
use Rattle.cust_data.specs.Filled.{Filled}
use Rattle.cust_data.proofs.Columns.{has_place}
use Rattle.cust_data.proofs.Written.{places_is, copy_done, row_said}
use Rattle.cust_data.proofs.layer_set.LayerSet.copy_row.Goals as goal

-- each column has the place
pub copy_cells-requires-clause-from : goal.copy_cells-requires-clause-from
copy_cells-requires-clause-from c =
    let from_in_range : c.args.from < c.self.inside.places =
    omega (
      arith,
      c.requires.from,
      places_is c.self.inside.columns.items c.self.inside.places c.args.self.now
          c.self.view_is,
    ) in
    let P = λ (xs : List Filled). All (λ (x : Filled). c.args.from < length x.cells) xs in
    subst P (sym c.deref_mut.ensures.value) (has_place c.self.inside.places c.args.from c.self.inside.columns.items
    c.self.invariant.filled from_in_range)

-- each column has the place
pub copy_cells-requires-clause-to : goal.copy_cells-requires-clause-to
copy_cells-requires-clause-to c =
    let to_in_range : c.args.to < c.self.inside.places =
    omega (
      arith,
      c.requires.to,
      places_is c.self.inside.columns.items c.self.inside.places c.args.self.now
          c.self.view_is,
    ) in
    let P = λ (xs : List Filled). All (λ (x : Filled). c.args.to < length x.cells) xs in
    subst P (sym c.deref_mut.ensures.value) (has_place c.self.inside.places c.args.to c.self.inside.columns.items
    c.self.invariant.filled to_in_range)

-- the columns are as they should be
pub invariant_of-self : goal.invariant_of-self
invariant_of-self c =
    let from_in_range : c.args.from < c.self.inside.places =
    omega (
      arith,
      c.requires.from,
      places_is c.self.inside.columns.items c.self.inside.places c.args.self.now
          c.self.view_is,
    ) in
    let to_in_range : c.args.to < c.self.inside.places =
    omega (
      arith,
      c.requires.to,
      places_is c.self.inside.columns.items c.self.inside.places c.args.self.now
          c.self.view_is,
    ) in
    let len : length c.copy_cells.new.columns ≡ c.self.inside.columns.len =
    omega (arith, c.copy_cells.auto.columns, c.deref_mut.ensures.len) in
    let written = rw c.deref_mut.ensures.value at c.copy_cells.ensures in
    let said = row_said (with_items c.self.inside.columns c.copy_cells.new.columns).items c.copy_cells.new.columns
    c.self.inside.columns.items c.self.inside.places c.args.to (λ (t : LayerTable). row_of t c.args.from)
    c.args.self.now
    (with_items_is c.self.inside.columns c.copy_cells.new.columns len)
    (copy_done c.self.inside.columns.items c.copy_cells.new.columns c.self.inside.places c.args.to c.args.from
    c.self.invariant to_in_range from_in_range written)
    c.self.view_is in
    said.holds

-- and make the table with the row
pub returns : goal.returns
returns c =
    let from_in_range : c.args.from < c.self.inside.places =
    omega (
      arith,
      c.requires.from,
      places_is c.self.inside.columns.items c.self.inside.places c.args.self.now
          c.self.view_is,
    ) in
    let to_in_range : c.args.to < c.self.inside.places =
    omega (
      arith,
      c.requires.to,
      places_is c.self.inside.columns.items c.self.inside.places c.args.self.now
          c.self.view_is,
    ) in
    let len : length c.copy_cells.new.columns ≡ c.self.inside.columns.len =
    omega (arith, c.copy_cells.auto.columns, c.deref_mut.ensures.len) in
    let written = rw c.deref_mut.ensures.value at c.copy_cells.ensures in
    let said = row_said (with_items c.self.inside.columns c.copy_cells.new.columns).items c.copy_cells.new.columns
    c.self.inside.columns.items c.self.inside.places c.args.to (λ (t : LayerTable). row_of t c.args.from)
    c.args.self.now
    (with_items_is c.self.inside.columns c.copy_cells.new.columns len)
    (copy_done c.self.inside.columns.items c.copy_cells.new.columns c.self.inside.places c.args.to c.args.from
    c.self.invariant to_in_range from_in_range written)
    c.self.view_is in
    record { row = said.written; table = said.table }
