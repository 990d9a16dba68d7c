use Rattle.std.proofs.Common.{◌≡◌, ◌<◌, List, length, arith, ◌∙◌, ap, sym, subst}
use Rattle.std.specs.Prelude.{All}
use Rattle.std.specs.Vec.{with_items}
use Rattle.std.proofs.lemmas.List.{with_items_is}
use Rattle.cust_data.specs.Layers.{LayerTable, total}
use Rattle.cust_data.specs.Filled.{Filled}
use Rattle.cust_data.specs.Inside.{layers_of}
use Rattle.cust_data.proofs.Columns.{has_place}
use Rattle.cust_data.proofs.Written.{places_is, set_done, row_said}
use Rattle.cust_data.proofs.layer_set.LayerSet.set_row.Goals as goal

-- each column has the place
pub set_cells-requires-clause-place : goal.set_cells-requires-clause-place
set_cells-requires-clause-place c =
    let place_in_range : c.args.place < c.self.inside.places =
    omega (
      arith,
      c.requires.place,
      places_is c.self.inside.columns.items c.self.inside.places c.args.self.now
          c.self.view_is,
    ) in
    let P = λ (xs : List Filled). All (λ (x : Filled). c.args.place < length x.cells) xs in
    subst P (sym c.deref_mut.ensures.value) (has_place c.self.inside.places c.args.place c.self.inside.columns.items
    c.self.invariant.filled place_in_range)

-- the row is as wide as the columns
pub set_cells-requires-clause-wide : goal.set_cells-requires-clause-wide
set_cells-requires-clause-wide c =
    c.requires.wide ∙ (ap (λ (t : LayerTable). total t.layers) (sym c.self.view_is)
    ∙ ap (λ (xs : List Filled). total (layers_of xs)) (sym c.deref_mut.ensures.value))

-- the columns are as they should be
pub invariant_of-self : goal.invariant_of-self
invariant_of-self c =
    let place_in_range : c.args.place < c.self.inside.places =
    omega (
      arith,
      c.requires.place,
      places_is c.self.inside.columns.items c.self.inside.places c.args.self.now
          c.self.view_is,
    ) in
    let len : length c.set_cells.new.columns ≡ c.self.inside.columns.len =
    omega (arith, c.set_cells.auto.columns, c.deref_mut.ensures.len) in
    let wide : length c.args.from.now ≡ total (layers_of c.self.inside.columns.items) =
    c.requires.wide ∙ ap (λ (t : LayerTable). total t.layers) (sym c.self.view_is) in
    let written = rw c.deref_mut.ensures.value at c.set_cells.ensures in
    let said = row_said (with_items c.self.inside.columns c.set_cells.new.columns).items c.set_cells.new.columns
    c.self.inside.columns.items c.self.inside.places c.args.place (λ (t : LayerTable). c.args.from.now)
    c.args.self.now
    (with_items_is c.self.inside.columns c.set_cells.new.columns len)
    (set_done c.self.inside.columns.items c.set_cells.new.columns c.self.inside.places c.args.place c.args.from.now
    c.self.invariant place_in_range wide written)
    c.self.view_is in
    said.holds

-- and make the table with the row
pub returns : goal.returns
returns c =
    let place_in_range : c.args.place < c.self.inside.places =
    omega (
      arith,
      c.requires.place,
      places_is c.self.inside.columns.items c.self.inside.places c.args.self.now
          c.self.view_is,
    ) in
    let len : length c.set_cells.new.columns ≡ c.self.inside.columns.len =
    omega (arith, c.set_cells.auto.columns, c.deref_mut.ensures.len) in
    let wide : length c.args.from.now ≡ total (layers_of c.self.inside.columns.items) =
    c.requires.wide ∙ ap (λ (t : LayerTable). total t.layers) (sym c.self.view_is) in
    let written = rw c.deref_mut.ensures.value at c.set_cells.ensures in
    let said = row_said (with_items c.self.inside.columns c.set_cells.new.columns).items c.set_cells.new.columns
    c.self.inside.columns.items c.self.inside.places c.args.place (λ (t : LayerTable). c.args.from.now)
    c.args.self.now
    (with_items_is c.self.inside.columns c.set_cells.new.columns len)
    (set_done c.self.inside.columns.items c.set_cells.new.columns c.self.inside.places c.args.place c.args.from.now
    c.self.invariant place_in_range wide written)
    c.self.view_is in
    record { row = said.written; table = said.table }
