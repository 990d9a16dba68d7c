use Rattle.std.proofs.Common.{◌<◌, List, length, arith, ◌∙◌, ap, sym, subst}
use Rattle.std.specs.Prelude.{All}
use Rattle.cust_data.specs.Layers.{LayerTable, total, row_of}
use Rattle.cust_data.specs.Filled.{Filled}
use Rattle.cust_data.specs.Inside.{layers_of, row_at, AreWide}
use Rattle.cust_data.proofs.Columns.{has_place, wide_cells, row_of-table}
use Rattle.cust_data.proofs.Written.{places_is}
use Rattle.cust_data.proofs.layer_set.LayerSet.row.Goals as goal

-- each column has the place, with a cell as wide as the layer
pub read_cells-requires : goal.read_cells-requires
read_cells-requires c =
    let in_range : c.args.place < c.self.inside.places =
    omega (
      arith,
      c.requires.place,
      places_is c.self.inside.columns.items c.self.inside.places c.args.self.now
          c.self.view_is,
    ) in
    let P = λ (xs : List Filled). All (λ (x : Filled). c.args.place < length x.cells) xs in
    let Q = λ (xs : List Filled). AreWide xs c.args.place in
    record {
      place = subst P (sym c.deref.ensures.value) (has_place c.self.inside.places c.args.place
          c.self.inside.columns.items c.self.invariant.filled in_range);
      wide = subst Q (sym c.deref.ensures.value) (wide_cells c.self.inside.places c.args.place
          c.self.inside.columns.items c.self.invariant.filled);
      room = c.requires.wide ∙ (ap (λ (t : LayerTable). total t.layers) (sym c.self.view_is)
          ∙ ap (λ (xs : List Filled). total (layers_of xs)) (sym c.deref.ensures.value));
    }

-- the row of the columns is that of the table
pub returns : goal.returns
returns c =
    let in_range : c.args.place < c.self.inside.places =
    omega (
      arith,
      c.requires.place,
      places_is c.self.inside.columns.items c.self.inside.places c.args.self.now
          c.self.view_is,
    ) in
    c.read_cells.ensures
    ∙ (ap (λ (xs : List Filled). row_at xs c.args.place) c.deref.ensures.value
    ∙ (sym (row_of-table c.self.inside.columns.items c.self.inside.places c.args.place in_range)
    ∙ ap (λ (t : LayerTable). row_of t c.args.place) c.self.view_is))
