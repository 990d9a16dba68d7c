use Rattle.std.proofs.Common.{◌≡◌, ◌<◌, ℤ, pos, List, length, get_or, arith, ◌∙◌, ap, sym, subst, FitsSigned, w64, rules}
use Rattle.std.proofs.lemmas.Int.{to_z-of_z}
use Rattle.cust_data.specs.Layers.{LayerTable, total}
use Rattle.cust_data.specs.Filled.{Filled}
use Rattle.cust_data.specs.Inside.{layers_of}
use Rattle.cust_data.proofs.Columns.{has_place}
use Rattle.cust_data.proofs.Written.{places_is, value_is}
use Rattle.cust_data.proofs.layer_set.LayerSet.value.Goals as goal

-- the columns have as many numbers
pub column_with-at-requires : goal.column_with-at-requires
column_with-at-requires c =
    let same : total c.args.self.now.layers ≡ total (layers_of c.deref.result.now) =
    ap (λ (t : LayerTable). total t.layers) (sym c.self.view_is)
    ∙ ap (λ (xs : List Filled). total (layers_of xs)) (sym c.deref.ensures.value) in
    omega (arith, same, c.requires.number)

pub index-requires : goal.index-requires
index-requires c = omega (arith, c.column_with-at.ensures.column, c.deref.ensures.len)

-- the column has the place
pub get-requires : goal.get-requires
get-requires c =
    let in_range : c.args.place < c.self.inside.places =
    omega (
      arith,
      c.requires.place,
      places_is c.self.inside.columns.items c.self.inside.places c.args.self.now
          c.self.view_is,
    ) in
    let low : c.column_with-at.result.0 < length c.self.inside.columns.items =
    omega (arith, c.column_with-at.ensures.column, ap length c.deref.ensures.value) in
    let P = λ (x : Filled). c.args.place < length x.cells in
    subst P (sym c.index.ensures) (has_place c.self.inside.places c.args.place c.self.inside.columns.items
    c.self.invariant.filled in_range c.column_with-at.result.0 c.index.result.now low)

-- the number is one of the layer
pub bounds-get-number : goal.bounds-get-number
bounds-get-number c =
    let same : get_or c.deref.result.now c.column_with-at.result.0 c.index.result.now ≡ c.index.result.now =
    ap (λ (xs : List Filled). get_or xs c.column_with-at.result.0 c.index.result.now) c.deref.ensures.value
    ∙ sym c.index.ensures in
    omega (
      arith,
      c.column_with-at.ensures.within c.index.result.now,
      ap (λ (x : Filled). x.layer.width) same,
      c.get.ensures.wide,
    )

pub offset_bounds-get-number : goal.offset_bounds-get-number
offset_bounds-get-number c =
    let low : c.column_with-at.result.1 < length c.get.result.now = bounds-get-number c in
    omega arith

-- it is that of the row
pub returns : goal.returns
returns c =
    let in_range : c.args.place < c.self.inside.places =
    omega (
      arith,
      c.requires.place,
      places_is c.self.inside.columns.items c.self.inside.places c.args.self.now
          c.self.view_is,
    ) in
    let low : c.column_with-at.result.0 < length c.self.inside.columns.items =
    omega (arith, c.column_with-at.ensures.column, ap length c.deref.ensures.value) in
    let same : get_or c.deref.result.now c.column_with-at.result.0 c.index.result.now ≡ c.index.result.now =
    ap (λ (xs : List Filled). get_or xs c.column_with-at.result.0 c.index.result.now) c.deref.ensures.value
    ∙ sym c.index.ensures in
    let within : c.column_with-at.result.1 < c.index.result.now.layer.width =
    omega (arith, c.column_with-at.ensures.within c.index.result.now, ap (λ (x : Filled). x.layer.width) same) in
    let number = rw c.deref.ensures.value at c.column_with-at.ensures.number in
    let value_fits : FitsSigned w64 (get_or c.get.result.now c.column_with-at.result.1 (pos 0)) = search rules in
    to_z-of_z w64 (get_or c.get.result.now c.column_with-at.result.1 (pos 0)) value_fits
    ∙ (ap (λ (cell : List ℤ). get_or cell c.column_with-at.result.1 (pos 0)) c.get.ensures.cell
    ∙ value_is c.self.inside.columns.items c.self.inside.places c.args.place c.column_with-at.result.0
    c.column_with-at.result.1 c.args.k c.index.result.now c.args.self.now c.self.invariant c.self.view_is in_range
    low c.index.ensures number within)
