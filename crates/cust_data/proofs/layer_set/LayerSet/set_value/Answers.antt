use Rattle.std.proofs.Common.{◌≡◌, ◌<◌, List, length, get_or, set, arith, ◌∙◌, ap, sym, subst, FitsSigned, w64, refl}
use Rattle.std.proofs.lemmas.Int.{to_z-of_z}
use Rattle.cust_data.specs.Layers.{LayerTable, total, row_of}
use Rattle.cust_data.specs.Filled.{Filled}
use Rattle.cust_data.specs.Inside.{layers_of}
use Rattle.cust_data.proofs.Columns.{has_place}
use Rattle.cust_data.proofs.Written.{places_is, value_done, row_said}
use Rattle.cust_data.proofs.layer_set.LayerSet.set_value.Goals as goal

-- the columns have as many numbers
pub column_with-at-requires : goal.column_with-at-requires
column_with-at-requires c =
    let same : total c.args.self.now.layers ≡ total (layers_of c.deref.result.now) =
    ap (λ (t : LayerTable). total t.layers) (sym c.self.view_is)
    ∙ ap (λ (xs : List Filled). total (layers_of xs)) (sym c.deref.ensures.value) in
    omega (arith, same, c.requires.number)

pub index_mut-column-requires : goal.index_mut-column-requires
index_mut-column-requires c = omega (arith, c.column_with-at.ensures.column, c.deref.ensures.len)

-- the column has the place, and the number
pub set_value-requires : goal.set_value-requires
set_value-requires c =
    let in_range : c.args.place < c.self.inside.places =
    omega (
      arith,
      c.requires.place,
      places_is c.self.inside.columns.items c.self.inside.places c.args.self.now
          c.self.view_is,
    ) in
    let low : c.column_with-at.result.0 < length c.self.inside.columns.items =
    omega (arith, c.column_with-at.ensures.column, ap length c.deref.ensures.value) in
    let P = λ (x : Filled). c.args.place < length x.cells in
    let same : get_or c.deref.result.now c.column_with-at.result.0 c.index_mut-column.result.now
    ≡ c.index_mut-column.result.now = ap (λ (xs : List Filled). get_or xs c.column_with-at.result.0
    c.index_mut-column.result.now) c.deref.ensures.value ∙ sym c.index_mut-column.ensures.value in
    record {
      place = subst P (sym c.index_mut-column.ensures.value)
          (has_place c.self.inside.places c.args.place c.self.inside.columns.items c.self.invariant.filled in_range
          c.column_with-at.result.0 c.index_mut-column.result.now low);
      number = omega (
        arith,
        c.column_with-at.ensures.within c.index_mut-column.result.now,
        ap (λ (x : Filled). x.layer.width) same,
      );
    }

-- the columns are as they should be
pub invariant_of-self : goal.invariant_of-self
invariant_of-self c =
    let in_range : c.args.place < c.self.inside.places =
    omega (
      arith,
      c.requires.place,
      places_is c.self.inside.columns.items c.self.inside.places c.args.self.now
          c.self.view_is,
    ) in
    let low : c.column_with-at.result.0 < length c.self.inside.columns.items =
    omega (arith, c.column_with-at.ensures.column, ap length c.deref.ensures.value) in
    let same : get_or c.deref.result.now c.column_with-at.result.0 c.index_mut-column.result.now
    ≡ c.index_mut-column.result.now = ap (λ (xs : List Filled). get_or xs c.column_with-at.result.0
    c.index_mut-column.result.now) c.deref.ensures.value ∙ sym c.index_mut-column.ensures.value in
    let within : c.column_with-at.result.1 < c.index_mut-column.result.now.layer.width =
    omega (
      arith,
      c.column_with-at.ensures.within c.index_mut-column.result.now,
      ap (λ (x : Filled). x.layer.width) same,
    ) in
    let number = rw c.deref.ensures.value at c.column_with-at.ensures.number in
    let fits : FitsSigned w64 c.args.to = c.ranges.to in
    let changed = simp to_z-of_z at c.set_value.ensures in
    let said = row_said (set c.self.inside.columns.items c.column_with-at.result.0 c.set_value.new.self)
    (set c.self.inside.columns.items c.column_with-at.result.0 c.set_value.new.self) c.self.inside.columns.items
    c.self.inside.places c.args.place
    (λ (t : LayerTable). set (row_of t c.args.place) c.args.k c.args.to) c.args.self.now refl
    (value_done c.self.inside.columns.items (set c.self.inside.columns.items c.column_with-at.result.0
    c.set_value.new.self) c.self.inside.places c.args.place c.column_with-at.result.0 c.column_with-at.result.1
    c.args.k c.args.to c.index_mut-column.result.now
    c.self.invariant in_range low c.index_mut-column.ensures.value number within
    (ap (λ (x : Filled). set c.self.inside.columns.items c.column_with-at.result.0 x) changed))
    c.self.view_is in
    said.holds

-- and make the table with the row
pub returns : goal.returns
returns c =
    let in_range : c.args.place < c.self.inside.places =
    omega (
      arith,
      c.requires.place,
      places_is c.self.inside.columns.items c.self.inside.places c.args.self.now
          c.self.view_is,
    ) in
    let low : c.column_with-at.result.0 < length c.self.inside.columns.items =
    omega (arith, c.column_with-at.ensures.column, ap length c.deref.ensures.value) in
    let same : get_or c.deref.result.now c.column_with-at.result.0 c.index_mut-column.result.now
    ≡ c.index_mut-column.result.now = ap (λ (xs : List Filled). get_or xs c.column_with-at.result.0
    c.index_mut-column.result.now) c.deref.ensures.value ∙ sym c.index_mut-column.ensures.value in
    let within : c.column_with-at.result.1 < c.index_mut-column.result.now.layer.width =
    omega (
      arith,
      c.column_with-at.ensures.within c.index_mut-column.result.now,
      ap (λ (x : Filled). x.layer.width) same,
    ) in
    let number = rw c.deref.ensures.value at c.column_with-at.ensures.number in
    let fits : FitsSigned w64 c.args.to = c.ranges.to in
    let changed = simp to_z-of_z at c.set_value.ensures in
    let said = row_said (set c.self.inside.columns.items c.column_with-at.result.0 c.set_value.new.self)
    (set c.self.inside.columns.items c.column_with-at.result.0 c.set_value.new.self) c.self.inside.columns.items
    c.self.inside.places c.args.place
    (λ (t : LayerTable). set (row_of t c.args.place) c.args.k c.args.to) c.args.self.now refl
    (value_done c.self.inside.columns.items (set c.self.inside.columns.items c.column_with-at.result.0
    c.set_value.new.self) c.self.inside.places c.args.place c.column_with-at.result.0 c.column_with-at.result.1
    c.args.k c.args.to c.index_mut-column.result.now
    c.self.invariant in_range low c.index_mut-column.ensures.value number within
    (ap (λ (x : Filled). set c.self.inside.columns.items c.column_with-at.result.0 x) changed))
    c.self.view_is in
    record { row = said.written; table = said.table }
