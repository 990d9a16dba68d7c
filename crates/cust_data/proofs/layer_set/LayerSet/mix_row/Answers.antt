use Rattle.std.proofs.Common.{◌≡◌, ◌<◌, List, length, arith, sym, subst, FitsSigned, w64}
use Rattle.std.specs.Prelude.{All}
use Rattle.std.specs.Vec.{with_items}
use Rattle.std.proofs.lemmas.List.{with_items_is}
use Rattle.cust_data.specs.Layers.{LayerTable, row_of}
use Rattle.cust_data.specs.Filled.{Filled}
use Rattle.cust_data.proofs.Columns.{has_place}
use Rattle.cust_data.proofs.Written.{places_is, mix_done, row_said}
use Rattle.std.proofs.lemmas.Int.{to_z-of_z}
use Rattle.cust_data.specs.Mixing.{mix_row}
use Rattle.cust_data.proofs.layer_set.LayerSet.mix_row.Goals as goal

-- each column has the place
pub mix_cells-requires-clause-a : goal.mix_cells-requires-clause-a
mix_cells-requires-clause-a c =
    let a_in_range : c.args.a < c.self.inside.places =
    omega (
      arith,
      c.requires.a,
      places_is c.self.inside.columns.items c.self.inside.places c.args.self.now
          c.self.view_is,
    ) in
    let P = λ (xs : List Filled). All (λ (x : Filled). c.args.a < length x.cells) xs in
    subst P (sym c.deref_mut.ensures.value) (has_place c.self.inside.places c.args.a c.self.inside.columns.items
    c.self.invariant.filled a_in_range)

-- each column has the place
pub mix_cells-requires-clause-b : goal.mix_cells-requires-clause-b
mix_cells-requires-clause-b c =
    let b_in_range : c.args.b < c.self.inside.places =
    omega (
      arith,
      c.requires.b,
      places_is c.self.inside.columns.items c.self.inside.places c.args.self.now
          c.self.view_is,
    ) in
    let P = λ (xs : List Filled). All (λ (x : Filled). c.args.b < length x.cells) xs in
    subst P (sym c.deref_mut.ensures.value) (has_place c.self.inside.places c.args.b c.self.inside.columns.items
    c.self.invariant.filled b_in_range)

-- each column has the place
pub mix_cells-requires-clause-to : goal.mix_cells-requires-clause-to
mix_cells-requires-clause-to c =
    let to_in_range : c.args.to < c.self.inside.places =
    omega (
      arith,
      c.requires.to,
      places_is c.self.inside.columns.items c.self.inside.places c.args.self.now
          c.self.view_is,
    ) in
    let P = λ (xs : List Filled). All (λ (x : Filled). c.args.to < length x.cells) xs in
    subst P (sym c.deref_mut.ensures.value) (has_place c.self.inside.places c.args.to c.self.inside.columns.items
    c.self.invariant.filled to_in_range)

-- the columns are as they should be
pub invariant_of-self : goal.invariant_of-self
invariant_of-self c =
    let a_in_range : c.args.a < c.self.inside.places =
    omega (
      arith,
      c.requires.a,
      places_is c.self.inside.columns.items c.self.inside.places c.args.self.now
          c.self.view_is,
    ) in
    let b_in_range : c.args.b < c.self.inside.places =
    omega (
      arith,
      c.requires.b,
      places_is c.self.inside.columns.items c.self.inside.places c.args.self.now
          c.self.view_is,
    ) in
    let to_in_range : c.args.to < c.self.inside.places =
    omega (
      arith,
      c.requires.to,
      places_is c.self.inside.columns.items c.self.inside.places c.args.self.now
          c.self.view_is,
    ) in
    let len : length c.mix_cells.new.columns ≡ c.self.inside.columns.len =
    omega (arith, c.mix_cells.auto.columns, c.deref_mut.ensures.len) in
    let num : FitsSigned w64 c.args.num = c.ranges.num in
    let den : FitsSigned w64 c.args.den = c.ranges.den in
    let plain = simp to_z-of_z at c.mix_cells.ensures in
    let written = rw c.deref_mut.ensures.value at plain in
    let said = row_said (with_items c.self.inside.columns c.mix_cells.new.columns).items c.mix_cells.new.columns
    c.self.inside.columns.items c.self.inside.places c.args.to
    (λ (t : LayerTable). mix_row t.layers (row_of t c.args.a) (row_of t c.args.b) c.args.num c.args.den)
    c.args.self.now
    (with_items_is c.self.inside.columns c.mix_cells.new.columns len)
    (mix_done c.self.inside.columns.items c.mix_cells.new.columns c.self.inside.places c.args.to c.args.a c.args.b
    c.args.num c.args.den c.self.invariant to_in_range a_in_range b_in_range written)
    c.self.view_is in
    said.holds

-- and make the table with the row
pub returns : goal.returns
returns c =
    let a_in_range : c.args.a < c.self.inside.places =
    omega (
      arith,
      c.requires.a,
      places_is c.self.inside.columns.items c.self.inside.places c.args.self.now
          c.self.view_is,
    ) in
    let b_in_range : c.args.b < c.self.inside.places =
    omega (
      arith,
      c.requires.b,
      places_is c.self.inside.columns.items c.self.inside.places c.args.self.now
          c.self.view_is,
    ) in
    let to_in_range : c.args.to < c.self.inside.places =
    omega (
      arith,
      c.requires.to,
      places_is c.self.inside.columns.items c.self.inside.places c.args.self.now
          c.self.view_is,
    ) in
    let len : length c.mix_cells.new.columns ≡ c.self.inside.columns.len =
    omega (arith, c.mix_cells.auto.columns, c.deref_mut.ensures.len) in
    let num : FitsSigned w64 c.args.num = c.ranges.num in
    let den : FitsSigned w64 c.args.den = c.ranges.den in
    let plain = simp to_z-of_z at c.mix_cells.ensures in
    let written = rw c.deref_mut.ensures.value at plain in
    let said = row_said (with_items c.self.inside.columns c.mix_cells.new.columns).items c.mix_cells.new.columns
    c.self.inside.columns.items c.self.inside.places c.args.to
    (λ (t : LayerTable). mix_row t.layers (row_of t c.args.a) (row_of t c.args.b) c.args.num c.args.den)
    c.args.self.now
    (with_items_is c.self.inside.columns c.mix_cells.new.columns len)
    (mix_done c.self.inside.columns.items c.mix_cells.new.columns c.self.inside.places c.args.to c.args.a c.args.b
    c.args.num c.args.den c.self.invariant to_in_range a_in_range b_in_range written)
    c.self.view_is in
    record { row = said.written; table = said.table }
