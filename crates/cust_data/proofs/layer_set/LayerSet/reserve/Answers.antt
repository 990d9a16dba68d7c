use Rattle.std.proofs.Common.{◌≡◌, length, arith, subst}
use Rattle.std.specs.Vec.{with_items}
use Rattle.std.proofs.lemmas.List.{with_items_is}
use Rattle.cust_data.specs.Layers.{IsTable}
use Rattle.cust_data.proofs.Columns.{is_table}
use Rattle.cust_data.proofs.Written.{places_is}
use Rattle.cust_data.proofs.Growing.{front_said, grown_said, enough_places}
use Rattle.cust_data.proofs.Answering.{on_err}
use Rattle.cust_data.proofs.layer_set.LayerSet.reserve.Goals as goal

-- some columns are longer, and stand for the same table
pub invariant_of-self : goal.invariant_of-self
invariant_of-self c =
    let len : length c.grow_cells.new.columns ≡ c.self.inside.columns.len =
    omega (arith, c.grow_cells.auto.columns, c.deref_mut.ensures.len) in
    let grew = c.in_err-grow_cells.ensures.err in
    let front = rw c.deref_mut.ensures.value at grew.1 in
    let said = front_said (with_items c.self.inside.columns c.grow_cells.new.columns).items c.grow_cells.new.columns
    c.self.inside.columns.items c.args.places grew.0 c.self.inside.places c.args.self.now
    (with_items_is c.self.inside.columns c.grow_cells.new.columns len) front c.self.invariant c.self.view_is in
    said.holds

pub returns-in_err-grow_cells-clause-err : goal.returns-in_err-grow_cells-clause-err
returns-in_err-grow_cells-clause-err c =
    let len : length c.grow_cells.new.columns ≡ c.self.inside.columns.len =
    omega (arith, c.grow_cells.auto.columns, c.deref_mut.ensures.len) in
    let grew = c.in_err-grow_cells.ensures.err in
    let front = rw c.deref_mut.ensures.value at grew.1 in
    let said = front_said (with_items c.self.inside.columns c.grow_cells.new.columns).items c.grow_cells.new.columns
    c.self.inside.columns.items c.args.places grew.0 c.self.inside.places c.args.self.now
    (with_items_is c.self.inside.columns c.grow_cells.new.columns len) front c.self.invariant c.self.view_is in
    on_err c.from_residual.result said.said

pub returns-in_err-grow_cells-clause-enough : goal.returns-in_err-grow_cells-clause-enough
returns-in_err-grow_cells-clause-enough c enough =
    absurd (omega (
      arith,
      enough,
      places_is c.self.inside.columns.items c.self.inside.places c.args.self.now
          c.self.view_is,
    ))

pub returns-in_err-grow_cells-clause-table : goal.returns-in_err-grow_cells-clause-table
returns-in_err-grow_cells-clause-table c =
    let len : length c.grow_cells.new.columns ≡ c.self.inside.columns.len =
    omega (arith, c.grow_cells.auto.columns, c.deref_mut.ensures.len) in
    let grew = c.in_err-grow_cells.ensures.err in
    let front = rw c.deref_mut.ensures.value at grew.1 in
    let said = front_said (with_items c.self.inside.columns c.grow_cells.new.columns).items c.grow_cells.new.columns
    c.self.inside.columns.items c.args.places grew.0 c.self.inside.places c.args.self.now
    (with_items_is c.self.inside.columns c.grow_cells.new.columns len) front c.self.invariant c.self.view_is in
    said.table

-- all are long enough, with zeros in the new places
pub invariant_of-self-then-self-places : goal.invariant_of-self-then-self-places
invariant_of-self-then-self-places c =
    let len : length c.grow_cells.new.columns ≡ c.self.inside.columns.len =
    omega (arith, c.grow_cells.auto.columns, c.deref_mut.ensures.len) in
    let all = rw c.deref_mut.ensures.value at c.in_ok-grow_cells.ensures.ok in
    let said = grown_said (with_items c.self.inside.columns c.grow_cells.new.columns).items c.grow_cells.new.columns
    c.self.inside.columns.items c.args.places c.self.inside.places c.args.self.now
    (with_items_is c.self.inside.columns c.grow_cells.new.columns len) all c.self.invariant (omega arith) c.self.view_is
    in
    said.holds

pub returns-in_ok-grow_cells-clause-ok : goal.returns-in_ok-grow_cells-clause-ok
returns-in_ok-grow_cells-clause-ok c =
    let len : length c.grow_cells.new.columns ≡ c.self.inside.columns.len =
    omega (arith, c.grow_cells.auto.columns, c.deref_mut.ensures.len) in
    let all = rw c.deref_mut.ensures.value at c.in_ok-grow_cells.ensures.ok in
    let said = grown_said (with_items c.self.inside.columns c.grow_cells.new.columns).items c.grow_cells.new.columns
    c.self.inside.columns.items c.args.places c.self.inside.places c.args.self.now
    (with_items_is c.self.inside.columns c.grow_cells.new.columns len) all c.self.invariant (omega arith) c.self.view_is
    in
    said.said

pub returns-in_ok-grow_cells-clause-table : goal.returns-in_ok-grow_cells-clause-table
returns-in_ok-grow_cells-clause-table c =
    let len : length c.grow_cells.new.columns ≡ c.self.inside.columns.len =
    omega (arith, c.grow_cells.auto.columns, c.deref_mut.ensures.len) in
    let all = rw c.deref_mut.ensures.value at c.in_ok-grow_cells.ensures.ok in
    let said = grown_said (with_items c.self.inside.columns c.grow_cells.new.columns).items c.grow_cells.new.columns
    c.self.inside.columns.items c.args.places c.self.inside.places c.args.self.now
    (with_items_is c.self.inside.columns c.grow_cells.new.columns len) all c.self.invariant (omega arith) c.self.view_is
    in
    said.table

-- there are enough places
pub returns-else-self-places-clause-ok : goal.returns-else-self-places-clause-ok
returns-else-self-places-clause-ok c = enough_places c.args.self.now c.args.places
    (omega (arith, places_is c.self.inside.columns.items c.self.inside.places c.args.self.now c.self.view_is))

pub returns-else-self-places-clause-table : goal.returns-else-self-places-clause-table
returns-else-self-places-clause-table c =
    subst IsTable c.self.view_is (is_table c.self.inside.columns.items c.self.inside.places c.self.invariant)
