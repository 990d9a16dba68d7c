use Rattle.std.proofs.Common.{◌≡◌, ℕ, List, [], ap, subst, ◌∙◌}
use Rattle.cust_data.specs.Layers.{IsTable}
use Rattle.cust_data.specs.Filled.{grown}
use Rattle.cust_data.proofs.Columns.{is_table}
use Rattle.cust_data.proofs.Adding.{is_allowed, new_column, added_said}
use Rattle.cust_data.proofs.layer_set.LayerSet.append.Goals as goal

-- the layer isn't refused
pub new-column-requires : goal.new-column-requires
new-column-requires c = (is_allowed c.args.self.now.layers c.args.name.now c.args.width c.requires).width_ok

-- no column has come
pub invariant_of-self : goal.invariant_of-self
invariant_of-self c = rw c.in_err-push.ensures.items c.self.invariant

pub returns-in_err-name-clause-table : goal.returns-in_err-name-clause-table
returns-in_err-name-clause-table c = subst IsTable c.self.view_is
    (is_table c.self.inside.columns.items c.self.inside.places c.self.invariant)

pub returns-in_err-reserve-clause-table : goal.returns-in_err-reserve-clause-table
returns-in_err-reserve-clause-table c =
    subst IsTable c.self.view_is (is_table c.self.inside.columns.items c.self.inside.places c.self.invariant)

pub returns-in_err-push-clause-table : goal.returns-in_err-push-clause-table
returns-in_err-push-clause-table c = rw c.in_err-push.ensures.items
    (is_table c.self.inside.columns.items c.self.inside.places c.self.invariant)

-- a column of zeros has
pub invariant_of-self-2 : goal.invariant_of-self-2
invariant_of-self-2 c =
    let empty : c.new-column.result ≡ record {
      layer =
          record { name = c.args.name.now; width = c.args.width; rule = c.args.rule };
      cells = [];
    } =
    c.new-column.ensures ∙ ap (λ (bytes : List ℕ). record {
      layer =
          record { name = bytes; width = c.args.width; rule = c.args.rule };
      cells = [];
    }) c.in_ok-name.ensures.items in
    let column : c.reserve.new.self ≡ new_column c.self.inside.places
    (record { name = c.args.name.now; width = c.args.width; rule = c.args.rule }) =
    c.in_ok-reserve.ensures.ok ∙ ap (grown c.self.inside.places) empty in
    let said = added_said c.push.new.self.items c.self.inside.columns.items c.self.inside.places c.reserve.new.self
    (record { name = c.args.name.now; width = c.args.width; rule = c.args.rule }) c.args.self.now
    c.in_ok-push.ensures.items column c.self.invariant c.self.view_is c.requires in
    said.holds

pub returns-clause-ok : goal.returns-clause-ok
returns-clause-ok c =
    let empty : c.new-column.result ≡ record {
      layer =
          record { name = c.args.name.now; width = c.args.width; rule = c.args.rule };
      cells = [];
    } =
    c.new-column.ensures ∙ ap (λ (bytes : List ℕ). record {
      layer =
          record { name = bytes; width = c.args.width; rule = c.args.rule };
      cells = [];
    }) c.in_ok-name.ensures.items in
    let column : c.reserve.new.self ≡ new_column c.self.inside.places
    (record { name = c.args.name.now; width = c.args.width; rule = c.args.rule }) =
    c.in_ok-reserve.ensures.ok ∙ ap (grown c.self.inside.places) empty in
    let said = added_said c.push.new.self.items c.self.inside.columns.items c.self.inside.places c.reserve.new.self
    (record { name = c.args.name.now; width = c.args.width; rule = c.args.rule }) c.args.self.now
    c.in_ok-push.ensures.items column c.self.invariant c.self.view_is c.requires in
    said.said

pub returns-clause-table : goal.returns-clause-table
returns-clause-table c =
    let empty : c.new-column.result ≡ record {
      layer =
          record { name = c.args.name.now; width = c.args.width; rule = c.args.rule };
      cells = [];
    } =
    c.new-column.ensures ∙ ap (λ (bytes : List ℕ). record {
      layer =
          record { name = bytes; width = c.args.width; rule = c.args.rule };
      cells = [];
    }) c.in_ok-name.ensures.items in
    let column : c.reserve.new.self ≡ new_column c.self.inside.places
    (record { name = c.args.name.now; width = c.args.width; rule = c.args.rule }) =
    c.in_ok-reserve.ensures.ok ∙ ap (grown c.self.inside.places) empty in
    let said = added_said c.push.new.self.items c.self.inside.columns.items c.self.inside.places c.reserve.new.self
    (record { name = c.args.name.now; width = c.args.width; rule = c.args.rule }) c.args.self.now
    c.in_ok-push.ensures.items column c.self.invariant c.self.view_is c.requires in
    said.table
