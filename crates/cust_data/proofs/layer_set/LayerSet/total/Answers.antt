use Rattle.std.proofs.Common.{◌≤◌, List, length, arith, ◌∙◌, ap, sym, subst}
use Rattle.std.specs.Prelude.{All}
use Rattle.cust_data.specs.Layers.{LayerTable, IsTable, total}
use Rattle.cust_data.specs.Filled.{Filled}
use Rattle.cust_data.specs.Inside.{layers_of}
use Rattle.cust_data.proofs.Columns.{is_table}
use Rattle.cust_data.proofs.Finding.{narrow, few}
use Rattle.cust_data.proofs.layer_set.LayerSet.total.Goals as goal

-- few layers, each of a width that is allowed
pub total_width-requires : goal.total_width-requires
total_width-requires c =
    let P = λ (xs : List Filled). All (λ (x : Filled). x.layer.width ≤ 4) xs in
    record {
      few = omega (arith, few c.self.inside.columns.items c.self.invariant.layers, ap length c.deref.ensures.value);
      narrow = subst P (sym c.deref.ensures.value) (narrow c.self.inside.columns.items c.self.invariant.layers);
    }

-- the columns make the table
pub returns : goal.returns
returns c = record {
  total = c.total_width.ensures ∙ (ap (λ (xs : List Filled). total (layers_of xs)) c.deref.ensures.value
      ∙ ap (λ (t : LayerTable). total t.layers) c.self.view_is);
  table = subst IsTable c.self.view_is (is_table c.self.inside.columns.items c.self.inside.places c.self.invariant);
}
