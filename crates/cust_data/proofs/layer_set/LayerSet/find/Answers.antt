use Rattle.std.proofs.Common.{List, ap, sym, ◌∙◌}
use Rattle.std.specs.Prelude.{position}
use Rattle.cust_data.specs.Layers.{Layer, LayerTable, same_name, find_layer}
use Rattle.cust_data.specs.Filled.{Filled}
use Rattle.cust_data.proofs.Finding.{position-map}
use Rattle.cust_data.proofs.layer_set.LayerSet.find.Goals as goal

-- the column of the layer stands where the layer does
pub returns : goal.returns
returns c =
    c.find_column.ensures
    ∙ (ap (λ (xs : List Filled). position (λ (x : Filled). same_name x.layer.name c.args.name.now) xs)
    c.deref.ensures.value
    ∙ (sym (position-map (λ (l : Layer). same_name l.name c.args.name.now) (λ (x : Filled). x.layer)
    c.self.inside.columns.items)
    ∙ ap (λ (t : LayerTable). find_layer t.layers c.args.name.now) c.self.view_is))
