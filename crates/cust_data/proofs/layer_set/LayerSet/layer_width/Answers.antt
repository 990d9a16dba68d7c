use Rattle.std.proofs.Common.{ℕ, Some, ap, sym, ◌∙◌}
use Rattle.std.specs.Option.{option_map}
use Rattle.cust_data.specs.Layers.{Layer}
use Rattle.cust_data.proofs.Finding.{layer_said}
use Rattle.cust_data.proofs.layer_set.LayerSet.layer_width.Goals as goal

-- the column that was read has the layer
pub returns : goal.returns
returns c =
    ap (option_map (λ (l : Layer). l.width)) (layer_said c.self.inside.columns.items c.self.inside.places c.args.k
    c.index.result.now c.args.self.now c.self.view_is c.requires c.index.ensures)
    ∙ ap (λ (x : ℕ). Some x) (sym c.width.ensures)
