-- What the layers of all parts end as, once a `&mut` into those of one has ended.
use Rattle.std.specs.Borrow.{Fml, MutBor, Lends}
use Rattle.cust_data.specs.Layers.{LayerTable}
use Rattle.cust_data.specs.contracts.layer_set.LayerSet.{the_row as table_row}
use Rattle.mesh_store.specs.contracts.layers.Layers.{the_row}
use Rattle.mesh_store.specs.Parts.{with_table}
use Rattle.mesh_store.specs.declared.layers.Layers.{Layers}
use Rattle.mesh_store.specs.declared.layers.Part.{Part}

-- the part ends with the last table written through r
abbrev pub lends_table : MutBor Layers → Part → MutBor LayerTable → Fml
lends_table v p r = Lends the_row table_row v r (λ t. with_table p t v.now)
