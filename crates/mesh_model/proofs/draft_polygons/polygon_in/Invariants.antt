use Rattle.std.proofs.Common.{◌≡◌, ◌+◌, ◌≤◌, ◌||◌, ◌++◌, length, drop}
use Rattle.std.specs.List.{All, list_any}
use Rattle.std.specs.HashMap.{spare}
use Rattle.cust_data.specs.Layers.{total}
use Rattle.mesh_model.specs.Incidence.{is_along}
use Rattle.mesh_model.specs.NameSet.{is_in}
use Rattle.mesh_model.specs.EdgeIndexes.{Knows}
use Rattle.mesh_model.specs.Draft.{corners_in, turned}
use Rattle.mesh_model.specs.declared.names.EdgeName.{EdgeName}
use Rattle.mesh_model.specs.declared.records.CornerRec.{CornerRec}
use Rattle.mesh_model.proofs.draft_polygons.polygon_in.Given as goal

-- the corners so far and those that are left are those of the whole polygon
abbrev pub invariant-loop-i : goal.invariant-loop-i
invariant-loop-i l =
    let layers = l.fn.edges.layers in
    let corner_layers = l.fn.faces.corner_layers in
    let rest = corners_in layers corner_layers l.edges.table (drop l.i (turned l.corners)) in
    record {
      told : (rest.0, l.faces.open ++ rest.1) ≡ corners_in layers corner_layers l.fn.edges.table (turned l.corners);
      layers : l.edges.layers ≡ layers;
      used : (e : EdgeName)
          → is_in l.edges.used e.0 ≡ (is_in l.fn.edges.used e.0 || list_any (is_along e) l.faces.open);
      faces : l.faces ≡ record l.fn.faces { «open» = l.faces.open; corner_room = l.faces.corner_room };
      wide : All (λ (k : CornerRec). length k.vals ≡ total corner_layers) l.faces.open;
      long : length l.faces.open ≡ l.i;
      few : length l.edges.table ≤ length l.fn.edges.table + l.i;
      room : length l.corners ≤ l.edges.room + l.i;
      index_room : length l.corners ≤ spare l.index.least + l.i;
      corner_room : length l.corners ≤ l.faces.corner_room + l.i;
      knows : Knows l.index l.edges.table;
      known : l.index.known ≡ length l.edges.table;
    }
