-- Each place of a part's pool has its row, before and after a change of the part's values.
use Rattle.std.proofs.Common.{◌≡◌, ◌<◌, ℕ, length, arith}
use Rattle.raw_pool.proofs.SlotFacts.{live_below}
use Rattle.cust_data.specs.Layers.{LayerTable}
use Rattle.mesh_store.specs.Stored.{Stored}
use Rattle.mesh_store.specs.Parts.{table_of, with_table, IsLiveIn, HasRows}
use Rattle.mesh_store.specs.declared.layers.Part.{Part}
use Rattle.mesh_store.specs.declared.layers.Part.TheVariants.{Vert, Edge, Loop, Face}

-- a live slot has a row
pub has_row : (p : Part) (st : Stored) (s : ℕ) → HasRows st → IsLiveIn p st s → s < length (table_of p st.values).rows
has_row Vert st s h live = let l = live_below st.verts.cells s live in let r = h.verts in omega arith
has_row Edge st s h live = let l = live_below st.edges.cells s live in let r = h.edges in omega arith
has_row Loop st s h live = let l = live_below st.loops s live in let r = h.loops in omega arith
has_row Face st s h live = let l = live_below st.faces.cells s live in let r = h.faces in omega arith

-- where a part has as many rows as before, all rows are there
pub rows_kept : (p : Part) (st : Stored) (t : LayerTable) → length t.rows ≡ length (table_of p st.values).rows
    → HasRows st → HasRows (record st { values = with_table p t st.values })
rows_kept Vert st t e h = record {
  verts = (let r = h.verts in omega arith);
  edges = h.edges;
  loops = h.loops;
  faces = h.faces;
  few = h.few;
}
rows_kept Edge st t e h = record {
  verts = h.verts;
  edges = (let r = h.edges in omega arith);
  loops = h.loops;
  faces = h.faces;
  few = h.few;
}
rows_kept Loop st t e h = record {
  verts = h.verts;
  edges = h.edges;
  loops = (let r = h.loops in omega arith);
  faces = h.faces;
  few = h.few;
}
rows_kept Face st t e h = record {
  verts = h.verts;
  edges = h.edges;
  loops = h.loops;
  faces = (let r = h.faces in omega arith);
  few = h.few;
}
