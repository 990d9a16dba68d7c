use Rattle.std.proofs.Common.{◌≡◌, ◌||◌, ◌∙◌, ◌++◌, ◌∷◌, [], ℕ, List, Option, length, not, ap, sym, arith}
use Rattle.mesh_model.specs.Table.{at, only_if}
use Rattle.mesh_model.specs.NameSet.{is_in}
use Rattle.mesh_model.specs.Columns.{EdgeTable}
use Rattle.mesh_model.specs.declared.records.EdgeRec.{EdgeRec}
use Rattle.mesh_model.proofs.Tables.{length-table_of, table_of-more}
use Rattle.mesh_model.proofs.Copies.{is_in-push}
use Rattle.mesh_model.proofs.copying.edges_of.Goals as goal

pub push_edge-requires-clause-fits : goal.push_edge-requires-clause-fits
push_edge-requires-clause-fits g c =
    let long : length c.loop-n.edges.table ≡ c.loop-n.n = ap length c.loop-n.invariant.table
    ∙ length-table_of _ c.loop-n.n in
    omega arith

pub loop-n-preserved : goal.loop-n-preserved
loop-n-preserved g c =
    let whole = g.S.Shape.complex c.args.shape.now in
    let f : ℕ → Option EdgeRec =
    λ n. only_if (λ (e : EdgeRec). not (is_in c.args.gone.now e.a.0 || is_in c.args.gone.now e.b.0))
    (at whole.edges n) in
    record {
      table = ap (λ (t : EdgeTable). t.table) c.push_edge.ensures
          ∙ ap (λ (t : List (Option EdgeRec)). t ++ f c.loop-n.n ∷ []) c.loop-n.invariant.table
          ∙ sym (table_of-more f c.loop-n.n);
      layers = ap (λ (t : EdgeTable). t.layers) c.push_edge.ensures ∙ c.loop-n.invariant.layers;
      unused = λ n. rw c.push_edge.ensures (is_in-push c.loop-n.edges.used n (c.loop-n.invariant.unused n));
      room = omega (arith, ap (λ (t : EdgeTable). t.room) c.push_edge.ensures, c.loop-n.invariant.room);
    }
