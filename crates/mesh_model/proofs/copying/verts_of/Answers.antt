use Rattle.std.proofs.Common.{◌≡◌, ◌∙◌, ◌++◌, ◌∷◌, [], ℕ, List, Option, length, not, ap, sym, arith}
use Rattle.mesh_model.specs.Table.{at, only_if}
use Rattle.mesh_model.specs.NameSet.{is_in}
use Rattle.mesh_model.specs.Columns.{VertTable}
use Rattle.mesh_model.specs.declared.records.VertRec.{VertRec}
use Rattle.mesh_model.proofs.Tables.{length-table_of, table_of-more}
use Rattle.mesh_model.proofs.copying.verts_of.Goals as goal

pub push_vert-requires-clause-fits : goal.push_vert-requires-clause-fits
push_vert-requires-clause-fits g c =
    let long : length c.loop-n.verts.table ≡ c.loop-n.n = ap length c.loop-n.invariant.table
    ∙ length-table_of _ c.loop-n.n in
    omega arith

pub loop-n-preserved : goal.loop-n-preserved
loop-n-preserved g c =
    let whole = g.S.Shape.complex c.args.shape.now in
    let f : ℕ → Option VertRec = λ n. only_if (λ _. not (is_in c.args.gone.now n)) (at whole.verts n) in
    record {
      table = ap (λ (t : VertTable). t.table) c.push_vert.ensures
          ∙ ap (λ (t : List (Option VertRec)). t ++ f c.loop-n.n ∷ []) c.loop-n.invariant.table
          ∙ sym (table_of-more f c.loop-n.n);
      layers = ap (λ (t : VertTable). t.layers) c.push_vert.ensures ∙ c.loop-n.invariant.layers;
      room = omega (arith, ap (λ (t : VertTable). t.room) c.push_vert.ensures, c.loop-n.invariant.room);
    }
