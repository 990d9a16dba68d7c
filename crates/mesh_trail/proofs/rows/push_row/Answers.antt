use Rattle.std.proofs.Common.{◌∙◌, arith, rules, FitsSigned, w64}
use Rattle.std.proofs.lemmas.Int.{to_z-of_z}
use Rattle.mesh_trail.proofs.Copies.{one_more}
use Rattle.mesh_trail.proofs.rows.push_row.Goals as goal

pub loop-k-preserved : goal.loop-k-preserved
loop-k-preserved g c =
    let fits : FitsSigned w64 c.value.result = search rules in
    record {
      items = (simp to_z-of_z at c.push_reserved.ensures.items)
          ∙ one_more c.loop-k.values.items (g.R.Row.vals c.args.row.now) c.reserve.new.self.items c.loop-k.k _
          c.loop-k.invariant.items c.value.ensures;
      len = omega arith;
      room = omega arith;
      capacity = omega arith;
    }
