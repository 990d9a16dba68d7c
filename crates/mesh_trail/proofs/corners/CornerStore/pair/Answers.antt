use Rattle.std.proofs.Common.{◌<◌, ◌+◌, length, arith, ◌∙◌}
use Rattle.mesh_trail.proofs.CornerRows.{length-corner_recs, pair-corner_recs}
use Rattle.mesh_trail.proofs.Copies.{read_at}
use Rattle.mesh_trail.proofs.corners.CornerStore.pair.Goals as goal

pub index-requires : goal.index-requires
index-requires c =
    let s = c.self.inside in
    let less : (c.args.from + c.args.i) < length s.pairs.items =
    rw (← c.self.view_is, length-corner_recs s.width s.pairs.items s.values.items) at c.requires in
    omega arith

pub returns : goal.returns
returns c =
    let s = c.self.inside in
    let less : (c.args.from + c.args.i) < length s.pairs.items =
    rw (← c.self.view_is, length-corner_recs s.width s.pairs.items s.values.items) at c.requires in
    rw (← c.self.view_is) (pair-corner_recs s.width s.pairs.items s.values.items (c.args.from + c.args.i)
    ∙ read_at s.pairs.items (c.args.from + c.args.i) c.index.result.now less c.index.ensures)

pub overflow_add-from : goal.overflow_add-from
overflow_add-from c =
    let s = c.self.inside in
    let less : c.args.from + c.args.i < length s.pairs.items =
    rw (← c.self.view_is, length-corner_recs s.width s.pairs.items s.values.items) at c.requires in
    omega arith
