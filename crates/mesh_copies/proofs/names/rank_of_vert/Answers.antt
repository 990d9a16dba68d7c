use Rattle.std.proofs.Common.{ltb, rules, arith, sym}
use Rattle.std.proofs.lemmas.List.Sorted.{IsPartitionPoint-from_clause, IsPartitionedBy-ltb}
use Rattle.mesh_model.specs.declared.names.VertName.{VertName}
use Rattle.mesh_copies.proofs.Cuts.{rises, cut_rank}
use Rattle.mesh_copies.proofs.names.rank_of_vert.Goals as goal

pub returns-clause-rank : goal.returns-clause-rank
returns-clause-rank c =
    let num = λ (w : VertName). w.0 in
    let names = c.args.verts.now in
    let parted = IsPartitionedBy-ltb num names c.args.v.0 (rises num names c.requires) in
    let cut = IsPartitionPoint-from_clause (λ (w : VertName). ltb w.0 c.args.v.0) _ _
    c.partition_point.ensures.partitioned parted (λ a r q k. search rules) in
    sym (cut_rank num names c.args.v.0 c.partition_point.result c.partition_point.ensures.bound
    (λ k d less. cut.0 k d (omega arith) less) cut.1)
