use Rattle.std.proofs.Common.{ltb, rules}
use Rattle.std.proofs.lemmas.List.Sorted.{IsPartitionPoint-from_clause, IsPartitionedBy-ltb}
use Rattle.mesh_trail.proofs.Rising.{front_rises, first_of}
use Rattle.mesh_trail.proofs.note_map.first_from.Goals as goal

pub returns : goal.returns
returns g c =
    let es = c.args.entries.now in
    let parted = IsPartitionedBy-ltb (λ e. e.name) _ c.args.least (front_rises es c.args.rising c.requires.rising) in
    let point = IsPartitionPoint-from_clause (λ e. ltb e.name c.args.least) _ _ c.partition_point.ensures.partitioned
    parted (λ a r q k. search rules) in
    first_of es c.args.rising c.partition_point.result c.args.least c.requires.within c.partition_point.ensures.bound
    point
