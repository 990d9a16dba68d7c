use Rattle.std.proofs.Common.{length, ap, ◌∙◌, arith}
use Rattle.raw_pool.specs.Inside.{all_places}
use Rattle.raw_pool.proofs.Vacancy.{length-values}
use Rattle.raw_pool.proofs.Holding.{capacity_is}
use Rattle.raw_pool.proofs.pool.Pool.capacity.Goals as goal

pub overflow_mul-result : goal.overflow_mul-result
overflow_mul-result g c =
    let e = capacity_is g.row.CHUNK c.self.inside.chunks.items c.self.inside.tags.words.items c.self.inside.head
    c.self.inside.spare c.self.invariant c.len.result (c.len.ensures ∙ c.self.inside.chunks.ok.0) in
    let v = length-values (all_places c.self.inside.chunks.items) in let s = c.self.invariant.small in
    record { fits = omega arith }

pub returns : goal.returns
returns g c = capacity_is g.row.CHUNK c.self.inside.chunks.items c.self.inside.tags.words.items c.self.inside.head
    c.self.inside.spare c.self.invariant c.len.result (c.len.ensures ∙ c.self.inside.chunks.ok.0)
    ∙ ap length c.self.view_is
