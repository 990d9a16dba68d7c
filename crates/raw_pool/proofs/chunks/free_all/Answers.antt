use Rattle.std.proofs.Common.{◌∙◌, arith}
use Rattle.raw_pool.proofs.Ending.{ended}
use Rattle.raw_pool.proofs.chunks.free_all.Goals as goal

pub overflow_mul-start : goal.overflow_mul-start
overflow_mul-start g c =
    let e = (ended c.args.len c.len.result c.loop-chunk.chunks.items c.pop.new.self.items c.in-Some.chunk
    c.args.tags.now.words.items c.in-Some.ensures.items c.loop-chunk.invariant.even c.loop-chunk.invariant.tagged
    c.loop-chunk.invariant.room (c.len.ensures ∙ c.pop.new.self.ok.0)) in
    let w = e.within in let s = c.args.tags.now.small in let l = c.args.tags.now.words.ok.0 in
    record { fits = omega arith }

pub free-requires-clause-len : goal.free-requires-clause-len
free-requires-clause-len g c = (ended c.args.len c.len.result c.loop-chunk.chunks.items c.pop.new.self.items
    c.in-Some.chunk c.args.tags.now.words.items c.in-Some.ensures.items c.loop-chunk.invariant.even
    c.loop-chunk.invariant.tagged c.loop-chunk.invariant.room (c.len.ensures ∙ c.pop.new.self.ok.0)).long

pub free-requires-clause-tagged : goal.free-requires-clause-tagged
free-requires-clause-tagged g c = (ended c.args.len c.len.result c.loop-chunk.chunks.items c.pop.new.self.items
    c.in-Some.chunk c.args.tags.now.words.items c.in-Some.ensures.items c.loop-chunk.invariant.even
    c.loop-chunk.invariant.tagged c.loop-chunk.invariant.room (c.len.ensures ∙ c.pop.new.self.ok.0)).own

pub free-requires-clause-room : goal.free-requires-clause-room
free-requires-clause-room g c = (ended c.args.len c.len.result c.loop-chunk.chunks.items c.pop.new.self.items
    c.in-Some.chunk c.args.tags.now.words.items c.in-Some.ensures.items c.loop-chunk.invariant.even
    c.loop-chunk.invariant.tagged c.loop-chunk.invariant.room (c.len.ensures ∙ c.pop.new.self.ok.0)).within

pub loop-chunk-preserved : goal.loop-chunk-preserved
loop-chunk-preserved g c =
    let e = (ended c.args.len c.len.result c.loop-chunk.chunks.items c.pop.new.self.items c.in-Some.chunk
    c.args.tags.now.words.items c.in-Some.ensures.items c.loop-chunk.invariant.even c.loop-chunk.invariant.tagged
    c.loop-chunk.invariant.room (c.len.ensures ∙ c.pop.new.self.ok.0)) in
    record { even = e.even; tagged = e.tagged; room = e.room }
