use Rattle.std.proofs.Common.{◌<◌, List, length, ap, ◌∙◌, arith}
use Rattle.raw_pool.specs.Inside.{rows}
use Rattle.raw_pool.specs.declared.chunk.Chunk.{Chunk}
use Rattle.raw_pool.proofs.Ending.{copied, copied_on, front}
use Rattle.raw_pool.proofs.chunks.copy_all.Goals as goal

pub overflow_mul-index : goal.overflow_mul-index
overflow_mul-index g c =
    let within : c.loop-index.index < length c.args.chunks.now.items =
    (let t = c.loop-index-test.true in let l = c.len-index-end.ensures in let k =
    c.args.chunks.now.ok.0 in omega arith) in
    let e = (copied c.args.len c.loop-index.index c.args.chunks.now.items c.index-chunk.result.now
    c.args.tags.now.words.items c.requires.even c.requires.tagged c.requires.room within c.index-chunk.ensures) in
    let w = e.within in let s = c.args.tags.now.small in let l = c.args.tags.now.words.ok.0 in
    record { fits = omega arith }

pub copy-requires-clause-len : goal.copy-requires-clause-len
copy-requires-clause-len g c =
    let within : c.loop-index.index < length c.args.chunks.now.items =
    (let t = c.loop-index-test.true in let l = c.len-index-end.ensures in let k =
    c.args.chunks.now.ok.0 in omega arith) in
    (copied c.args.len c.loop-index.index c.args.chunks.now.items c.index-chunk.result.now c.args.tags.now.words.items
    c.requires.even c.requires.tagged c.requires.room within c.index-chunk.ensures).long

pub copy-requires-clause-tagged : goal.copy-requires-clause-tagged
copy-requires-clause-tagged g c =
    let within : c.loop-index.index < length c.args.chunks.now.items =
    (let t = c.loop-index-test.true in let l = c.len-index-end.ensures in let k =
    c.args.chunks.now.ok.0 in omega arith) in
    (copied c.args.len c.loop-index.index c.args.chunks.now.items c.index-chunk.result.now c.args.tags.now.words.items
    c.requires.even c.requires.tagged c.requires.room within c.index-chunk.ensures).own

pub copy-requires-clause-room : goal.copy-requires-clause-room
copy-requires-clause-room g c =
    let within : c.loop-index.index < length c.args.chunks.now.items =
    (let t = c.loop-index-test.true in let l = c.len-index-end.ensures in let k =
    c.args.chunks.now.ok.0 in omega arith) in
    (copied c.args.len c.loop-index.index c.args.chunks.now.items c.index-chunk.result.now c.args.tags.now.words.items
    c.requires.even c.requires.tagged c.requires.room within c.index-chunk.ensures).within

pub free_all-requires-clause-even : goal.free_all-requires-clause-even
free_all-requires-clause-even g c = (front c.args.len c.loop-index.index c.args.chunks.now.items
    c.loop-index.twins.items c.args.tags.now.words.items c.requires.even c.requires.tagged c.requires.room
    c.loop-index.invariant.same).even

pub free_all-requires-clause-tagged : goal.free_all-requires-clause-tagged
free_all-requires-clause-tagged g c = (front c.args.len c.loop-index.index c.args.chunks.now.items
    c.loop-index.twins.items c.args.tags.now.words.items c.requires.even c.requires.tagged c.requires.room
    c.loop-index.invariant.same).tagged

pub free_all-requires-clause-room : goal.free_all-requires-clause-room
free_all-requires-clause-room g c = (front c.args.len c.loop-index.index c.args.chunks.now.items
    c.loop-index.twins.items c.args.tags.now.words.items c.requires.even c.requires.tagged c.requires.room
    c.loop-index.invariant.same).room

pub loop-index-preserved : goal.loop-index-preserved
loop-index-preserved g c =
    let within : c.loop-index.index < length c.args.chunks.now.items =
    (let t = c.loop-index-test.true in let l = c.len-index-end.ensures in let k =
    c.args.chunks.now.ok.0 in omega arith) in
    let i = c.loop-index.invariant in
    record {
      same = ap (λ (ts : List (Chunk g.row.T.Denot)). rows ts) c.push_reserved.ensures.items
          ∙ copied_on c.args.chunks.now.items c.loop-index.twins.items c.index-chunk.result.now c.in-Ok.twin
          c.loop-index.index i.same within c.index-chunk.ensures c.in-Ok.ensures;
      count = (let l = c.push_reserved.ensures.len in let k = i.count in omega arith);
      capacity = c.push_reserved.ensures.capacity ∙ i.capacity;
    }
