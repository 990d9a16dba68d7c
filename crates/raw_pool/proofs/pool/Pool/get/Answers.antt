use Rattle.std.proofs.Common.{get_or, Option, None, List, sym, ap, ◌∙◌, arith}
use Rattle.raw_pool.specs.FreeList.{value_of}
use Rattle.raw_pool.proofs.Vacancy.{live_value}
use Rattle.raw_pool.proofs.Holding.{in_chunk, lies, live_low, live_place}
use Rattle.raw_pool.proofs.pool.Pool.get.Goals as goal

pub index-chunk-requires : goal.index-chunk-requires
index-chunk-requires g c =
    let cs = c.self.inside.chunks.items in let ws = c.self.inside.tags.words.items in let head =
    c.self.inside.head in let spare = c.self.inside.spare in let s = c.args.s.0 in
    let v = live_value c.args.self.now s c.requires in
    let e = ap (λ (xs : List (Option g.row.T.Denot)). get_or xs s None) c.self.view_is ∙ v.1 in
    let low = live_low g.row.CHUNK cs ws head spare c.self.invariant s v.0 e in
    let b = in_chunk g.row.CHUNK cs ws head spare c.self.invariant s low in
    let l = c.self.inside.chunks.ok.0 in omega arith

pub get-requires : goal.get-requires
get-requires g c =
    let cs = c.self.inside.chunks.items in let ws = c.self.inside.tags.words.items in let head =
    c.self.inside.head in let spare = c.self.inside.spare in let s = c.args.s.0 in
    let v = live_value c.args.self.now s c.requires in
    let e = ap (λ (xs : List (Option g.row.T.Denot)). get_or xs s None) c.self.view_is ∙ v.1 in
    let low = live_low g.row.CHUNK cs ws head spare c.self.invariant s v.0 e in
    let l = lies g.row.CHUNK cs ws head spare c.self.invariant s c.index-chunk.result.now low c.index-chunk.ensures in
    (v.0, l.place ∙ live_place g.row.CHUNK cs ws head spare c.self.invariant s v.0 e)

pub returns : goal.returns
returns g c =
    let cs = c.self.inside.chunks.items in let ws = c.self.inside.tags.words.items in let head =
    c.self.inside.head in let spare = c.self.inside.spare in let s = c.args.s.0 in
    let v = live_value c.args.self.now s c.requires in
    let e = ap (λ (xs : List (Option g.row.T.Denot)). get_or xs s None) c.self.view_is ∙ v.1 in
    let low = live_low g.row.CHUNK cs ws head spare c.self.invariant s v.0 e in
    let l = lies g.row.CHUNK cs ws head spare c.self.invariant s c.index-chunk.result.now low c.index-chunk.ensures in
    v.1 ∙ ap value_of (sym (live_place g.row.CHUNK cs ws head spare c.self.invariant s v.0 e) ∙ sym l.place
    ∙ c.get.ensures)
