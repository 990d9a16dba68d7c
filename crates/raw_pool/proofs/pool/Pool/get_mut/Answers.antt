use Rattle.std.proofs.Common.{◌%◌, get_or, slice_set, Option, Some, None, List, refl, sym, ap, ◌∙◌, arith}
use Rattle.raw_pool.specs.Place.{Value}
use Rattle.raw_pool.specs.FreeList.{value_of}
use Rattle.raw_pool.specs.Inside.{all_places}
use Rattle.raw_pool.specs.Lends.{with_value}
use Rattle.raw_pool.proofs.Vacancy.{live_value, free_kept}
use Rattle.raw_pool.proofs.Holding.{in_chunk, lies, live_low, live_place, written, holds_on, tag_kept}
use Rattle.raw_pool.proofs.pool.Pool.get_mut.Goals as goal

pub index_mut-chunk-requires : goal.index_mut-chunk-requires
index_mut-chunk-requires g c =
    let cs = c.self.inside.chunks.items in let ws = c.self.inside.tags.words.items in let head =
    c.self.inside.head in let spare = c.self.inside.spare in let s = c.args.s.0 in
    let v = live_value c.args.self.now s c.requires in
    let e = ap (λ (xs : List (Option g.row.T.Denot)). get_or xs s None) c.self.view_is ∙ v.1 in
    let low = live_low g.row.CHUNK cs ws head spare c.self.invariant s v.0 e in
    let b = in_chunk g.row.CHUNK cs ws head spare c.self.invariant s low in
    let n = c.self.inside.chunks.ok.0 in omega arith

pub get_mut-requires : goal.get_mut-requires
get_mut-requires g c =
    let cs = c.self.inside.chunks.items in let ws = c.self.inside.tags.words.items in let head =
    c.self.inside.head in let spare = c.self.inside.spare in let s = c.args.s.0 in
    let v = live_value c.args.self.now s c.requires in
    let e = ap (λ (xs : List (Option g.row.T.Denot)). get_or xs s None) c.self.view_is ∙ v.1 in
    let low = live_low g.row.CHUNK cs ws head spare c.self.invariant s v.0 e in
    let l = lies g.row.CHUNK cs ws head spare c.self.invariant s c.index_mut-chunk.result.now low
    c.index_mut-chunk.ensures.value in
    (v.0, l.place ∙ live_place g.row.CHUNK cs ws head spare c.self.invariant s v.0 e)

pub invariant_of-self-lent : goal.invariant_of-self-lent
invariant_of-self-lent g c = λ w.
    let cs = c.self.inside.chunks.items in let ws = c.self.inside.tags.words.items in let head =
    c.self.inside.head in let spare = c.self.inside.spare in let s = c.args.s.0 in
    let v = live_value c.args.self.now s c.requires in
    let e = ap (λ (xs : List (Option g.row.T.Denot)). get_or xs s None) c.self.view_is ∙ v.1 in
    let low = live_low g.row.CHUNK cs ws head spare c.self.invariant s v.0 e in
    let l = lies g.row.CHUNK cs ws head spare c.self.invariant s c.index_mut-chunk.result.now low
    c.index_mut-chunk.ensures.value in
    let d = with_value c.index_mut-chunk.result.now (s % g.row.CHUNK) w in
    let at = live_place g.row.CHUNK cs ws head spare c.self.invariant s v.0 e in
    holds_on g.row.CHUNK cs ws head spare c.self.invariant s d (Value w) ws head spare 1
    (written g.row.CHUNK cs ws head spare c.self.invariant s c.index_mut-chunk.result.now d (Value w) l refl) low
    (tag_kept g.row.CHUNK cs ws head spare c.self.invariant s v.0 low at) refl refl
    (free_kept (all_places cs) head spare s v.0 w c.self.invariant.free at)

pub returns : goal.returns
returns g c =
    let cs = c.self.inside.chunks.items in let ws = c.self.inside.tags.words.items in let head =
    c.self.inside.head in let spare = c.self.inside.spare in let s = c.args.s.0 in
    let v = live_value c.args.self.now s c.requires in
    let e = ap (λ (xs : List (Option g.row.T.Denot)). get_or xs s None) c.self.view_is ∙ v.1 in
    let low = live_low g.row.CHUNK cs ws head spare c.self.invariant s v.0 e in
    let l = lies g.row.CHUNK cs ws head spare c.self.invariant s c.index_mut-chunk.result.now low
    c.index_mut-chunk.ensures.value in (
      (
        refl,
        λ w. (written g.row.CHUNK cs ws head spare c.self.invariant s c.index_mut-chunk.result.now
            (with_value c.index_mut-chunk.result.now (s % g.row.CHUNK) w) (Value w) l refl).slots
            ∙ ap (λ (xs : List (Option g.row.T.Denot)). slice_set xs s (Some w)) c.self.view_is,
      ),
      record {
        writes_back = tt;
        value = v.1 ∙ ap value_of (sym
            (live_place g.row.CHUNK cs ws head spare c.self.invariant s v.0 e) ∙ sym l.place ∙ c.get_mut.ensures.value);
      },
    )
