use Rattle.std.proofs.Common.{◌+◌, get_or, slice_set, Option, None, List, refl, sym, ap, ◌∙◌, arith}
use Rattle.raw_pool.specs.Place.{Link}
use Rattle.raw_pool.specs.Slots.{spare_count}
use Rattle.raw_pool.specs.FreeList.{value_of}
use Rattle.raw_pool.specs.Inside.{all_places, slots_of}
use Rattle.raw_pool.proofs.Vacancy.{live_value, free_vacated, spare_more, spare_le, length-values}
use Rattle.raw_pool.proofs.Holding.{in_chunk, lies, live_low, live_place, written, holds_on}
use Rattle.raw_pool.proofs.pool.Pool.take.Goals as goal

pub index_mut-chunk-requires : goal.index_mut-chunk-requires
index_mut-chunk-requires g c =
    let cs = c.self.inside.chunks.items in let ws = c.self.inside.tags.words.items in let head =
    c.self.inside.head in let spare = c.self.inside.spare in let s = c.args.s.0 in
    let v = live_value c.args.self.now s c.requires in
    let e = ap (λ (xs : List (Option g.row.T.Denot)). get_or xs s None) c.self.view_is ∙ v.1 in
    let low = live_low g.row.CHUNK cs ws head spare c.self.invariant s v.0 e in
    let b = in_chunk g.row.CHUNK cs ws head spare c.self.invariant s low in
    let n = c.self.inside.chunks.ok.0 in omega arith

pub vacate-value-requires : goal.vacate-value-requires
vacate-value-requires g c =
    let cs = c.self.inside.chunks.items in let ws = c.self.inside.tags.words.items in let head =
    c.self.inside.head in let spare = c.self.inside.spare in let s = c.args.s.0 in
    let v = live_value c.args.self.now s c.requires in
    let e = ap (λ (xs : List (Option g.row.T.Denot)). get_or xs s None) c.self.view_is ∙ v.1 in
    let low = live_low g.row.CHUNK cs ws head spare c.self.invariant s v.0 e in
    let l = lies g.row.CHUNK cs ws head spare c.self.invariant s c.index_mut-chunk.result.now low
    c.index_mut-chunk.ensures.value in
    (v.0, l.place ∙ live_place g.row.CHUNK cs ws head spare c.self.invariant s v.0 e)

pub clear-requires : goal.clear-requires
clear-requires g c =
    let cs = c.self.inside.chunks.items in let ws = c.self.inside.tags.words.items in let head =
    c.self.inside.head in let spare = c.self.inside.spare in let s = c.args.s.0 in
    let v = live_value c.args.self.now s c.requires in
    let e = ap (λ (xs : List (Option g.row.T.Denot)). get_or xs s None) c.self.view_is ∙ v.1 in
    let low = live_low g.row.CHUNK cs ws head spare c.self.invariant s v.0 e in
    let r = c.self.invariant.room in omega arith

pub overflow_add-self : goal.overflow_add-self
overflow_add-self g c =
    let cs = c.self.inside.chunks.items in let ws = c.self.inside.tags.words.items in let head =
    c.self.inside.head in let spare = c.self.inside.spare in
    let a = c.self.invariant.free.all in let m = spare_le (slots_of cs) in let n =
    length-values (all_places cs) in let t = c.self.invariant.small in
    omega arith

pub invariant_of-self : goal.invariant_of-self
invariant_of-self g c =
    let cs = c.self.inside.chunks.items in let ws = c.self.inside.tags.words.items in let head =
    c.self.inside.head in let spare = c.self.inside.spare in let s = c.args.s.0 in
    let v = live_value c.args.self.now s c.requires in
    let e = ap (λ (xs : List (Option g.row.T.Denot)). get_or xs s None) c.self.view_is ∙ v.1 in
    let low = live_low g.row.CHUNK cs ws head spare c.self.invariant s v.0 e in
    let l = lies g.row.CHUNK cs ws head spare c.self.invariant s c.index_mut-chunk.result.now low
    c.index_mut-chunk.ensures.value in
    let w = written g.row.CHUNK cs ws head spare c.self.invariant s c.index_mut-chunk.result.now c.vacate-value.new.self
    (Link head) l c.vacate-value.ensures.places in
    let free = free_vacated (all_places cs) head spare s v.0 c.self.invariant.free
    (live_place g.row.CHUNK cs ws head spare c.self.invariant s v.0 e) in
    holds_on g.row.CHUNK cs ws head spare c.self.invariant s c.vacate-value.new.self (Link head)
    c.clear.new.self.words.items s (spare + 1) 0 w low c.clear.ensures.tags c.clear.ensures.len refl free

pub returns-clause-value : goal.returns-clause-value
returns-clause-value g c =
    let cs = c.self.inside.chunks.items in let ws = c.self.inside.tags.words.items in let head =
    c.self.inside.head in let spare = c.self.inside.spare in let s = c.args.s.0 in
    let v = live_value c.args.self.now s c.requires in
    let e = ap (λ (xs : List (Option g.row.T.Denot)). get_or xs s None) c.self.view_is ∙ v.1 in
    let low = live_low g.row.CHUNK cs ws head spare c.self.invariant s v.0 e in
    let l = lies g.row.CHUNK cs ws head spare c.self.invariant s c.index_mut-chunk.result.now low
    c.index_mut-chunk.ensures.value in
    v.1 ∙ ap value_of (sym (live_place g.row.CHUNK cs ws head spare c.self.invariant s v.0 e) ∙ sym l.place
    ∙ c.vacate-value.ensures.value)

pub returns-clause-loses : goal.returns-clause-loses
returns-clause-loses g c =
    let cs = c.self.inside.chunks.items in let ws = c.self.inside.tags.words.items in let head =
    c.self.inside.head in let spare = c.self.inside.spare in let s = c.args.s.0 in
    let v = live_value c.args.self.now s c.requires in
    let e = ap (λ (xs : List (Option g.row.T.Denot)). get_or xs s None) c.self.view_is ∙ v.1 in
    let low = live_low g.row.CHUNK cs ws head spare c.self.invariant s v.0 e in
    let l = lies g.row.CHUNK cs ws head spare c.self.invariant s c.index_mut-chunk.result.now low
    c.index_mut-chunk.ensures.value in
    (written g.row.CHUNK cs ws head spare c.self.invariant s c.index_mut-chunk.result.now c.vacate-value.new.self
    (Link head) l c.vacate-value.ensures.places).slots
    ∙ ap (λ (xs : List (Option g.row.T.Denot)). slice_set xs s None) c.self.view_is

pub returns-clause-spare : goal.returns-clause-spare
returns-clause-spare g c = let v = live_value c.args.self.now c.args.s.0 c.requires in ap spare_count
    (returns-clause-loses g c) ∙ spare_more c.args.self.now c.args.s.0 v.0 v.1
