use Rattle.std.proofs.Common.{◌-◌, ◌<◌, ◌≤◌, length, refl, sym, ap, ◌∙◌, arith}
use Rattle.raw_pool.specs.Place.{Value}
use Rattle.raw_pool.specs.Slots.{spare_count}
use Rattle.raw_pool.specs.FreeList.{value_of}
use Rattle.raw_pool.specs.Inside.{all_places, slots_of}
use Rattle.raw_pool.proofs.Vacancy.{head_of, free_filled, value_at, length-values}
use Rattle.raw_pool.proofs.Holding.{in_chunk, lies, head_low, written, holds_on}
use Rattle.raw_pool.proofs.chunks.fill_first.Goals as goal

pub index_mut-chunk-requires : goal.index_mut-chunk-requires
index_mut-chunk-requires g c =
    let cs = c.args.chunks.now.items in let ws = c.args.tags.now.words.items in let head = c.args.head in let spare =
    c.args.spare in let len = c.args.len in
    let pos : 1 ≤ spare_count (slots_of cs) = omega (arith, c.requires.holds.free.all) in
    let b = in_chunk len cs ws head spare c.requires.holds head (head_low len cs ws head spare c.requires.holds pos) in
    let l = c.args.chunks.now.ok.0 in omega arith

pub fill-next-requires : goal.fill-next-requires
fill-next-requires g c =
    let cs = c.args.chunks.now.items in let ws = c.args.tags.now.words.items in let head = c.args.head in let spare =
    c.args.spare in let len = c.args.len in
    let pos : 1 ≤ spare_count (slots_of cs) = omega (arith, c.requires.holds.free.all) in
    let low = head_low len cs ws head spare c.requires.holds pos in
    let l = lies len cs ws head spare c.requires.holds head c.index_mut-chunk.result.now low
    c.index_mut-chunk.ensures.value in
    let f = head_of (all_places cs) head spare c.requires.holds.free pos in
    (f.next, l.place ∙ f.at)

pub set-requires : goal.set-requires
set-requires g c =
    let cs = c.args.chunks.now.items in let ws = c.args.tags.now.words.items in let head = c.args.head in let spare =
    c.args.spare in let len = c.args.len in
    let pos : 1 ≤ spare_count (slots_of cs) = omega (arith, c.requires.holds.free.all) in
    let low = head_low len cs ws head spare c.requires.holds pos in let r = c.requires.holds.room in omega arith

pub returns-clause-holds : goal.returns-clause-holds
returns-clause-holds g c =
    let cs = c.args.chunks.now.items in let ws = c.args.tags.now.words.items in let head = c.args.head in let spare =
    c.args.spare in let len = c.args.len in
    let pos : 1 ≤ spare_count (slots_of cs) = omega (arith, c.requires.holds.free.all) in
    let low = head_low len cs ws head spare c.requires.holds pos in
    let l = lies len cs ws head spare c.requires.holds head c.index_mut-chunk.result.now low
    c.index_mut-chunk.ensures.value in
    let v = Value c.args.value in
    let w = written len cs ws head spare c.requires.holds head c.index_mut-chunk.result.now c.fill-next.new.self v l
    c.fill-next.ensures.places in
    let free = free_filled (all_places cs) head spare c.fill-next.result c.args.value c.requires.holds.free pos
    (sym l.place ∙ c.fill-next.ensures.link) in
    holds_on len cs ws head spare c.requires.holds head c.fill-next.new.self v c.set.new.self.words.items
    c.fill-next.result (spare - 1) 1 w low c.set.ensures.tags c.set.ensures.len refl free

pub returns-clause-vacant : goal.returns-clause-vacant
returns-clause-vacant g c =
    let cs = c.args.chunks.now.items in let ws = c.args.tags.now.words.items in let head = c.args.head in let spare =
    c.args.spare in let len = c.args.len in
    let pos : 1 ≤ spare_count (slots_of cs) = omega (arith, c.requires.holds.free.all) in
    let low = head_low len cs ws head spare c.requires.holds pos in
    let f = head_of (all_places cs) head spare c.requires.holds.free pos in
    let below : head < length (slots_of cs) = (let l = length-values (all_places cs) in omega arith) in
    (below, value_at (all_places cs) head ∙ ap value_of f.at)

pub returns-clause-gains : goal.returns-clause-gains
returns-clause-gains g c =
    let cs = c.args.chunks.now.items in let ws = c.args.tags.now.words.items in let head = c.args.head in let spare =
    c.args.spare in let len = c.args.len in
    let pos : 1 ≤ spare_count (slots_of cs) = omega (arith, c.requires.holds.free.all) in
    let low = head_low len cs ws head spare c.requires.holds pos in
    let l = lies len cs ws head spare c.requires.holds head c.index_mut-chunk.result.now low
    c.index_mut-chunk.ensures.value in
    (written len cs ws head spare c.requires.holds head c.index_mut-chunk.result.now c.fill-next.new.self
    (Value c.args.value) l c.fill-next.ensures.places).slots
