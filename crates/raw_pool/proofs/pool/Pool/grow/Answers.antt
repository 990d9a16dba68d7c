use Rattle.std.proofs.Common.{◌≡◌, ℕ, ◌+◌, ◌*◌, ◌++◌, [], ◌∷◌, length, replicate, Option, None, List, sym, ap, ◌∙◌, subst, arith}
use Rattle.std.proofs.lemmas.List.{length-map}
use Rattle.raw_pool.specs.Inside.{places_of, rows, all_places, slots_of, PoolHolds}
use Rattle.raw_pool.specs.declared.chunk.Chunk.{Chunk}
use Rattle.raw_pool.proofs.Rows.{length-joined}
use Rattle.raw_pool.proofs.Vacancy.{length-values, spare_le}
use Rattle.raw_pool.proofs.Growing.{grown_slots, grown_holds}
use Rattle.raw_pool.proofs.pool.Pool.grow.Goals as goal

pub overflow_mul-start : goal.overflow_mul-start
overflow_mul-start g c =
    let cs = c.self.inside.chunks.items in let ws = c.self.inside.tags.words.items in let head =
    c.self.inside.head in let spare = c.self.inside.spare in let n = g.row.CHUNK in
    let all = length-values (all_places cs) in let seen : length (slots_of cs) ≡ length c.args.self.now =
    ap length c.self.view_is in let room = c.requires.room in
    let start : c.len-start.result * n ≡ length (all_places cs) =
    ap (λ (k : ℕ). k * n) (c.len-start.ensures ∙ c.self.inside.chunks.ok.0 ∙ sym (length-map cs places_of))
    ∙ sym (length-joined n (rows cs) c.self.invariant.even) in
    record { fits = omega arith }

pub overflow_add-start : goal.overflow_add-start
overflow_add-start g c =
    let cs = c.self.inside.chunks.items in let ws = c.self.inside.tags.words.items in let head =
    c.self.inside.head in let spare = c.self.inside.spare in let n = g.row.CHUNK in
    let all = length-values (all_places cs) in let seen : length (slots_of cs) ≡ length c.args.self.now =
    ap length c.self.view_is in let room = c.requires.room in
    let start : c.len-start.result * n ≡ length (all_places cs) =
    ap (λ (k : ℕ). k * n) (c.len-start.ensures ∙ c.self.inside.chunks.ok.0 ∙ sym (length-map cs places_of))
    ∙ sym (length-joined n (rows cs) c.self.invariant.even) in
    record { fits = omega arith }

pub cover-requires : goal.cover-requires
cover-requires g c =
    let cs = c.self.inside.chunks.items in let ws = c.self.inside.tags.words.items in let head =
    c.self.inside.head in let spare = c.self.inside.spare in let n = g.row.CHUNK in
    let all = length-values (all_places cs) in let seen : length (slots_of cs) ≡ length c.args.self.now =
    ap length c.self.view_is in let room = c.requires.room in
    let start : c.len-start.result * n ≡ length (all_places cs) =
    ap (λ (k : ℕ). k * n) (c.len-start.ensures ∙ c.self.inside.chunks.ok.0 ∙ sym (length-map cs places_of))
    ∙ sym (length-joined n (rows cs) c.self.invariant.even) in
    omega arith

pub vacant-requires-clause-room : goal.vacant-requires-clause-room
vacant-requires-clause-room g c =
    let cs = c.self.inside.chunks.items in let ws = c.self.inside.tags.words.items in let head =
    c.self.inside.head in let spare = c.self.inside.spare in let n = g.row.CHUNK in
    let all = length-values (all_places cs) in let seen : length (slots_of cs) ≡ length c.args.self.now =
    ap length c.self.view_is in let room = c.requires.room in
    let start : c.len-start.result * n ≡ length (all_places cs) =
    ap (λ (k : ℕ). k * n) (c.len-start.ensures ∙ c.self.inside.chunks.ok.0 ∙ sym (length-map cs places_of))
    ∙ sym (length-joined n (rows cs) c.self.invariant.even) in
    omega arith

pub overflow_add-self : goal.overflow_add-self
overflow_add-self g c =
    let cs = c.self.inside.chunks.items in let ws = c.self.inside.tags.words.items in let head =
    c.self.inside.head in let spare = c.self.inside.spare in let n = g.row.CHUNK in
    let all = length-values (all_places cs) in let seen : length (slots_of cs) ≡ length c.args.self.now =
    ap length c.self.view_is in let room = c.requires.room in
    let start : c.len-start.result * n ≡ length (all_places cs) =
    ap (λ (k : ℕ). k * n) (c.len-start.ensures ∙ c.self.inside.chunks.ok.0 ∙ sym (length-map cs places_of))
    ∙ sym (length-joined n (rows cs) c.self.invariant.even) in
    let a = c.self.invariant.free.all in let le = spare_le (slots_of cs) in
    record { fits = omega arith }

pub invariant_of-self-2 : goal.invariant_of-self-2
invariant_of-self-2 g c =
    let cs = c.self.inside.chunks.items in let ws = c.self.inside.tags.words.items in let head =
    c.self.inside.head in let spare = c.self.inside.spare in let n = g.row.CHUNK in
    let all = length-values (all_places cs) in let seen : length (slots_of cs) ≡ length c.args.self.now =
    ap length c.self.view_is in let room = c.requires.room in
    let start : c.len-start.result * n ≡ length (all_places cs) =
    ap (λ (k : ℕ). k * n) (c.len-start.ensures ∙ c.self.inside.chunks.ok.0 ∙ sym (length-map cs places_of))
    ∙ sym (length-joined n (rows cs) c.self.invariant.even) in
    let items : c.push_reserved.new.self.items ≡ cs ++ c.in_ok-chunk.chunk ∷ [] =
    c.push_reserved.ensures.items ∙ ap (λ (xs : List (Chunk g.row.T.Denot)). xs ++ c.in_ok-chunk.chunk ∷ [])
    c.in_ok-reserve.ensures.items in
    let holds = grown_holds g.row.CHUNK cs ws c.cover.new.self.words.items head spare (c.len-start.result * n)
    c.in_ok-chunk.chunk c.self.invariant c.in_ok-chunk.ensures start (omega arith) c.in_ok-cover.ensures.same
    (let r = c.in_ok-cover.ensures.ok in omega arith) in
    let P = λ (xs : List (Chunk g.row.T.Denot)). PoolHolds n xs c.cover.new.self.words.items (c.len-start.result * n)
    (spare + n) in
    subst P (sym items) holds

pub returns-clause-ok : goal.returns-clause-ok
returns-clause-ok g c =
    let cs = c.self.inside.chunks.items in let ws = c.self.inside.tags.words.items in let head =
    c.self.inside.head in let spare = c.self.inside.spare in let n = g.row.CHUNK in
    let all = length-values (all_places cs) in let seen : length (slots_of cs) ≡ length c.args.self.now =
    ap length c.self.view_is in let room = c.requires.room in
    let start : c.len-start.result * n ≡ length (all_places cs) =
    ap (λ (k : ℕ). k * n) (c.len-start.ensures ∙ c.self.inside.chunks.ok.0 ∙ sym (length-map cs places_of))
    ∙ sym (length-joined n (rows cs) c.self.invariant.even) in
    let items : c.push_reserved.new.self.items ≡ cs ++ c.in_ok-chunk.chunk ∷ [] =
    c.push_reserved.ensures.items ∙ ap (λ (xs : List (Chunk g.row.T.Denot)). xs ++ c.in_ok-chunk.chunk ∷ [])
    c.in_ok-reserve.ensures.items in
    ap (λ (xs : List (Chunk g.row.T.Denot)). slots_of xs) items
    ∙ grown_slots g.row.CHUNK cs ws c.cover.new.self.words.items head spare (c.len-start.result * n)
    c.in_ok-chunk.chunk c.self.invariant c.in_ok-chunk.ensures start
    ∙ ap (λ (xs : List (Option g.row.T.Denot)). xs ++ replicate n None) c.self.view_is
