-- `get_mut` lends the value in a place, and the chunk follows it.
use Rattle.raw_pool.proofs.Steps.{refl, sym, ℕ, ◌+◌, ◌*◌, ◌<◌, List, [], ◌∷◌, ◌++◌, length, set, length-set, full_share, SProp, ent, sep, GName, Fml, ftrue, fsep, flft, Fn, named, w64, inst_fn, Val, vptr, vint, Env, WpFn, sem, ◌⊑◌, fact, tables, ‵, raw, ◌⊛◌, some, later, prop, at_ret, ◌$◌, ◌∵◌, !, qed, move, keep, drop, use1, use2, split, split3, join, group, pick, await, regoal, rewrite, fsplit, fsplit3, fjoin, fpack, suffices, frame, done, whole, sub, look_in, bin, stop, fld, load, addr, size_lit, of_opd, first, blocks, exec, returns, enter, alloc_all, pass_all, free_all, look_at, get, through, sets, sets_last, env, yes, no, owns, usize, cell_at, mem, part_of, block_ptr, MutRef, plain, types_at, mut_ref_to, nothing, heard, Stays, stay_dropped, walk_of, ends_at, says, Goes-dropped, Goes-spent_ref, after, El, R, args, el_x, proved_at, Value, IsFilled, place_owns, row_owns, token}
use Rattle.raw_pool.proofs.Memory.{bytes, besides, place_out, place_in}
use Rattle.raw_pool.proofs.Opens.{Row, Start, el_chunk, Opened, chunk_val, offset_fits, size_fits, chunk_made, chunk_opens, filled_below}
use seplogic.Ra.Ura.{Ura}
use types.Logic.{Logic}
use denote.Follow.{follows, lends_Part}
use Rattle.raw_pool.specs.Lends.{with_value}
use Rattle.raw_pool.specs.contracts.chunk.Chunk.get_mut as f
use Rattle.raw_pool.specs.contracts.chunk.Chunk.get_mut.Key.{name as #self}
use Rattle.raw_pool.proofs.chunk.Chunk.get_mut.Statement.{statement}
use Rattle.raw_pool.proofs.chunk.Chunk.get_mut.Code as code

-- what a `&mut` to one value leaves of the chunk, and how they make the chunk again
module _ (E : El) {M : Type 1} {𝓤 : Ura M} (𝓛 : Logic 𝓤) (d : el_chunk E) (vs : List Val) (b o rb ro i : ℕ)
    (h : Opened E d vs b o) (within : i < length d.places) where
  abbrev rest : Fml
  rest = fsep (besides E b o d.places i) (fsep (token (R E) (length d.places) (block_ptr b o))
      (fsep ((Start E).own_val (d.start, tt) vs) (cell_at full_share (Row E).mir (chunk_val (block_ptr b o) ∷ []) rb
      ro)))

  way : (w : el_x E) → ent 𝓤 (sep 𝓤 (sem 𝓛 ((mem (R E)).own_at w b (i * bytes E + o))) (sem 𝓛 rest))
      (sem 𝓛 ((mem (Row E)).own_at (with_value d i w) rb ro))
  unfolding part_of
  way w =
      let ps = set d.places i (Value w) in
      qed 𝓛 (‵ (place_owns (R E) b (i * bytes E + o) (Value w)) ∷ ‵ rest ∷ []) ∵ move ! (1 ∷ []) $ fsplit ! $ move !
      (1 ∷ []) $ fsplit ! $ move ! (1 ∷ []) $ fsplit ! $
      -- [the pointer; the chunk's cell; the right; the other places; the value]
      move ! (4 ∷ 3 ∷ []) $ use2 𝓛 (‵ (row_owns (R E) b o ps)) (place_in E 𝓛 b d.places i o (Value w) within) $ move !
      (0 ∷ 3 ∷ 1 ∷ []) $
      chunk_made E ! d vs b o h ps (length-set d.places i (Value w)) $
      rewrite ! 1 (λ (us : List Val). ‵ (cell_at full_share (Row E).mir us rb ro)) (sym h.word) refl $ move !
      (1 ∷ 0 ∷ []) $ fjoin ! $
      fpack ! (List Val) (λ us. fsep (cell_at full_share (Row E).mir us rb ro) ((Row E).own_val (with_value d i w) us))
      vs $ done !

pub get_mut_spec : {M : Type 1} → statement M
get_mut_spec 𝓤 𝓛 𝓜 𝓡 wired T L =
    let E : El = record { row = T; laws = L } in
    let H = 𝓛.H in let C = (tables 𝓤 H 𝓜 𝓡 𝓡.env).C in let Λ = (tables 𝓤 H 𝓜 𝓡 𝓡.env).Λ in
    let T₀ = f.ended T in let c = f.clauses T 𝓛 𝓜.mem 𝓡.returns in
    let fn : Fn = inst_fn (args E) code.function in
    let stays : Stays T₀.signature.params T₀.kept =
    (stay_dropped (mut_ref_to (0 ∷ []) tt (plain (λ _. Row E))) no, (stay_dropped (plain (λ _. usize)) yes, tt)) in
    proved_at 𝓛 T₀ stays c 𝓜 𝓡 (
      Goes-spent_ref 𝓛 2 (0 ∷ []) tt (plain (λ _. Row E)),
      (Goes-dropped 𝓛 2 (plain (λ _. usize)) yes (λ κs x f. refl), tt),
    )
    (#self (args E)) fn (code.unfolded 𝓤 H 𝓜 𝓡 wired (T, tt)) (λ z are.
    let Post : Val → SProp 𝓤 = (walk_of 𝓛 T₀ stays c).post z in
    let κ = z.0.0.0 in let κ₁ = z.0.0.1.0 in let q = z.0.1.0 in let q₁ = z.0.1.1.0 in
    let rb : ℕ = z.0.3.0.ref_ptr.0 in let ro : ℕ = z.0.3.0.ref_ptr.1 in let d : el_chunk E = z.0.3.0.now in let i : ℕ =
    z.0.3.1.0 in
    let fits = are.1.0.1 in
    let Asked : Type 0 = IsFilled d.places i in
    qed 𝓛 (((‵ (flft κ q) ⊛ ‵ (flft κ₁ q₁) ⊛ ‵ ftrue) ⊛ ‵ (owns (types_at T₀.signature.params z.0.0) z.0.3 z.0.4))
    ∷ (raw (fact 𝓤 (κ₁ ⊑ T.lives)) ⊛ raw (fact 𝓤 Asked)) ∷ []) ∵
    move ! (1 ∷ []) $ split ! $ drop ! $ heard ! Asked (λ asked.
    let x : el_x E = asked.0 in let within = filled_below d.places i x asked.1 in let γ : GName = z.0.3.0.ghost_name in
    split ! $ split ! $ move ! (2 ∷ []) $ fsplit ! $ fsplit3 ! $ keep ! (1 ∷ 2 ∷ 4 ∷ 5 ∷ []) $
    regoal ! (λ (us : List Val). prop (WpFn 𝓤 H C Λ fn us Post)) (λ j. are.0.0 j ++ (are.1.0.0 j ++ [])) refl $
    enter ! C Λ fn (vptr rb ro ∷ vint w64 i ∷ []) Post $ alloc_all !
    (λ l. pass_all ! refl ((tt, tt), ((tt, record { fits = fits }), tt)) $
    let En : Env 𝓤 H = env fn.locals l in
    chunk_opens E ! tt d rb ro (λ vs b o h.
    let far = offset_fits E d vs b o i h within in let at = i * bytes E + o in
    first ! $ blocks ! $
    sets ! (of_opd ! (load ! (through ! refl (fld ! refl (stop !))) (look_in ! 3 (sub ! 0 refl (whole !))))) refl
    (tt, tt) $
    sets ! (bin ! (get ! refl) (size_lit ! (record { fits = size_fits E d vs b o i h within })) (record { fits = far }))
    refl (tt, record { fits = far }) $
    sets ! (bin ! (get ! refl) (get ! refl) tt) refl (tt, tt) $
    sets_last ! (addr ! (through ! refl (stop !))) refl (tt, tt) $
    exec ! C Λ En (after 1 fn.body) (at_ret En Post) $ sets ! (of_opd ! (get ! refl)) refl (tt, tt) $
    use1 𝓛 (‵ (place_owns (R E) b at (Value x)) ⊛ ‵ (besides E b o d.places i))
    (place_out E 𝓛 b d.places i o (Value x) within asked.1) $ split ! $
    -- [the value; the other places; the right; the pointer; the chunk's cell; the open borrow; the other token]
    move ! (3 ∷ 4 ∷ []) $ fjoin ! $ move ! (3 ∷ 0 ∷ []) $ fjoin ! $ move ! (2 ∷ 0 ∷ []) $ fjoin ! $ move !
    (2 ∷ 3 ∷ 4 ∷ 1 ∷ 0 ∷ []) $ group ! 5 $
    use1 𝓛 (later (some (λ (δ : GName). ‵ ((MutRef (named 0) κ (R E)).own_val
    (record { ref_ptr = (b, at); ghost_name = δ; now = x }) (vptr b at ∷ [])) ⊛ ‵ (flft κ q) ⊛ ‵
    (follows (Row E) (R E) γ δ (with_value d i)))))
    (lends_Part 𝓛 (Row E) (R E) (with_value d i) (named 0) κ q rb ro b at γ (sem 𝓛 (rest E 𝓛 d vs b o rb ro i h within))
    (way E 𝓛 d vs b o rb ro i h within) ((Row E).coded.code d) ((Row E).coded.code d) x) $
    await ! tt $ pick ! (λ δ. split3 ! $ returns ! (look_at ! 0 refl) $ free_all ! refl $
    -- [the loan; the token; what the chunk ends as; the other token]
    suffices ! _ (ends_at 𝓛 T₀ stays c z (vptr b at) (record { ref_ptr = (b, at); ghost_name = δ; now = x })
    (tt, (tt, tt)) (tt, (tt, tt))) $
    nothing ! $ nothing ! $ fjoin ! $ nothing ! $ fjoin ! $ join ! $ move ! (1 ∷ 3 ∷ []) $ join ! $ join ! $ frame ! $
    says ! asked.1 $ keep ! (0 ∷ []) $ done !)))))
