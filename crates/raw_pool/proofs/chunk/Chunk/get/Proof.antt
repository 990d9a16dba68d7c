-- `get` shows the value in a place.
use Rattle.raw_pool.proofs.Steps.{refl, ap, ℕ, ◌+◌, ◌*◌, List, [], ◌∷◌, ◌++◌, SProp, id⊢, never, ftrue, flft, Fn, w64, inst_fn, Val, vptr, vint, Env, WpFn, ◌⊑◌, fact, tables, ‵, raw, ◌⊛◌, prop, at_ret, ◌$◌, ◌∵◌, !, qed, move, keep, drop, use1, split, join, regoal, fsplit, fjoin, fpick, feq_i, suffices, done, bin, look, stop, fld, load, addr, size_lit, of_opd, first, blocks, exec, returns, enter, alloc_all, pass_all, free_all, look_at, get, through, sets, sets_last, env, yes, owns, usize, RefOf, hidden_shr, hide, Ptr, RawPtr, in_a_block, plain, types_at, nothing, heard, Stays, stay_dropped, walk_of, ends_at, says, Goes-dropped, after, El, R, args, el_x, proved_at, Value, IsFilled, place_lends, chunk_lends}
use Rattle.raw_pool.proofs.Memory.{bytes, place_seen}
use Rattle.raw_pool.proofs.Opens.{Row, el_chunk, Opened, chunk_val, offset_fits, size_fits, filled_below, chunk_seen}
use Rattle.core.proofs.slots.Lent.{pointer_in, pointer_out}
use Rattle.raw_pool.specs.contracts.chunk.Chunk.get as f
use Rattle.raw_pool.specs.contracts.chunk.Chunk.get.Key.{name as #self}
use Rattle.raw_pool.proofs.chunk.Chunk.get.Statement.{statement}
use Rattle.raw_pool.proofs.chunk.Chunk.get.Code as code

pub get_spec : {M : Type 1} → statement M
get_spec 𝓤 𝓛 𝓜 𝓡 wired T L =
    let E : El = record { row = T; laws = L } in
    let H = 𝓛.H in let C = (tables 𝓤 H 𝓜 𝓡 𝓡.env).C in let Λ = (tables 𝓤 H 𝓜 𝓡 𝓡.env).Λ in
    let T₀ = f.ended T in let c = f.clauses T 𝓛 𝓜.mem 𝓡.returns in
    let fn : Fn = inst_fn (args E) code.function in
    let stays : Stays T₀.signature.params T₀.kept = (
      stay_dropped (RefOf (0 ∷ []) tt (plain (λ _. Row E)) (λ _. tt)) yes,
      (stay_dropped (plain (λ _. usize)) yes, tt),
    ) in
    proved_at 𝓛 T₀ stays c 𝓜 𝓡 (
      Goes-dropped 𝓛 2 (RefOf (0 ∷ []) tt (plain (λ _. Row E)) (λ _. tt)) yes
          (λ κs x f. refl),
      (Goes-dropped 𝓛 2 (plain (λ _. usize)) yes (λ κs x f. refl), tt),
    )
    (#self (args E)) fn (code.unfolded 𝓤 H 𝓜 𝓡 wired (T, tt)) (λ z are.
    let Post : Val → SProp 𝓤 = (walk_of 𝓛 T₀ stays c).post z in
    let κ = z.0.0.0 in let κ₁ = z.0.0.1.0 in let q = z.0.1.0 in let q₁ = z.0.1.1.0 in
    let rb : ℕ = z.0.3.0.ref_ptr.0 in let ro : ℕ = z.0.3.0.ref_ptr.1 in let d : el_chunk E = z.0.3.0.now in let i : ℕ =
    z.0.3.1.0 in
    let fits = are.1.0.1 in
    let Asked : Type 0 = IsFilled d.places i in
    qed 𝓛 (((‵ (flft κ q) ⊛ ‵ (flft κ₁ q₁) ⊛ ‵ ftrue) ⊛ ‵ (owns (types_at T₀.signature.params z.0.0) z.0.3 z.0.4))
    ∷ (raw (fact 𝓤 (κ₁ ⊑ T.lives)) ⊛ raw (fact 𝓤 Asked)) ∷ []) ∵
    move ! (1 ∷ []) $ split ! $ drop ! $ heard ! Asked (λ asked.
    let x : el_x E = asked.0 in let within = filled_below d.places i x asked.1 in
    split ! $ split ! $ move ! (2 ∷ []) $ fsplit ! $ fsplit ! $ drop ! $
    use1 𝓛 (‵ (hidden_shr RawPtr κ d.start rb (ro + 0)) ⊛ ‵ (chunk_lends (R E) d.start d.places κ))
    (chunk_seen E 𝓛 κ d rb ro) $ split ! $ move ! (1 ∷ []) $
    in_a_block ! d.start (λ p. chunk_lends (R E) p d.places κ) (id⊢ 𝓤 (never 𝓤))
    (λ b o e. fsplit ! $ fpick ! (λ ok. drop ! $
    let h : Opened E d (chunk_val d.start ∷ []) b o =
    record { at = e; word = ap (λ (p : Ptr). chunk_val p ∷ []) e; wide = ok.0; small = ok.1 } in let vs =
    chunk_val d.start ∷ [] in
    let far = offset_fits E d vs b o i h within in let at = i * bytes E + o in
    use1 𝓛 (‵ (place_lends (R E) b at (Value x) κ)) (place_seen E 𝓛 b κ d.places i o (Value x) within asked.1) $ hide !
    $
    -- [a `&` to the value; a `&` to the pointer; the rest; the token; the other token]
    keep ! (1 ∷ 3 ∷ 4 ∷ 0 ∷ []) $
    regoal ! (λ (us : List Val). prop (WpFn 𝓤 H C Λ fn us Post)) (λ j. are.0.0 j ++ (are.1.0.0 j ++ [])) refl $
    enter ! C Λ fn (vptr rb ro ∷ vint w64 i ∷ []) Post $ alloc_all !
    (λ l. pass_all ! refl ((tt, tt), ((tt, record { fits = fits }), tt)) $
    let En : Env 𝓤 H = env fn.locals l in
    first ! $ blocks ! $ pointer_in ! tt d.start b o e rb (ro + 0) (λ q'.
    sets ! (of_opd ! (load ! (through ! refl (fld ! refl (stop !))) (look ! 0 refl))) refl (tt, tt) $
    pointer_out ! tt d.start b o e rb (ro + 0) $
    sets ! (bin ! (get ! refl) (size_lit ! (record { fits = size_fits E d vs b o i h within })) (record { fits = far }))
    refl (tt, record { fits = far }) $
    sets ! (bin ! (get ! refl) (get ! refl) tt) refl (tt, tt) $
    sets_last ! (addr ! (through ! refl (stop !))) refl (tt, tt) $
    exec ! C Λ En (after 1 fn.body) (at_ret En Post) $ sets ! (of_opd ! (get ! refl)) refl (tt, tt) $
    returns ! (look_at ! 0 refl) $ free_all ! refl $
    -- [the token; the other token; the `&` to the value]
    suffices ! _ (ends_at 𝓛 T₀ stays c z (vptr b at) (record { ref_ptr = (b, at); now = x }) (tt, (tt, tt))
    (tt, (tt, tt))) $ says ! asked.1 $
    join ! $ move ! (1 ∷ []) $ feq_i ! (List Val) (vptr b at ∷ []) (vptr b at ∷ []) refl $ fjoin ! $
    nothing ! $ nothing ! $ fjoin ! $ nothing ! $ fjoin ! $ keep ! (2 ∷ 0 ∷ 1 ∷ []) $ done !))))))
