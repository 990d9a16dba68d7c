-- `deallocate` makes the block of its empty places, and gives it back.
use Rattle.raw_pool.proofs.Steps.{◌≡◌, refl, sym, ap, subst, ◌∙◌, ℕ, ◌*◌, ◌<◌, ◌^◌, arith, List, [], ◌∷◌, ◌++◌, length, replicate, length-replicate, SProp, ftrue, fsep, froom, flft, Fn, w64, ty_array, inst_fn, Val, vptr, vint, vunit, Env, WpFn, align, capped, capped_fits, ◌⊑◌, fact, tables, ‵, raw, ◌⊛◌, later, prop, at_ret, ◌$◌, ◌∵◌, !, qed, move, keep, drop, use1, split, join, group, await, regoal, rewrite, fsplit, fjoin, feq_i, feq_l, suffices, done, whole, sub, bin, and_then, no_more, size_word, align_word, stop, fld, unit_lit, of_opd, first, blocks, exec, returns, enter, is, lands_last, alloc_all, pass_all, free_all, look_at, get, get_in, sets, env, yes, no, owns, usize, unit, RefOf, block_ptr, plain, types_at, nothing, heard, calls_at_last, framed, Stays, stay_dropped, walk_of, ends_at, Goes-dropped, after, Goes-blank, uncapped, block_ty, block_size, block_align, El, R, args, el_x, elτ, proved_at, as_raw, Place, Empty, row_owns, token}
use Rattle.raw_pool.proofs.Memory.{bytes, old_row}
use Rattle.raw_pool.proofs.Opens.{Good, Row, el_chunk, chunk_val, chunk_had}
use mir.Syntax.{ty_unit}
use denote.Steps.{only}
use Rattle.std_heap.specs.contracts.Global as G
use Rattle.std_heap.proofs.GlobalAllocator.deallocate.Met.{met}
use Rattle.raw_pool.proofs.Heap.{Gives, at_gives, gives, has_given}
use Rattle.raw_pool.specs.contracts.chunk.Chunk.deallocate as f
use Rattle.raw_pool.specs.contracts.chunk.Chunk.deallocate.Key.{name as #self}
use Rattle.raw_pool.proofs.chunk.Chunk.deallocate.Statement.{statement}
use Rattle.raw_pool.proofs.chunk.Chunk.deallocate.Code as code

pub deallocate_spec : {M : Type 1} → statement M
deallocate_spec 𝓤 𝓛 𝓜 𝓡 wired T L =
    let E : El = record { row = T; laws = L } in
    let H = 𝓛.H in let C = (tables 𝓤 H 𝓜 𝓡 𝓡.env).C in let Λ = (tables 𝓤 H 𝓜 𝓡 𝓡.env).Λ in
    let T₀ = f.ended T in let c = f.clauses T 𝓛 𝓜.mem 𝓡.returns in
    let fn : Fn = inst_fn (args E) code.function in
    let Handle = RefOf (0 ∷ []) tt (plain (λ _. G.the_row)) (λ _. tt) in
    let stays : Stays T₀.signature.params T₀.kept =
    (stay_dropped (plain (λ _. Row E)) no, (stay_dropped Handle yes, (stay_dropped (plain (λ _. usize)) yes, tt)))
    in
    proved_at 𝓛 T₀ stays c 𝓜 𝓡 (
      Goes-blank 𝓛 2 (plain (λ _. Row E)) no (λ κs x f. tt),
      (
        Goes-dropped 𝓛 2 Handle yes (λ κs x f. refl),
        (Goes-dropped 𝓛 2 (plain (λ _. usize)) yes (λ κs x f. refl), tt),
      ),
    )
    (#self (args E)) fn (code.unfolded 𝓤 H 𝓜 𝓡 wired (T, tt)) (λ z are.
    let Post : Val → SProp 𝓤 = (walk_of 𝓛 T₀ stays c).post z in
    let κ = z.0.0.0 in let κ₁ = z.0.0.1.0 in let q = z.0.1.0 in let q₁ = z.0.1.1.0 in
    let d : el_chunk E = z.0.3.0 in let hb : ℕ = z.0.3.1.0.ref_ptr.0 in let ho : ℕ = z.0.3.1.0.ref_ptr.1 in let heap =
    z.0.3.1.0.now in let n : ℕ = z.0.3.1.1.0 in
    let fits = are.1.1.0.1 in
    let Asked : Type 0 = d.places ≡ replicate n Empty in
    qed 𝓛 (((‵ (flft κ q) ⊛ ‵ (flft κ₁ q₁) ⊛ ‵ ftrue) ⊛ ‵ (owns (types_at T₀.signature.params z.0.0) z.0.3 z.0.4))
    ∷ (raw (fact 𝓤 (κ₁ ⊑ T.lives)) ⊛ raw (fact 𝓤 Asked)) ∷ []) ∵
    move ! (1 ∷ []) $ split ! $ drop ! $ heard ! Asked (λ asked.
    split ! $ split ! $ move ! (2 ∷ []) $ fsplit ! $ move ! (1 ∷ []) $ fsplit ! $ fsplit ! $ drop ! $ move !
    (2 ∷ 0 ∷ 3 ∷ 4 ∷ []) $
    chunk_had E ! d z.0.4.0 (λ b o h. keep ! (0 ∷ 1 ∷ 3 ∷ 4 ∷ 5 ∷ []) $
    let s = bytes E in let all : length d.places ≡ n = ap length asked ∙ length-replicate n Empty in
    let small : n * s < 2 ^ 63 = subst (λ (k : ℕ). k * s < 2 ^ 63) all h.small in let whole_fits : n * s < 2 ^ 64 =
    omega arith in
    let al : ℕ = capped (align (elτ E)) in let τ = block_ty E n in
    regoal ! (λ (us : List Val). prop (WpFn 𝓤 H C Λ fn us Post))
    (λ j. h.word j ++ (are.1.0.0 j ++ (are.1.1.0.0 j ++ []))) refl $
    enter ! C Λ fn (chunk_val (block_ptr b o) ∷ vptr hb ho ∷ vint w64 n ∷ []) Post $ alloc_all !
    (λ l. pass_all ! refl ((tt, (tt, tt)), ((tt, tt), ((tt, record { fits = fits }), tt))) $
    let En : Env 𝓤 H = env fn.locals l in
    let x = at_gives 𝓛 𝓜.mem 𝓡.returns κ q hb ho heap (n * s) al τ b o in
    -- [the places; the right; a `&` to the handle; the token; the other token]
    rewrite ! 0 (λ (ps : List (Place (el_x E))). ‵ (row_owns (R E) b o ps)) asked refl $ use1 𝓛
    (‵ (froom (ty_array (elτ E) n) b o)) (old_row E 𝓛 b n o) $ as_raw ! (ty_array (elτ E) n) b o $
    rewrite ! 1 (λ (k : ℕ). ‵ (token (R E) k (block_ptr b o))) all refl $
    sets ! (of_opd ! (get_in ! (fld ! refl (stop !)) (sub ! 0 refl (whole !)))) refl (tt, tt) $ first ! $ blocks ! $
    sets ! (of_opd ! (get ! refl)) refl (tt, tt) $
    sets ! (is ! (bin ! (get ! refl) (size_word !) (record {
      fits =
          subst (λ (k : ℕ). k < 2 ^ 64) (sym (uncapped n s whole_fits)) whole_fits;
    }))
    (ap (vint w64) (uncapped n s whole_fits))) refl (tt, record { fits = whole_fits }) $
    group ! 4 $ use1 𝓛 (raw ((Gives 𝓛 𝓜.mem 𝓡.returns).pre x))
    (gives 𝓛 𝓜.mem 𝓡.returns κ q hb ho heap (n * s) al τ b o (block_size E n whole_fits) (block_align E n)
    whole_fits (capped_fits (align (elτ E)))) $
    calls_at_last ! (framed 𝓤 H 𝓜 (tables 𝓤 H 𝓜 𝓡 𝓡.env)) (Gives 𝓛 𝓜.mem 𝓡.returns)
    (met 𝓤 𝓛 𝓜 𝓡 (code.calls-std_heap::GlobalAllocator::deallocate 𝓡.env wired)) x
    (and_then ! (get ! refl) (and_then ! (get ! refl) (and_then ! (get ! refl)
    (and_then ! (align_word !) (no_more !))))) (λ v.
    use1 𝓛 (later (‵ (fsep (unit.own_val tt (v ∷ [])) (flft κ q))))
    (has_given 𝓛 𝓜.mem 𝓡.returns κ q hb ho heap (n * s) al τ b o v) $ await ! tt $ fsplit ! $ feq_l ! (λ is_unit.
    lands_last ! refl (subst (λ (w : Val). Good ty_unit w) (sym (ap only is_unit)) (tt, tt)) $ exec ! C Λ En
    (after 2 fn.body) (at_ret En Post) $
    sets ! (of_opd ! (unit_lit !)) refl (tt, tt) $ returns ! (look_at ! 0 refl) $ free_all ! refl $
    -- [the token; the other token]
    suffices ! _ (ends_at 𝓛 T₀ stays c z vunit tt (tt, (tt, (tt, tt))) (tt, (tt, (tt, tt)))) $
    join ! $ feq_i ! (List Val) (vunit ∷ []) (vunit ∷ []) refl $ nothing ! $ nothing ! $ fjoin ! $ nothing ! $ fjoin ! $
    nothing ! $ fjoin ! $ join ! $
    move ! (1 ∷ 0 ∷ []) $ join ! $ nothing ! $ move ! (1 ∷ 0 ∷ []) $ done !))))))
