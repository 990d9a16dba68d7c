-- `allocate` cuts a new block into empty places, and keeps the right to give it back.
use Rattle.raw_pool.proofs.Steps.{◌≡◌, refl, sym, ap, subst, true, false, ℕ, ◌*◌, ◌<◌, ◌^◌, arith, List, [], ◌∷◌, ◌++◌, lit<, length, replicate, length-replicate, SProp, id⊢, ftrue, fsep, flft, Fn, Body, w64, ty_array, inst_fn, Val, vptr, vint, vstruct, vcons, vnil, Env, Wp, WpFn, after_seq, at_return, align, capped, capped_fits, ◌⊑◌, fact, tables, ‵, raw, ◌⊛◌, some, later, prop, at_ret, ◌$◌, ◌∵◌, !, qed, move, keep, drop, use1, use2, split, join, pick, await, regoal, rewrite, fsplit, fjoin, suffices, frame, done, live, vrt, in_variant, After, any_q, agg, whole, lit, bin, and_then, no_more, size_word, align_word, switches_on, stop, fld, of_opd, first, exec, returns, enter, is, get_tag, lands_as, alloc_all, pass_all, free_all, look_at, get, get_in, sets, sets_last, env, yes, owns, usize, RefOf, block_ptr, plain, types_at, nothing, heard, owned, calls_at, framed, Stays, stay_dropped, walk_of, ends_at, says, Goes-dropped, after, head, arm_body, Answer, Answer-typed, uncapped, block_ty, block_size, block_align, El, R, args, elτ, proved_at, as_written, Empty, HoldsLink, row_owns, token}
use Rattle.raw_pool.proofs.Memory.{bytes, new_row}
use Rattle.raw_pool.proofs.Opens.{Good, Row, el_chunk, chunk_val, chunk_made, start_made}
use types.Kit.{Sq}
use denote.Laws.{Is}
use denote.Param.{layout}
use denote.Struct.Struct.{Struct, Struct-Makes}
use denote.Struct.Declared as Declared
use Rattle.std.specs.Prelude.{IfOk}
use Rattle.std.specs.Vec.Ownership.{FitsInBlock}
use Rattle.core.specs.Allocator.{block_if_ok}
use Rattle.core.specs.declared.result.Result.TheVariants.{Ok, Err}
use Rattle.core.specs.contracts.result.Result as RS
use Rattle.core.specs.contracts.alloc.AllocError as AE
use Rattle.std_alloc.proofs.RcSteps.{first_Good}
use Rattle.std_alloc.proofs.ResultValues.{ok_of, err_of}
use Rattle.std_heap.specs.contracts.Global as G
use Rattle.std_heap.proofs.GlobalAllocator.allocate.Met.{met}
use Rattle.raw_pool.proofs.Heap.{Takes, at_takes, takes, answered, right}
use Rattle.raw_pool.specs.contracts.chunk.Chunk.allocate as f
use Rattle.raw_pool.specs.contracts.chunk.Chunk.allocate.Key.{name as #self}
use Rattle.raw_pool.proofs.chunk.Chunk.allocate.Statement.{statement}
use Rattle.raw_pool.proofs.chunk.Chunk.allocate.Code as code

pub allocate_spec : {M : Type 1} → statement M
allocate_spec 𝓤 𝓛 𝓜 𝓡 wired T L =
    let E : El = record { row = T; laws = L } in
    let H = 𝓛.H in let C = (tables 𝓤 H 𝓜 𝓡 𝓡.env).C in let Λ = (tables 𝓤 H 𝓜 𝓡 𝓡.env).Λ in
    let T₀ = f.ended T in let c = f.clauses T 𝓛 𝓜.mem 𝓡.returns in
    let fn : Fn = inst_fn (args E) code.function in
    let stays : Stays T₀.signature.params T₀.kept = (
      stay_dropped (RefOf (0 ∷ []) tt (plain (λ _. G.the_row)) (λ _. tt)) yes,
      (stay_dropped (plain (λ _. usize)) yes, tt),
    ) in
    proved_at 𝓛 T₀ stays c 𝓜 𝓡 (
      Goes-dropped 𝓛 2 (RefOf (0 ∷ []) tt (plain (λ _. G.the_row)) (λ _. tt)) yes
          (λ κs x f. refl),
      (Goes-dropped 𝓛 2 (plain (λ _. usize)) yes (λ κs x f. refl), tt),
    )
    (#self (args E)) fn (code.unfolded 𝓤 H 𝓜 𝓡 wired (T, tt)) (λ z are.
    let Post : Val → SProp 𝓤 = (walk_of 𝓛 T₀ stays c).post z in
    let κ = z.0.0.0 in let κ₁ = z.0.0.1.0 in let q = z.0.1.0 in let q₁ = z.0.1.1.0 in
    let hb : ℕ = z.0.3.0.ref_ptr.0 in let ho : ℕ = z.0.3.0.ref_ptr.1 in let heap = z.0.3.0.now in let n : ℕ =
    z.0.3.1.0 in
    let fits = are.1.0.1 in
    let Out = RS.the_row (Row E) AE.the_row in
    let Fits : Type 0 = FitsInBlock (R E) n in let Wide : Type 0 = HoldsLink (R E) in
    qed 𝓛 (((‵ (flft κ q) ⊛ ‵ (flft κ₁ q₁) ⊛ ‵ ftrue) ⊛ ‵ (owns (types_at T₀.signature.params z.0.0) z.0.3 z.0.4))
    ∷ (raw (fact 𝓤 (κ₁ ⊑ T.lives)) ⊛ (raw (fact 𝓤 Fits) ⊛ raw (fact 𝓤 Wide))) ∷ []) ∵
    move ! (1 ∷ []) $ split ! $ drop ! $ split ! $ heard ! Fits (λ asked. heard ! Wide (λ wide.
    let s = bytes E in let small : n * s < 2 ^ 63 = asked.0 in let whole_fits : n * s < 2 ^ 64 = omega arith in
    let al : ℕ = capped (align (elτ E)) in let τ = block_ty E n in
    let leaves : (r : Out.Denot) (v : Val) → IfOk r (λ t. t.places ≡ replicate n Empty)
    → Sq 𝓛 (‵ (Out.own_val r (v ∷ [])) ∷ ‵ (flft κ q) ∷ (‵ (flft κ₁ q₁) ⊛ ‵ ftrue) ∷ []) (prop (Post v)) = λ r v g.
    suffices ! _ (ends_at 𝓛 T₀ stays c z v r (tt, (tt, tt)) (tt, (tt, tt))) $ says ! g $
    move ! (1 ∷ 2 ∷ []) $ join ! $ frame ! $ nothing ! $ nothing ! $ fjoin ! $ nothing ! $ fjoin ! $ done ! in
    split ! $ split ! $ move ! (2 ∷ []) $ fsplit ! $ fsplit ! $ keep ! (1 ∷ 3 ∷ 4 ∷ []) $
    regoal ! (λ (us : List Val). prop (WpFn 𝓤 H C Λ fn us Post)) (λ j. are.0.0 j ++ (are.1.0.0 j ++ [])) refl $
    enter ! C Λ fn (vptr hb ho ∷ vint w64 n ∷ []) Post $ alloc_all !
    (λ l. pass_all ! refl ((tt, tt), ((tt, record { fits = fits }), tt)) $
    let En : Env 𝓤 H = env fn.locals l in
    let both : Body = head (after 2 fn.body) in
    let Then : After 𝓤 H = any_q (after_seq 𝓤 H (Wp 𝓤 H C Λ En (after 3 fn.body) (at_return 𝓤 H En Post))
    (at_return 𝓤 H En Post)) in
    let x = at_takes 𝓛 𝓜.mem 𝓡.returns κ q hb ho heap (n * s) al τ in
    sets ! (is ! (bin ! (get ! refl) (size_word !) (record {
      fits =
          subst (λ (k : ℕ). k < 2 ^ 64) (sym (uncapped n s whole_fits)) whole_fits;
    }))
    (ap (vint w64) (uncapped n s whole_fits))) refl (tt, record { fits = whole_fits }) $
    use2 𝓛 (raw ((Takes 𝓛 𝓜.mem 𝓡.returns).pre x)) (takes 𝓛 𝓜.mem 𝓡.returns κ q hb ho heap (n * s) al τ
    (block_size E n whole_fits) (block_align E n) whole_fits (capped_fits (align (elτ E)))) $
    calls_at ! (framed 𝓤 H 𝓜 (tables 𝓤 H 𝓜 𝓡 𝓡.env)) (Takes 𝓛 𝓜.mem 𝓡.returns)
    (met 𝓤 𝓛 𝓜 𝓡 (code.calls-std_heap::GlobalAllocator::allocate 𝓡.env wired)) x
    (and_then ! (get ! refl) (and_then ! (get ! refl) (and_then ! (align_word !) (no_more !)))) (λ v.
    use1 𝓛 (later (some (λ (r : Answer.Denot). ((‵ (flft κ q) ⊛ ‵ ftrue) ⊛ ‵ (Answer.own_val r (v ∷ []))) ⊛ some
    (λ (ws : Unit {0} × (Unit {0} × (Unit {0} × Unit {0}))). ‵ (fsep ftrue (fsep ftrue (fsep ftrue ftrue))) ⊛ ‵
    (block_if_ok right τ r))))) (id⊢ 𝓤 _) $
    await ! tt $ pick ! (λ r. split ! $ split ! $ split ! $ move ! (3 ∷ []) $ pick !
    (λ ws. split ! $ drop ! $ move ! (3 ∷ 0 ∷ 1 ∷ []) $
    -- [the answer; the block; the token; the end of the tokens; the other token]
    answered ! τ v r
    (λ b o e.
    let d : el_chunk E = record { start = block_ptr b o; places = replicate n Empty } in
    let made : Val = chunk_val (block_ptr b o) in
    let typed : Good (layout (Row E)) made = (tt, (tt, tt)) in
    let ok = first_Good (layout (Row E)) made typed in
    let all : length d.places ≡ n = length-replicate n Empty in
    lands_as ! e refl (Answer-typed true b o) $ first ! $ switches_on !
    (get_tag ! (vrt ! refl (fld ! refl (stop !))) (whole !)) $ exec ! C Λ En (arm_body 0 both) Then $
    sets ! (of_opd ! (get_in ! (vrt ! refl (fld ! refl (stop !))) (in_variant ! 0 0 refl refl (whole !)))) refl (tt, tt)
    $ sets ! (of_opd ! (get ! refl)) refl (tt, tt) $
    sets ! (agg ! (and_then ! (get ! refl) (no_more !))) refl typed $
    sets_last ! (agg ! (and_then ! (lit ! tt) (and_then ! (get ! refl) (no_more !)))) refl ok $
    exec ! C Λ En (after 3 fn.body) (at_ret En Post) $ sets ! (of_opd ! (get ! refl)) refl ok $
    as_written ! (ty_array (elτ E) n) b o $ use1 𝓛 (‵ (row_owns (R E) b o d.places)) (new_row E 𝓛 b n o) $
    rewrite ! 1 (λ (k : ℕ). ‵ (token (R E) k (block_ptr b o))) (sym all) refl $ start_made E ! b o $ move !
    (1 ∷ 2 ∷ 0 ∷ []) $
    chunk_made E ! d (made ∷ []) b o (record {
      at = refl;
      word = refl;
      wide = wide;
      small = subst (λ (k : ℕ). k * s < 2 ^ 63) (sym all) small;
    }) d.places refl $
    use1 𝓛 (‵ (Out.own_val (Ok d) (live 0 (vcons made vnil) ∷ []))) (ok_of 𝓛 (Row E) AE.the_row d made) $
    returns ! (look_at ! 0 refl) $ free_all ! refl $ keep ! (0 ∷ 1 ∷ 3 ∷ []) $ leaves (Ok d) (live 0 (vcons made vnil))
    refl)
    (λ e.
    let Refusal = Struct (Declared.shape AE.the_type) in
    let refused : Val = live 1 (vcons (vstruct vnil) vnil) in
    lands_as ! e refl (Answer-typed false 0 0) $ first ! $ switches_on !
    (get_tag ! (vrt ! refl (fld ! refl (stop !))) (whole !)) $ exec ! C Λ En (arm_body 1 both) Then $
    sets ! (of_opd ! (get_in ! (vrt ! refl (fld ! refl (stop !))) (in_variant ! 1 0 refl refl (whole !)))) refl (tt, tt)
    $
    sets_last ! (agg ! (and_then ! (lit ! tt) (and_then ! (get ! refl) (no_more !)))) refl
    (tt, (record { fits = lit< tt }, (tt, tt))) $
    exec ! C Λ En (after 3 fn.body) (at_ret En Post) $ sets ! (of_opd ! (get ! refl)) refl
    (tt, (record { fits = lit< tt }, (tt, tt))) $
    owned ! Refusal (Is Refusal) (Struct-Makes 𝓛 (Declared.shape AE.the_type) tt) tt (vstruct vnil ∷ [])
    (tt, (refl, tt)) $
    use1 𝓛 (‵ (Out.own_val (Err (record {})) (refused ∷ []))) (err_of 𝓛 (Row E) AE.the_row (record {}) (vstruct vnil)) $
    returns ! (look_at ! 0 refl) $ free_all ! refl $ keep ! (0 ∷ 1 ∷ 3 ∷ []) $ leaves (Err (record {})) refused
    tt))))))))
