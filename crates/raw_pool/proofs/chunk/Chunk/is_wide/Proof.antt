-- `is_wide` tells a fact that each chunk owns.
use Rattle.raw_pool.proofs.Steps.{refl, ℕ, ◌+◌, List, [], ◌∷◌, ◌++◌, SProp, id⊢, never, ftrue, flft, Fn, inst_fn, Val, vptr, vunit, Env, WpFn, tables, ‵, raw, ◌⊛◌, prop, at_ret, ◌$◌, ◌∵◌, !, qed, move, keep, drop, use1, split, join, regoal, fsplit, fjoin, fpick, feq_i, suffices, done, of_opd, unit_lit, first, exec, returns, enter, alloc_all, pass_all, free_all, look_at, sets_last, env, yes, owns, RefOf, hidden_shr, RawPtr, in_a_block, plain, types_at, nothing, Stays, stay_dropped, walk_of, ends_at, says, Goes-dropped, after, El, R, args, proved_at, chunk_lends}
use Rattle.raw_pool.proofs.Opens.{Row, el_chunk, chunk_seen}
use Rattle.raw_pool.specs.contracts.chunk.Chunk.is_wide as f
use Rattle.raw_pool.specs.contracts.chunk.Chunk.is_wide.Key.{name as #self}
use Rattle.raw_pool.proofs.chunk.Chunk.is_wide.Statement.{statement}
use Rattle.raw_pool.proofs.chunk.Chunk.is_wide.Code as code

pub is_wide_spec : {M : Type 1} → statement M
is_wide_spec 𝓤 𝓛 𝓜 𝓡 wired T L =
    let E : El = record { row = T; laws = L } in
    let H = 𝓛.H in let C = (tables 𝓤 H 𝓜 𝓡 𝓡.env).C in let Λ = (tables 𝓤 H 𝓜 𝓡 𝓡.env).Λ in
    let T₀ = f.ended T in let c = f.clauses T 𝓛 𝓜.mem 𝓡.returns in
    let fn : Fn = inst_fn (args E) code.function in
    let stays : Stays T₀.signature.params T₀.kept =
    (stay_dropped (RefOf (0 ∷ []) tt (plain (λ _. Row E)) (λ _. tt)) yes, tt) in
    proved_at 𝓛 T₀ stays c 𝓜 𝓡 (
      Goes-dropped 𝓛 2 (RefOf (0 ∷ []) tt (plain (λ _. Row E)) (λ _. tt)) yes
          (λ κs x f. refl),
      tt,
    )
    (#self (args E)) fn (code.unfolded 𝓤 H 𝓜 𝓡 wired (T, tt)) (λ z are.
    let Post : Val → SProp 𝓤 = (walk_of 𝓛 T₀ stays c).post z in
    let κ = z.0.0.0 in let κ₁ = z.0.0.1.0 in let q = z.0.1.0 in let q₁ = z.0.1.1.0 in
    let rb : ℕ = z.0.3.0.ref_ptr.0 in let ro : ℕ = z.0.3.0.ref_ptr.1 in let d : el_chunk E = z.0.3.0.now in
    qed 𝓛 (((‵ (flft κ q) ⊛ ‵ (flft κ₁ q₁) ⊛ ‵ ftrue) ⊛ ‵ (owns (types_at T₀.signature.params z.0.0) z.0.3 z.0.4))
    ∷ raw ((c z.0.0 z.0.3).requires z.1) ∷ []) ∵
    keep ! (0 ∷ []) $
    split ! $ split ! $ move ! (2 ∷ []) $ fsplit ! $ fsplit ! $ drop ! $
    use1 𝓛 (‵ (hidden_shr RawPtr κ d.start rb (ro + 0)) ⊛ ‵ (chunk_lends (R E) d.start d.places κ))
    (chunk_seen E 𝓛 κ d rb ro) $ split ! $ drop ! $
    in_a_block ! d.start (λ p. chunk_lends (R E) p d.places κ) (id⊢ 𝓤 (never 𝓤)) (λ b o e. fsplit ! $ fpick ! (λ ok.
    keep ! (3 ∷ 4 ∷ []) $
    regoal ! (λ (us : List Val). prop (WpFn 𝓤 H C Λ fn us Post)) (λ j. are.0.0 j ++ []) refl $
    enter ! C Λ fn (vptr rb ro ∷ []) Post $ alloc_all ! (λ l. pass_all ! refl ((tt, tt), tt) $
    let En : Env 𝓤 H = env fn.locals l in
    first ! $ sets_last ! (of_opd ! (unit_lit !)) refl (tt, tt) $ exec ! C Λ En (after 1 fn.body) (at_ret En Post) $
    returns ! (look_at ! 0 refl) $ free_all ! refl $
    suffices ! _ (ends_at 𝓛 T₀ stays c z vunit tt (tt, tt) (tt, tt)) $ says ! ok.0 $
    join ! $ feq_i ! (List Val) (vunit ∷ []) (vunit ∷ []) refl $ nothing ! $ nothing ! $ fjoin ! $ keep !
    (2 ∷ 0 ∷ 1 ∷ []) $ done !))))
