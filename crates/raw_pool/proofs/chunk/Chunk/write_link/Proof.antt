-- `write_link` lays a link into the bytes of an empty place.
use Rattle.raw_pool.proofs.Steps.{refl, ℕ, ◌+◌, ◌*◌, List, [], ◌∷◌, ◌++◌, set, length-set, full_share, SProp, ftrue, froom, fwand, flft, Fn, w32, w64, ty_int, inst_fn, bare, Val, vptr, vint, vunit, Env, WpFn, ◌⊑◌, fact, tables, ‵, raw, ◌⊛◌, prop, at_ret, ◌$◌, ◌∵◌, !, qed, move, keep, drop, use1, use2, split, join, regoal, fsplit, fsplit3, fjoin, fjoin3, feq_i, suffices, done, whole, sub, look_in, bin, init, stop, fld, load, size_lit, unit_lit, of_opd, first, blocks, assigns_last, exec, returns, enter, alloc_all, pass_all, free_all, look_at, get, through, sets, env, yes, owns, usize, u32, part_at, uint_in, plain, types_at, nothing, heard, Stays, stay_dropped, stay_ref, walk_of, ends_at, says, Goes-dropped, Goes-ref, after, El, R, args, elτ, proved_at, Empty, Link, IsEmpty, place_owns, row_owns}
use Rattle.raw_pool.proofs.Memory.{bytes, besides, place_out, place_in}
use Rattle.raw_pool.proofs.Opens.{Row, el_chunk, with_places, offset_fits, size_fits, chunk_opens, chunk_closes}
use Rattle.raw_pool.proofs.Links.{place_for_link}
use Rattle.raw_pool.specs.contracts.chunk.Chunk.write_link as f
use Rattle.raw_pool.specs.contracts.chunk.Chunk.write_link.Key.{name as #self}
use Rattle.raw_pool.proofs.chunk.Chunk.write_link.Statement.{statement}
use Rattle.raw_pool.proofs.chunk.Chunk.write_link.Code as code

pub write_link_spec : {M : Type 1} → statement M
write_link_spec 𝓤 𝓛 𝓜 𝓡 wired T L =
    let E : El = record { row = T; laws = L } in
    let H = 𝓛.H in let C = (tables 𝓤 H 𝓜 𝓡 𝓡.env).C in let Λ = (tables 𝓤 H 𝓜 𝓡 𝓡.env).Λ in
    let T₀ = f.ended T in let c = f.clauses T 𝓛 𝓜.mem 𝓡.returns in
    let fn : Fn = inst_fn (args E) code.function in
    let stays : Stays T₀.signature.params T₀.kept = (
      stay_ref (0 ∷ []) tt (plain (λ _. Row E)),
      (stay_dropped (plain (λ _. usize)) yes, (stay_dropped (plain (λ _. u32)) yes, tt)),
    ) in
    proved_at 𝓛 T₀ stays c 𝓜 𝓡 (
      Goes-ref 𝓛 2 0 tt (plain (λ _. Row E)),
      (
        Goes-dropped 𝓛 2 (plain (λ _. usize)) yes (λ κs x f. refl),
        (Goes-dropped 𝓛 2 (plain (λ _. u32)) yes (λ κs x f. refl), tt),
      ),
    )
    (#self (args E)) fn (code.unfolded 𝓤 H 𝓜 𝓡 wired (T, tt)) (λ z are.
    let Post : Val → SProp 𝓤 = (walk_of 𝓛 T₀ stays c).post z in
    let κ = z.0.0.0 in let κ₁ = z.0.0.1.0 in let q = z.0.1.0 in let q₁ = z.0.1.1.0 in
    let rb : ℕ = z.0.3.0.ref_ptr.0 in let ro : ℕ = z.0.3.0.ref_ptr.1 in let d : el_chunk E = z.0.3.0.now in let i : ℕ =
    z.0.3.1.0 in
    let fits = are.1.0.1 in
    let Asked : Type 0 = IsEmpty d.places i in
    qed 𝓛 (((‵ (flft κ q) ⊛ ‵ (flft κ₁ q₁) ⊛ ‵ ftrue) ⊛ ‵ (owns (types_at T₀.signature.params z.0.0) z.0.3 z.0.4))
    ∷ (raw (fact 𝓤 (κ₁ ⊑ T.lives)) ⊛ raw (fact 𝓤 Asked)) ∷ []) ∵
    move ! (1 ∷ []) $ split ! $ drop ! $ heard ! Asked (λ asked.
    let n : ℕ = z.0.3.1.1.0 in let fits_link = are.1.1.0.1 in let within = asked.0 in
    split ! $ split ! $ move ! (2 ∷ []) $ fsplit ! $ fsplit3 ! $ keep ! (1 ∷ 2 ∷ 4 ∷ 5 ∷ []) $
    regoal ! (λ (us : List Val). prop (WpFn 𝓤 H C Λ fn us Post))
    (λ j. are.0.0 j ++ (are.1.0.0 j ++ (are.1.1.0.0 j ++ []))) refl $
    enter ! C Λ fn (vptr rb ro ∷ vint w64 i ∷ vint w32 n ∷ []) Post $ alloc_all !
    (λ l. pass_all ! refl ((tt, tt), ((tt, record { fits = fits }), ((tt, record { fits = fits_link }), tt))) $
    let En : Env 𝓤 H = env fn.locals l in
    chunk_opens E ! tt d rb ro (λ vs b o h.
    let far = offset_fits E d vs b o i h within in let at = i * bytes E + o in let way =
    fwand (froom (ty_int w32) b at) (froom (bare (elτ E)) b at) in
    use1 𝓛 (‵ (place_owns (R E) b at Empty) ⊛ ‵ (besides E b o d.places i))
    (place_out E 𝓛 b d.places i o Empty within asked.1) $ split ! $
    use1 𝓛 (‵ (froom (ty_int w32) b at) ⊛ ‵ way) (place_for_link 𝓛 (elτ E) b at h.wide.wide h.wide.whole h.wide.aligned)
    $ split ! $
    -- [room for the link; the way back; the other places; the right; the pointer; the chunk's cell; the open borrow;
    -- the other token]
    first ! $ blocks ! $
    sets ! (of_opd ! (load ! (through ! refl (fld ! refl (stop !))) (look_in ! 5 (sub ! 0 refl (whole !))))) refl
    (tt, tt) $
    sets ! (bin ! (get ! refl) (size_lit ! (record { fits = size_fits E d vs b o i h within })) (record { fits = far }))
    refl (tt, record { fits = far }) $
    sets ! (bin ! (get ! refl) (get ! refl) tt) refl (tt, tt) $
    sets ! (of_opd ! (get ! refl)) refl (tt, tt) $ assigns_last ! (of_opd ! (get ! refl)) (through ! refl (stop !))
    (init ! 0 refl (tt, record { fits = fits_link })) $
    exec ! C Λ En (after 1 fn.body) (at_ret En Post) $ sets ! (of_opd ! (unit_lit !)) refl (tt, tt) $
    use1 𝓛 (‵ (part_at u32 full_share n b at)) (uint_in 𝓛 full_share w32 n b at) $ fjoin ! $
    use2 𝓛 (‵ (row_owns (R E) b o (set d.places i (Link n)))) (place_in E 𝓛 b d.places i o (Link n) within) $
    chunk_closes E ! tt d vs b o rb ro h (set d.places i (Link n)) (length-set d.places i (Link n)) $
    returns ! (look_at ! 0 refl) $ free_all ! refl $
    -- [obs; the borrow; the token; the other token]
    suffices ! _ (ends_at 𝓛 T₀ stays c z vunit tt (with_places E d (set d.places i (Link n)), (tt, (tt, tt)))
    (tt, (tt, (tt, tt)))) $ says ! refl $
    feq_i ! (List Val) z.0.4.0 (vptr rb ro ∷ []) are.0.0 $ fjoin3 ! $ nothing ! $ nothing ! $ fjoin ! $ nothing ! $
    fjoin ! $ move ! (1 ∷ 0 ∷ []) $ fjoin ! $
    feq_i ! (List Val) (vunit ∷ []) (vunit ∷ []) refl $ move ! (2 ∷ 3 ∷ []) $ join ! $ move ! (0 ∷ 2 ∷ 1 ∷ []) $ done
    !))))
