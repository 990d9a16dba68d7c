-- What the walks of the raw functions share: a `&mut` to a chunk is opened and closed, and two facts are said at the
-- end.
use mathlib.Core.Path.{◌≡◌, refl, sym, ap, subst, ◌∙◌}
use Prim.Native.Nat.{ℕ, zero, suc, ◌+◌, ◌*◌, ◌<◌, ◌^◌}
use native.Mathlib.Omega.{arith}
use mathlib.Core.List.{List, [], ◌∷◌}
use lib.ListN.{length, get_or}
use seplogic.Ra.Ura.{Ura}
use base.Fraction.{full_share}
use mir.Syntax.{Ty, ty_int, w32}
use mir.Val.{Val, vint, vptr, vstruct, vcons, vnil, has_ty, WT}
use lib.Dec.{T}
use base.Logic.{SProp, ent, sep, emp, never, id⊢, via}
use base.Stored.{Gv}
use base.Fml.{Lft, GName, Share, ftrue, fhide, fat, flft, fobs, fauth, fbor, fobor}
use types.Logic.{Logic, sem}
use types.Kit.{Goal, Soaks, Step, step, Seq, Item, prop, ‵, raw, ◌⊛◌, use1, split, ◌$◌, ◌∵◌, !, qed, move, drop, keep, use0, rewrite, fsplit, fjoin, fpick, fpack, feq_i, feq_l, flt_i, flt_l, done}
use types.SemTy.{Body}
use contract.Monad.{fact, fact_i}
use denote.RattleType.{RattleType, Valss}
use denote.Memory.{cell_at, part_at, hidden_shr, mem}
use denote.Builtin.{u32}
use denote.Copied.{uint_Copied}
use denote.Opens.{Shut, unhide}
use denote.Struct.Lending.{lent_out}
use denote.RawPtr.{Ptr, RawPtr, block_ptr, ptr_val, in_a_block}
use denote.Laws.{shows}
use denote.Steps.{looks, shuts, opens, closes, nothing, peeks}
use denote.Struct.Struct.{Struct, within}
use denote.Struct.Owning.{shape}
use denote.Param.Laws.{param_laws}
use Rattle.core.proofs.mem.Param.{El, R, el_x}
use Rattle.core.proofs.ptr.Rows.{times_below, one_below}
use Rattle.raw_pool.specs.Place.{Place, Empty, Value, Link}
use Rattle.raw_pool.specs.Ownership.{HoldsLink, row_owns, token, chunk_owns, chunk_lends}
use Rattle.raw_pool.specs.declared.chunk.Chunk.{Chunk}
use Rattle.raw_pool.specs.contracts.chunk.Chunk as C
use Rattle.raw_pool.proofs.chunk.Chunk.TheLaws as laws
use Rattle.raw_pool.proofs.Memory.{bytes}

abbrev pub Good : Ty → Val → Type 0
Good τ v = T (has_ty τ v) × WT v

-- a chunk in memory: one pointer
abbrev pub chunk_val : Ptr → Val
chunk_val p = vstruct (vcons (ptr_val p) vnil)

module _ (E : El) where
  abbrev pub Row : RattleType
  Row = C.the_row (R E)

  -- the pointer alone
  abbrev pub Start : RattleType
  Start = Struct (shape (C.the_type (R E)))

  abbrev pub el_chunk : Type 0
  el_chunk = Chunk (el_x E)

  abbrev pub with_places : el_chunk → List (Place (el_x E)) → el_chunk
  with_places d ps = record { start = d.start; places = ps }

  -- what is known of an open chunk: where it begins, what lies in memory, and the bounds on its places
  pub record Opened (d : el_chunk) (vs : List Val) (b o : ℕ) : Type 0 where
    pub at : d.start ≡ block_ptr b o
    pub word : vs ≡ chunk_val (block_ptr b o) ∷ []
    pub wide : HoldsLink (R E)
    pub small : length d.places * bytes E < 2 ^ 63

  -- the offset of a place fits a word, and so does a place's size
  pub offset_fits : (d : el_chunk) (vs : List Val) (b o i : ℕ) → Opened d vs b o → i < length d.places
      → i * bytes E < 2 ^ 64
  offset_fits d vs b o i h l = let f = times_below i (length d.places) (bytes E) (2 ^ 63) (omega arith) h.small in omega
      arith

  pub size_fits : (d : el_chunk) (vs : List Val) (b o i : ℕ) → Opened d vs b o → i < length d.places → bytes E < 2 ^ 64
  size_fits d vs b o i h l = let f = one_below (length d.places) (bytes E) (2 ^ 63) (omega arith) h.small in omega arith

module _ (E : El) {M : Type 1} {𝓤 : Ura M} {𝓛 : Logic 𝓤} {K : Type 0} {Γ : List (Item 𝓤)} {G : Goal 𝓤 𝓛.H} where
  -- what a chunk owns is taken apart:  [the places; the right to free the block; the pointer]
  pub chunk_had : K → (d : el_chunk E) (vs : List Val)
      → ((b o : ℕ) → Opened E d vs b o → Seq K 𝓛 (‵ (row_owns (R E) b o d.places)
      ∷ ‵ (token (R E) (length d.places) (block_ptr b o)) ∷ ‵ ((Start E).own_val (d.start, tt) vs) ∷ Γ) G)
      → Seq K 𝓛 (‵ ((Row E).own_val d vs) ∷ Γ) G
  chunk_had t d vs k =
      peeks t (Row E) _ (shows 𝓛 (Row E)) d vs (λ is. fsplit t $ move t (1 ∷ []) $
      in_a_block t d.start (λ p. chunk_owns (R E) p d.places) (id⊢ 𝓤 (never 𝓤))
      (λ b o e. fsplit t $ fpick t (λ ok. drop t $ fsplit t $
      k b o (record {
        at = e;
        word = (laws.lowers (R E) (param_laws 0 E.row E.laws)).val_is d vs is
            ∙ ap (λ (p : Ptr). chunk_val p ∷ []) e;
        wide = ok.0;
        small = ok.1;
      }))))

  -- and put together, at other places, as many
  pub chunk_made : K → (d : el_chunk E) (vs : List Val) (b o : ℕ) → Opened E d vs b o → (ps : List (Place (el_x E)))
      → length ps ≡ length d.places
      → Step K 𝓛 (‵ ((Row E).own_val (with_places E d ps) vs) ∷ Γ) G
      (‵ (row_owns (R E) b o ps) ∷ ‵ (token (R E) (length d.places) (block_ptr b o))
      ∷ ‵ ((Start E).own_val (d.start, tt) vs) ∷ Γ) G
  chunk_made t d vs b o h ps e = step (λ s.
      rewrite t 1 (λ (n : ℕ). ‵ (token (R E) n (block_ptr b o))) (sym e) refl $ fjoin t $ nothing t $
      fpack t (HoldsLink (R E) × (length ps * bytes E < 2 ^ 63)) (λ _. ftrue)
      (h.wide, subst (λ (n : ℕ). n * bytes E < 2 ^ 63) (sym e) h.small) $ fjoin t $
      rewrite t 0 (λ (p : Ptr). ‵ (chunk_owns (R E) p ps)) (sym h.at) refl $ move t (1 ∷ 0 ∷ []) $ fjoin t $ s)

module _ (E : El) {M : Type 1} {𝓤 : Ura M} {𝓛 : Logic 𝓤} {K : Type 0} {Γ : List (Item 𝓤)} {G : Goal 𝓤 𝓛.H} where
  -- [the places; the right to free; the pointer; the chunk's cell; the open borrow, in three entries]
  pub chunk_opens : K → Soaks G → {κ : Lft} {q : Share} {γ : GName} (d : el_chunk E) (rb ro : ℕ)
      → ((vs : List Val) (b o : ℕ) → Opened E d vs b o
      → Seq K 𝓛 (‵ (row_owns (R E) b o d.places) ∷ ‵ (token (R E) (length d.places) (block_ptr b o))
      ∷ ‵ ((Start E).own_val (d.start, tt) vs)
      ∷ ‵ (cell_at full_share (Row E).mir (chunk_val (block_ptr b o) ∷ []) rb ro)
      ∷ ‵ (fobor κ q (Body (mem (Row E)) rb ro γ)) ∷ ‵ (fobs γ ((Row E).coded.code d))
      ∷ ‵ (fauth γ ((Row E).coded.code d)) ∷ Γ) G)
      → Seq K 𝓛 (‵ (fobs γ ((Row E).coded.code d)) ∷ ‵ (fbor κ (Body (mem (Row E)) rb ro γ)) ∷ ‵ (flft κ q) ∷ Γ) G
  chunk_opens t z d rb ro k =
      opens t z (Row E) {h = d} rb ro (λ vs. move t (1 ∷ []) $ chunk_had E t d vs (λ b o h.
      rewrite t 3 (λ (ws : List Val). ‵ (cell_at full_share (Row E).mir ws rb ro)) h.word refl $ k vs b o h))

  pub chunk_closes : K → Soaks G → {κ : Lft} {q : Share} {u v : Gv} {γ : GName} (d : el_chunk E) (vs : List Val)
      (b o rb ro : ℕ) → Opened E d vs b o → (ps : List (Place (el_x E))) → length ps ≡ length d.places
      → Step K 𝓛 (‵ (fobs γ ((Row E).coded.code (with_places E d ps))) ∷ ‵ (fbor κ (Body (mem (Row E)) rb ro γ))
      ∷ ‵ (flft κ q) ∷ Γ) G
      (‵ (row_owns (R E) b o ps) ∷ ‵ (token (R E) (length d.places) (block_ptr b o))
      ∷ ‵ ((Start E).own_val (d.start, tt) vs)
      ∷ ‵ (cell_at full_share (Row E).mir (chunk_val (block_ptr b o) ∷ []) rb ro)
      ∷ ‵ (fobor κ q (Body (mem (Row E)) rb ro γ)) ∷ ‵ (fobs γ u) ∷ ‵ (fauth γ v) ∷ Γ) G
  chunk_closes t z d vs b o rb ro h ps e = step (λ s.
      chunk_made E t d vs b o h ps e $ rewrite t 1 (λ (ws : List Val). ‵ (cell_at full_share (Row E).mir ws rb ro))
      (sym h.word) refl $ move t (1 ∷ 0 ∷ []) $
      closes t z (Row E) (with_places E d ps) vs rb ro $ s)

module _ (E : El) {M : Type 1} {𝓤 : Ura M} {𝓛 : Logic 𝓤} {K : Type 0} {Γ : List (Item 𝓤)} {G : Goal 𝓤 𝓛.H} where
  -- the pointer of a chunk is owned by nobody
  pub start_made : K → (b o : ℕ) → Step K 𝓛 (‵ ((Start E).own_val (block_ptr b o, tt) (chunk_val (block_ptr b o) ∷ []))
      ∷ Γ) G Γ G
  start_made t b o = step (λ s.
      nothing t $ feq_i t (List Val) (vptr b o ∷ []) (vptr b o ∷ []) refl $ fjoin t $ feq_i t (List Val)
      (chunk_val (block_ptr b o) ∷ []) (chunk_val (block_ptr b o) ∷ []) refl $ fjoin t $
      fpack t (Valss (RawPtr ∷ [])) (within (shape (C.the_type (R E))) (block_ptr b o, tt)
      (chunk_val (block_ptr b o) ∷ [])) (vptr b o ∷ [], tt) $ s)

module _ {M : Type 1} {𝓤 : Ura M} {𝓛 : Logic 𝓤} {K : Type 0} {Γ : List (Item 𝓤)} where
  -- an `ensures` of two facts
  pub says_both : K → {φ ψ : Type 0} {P : SProp 𝓤} → φ → ψ
      → Step K 𝓛 Γ (prop P) Γ (prop (sep 𝓤 P (sep 𝓤 (fact 𝓤 φ) (fact 𝓤 ψ))))
  says_both t {φ} {ψ} {P} x y = step (λ s. record {
    prf = via 𝓤 P s.prf (qed 𝓛 (raw P ∷ []) {P = sep 𝓤 P (sep 𝓤 (fact 𝓤 φ) (fact 𝓤 ψ))} (
        use0 𝓛 (raw (fact 𝓤 ψ)) (fact_i 𝓤 ψ (emp 𝓤) y) $ use0 𝓛 (raw (fact 𝓤 φ)) (fact_i 𝓤 φ (emp 𝓤) x) $ move !
        (2 ∷ []) $ done !));
  })

-- a place that holds a value, or a link, is there
pub filled_below : {X : Type 0} (ps : List (Place X)) (i : ℕ) (x : X) → get_or ps i Empty ≡ Value x → i < length ps
filled_below [] i x e = cc
filled_below (p ∷ ps) zero x e = omega arith
filled_below (p ∷ ps) (suc i) x e = omega (arith, filled_below ps i x e)

pub linked_below : {X : Type 0} (ps : List (Place X)) (i n : ℕ) → get_or ps i Empty ≡ Link n → i < length ps
linked_below [] i n e = cc
linked_below (p ∷ ps) zero n e = omega arith
linked_below (p ∷ ps) (suc i) n e = omega (arith, linked_below ps i n e)

-- what a `&` to a chunk shows: its pointer, and what its places lend
pub chunk_seen : (E : El) {M : Type 1} {𝓤 : Ura M} (𝓛 : Logic 𝓤) (κ : Lft) (d : el_chunk E) (rb ro : ℕ)
    → ent 𝓤 (sem 𝓛 (hidden_shr (Row E) κ d rb ro)) (sep 𝓤 (sem 𝓛 (hidden_shr RawPtr κ d.start rb (ro + 0)))
    (sem 𝓛 (chunk_lends (R E) d.start d.places κ)))
chunk_seen E 𝓛 κ d rb ro = qed 𝓛 (‵ (hidden_shr (Row E) κ d rb ro) ∷ []) ∵
    use1 𝓛 (‵ (hidden_shr (Start E) κ (d.start, tt) rb ro) ⊛ ‵ (fhide (C.the_lent (R E) d (block_ptr rb ro) κ)))
    (lent_out 𝓛 (C.struct (R E)) (C.the_codes (el_x E) (R E).coded) (C.the_heap (R E)) (C.the_lent (R E)) κ d rb ro)
    $ split ! $
    unhide ! $ fsplit ! $ fsplit ! $ keep ! (0 ∷ 3 ∷ []) $ done !

-- a link behind a `&` is looked at:  [the link; the way back]
module _ {M : Type 1} {𝓤 : Ura M} {𝓛 : Logic 𝓤} {K : Type 0} {Γ : List (Item 𝓤)} {G : Goal 𝓤 𝓛.H} where
  pub link_in : K → Soaks G → {κ : Lft} {q : Share} (n b at : ℕ)
      → ((q' : Share) → n < 2 ^ 32 → Seq K 𝓛 (‵ (fat q' (ty_int w32) b at (vint w32 n))
      ∷ Shut 𝓛 κ q (part_at u32 q' n b at) ∷ Γ) G) → Seq K 𝓛 (‵ (hidden_shr u32 κ n b at) ∷ ‵ (flft κ q) ∷ Γ) G
  link_in t z n b at k =
      looks t z u32 (uint_Copied 𝓛 w32).opens n b at (λ q' vs.
      move t (1 ∷ []) $ fsplit t $ feq_l t (λ e. flt_l t (λ small.
      rewrite t 0 (λ (us : List Val). ‵ (cell_at q' u32.mir us b at)) e refl $ move t (2 ∷ []) $ drop t $ k q' small)))

  pub link_out : K → Soaks G → {κ : Lft} {q q' : Share} (n b at : ℕ) → n < 2 ^ 32
      → Step K 𝓛 (‵ (flft κ q) ∷ Γ) G (‵ (fat q' (ty_int w32) b at (vint w32 n)) ∷ Shut 𝓛 κ q (part_at u32 q' n b at)
      ∷ Γ) G
  link_out t z {q' = q'} n b at small = step (λ s.
      flt_i t n (2 ^ 32) small $ feq_i t (List Val) (vint w32 n ∷ []) (vint w32 n ∷ []) refl $ fjoin t $ move t
      (1 ∷ 0 ∷ []) $ shuts t z u32 q' n (vint w32 n ∷ []) b at $ s)
