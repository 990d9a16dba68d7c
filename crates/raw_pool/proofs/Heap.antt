-- The calls of the allocator: what each is handed, and what it answers.
use mathlib.Core.Path.{◌≡◌, refl, ap, ◌∙◌}
use mathlib.Core.Bool.{true, false}
use Prim.Native.Nat.{ℕ, ◌<◌, ◌^◌}
use mathlib.Core.List.{List, [], ◌∷◌, ◌++◌}
use seplogic.Ra.Ura.{Ura}
use mir.Syntax.{Ty, w64}
use mir.Val.{Val, vint, vptr, of_list}
use base.Logic.{SProp, ent, sep, emp, id⊢, fst∗, never}
use base.Fml.{Lft, Share, Fml, ftrue, fsep, flft, froom}
use prog.Memory.{Memory, size, align, capped}
use prog.Routine.{Routine}
use types.Logic.{Logic, sem}
use types.Match.{live}
use types.Kit.{Goal, Seq, Item, ‵, raw, ◌⊛◌, some, later, ◌$◌, ◌∵◌, !, qed, move, keep, drop, use0, use1, pick, await, split, join, updating, now, fsplit, fjoin, fpick, feq_l, feq_i, flt_i, done}
use contract.Monad.{Fun, fact, fact_i}
use denote.Builtin.{unit}
use denote.Memory.{hidden_shr}
use denote.RawPtr.{Ptr, block_ptr, null_ptr, ptr_val, room_for, in_a_block}
use denote.Steps.{nothing, only}
use denote.Triple.Statement.{Contract}
use denote.Triple.Spec.{triple_of}
use Rattle.core.proofs.alloc.Calls.{Answer, answer_val}
use Rattle.core.specs.Allocator.{block_if_ok}
use Rattle.core.specs.declared.result.Result.TheVariants.{Ok, Err}
use Rattle.std_heap.specs.contracts.Global as G
use Rattle.std_heap.specs.contracts.GlobalAllocator.TheImpl.{ghosts}
use Rattle.std_heap.specs.contracts.GlobalAllocator.allocate as A
use Rattle.std_heap.specs.contracts.GlobalAllocator.deallocate as D
use Rattle.raw_pool.specs.Ownership.{heap}

abbrev pub right : Ty → Ptr → Fml
right = ghosts.dealloc_token heap

module _ {M : Type 1} {𝓤 : Ura M} (𝓛 : Logic 𝓤) (at_mem : Memory → SProp 𝓤) (run : Routine → Fun 𝓤) where
  abbrev pub Takes : Contract 𝓤
  Takes = triple_of 𝓛 A.signature (A.spec 𝓛 at_mem run)

  abbrev pub Gives : Contract 𝓤
  Gives = triple_of 𝓛 D.signature (D.spec 𝓛 at_mem run)

module _ {M : Type 1} {𝓤 : Ura M} (𝓛 : Logic 𝓤) (at_mem : Memory → SProp 𝓤) (run : Routine → Fun 𝓤) (κ : Lft)
    (q : Share) (hb ho : ℕ) (h : (G.the_row).Denot) (n al : ℕ) (τ : Ty) where
  open 𝓛 use {H, A}

  abbrev pub at_takes : (Takes 𝓛 at_mem run).Ghost
  at_takes = (
    (
      (κ, tt),
      (q, tt),
      tt,
      (record { ref_ptr = (hb, ho); now = h }, (n, (al, tt))),
      (vptr hb ho ∷ [], (vint w64 n ∷ [], (vint w64 al ∷ [], tt))),
    ),
    τ,
  )

  pub takes : capped (size τ) ≡ n → capped (align τ) ≡ al → n < 2 ^ 64 → al < 2 ^ 64
      → ent 𝓤 (sep 𝓤 (sem 𝓛 (hidden_shr G.the_row κ h hb ho)) (A.lft κ q)) ((Takes 𝓛 at_mem run).pre at_takes)
  takes en ea fn fa =
      qed 𝓛 (‵ (hidden_shr G.the_row κ h hb ho) ∷ ‵ (flft κ q) ∷ []) ∵
      use0 𝓛 (raw (fact 𝓤 ((capped (size τ) ≡ n) × (capped (align τ) ≡ al))))
      (fact_i 𝓤 ((capped (size τ) ≡ n) × (capped (align τ) ≡ al)) (emp 𝓤) (en, ea)) $
      nothing ! $ flt_i ! al (2 ^ 64) fa $ feq_i ! (List Val) (vint w64 al ∷ []) (vint w64 al ∷ []) refl $ fjoin ! $
      fjoin ! $
      flt_i ! n (2 ^ 64) fn $ feq_i ! (List Val) (vint w64 n ∷ []) (vint w64 n ∷ []) refl $ fjoin ! $ fjoin ! $
      move ! (2 ∷ []) $ feq_i ! (List Val) (vptr hb ho ∷ []) (vptr hb ho ∷ []) refl $ fjoin ! $ fjoin ! $
      -- [the arguments; the layout; the token]
      nothing ! $ move ! (3 ∷ 0 ∷ []) $ join ! $ join ! $ done !

  -- what `deallocate` is handed besides: the block, and the right to give it back
  abbrev pub at_gives : ℕ → ℕ → (Gives 𝓛 at_mem run).Ghost
  at_gives b o = (
    (
      (κ, tt),
      (q, tt),
      tt,
      (record { ref_ptr = (hb, ho); now = h }, (block_ptr b o, (n, (al, tt)))),
      (vptr hb ho ∷ [], (vptr b o ∷ [], (vint w64 n ∷ [], (vint w64 al ∷ [], tt)))),
    ),
    τ,
  )

  pub gives : (b o : ℕ) → capped (size τ) ≡ n → capped (align τ) ≡ al → n < 2 ^ 64 → al < 2 ^ 64
      → ent 𝓤 (sep 𝓤 (H.room τ b o) (sep 𝓤 (sem 𝓛 (right τ (block_ptr b o)))
      (sep 𝓤 (sem 𝓛 (hidden_shr G.the_row κ h hb ho)) (A.lft κ q)))) ((Gives 𝓛 at_mem run).pre (at_gives b o))
  gives b o en ea fn fa =
      qed 𝓛 (‵ (froom τ b o) ∷ ‵ (right τ (block_ptr b o)) ∷ ‵ (hidden_shr G.the_row κ h hb ho) ∷ ‵ (flft κ q) ∷ []) ∵
      fjoin ! $
      use0 𝓛 (raw (fact 𝓤 ((capped (size τ) ≡ n) × (capped (align τ) ≡ al))))
      (fact_i 𝓤 ((capped (size τ) ≡ n) × (capped (align τ) ≡ al)) (emp 𝓤) (en, ea)) $ join ! $
      nothing ! $ flt_i ! al (2 ^ 64) fa $ feq_i ! (List Val) (vint w64 al ∷ []) (vint w64 al ∷ []) refl $ fjoin ! $
      fjoin ! $
      flt_i ! n (2 ^ 64) fn $ feq_i ! (List Val) (vint w64 n ∷ []) (vint w64 n ∷ []) refl $ fjoin ! $ fjoin ! $
      feq_i ! (List Val) (vptr b o ∷ []) (vptr b o ∷ []) refl $ fjoin ! $
      move ! (2 ∷ []) $ feq_i ! (List Val) (vptr hb ho ∷ []) (vptr hb ho ∷ []) refl $ fjoin ! $ fjoin ! $
      -- [the arguments; the layout and the block; the token]
      nothing ! $ move ! (3 ∷ 0 ∷ []) $ join ! $ join ! $ done !

  pub has_given : (b o : ℕ) (v : Val) → ent 𝓤 ((Gives 𝓛 at_mem run).post (at_gives b o) v)
      (H.⇛ (sem 𝓛 (fsep (unit.own_val tt (v ∷ [])) (flft κ q))))
  has_given b o v =
      qed 𝓛 (raw ((Gives 𝓛 at_mem run).post (at_gives b o) v) ∷ []) ∵ updating ! $
      use1 𝓛 (later (some (λ (r : Unit {0}). ((‵ (flft κ q) ⊛ ‵ ftrue) ⊛ ‵ (unit.own_val r (v ∷ []))) ⊛ some
      (λ (ws : Unit {0} × (Unit {0} × (Unit {0} × (Unit {0} × Unit {0})))). ‵
      (fsep ftrue (fsep ftrue (fsep ftrue (fsep ftrue ftrue)))) ⊛ ‵ ftrue)))) (id⊢ 𝓤 _) $
      await ! tt $ pick ! (λ r. split ! $ split ! $ split ! $ move ! (2 ∷ 0 ∷ []) $ fjoin ! $ keep ! (0 ∷ []) $ now ! $
      done !)

-- the answer of `allocate`: a block with the right to give it back, or nothing
module _ {M : Type 1} {𝓤 : Ura M} {𝓛 : Logic 𝓤} {K : Type 0} {Γ : List (Item 𝓤)} {G : Goal 𝓤 𝓛.H} where
  pub answered : K → (τ : Ty) (v : Val) (r : Answer.Denot)
      → ((b o : ℕ) → v ≡ answer_val true b o → Seq K 𝓛 (‵ (froom τ b o) ∷ ‵ (right τ (block_ptr b o)) ∷ Γ) G)
      → (v ≡ answer_val false 0 0 → Seq K 𝓛 Γ G)
      → Seq K 𝓛 (‵ (Answer.own_val r (v ∷ [])) ∷ ‵ (block_if_ok right τ r) ∷ Γ) G
  answered t τ v (Ok p) ok none =
      fpick t (λ us. fsplit t $ feq_l t (λ e.
      fpick t (λ vss. fsplit t $ feq_l t (λ e'. fsplit t $ feq_l t (λ e''. drop t $
      in_a_block t p (λ z. fsep (room_for τ z) (right τ z)) (fst∗ 𝓤 (never 𝓤) (sem 𝓛 (right τ null_ptr)))
      (λ b o at. fsplit t $
      ok b o (ap only e ∙ ap (λ (ws : List Val). live 0 (of_list ws))
      (e' ∙ ap (λ (ws : List Val). ws ++ []) (e'' ∙ ap (λ (z : Ptr). ptr_val z ∷ []) at)))))))))
  answered t τ v (Err n) ok none =
      fpick t (λ us. fsplit t $ feq_l t (λ e.
      fpick t (λ vss. fsplit t $ feq_l t (λ e'.
      fsplit t $ fpick t (λ no_fields. fsplit t $ feq_l t (λ e''. drop t $ drop t $ drop t $
      none (ap only e ∙ ap (λ (ws : List Val). live 1 (of_list ws)) (e' ∙ ap (λ (ws : List Val). ws ++ []) e''))))))))
