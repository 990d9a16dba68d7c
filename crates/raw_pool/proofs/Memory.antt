-- One place comes out of a row of places and goes back, and a row of empty places is room for an array.
use mathlib.Core.Path.{◌≡◌, subst}
use Prim.Native.Nat.{ℕ, zero, suc, ◌+◌, ◌*◌, ◌<◌}
use native.Mathlib.Omega.{arith}
use mathlib.Core.List.{List, [], ◌∷◌}
use lib.ListN.{length, get_or, set, replicate}
use seplogic.Ra.Ura.{Ura}
use mir.Syntax.{ty_array}
use base.Logic.{ent, sep, id⊢}
use base.Fml.{Fml, Lft, ftrue, fsep, froom}
use types.Logic.{Logic, sem}
use types.Kit.{‵, ◌⊛◌, ◌$◌, ◌∵◌, !, qed, by, move, keep, use1, use2, split, frame, fsplit, fjoin, done}
use denote.Index.{place, place_is}
use Rattle.std.specs.Mem.{type_size}
use Rattle.core.proofs.mem.Param.{El, R, el_x, elτ}
use Rattle.raw_pool.specs.Place.{Place, Empty}
use Rattle.raw_pool.specs.Ownership.{place_owns, row_owns, place_lends, row_lends}

abbrev pub bytes : El → ℕ
bytes E = type_size (R E)

-- the row without its i-th place
abbrev pub besides : (E : El) → ℕ → ℕ → List (Place (el_x E)) → ℕ → Fml
besides E b o [] i = ftrue
besides E b o (p ∷ ps) zero = row_owns (R E) b (o + bytes E) ps
besides E b o (p ∷ ps) (suc i) = fsep (place_owns (R E) b o p) (besides E b (o + bytes E) ps i)

module _ (E : El) {M : Type 1} {𝓤 : Ura M} (𝓛 : Logic 𝓤) (b : ℕ) where
  open 𝓛 use {H}

  abbrev s : ℕ
  s = bytes E

  abbrev one : ℕ → Place (el_x E) → Fml
  one = place_owns (R E) b

  abbrev all : ℕ → List (Place (el_x E)) → Fml
  all = row_owns (R E) b

  out : (ps : List (Place (el_x E))) (i o : ℕ) → i < length ps
      → ent 𝓤 (sem 𝓛 (all o ps)) (sep 𝓤 (sem 𝓛 (one (place s o i) (get_or ps i Empty))) (sem 𝓛 (besides E b o ps i)))
  out [] i o l = absurd (omega arith)
  out (p ∷ ps) zero o l = id⊢ 𝓤 _
  out (p ∷ ps) (suc i) o l =
      qed 𝓛 (‵ (all o (p ∷ ps)) ∷ []) ∵ fsplit ! $ move ! (1 ∷ []) $
      use1 𝓛 (‵ (one (place s (o + s) i) (get_or ps i Empty)) ⊛ ‵ (besides E b (o + s) ps i))
      (out ps i (o + s) (omega arith)) $ split ! $ frame ! $ move ! (1 ∷ 0 ∷ []) $ fjoin ! $ done !

  back : (ps : List (Place (el_x E))) (i o : ℕ) (q : Place (el_x E)) → i < length ps
      → ent 𝓤 (sep 𝓤 (sem 𝓛 (one (place s o i) q)) (sem 𝓛 (besides E b o ps i))) (sem 𝓛 (all o (set ps i q)))
  back [] i o q l = absurd (omega arith)
  back (p ∷ ps) zero o q l = id⊢ 𝓤 _
  back (p ∷ ps) (suc i) o q l =
      qed 𝓛 (‵ (one (place s (o + s) i) q) ∷ ‵ (besides E b o (p ∷ ps) (suc i)) ∷ []) ∵ move ! (1 ∷ []) $ fsplit ! $
      move ! (2 ∷ 1 ∷ []) $
      use2 𝓛 (‵ (all (o + s) (set ps i q))) (back ps i (o + s) q (omega arith)) $ move ! (1 ∷ 0 ∷ []) $ fjoin ! $ done !

  -- the place at the index, as code finds it
  pub place_out : (ps : List (Place (el_x E))) (i o : ℕ) (q : Place (el_x E)) → i < length ps → get_or ps i Empty ≡ q
      → ent 𝓤 (sem 𝓛 (all o ps)) (sep 𝓤 (sem 𝓛 (one (i * s + o) q)) (sem 𝓛 (besides E b o ps i)))
  place_out ps i o q l e =
      let P = λ (c : ℕ × Place (el_x E)). ent 𝓤 (sem 𝓛 (all o ps))
      (sep 𝓤 (sem 𝓛 (one c.0 c.1)) (sem 𝓛 (besides E b o ps i))) in
      subst P (λ j. (place_is s o i j, e j)) (out ps i o l)

  pub place_in : (ps : List (Place (el_x E))) (i o : ℕ) (q : Place (el_x E)) → i < length ps
      → ent 𝓤 (sep 𝓤 (sem 𝓛 (one (i * s + o) q)) (sem 𝓛 (besides E b o ps i))) (sem 𝓛 (all o (set ps i q)))
  place_in ps i o q l =
      let P = λ (k : ℕ). ent 𝓤 (sep 𝓤 (sem 𝓛 (one k q)) (sem 𝓛 (besides E b o ps i))) (sem 𝓛 (all o (set ps i q))) in
      subst P (place_is s o i) (back ps i o q l)

  -- room for an array is as many empty places
  pub new_row : (n o : ℕ) → ent 𝓤 (H.room (ty_array (elτ E) n) b o) (sem 𝓛 (all o (replicate n Empty)))
  new_row zero o = qed 𝓛 (‵ (froom (ty_array (elτ E) 0) b o) ∷ []) ∵ keep ! [] $ done !
  new_row (suc n) o =
      qed 𝓛 (‵ (froom (ty_array (elτ E) (suc n)) b o) ∷ []) ∵
      use1 𝓛 (‵ (froom (elτ E) b o) ⊛ ‵ (froom (ty_array (elτ E) n) b (o + s))) (𝓛.laws.room_uncons (elτ E) n b o) $
      split ! $
      use1 𝓛 (‵ (one o Empty)) (𝓛.laws.room-raw (elτ E) b o) $ frame ! $ by ! (new_row n (o + s))

  pub old_row : (n o : ℕ) → ent 𝓤 (sem 𝓛 (all o (replicate n Empty))) (H.room (ty_array (elτ E) n) b o)
  old_row zero o = 𝓛.laws.room_nil (elτ E) b o
  old_row (suc n) o =
      qed 𝓛 (‵ (one o Empty) ∷ ‵ (all (o + s) (replicate n Empty)) ∷ []) ∵ use1 𝓛 (‵ (froom (elτ E) b o))
      (𝓛.laws.raw-room (elτ E) b o) $ move ! (1 ∷ []) $
      use1 𝓛 (‵ (froom (ty_array (elτ E) n) b (o + s))) (old_row n (o + s)) $ move ! (1 ∷ []) $ by !
      (𝓛.laws.room_cons (elτ E) n b o)

  -- what a `&` shows of the place at the index
  module _ (κ : Lft) where
    seen : (ps : List (Place (el_x E))) (i o : ℕ) → i < length ps
        → ent 𝓤 (sem 𝓛 (row_lends (R E) b o ps κ)) (sem 𝓛 (place_lends (R E) b (place s o i) (get_or ps i Empty) κ))
    seen [] i o l = absurd (omega arith)
    seen (p ∷ ps) zero o l = qed 𝓛 (‵ (row_lends (R E) b o (p ∷ ps) κ) ∷ []) ∵ fsplit ! $ keep ! (0 ∷ []) $ done !
    seen (p ∷ ps) (suc i) o l = qed 𝓛 (‵ (row_lends (R E) b o (p ∷ ps) κ) ∷ []) ∵ fsplit ! $ keep ! (1 ∷ []) $ by !
        (seen ps i (o + s) (omega arith))

    pub place_seen : (ps : List (Place (el_x E))) (i o : ℕ) (q : Place (el_x E)) → i < length ps → get_or ps i Empty ≡ q
        → ent 𝓤 (sem 𝓛 (row_lends (R E) b o ps κ)) (sem 𝓛 (place_lends (R E) b (i * s + o) q κ))
    place_seen ps i o q l e =
        let P = λ (c : ℕ × Place (el_x E)). ent 𝓤 (sem 𝓛 (row_lends (R E) b o ps κ))
        (sem 𝓛 (place_lends (R E) b c.0 c.1 κ)) in
        subst P (λ j. (place_is s o i j, e j)) (seen ps i o l)
