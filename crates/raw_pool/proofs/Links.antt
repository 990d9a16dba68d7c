-- An empty place is room for a link, and the room comes back. Assumes `Logic`.
use mathlib.Core.Path.{◌≡◌, refl, sym, ap, ◌∙◌}
use Prim.Native.Nat.{ℕ, zero, ◌+◌, ◌-◌, ◌*◌, ◌≤◌, ◌%◌}
use native.Mathlib.Omega.{arith}
use native.Mathlib.Nat.{mod_self, sub-zero}
use mathlib.Core.List.{[], ◌∷◌}
use seplogic.Ra.Ura.{Ura}
use mir.Syntax.{Ty, Tys, w8, w32, tnil, tcons, ty_int, ty_array, ty_struct}
use base.Logic.{ent, sep, wand, apply∗, id⊢}
use base.Fml.{froom}
use prog.Memory.{size, align, pad, up, end_of}
use prog.Model.{rooms_at}
use prog.Align.{→dv}
use mir.Raw.{raw as machine}
use types.Logic.{Logic}
use types.Kit.{‵, raw, ◌⊛◌, ◌$◌, ◌∵◌, !, qed, by, use1, use2, split, join, frame, assume, rewrite}

abbrev link : Ty
link = ty_int w32

flush : (a n : ℕ) → n % a ≡ 0 → up a n ≡ n
flush a n none =
    let gone : pad a n ≡ 0 = ap (λ (r : ℕ). (a - r) % a) none ∙ ap (λ (r : ℕ). r % a) (sub-zero a) ∙ mod_self a in
    ap (λ (r : ℕ). n + r) gone ∙ omega arith

module _ {M : Type 1} {𝓤 : Ura M} (𝓛 : Logic 𝓤) where
  open 𝓛 use {H}

  pub room_for_link : (σ : Ty) (b o : ℕ) → 4 ≤ size σ → size σ % 4 ≡ 0 → align σ % 4 ≡ 0
      → ent 𝓤 (H.room σ b o) (sep 𝓤 (H.room link b o) (wand 𝓤 (H.room link b o) (H.room σ b o)))
  room_for_link σ b o wide whole even =
      let tail : Tys = tcons (ty_array (ty_int w8) (size σ - 4)) tnil in
      let both : Tys = tcons link tail in
      let ω : Ty = ty_struct [] both in
      let ends : end_of zero both ≡ size σ = ap (λ (n : ℕ). n + (size σ - 4) * 1) (flush 1 4 refl) ∙ omega arith in
      let same : size ω ≡ size σ = ap (λ (n : ℕ). up 4 n) ends ∙ flush 4 (size σ) whole in
      let rooms = rooms_at 𝓤 H both zero b o in
      let rest = rooms_at 𝓤 H tail 4 b o in
      let here : o + 0 ≡ o = omega arith in
      qed 𝓛 (‵ (froom σ b o) ∷ []) ∵
      use1 𝓛 (‵ (froom ω b o) ⊛ raw (wand 𝓤 (H.room ω b o) (H.room σ b o)))
      (𝓛.laws.room_as σ ω b o same (→dv 4 (align σ) even)) $ split ! $
      use1 𝓛 (raw rooms ⊛ raw (wand 𝓤 rooms (H.room ω b o))) (𝓛.laws.room_fields [] both b o) $ split ! $
      use1 𝓛 (‵ (froom link b (o + 0)) ⊛ raw rest) (id⊢ 𝓤 rooms) $ split ! $ rewrite ! 0 (λ (d : ℕ). ‵ (froom link b d))
      here refl $
      frame ! $ assume {P = H.room σ b o} ! (‵ (froom link b o)) $ rewrite ! 0 (λ (d : ℕ). ‵ (froom link b d))
      (sym here) refl $ join ! $
      use2 𝓛 (‵ (froom ω b o)) (apply∗ 𝓤 rooms (H.room ω b o)) $ by ! (apply∗ 𝓤 (H.room ω b o) (H.room σ b o))

  -- the same at the bytes of a place, by the type that they are for
  pub place_for_link : (σ : Ty) (b o : ℕ) → 4 ≤ size σ → size σ % 4 ≡ 0 → align σ % 4 ≡ 0
      → ent 𝓤 (H.room (machine σ) b o) (sep 𝓤 (H.room link b o) (wand 𝓤 (H.room link b o) (H.room (machine σ) b o)))
  place_for_link σ b o wide whole even =
      qed 𝓛 (‵ (froom (machine σ) b o) ∷ []) ∵ use1 𝓛 (‵ (froom σ b o)) (𝓛.laws.raw-room σ b o) $
      use1 𝓛 (‵ (froom link b o) ⊛ raw (wand 𝓤 (H.room link b o) (H.room σ b o))) (room_for_link σ b o wide whole even)
      $ split ! $ frame ! $
      assume {P = H.room (machine σ) b o} ! (‵ (froom link b o)) $ use2 𝓛 (‵ (froom σ b o))
      (apply∗ 𝓤 (H.room link b o) (H.room σ b o)) $ by ! (𝓛.laws.room-raw σ b o)

  -- a link is taken back, and its place is as it was
  pub place_from_link : (σ : Ty) (b o : ℕ)
      → ent 𝓤 (sep 𝓤 (H.room link b o) (wand 𝓤 (H.room link b o) (H.room σ b o))) (H.room σ b o)
  place_from_link σ b o = apply∗ 𝓤 (H.room link b o) (H.room σ b o)
