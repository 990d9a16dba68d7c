-- The corners of one face of a complex are changed.
use Rattle.std.proofs.Common.{◌≡◌, ◌≤◌, ◌-◌, ℕ, suc, zero, List, [], ◌∷◌, ◌++◌, Option, Some, None, length, take, drop, map, refl, sym, ap, ◌∙◌, arith}
use Rattle.std.specs.List.{insert}
use Rattle.std.proofs.lemmas.List.{append_assoc, length-append, length-drop, take_all, take-append-drop, drop-map, take-map, map-append}
use Rattle.std.proofs.Math.Seq.{take-append_seam, drop-append_seam}
use Rattle.std.proofs.Math.ListN.{drop_of_length-le}
use Rattle.mesh_model.specs.Complex.{Complex}
use Rattle.mesh_model.specs.Kernel.{with_corners_by, changed_at}
use Rattle.mesh_model.specs.Table.{at, update}
use Rattle.mesh_model.specs.declared.names.FaceName.{FaceName}
use Rattle.mesh_model.specs.declared.records.CornerRec.{CornerRec}
use Rattle.mesh_model.specs.declared.records.FaceRec.{FaceRec}
use Rattle.mesh_records.specs.Changes.{turned}

-- ---- tables

-- two changes at one name are one
update_twice : {X : Type 0} (table : List (Option X)) (k : ℕ) (g h : X → X)
    → update (update table k g) k h ≡ update table k (λ (x : X). h (g x))
update_twice [] k g h = refl
update_twice (None ∷ table) zero g h = refl
update_twice (Some x ∷ table) zero g h = refl
update_twice {X} (o ∷ table) (suc k) g h = ap (λ (t : List (Option X)). o ∷ t) (update_twice table k g h)

-- two changes that agree on what stands at the name
update_agrees : {X : Type 0} (table : List (Option X)) (k : ℕ) (g h : X → X)
    → ((x : X) → at table k ≡ Some x → g x ≡ h x) → update table k g ≡ update table k h
update_agrees [] k g h same = refl
update_agrees (None ∷ table) zero g h same = refl
update_agrees {X} (Some x ∷ table) zero g h same = ap (λ (y : X). Some y ∷ table) (same x refl)
update_agrees {X} (o ∷ table) (suc k) g h same = ap (λ (t : List (Option X)). o ∷ t) (update_agrees table k g h same)

-- a change that leaves what stands there
update_none : {X : Type 0} (table : List (Option X)) (k : ℕ) → update table k (λ (x : X). x) ≡ table
update_none [] k = refl
update_none (None ∷ table) zero = refl
update_none (Some x ∷ table) zero = refl
update_none {X} (o ∷ table) (suc k) = ap (λ (t : List (Option X)). o ∷ t) (update_none table k)

-- ---- faces

module _ (c : Complex) (k : FaceName) where
  pub corners_twice : (g h : List CornerRec → List CornerRec)
      → with_corners_by (with_corners_by c k g) k h ≡ with_corners_by c k (λ (cs : List CornerRec). h (g cs))
  corners_twice g h =
      let G = λ (r : FaceRec). let q : FaceRec = record r { corners = g r.corners } in q in
      let H = λ (r : FaceRec). let q : FaceRec = record r { corners = h r.corners } in q in
      ap (λ (t : List (Option FaceRec)). let d : Complex = record c { faces = t } in d) (update_twice c.faces k.0 G H)

  pub corners_agree : (g h : List CornerRec → List CornerRec)
      → ((r : FaceRec) → at c.faces k.0 ≡ Some r → g r.corners ≡ h r.corners)
      → with_corners_by c k g ≡ with_corners_by c k h
  corners_agree g h same =
      let G = λ (r : FaceRec). let q : FaceRec = record r { corners = g r.corners } in q in
      let H = λ (r : FaceRec). let q : FaceRec = record r { corners = h r.corners } in q in
      ap (λ (t : List (Option FaceRec)). let d : Complex = record c { faces = t } in d)
      (update_agrees c.faces k.0 G H (λ r e. let s = same r e in λ i. record { corners = s i; vals = r.vals }))

  pub corners_stay : with_corners_by c k (λ (cs : List CornerRec). cs) ≡ c
  corners_stay = ap (λ (t : List (Option FaceRec)). let d : Complex = record c { faces = t } in d)
      (update_none c.faces k.0)

-- ---- lists of corners

-- what stands last is changed
pub changed_last : {X : Type 0} (xs : List X) (x : X) (change : X → X)
    → changed_at (xs ++ x ∷ []) (length xs) change ≡ xs ++ change x ∷ []
changed_last [] x change = refl
changed_last {X} (y ∷ xs) x change = ap (λ (ys : List X). y ∷ ys) (changed_last xs x change)

-- a list that is turned past its end stays
pub turned_none : {X : Type 0} (xs : List X) → turned (length xs) xs ≡ xs
turned_none {X} xs = ap (λ (zs : List X). zs ++ take (length xs) xs) (drop_of_length-le xs (omega arith))
    ∙ take_all (length xs) xs (omega arith)

-- a list that is turned at the end of its first part
turned_at : {X : Type 0} (ys zs : List X) → turned (length ys) (ys ++ zs) ≡ zs ++ ys
turned_at ys zs = (let a = drop-append_seam ys zs in let b = take-append_seam ys zs in λ j. a j ++ b j)

-- turned, with one more at the end, and turned back: one more stands at the position
pub inserted : {X : Type 0} (xs : List X) (i : ℕ) (x : X) → i ≤ length xs
    → turned (length xs - i) (turned i xs ++ x ∷ []) ≡ insert xs i x
inserted {X} xs i x h =
    ap (turned (length xs - i)) (append_assoc (drop i xs) (take i xs) (x ∷ []))
    ∙ ap (λ (n : ℕ). turned n (drop i xs ++ (take i xs ++ x ∷ []))) (sym (length-drop i xs))
    ∙ turned_at (drop i xs) (take i xs ++ x ∷ [])
    ∙ append_assoc (take i xs) (x ∷ []) (drop i xs)

-- and as many are there
pub turned_long : {X : Type 0} (xs : List X) (i : ℕ) → length (turned i xs) ≡ length xs
turned_long {X} xs i =
    let sum = length-append (drop i xs) (take i xs) in
    let other = length-append (take i xs) (drop i xs) in
    let both = ap (λ (ys : List X). length ys) (take-append-drop i xs) in
    omega arith

pub map_turned : {X Y : Type 0} (f : X → Y) (xs : List X) (i : ℕ) → map f (turned i xs) ≡ turned i (map f xs)
map_turned f xs i =
    let d = sym (drop-map f i xs) in
    let t = sym (take-map f i xs) in
    map-append f (drop i xs) (take i xs) ∙ (λ j. d j ++ t j)
