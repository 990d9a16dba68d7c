-- Vertices moved, one after another, as one change.
use Rattle.std.proofs.Common.{◌≡◌, ℕ, zero, suc, ◌+◌, ◌<◌, Bool, true, false, cond, eqb, List, [], ◌∷◌, length, map, take}
use Rattle.std.proofs.Common.{subst, drop, not, add-one, drop-cons, get_or, IsTrue, inl, inr, refl, sym, ap, ◌∙◌, arith, Option, Some, None, is_some}
use Rattle.std.specs.List.{find}
use Rattle.std.specs.Option.{option_map}
use Rattle.std.proofs.lemmas.List.Folds.{list_any_more}
use Rattle.std.proofs.lemmas.Bool.{cases_Bool, or_cases, eqb-true, and_from, and_parts, not-false, cond-true, cond-false}
use Rattle.mesh_model.specs.Table.{at, passes, IsThere, Each, changed_names}
use Rattle.mesh_model.specs.Complex.{Complex}
use Rattle.mesh_model.specs.Elements.{is_among}
use Rattle.mesh_model.specs.Naming.{is_rising, vert_numbers}
use Rattle.mesh_model.specs.Valid.{is_on_grid, IsValid, IsSound, IsVertValid}
use Rattle.mesh_model.specs.declared.names.VertName.{VertName}
use Rattle.mesh_model.specs.declared.records.Point.{Point}
use Rattle.mesh_model.specs.declared.records.VertRec.{VertRec}
use Rattle.mesh_model.proofs.Tables.{there-below, at-changed_names, length-changed_names, changed_names-none}
use Rattle.mesh_model.proofs.Tables.{update-changed_names}
use Rattle.mesh_model.specs.Refusals.{refused_at}
use Rattle.mesh_model.specs.declared.names.Elem.TheVariants.{Vert}
use Rattle.mesh_model.specs.declared.refusal.Why.{Why}
use Rattle.mesh_model.specs.declared.refusal.Why.TheVariants.{OutOfGrid}
use Rattle.mesh_passes.specs.Moving.{leaves, stays_on_grid, moved_one, first_leaving, moved_vert, moved, unless_on_grid}
use Rattle.mesh_passes.proofs.Rising.{not_before}

abbrev is_named : List VertName → ℕ → Bool
is_named vs n = is_among vs (record { 0 = n })

-- where none is found, each fails
find-none-cons : {X : Type 0} (p : X → Bool) (x : X) (xs : List X) → find p (x ∷ xs) ≡ None
    → (p x ≡ false) × (find p xs ≡ None)
find-none-cons p x xs h = elim (cases_Bool (p x)) [
  | inl is ↦ absurd (let some = sym h ∙ cond-true (p x) (Some x) (find p xs) is in cc)
  | inr is ↦ (is, sym (cond-false (p x) (Some x) (find p xs) is) ∙ h)
]

find-none : {X : Type 0} (p : X → Bool) (xs : List X) (i : ℕ) (d : X) → find p xs ≡ None → i < length xs
    → p (get_or xs i d) ≡ false
find-none p [] i d h less = absurd (omega arith)
find-none p (x ∷ xs) zero d h less = (find-none-cons p x xs h).0
find-none p (x ∷ xs) (suc i) d h less = find-none p xs i d (find-none-cons p x xs h).1 (omega arith)

-- the point of a vertex of a valid complex is on the grid
pub point_on_grid : (c : Complex) (n : ℕ) (p : Point) → IsValid c
    → option_map (λ (r : VertRec). r.point) (at c.verts n) ≡ Some p → is_on_grid p ≡ true
point_on_grid c n p valid is = of (at c.verts n) refl is
  where
    of : (o : Option VertRec) → at c.verts n ≡ o → option_map (λ (r : VertRec). r.point) o ≡ Some p
        → is_on_grid p ≡ true
    of None at_n is = absurd (cc)
    of (Some r) at_n is = let same : r.point ≡ p = cc in
        subst (λ (q : Point). is_on_grid q ≡ true) same (valid.verts n r at_n).point

-- a vertex leaves where its motion gives no point of the grid
pub leaves_none : (to : Point → Point) (o : Option VertRec) (p : Point) (r : Option Point)
    → option_map (λ (r : VertRec). r.point) o ≡ Some p → r ≡ cond (is_on_grid (to p)) (Some (to p)) None → r ≡ None
    → true ≡ passes (leaves to) o
leaves_none to None p r at_p told is = absurd (cc)
leaves_none to (Some v) p r at_p told is =
    let same : v.point ≡ p = cc in
    by_test (is_on_grid (to v.point)) refl (subst (λ (q : Point). r ≡ cond (is_on_grid (to q)) (Some (to q)) None)
    (sym same) told)
  where
    by_test : (b : Bool) → is_on_grid (to v.point) ≡ b → r ≡ cond (is_on_grid (to v.point)) (Some (to v.point)) None
        → true ≡ not (is_on_grid (to v.point))
    by_test true on told_v = absurd (let some : None ≡ Some (to v.point) = sym is ∙ told_v
        ∙ cond-true (is_on_grid (to v.point)) (Some (to v.point)) None on in cc)
    by_test false on told_v = sym (ap not on)

pub leaves_some : (to : Point → Point) (o : Option VertRec) (p q : Point) (r : Option Point)
    → option_map (λ (r : VertRec). r.point) o ≡ Some p → r ≡ cond (is_on_grid (to p)) (Some (to p)) None → r ≡ Some q
    → false ≡ passes (leaves to) o
leaves_some to None p q r at_p told is = absurd (cc)
leaves_some to (Some v) p q r at_p told is =
    let same : v.point ≡ p = cc in
    by_test (is_on_grid (to v.point)) refl (subst (λ (q : Point). r ≡ cond (is_on_grid (to q)) (Some (to q)) None)
    (sym same) told)
  where
    by_test : (b : Bool) → is_on_grid (to v.point) ≡ b → r ≡ cond (is_on_grid (to v.point)) (Some (to v.point)) None
        → false ≡ not (is_on_grid (to v.point))
    by_test true on told_v = sym (ap not on)
    by_test false on told_v = absurd (let some : Some q ≡ None = sym is ∙ told_v
        ∙ cond-false (is_on_grid (to v.point)) (Some (to v.point)) None on in cc)

-- a vertex that stays isn't told to leave
pub stays_somewhere : (to : Point → Point) (o : Option VertRec) (p : Point) (r : Option Point)
    → passes (stays_on_grid to) o ≡ true → option_map (λ (r : VertRec). r.point) o ≡ Some p
    → r ≡ cond (is_on_grid (to p)) (Some (to p)) None → r ≡ None → ⊥
stays_somewhere to None p r stay at_p told is = absurd (cc)
stays_somewhere to (Some v) p r stay at_p told is =
    let same : v.point ≡ p = cc in
    let on : is_on_grid (to p) ≡ true = subst (λ (q : Point). is_on_grid (to q) ≡ true) same
    (and_parts (is_on_grid v.point) (is_on_grid (to v.point)) stay).1 in
    let some : None ≡ Some (to p) = sym is ∙ told ∙ cond-true (is_on_grid (to p)) (Some (to p)) None on in cc

-- one more is looked at
pub find_next : {X : Type 0} (p : X → Bool) (xs : List X) (i : ℕ) (d : X) (b : Bool) → i < length xs
    → b ≡ p (get_or xs i d) → find p (drop i xs) ≡ cond b (Some (get_or xs i d)) (find p (drop (i + 1) xs))
find_next p xs i d b less is =
    let here : drop i xs ≡ get_or xs i d ∷ drop (i + 1) xs = rw (add-one, drop-cons xs i d) refl in
    ap (find p) here
    ∙ ap (λ (t : Bool). cond t (Some (get_or xs i d)) (find p (drop (i + 1) xs))) (sym is)

pub moved_none : (to : Point → Point) (c : Complex) → moved to c [] ≡ c
unfolding moved
moved_none to c = ap (λ (t : List (Option VertRec)). record c { verts = t })
    (changed_names-none (is_named []) (moved_vert to) c.verts (λ n. refl))

-- a vertex that isn't among those moved is as before
moved-at : (to : Point → Point) (c : Complex) (vs : List VertName) (i : ℕ) (d : VertName)
    → is_rising (vert_numbers vs) ≡ true → i < length vs
    → at (moved to c (take i vs)).verts (get_or vs i d).0 ≡ at c.verts (get_or vs i d).0
unfolding moved
moved-at to c vs i d rising less =
    at-changed_names (is_named (take i vs)) (moved_vert to) c.verts (get_or vs i d).0
    ∙ cond-false (is_named (take i vs) (get_or vs i d).0) _ _ (not_before (λ (v : VertName). v.0) vs i d rising less)

pub moved_live : (to : Point → Point) (c : Complex) (vs : List VertName) (i : ℕ) (d : VertName)
    → is_rising (vert_numbers vs) ≡ true → i < length vs → IsThere c.verts (get_or vs i d).0
    → IsThere (moved to c (take i vs)).verts (get_or vs i d).0
moved_live to c vs i d rising less there = ap is_some (moved-at to c vs i d rising less) ∙ there

pub moved_more : (to : Point → Point) (c : Complex) (vs : List VertName) (i : ℕ) (d : VertName)
    → is_rising (vert_numbers vs) ≡ true → i < length vs
    → moved_one to (moved to c (take i vs)) (get_or vs i d) ≡ moved to c (take (i + 1) vs)
unfolding moved moved_one
moved_more to c vs i d rising less = ap (λ (t : List (Option VertRec)). record c { verts = t })
    (update-changed_names (is_named (take i vs)) (is_named (take (i + 1) vs)) (get_or vs i d).0 (moved_vert to)
    (moved_vert to) c.verts (λ n. list_any_more (λ (v : VertName). eqb v.0 n) vs i d less)
    (not_before (λ (v : VertName). v.0) vs i d rising less) refl)

stays : (to : Point → Point) (o : Option VertRec) → is_some o ≡ true → passes (leaves to) o ≡ false
    → ((r : VertRec) → o ≡ Some r → IsVertValid r) → passes (stays_on_grid to) o ≡ true
stays to None there none on = absurd (cc)
stays to (Some r) there none on =
    and_from (is_on_grid r.point) (is_on_grid (to r.point)) (on r refl).point (not-false (is_on_grid (to r.point)) none)

-- none leaves, so the next one stays on the grid
pub moved_stays : (to : Point → Point) (c : Complex) (vs : List VertName) (i : ℕ) (d : VertName)
    → is_rising (vert_numbers vs) ≡ true → i < length vs → IsThere c.verts (get_or vs i d).0
    → first_leaving to c vs ≡ None → IsValid c
    → passes (stays_on_grid to) (at (moved to c (take i vs)).verts (get_or vs i d).0) ≡ true
moved_stays to c vs i d rising less there none valid =
    ap (passes (stays_on_grid to)) (moved-at to c vs i d rising less)
    ∙ stays to (at c.verts (get_or vs i d).0) there
    (find-none (λ (v : VertName). passes (leaves to) (at c.verts v.0)) vs i d none less)
    (valid.verts (get_or vs i d).0)

-- none leaves where that isn't refused
refused_none : (why : Why) (o : Option VertName) → refused_at why (option_map Vert o) ≡ None → o ≡ None
refused_none why None h = refl
refused_none why (Some v) h = absurd (cc)

pub none_leaves : (to : Point → Point) (c : Complex) (vs : List VertName) → unless_on_grid to c vs ≡ None
    → first_leaving to c vs ≡ None
none_leaves to c vs h = refused_none OutOfGrid (first_leaving to c vs) h
