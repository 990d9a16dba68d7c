-- One entry more in the tree.
use Rattle.std.proofs.Common.{◌≡◌, ◌≢◌, ℕ, zero, suc, ◌+◌, ◌/◌, ◌%◌, ◌==◌, ◌<◌, ◌≤◌, Bool, true, false, cond, List, [], ◌∷◌, ◌++◌, length, set, take, inl, inr, ◌⊎◌, refl, sym, ap, ◌∙◌, subst, arith, Option, Some, None, is_some, IsSome, IfSome, get_or, length-append, length-set}
use Rattle.std.specs.Prelude.{slice_get}
use Rattle.std.specs.Ordering.{nat_cmp}
use Rattle.std.specs.Cmp.{nat_cmp_total}
use Rattle.std.specs.FinMap.{get, insert, find, from_entries, from_entries_push, get-from_entries, nat_cmp-IsAntisymmetric}
use Rattle.std.proofs.lemmas.Bool.{cases_lt}
use Rattle.std.proofs.lemmas.Option.{slice_get_past, slice_get_within, slice_get-get_or, slice_get-map, none-some, same_Some, MatchOption-at_some}
use Rattle.std.proofs.lemmas.List.{length-map, length-take-le}
use Rattle.std.specs.Option.{option_map}
use Rattle.mesh_trail.specs.declared.note_map.Entry.{Entry}
use Rattle.mesh_model.specs.ChangeSetNotes.{with_first_note}
use Rattle.mesh_trail.specs.Tree.{pair_of, pairs, link, link_at, with_link, names_of, Leads, IsReached, IsTree, IsAbsent, KeepsLinks, IsFree}
use Rattle.mesh_model.proofs.NoteMaps.{find_here, find_there, key_cases}

pub get-append_left : {X : Type 0} (xs ys : List X) (i : ℕ) → i < length xs → slice_get (xs ++ ys) i ≡ slice_get xs i
get-append_left [] ys i less = absurd (omega arith)
get-append_left (x ∷ xs) ys zero less = refl
get-append_left (x ∷ xs) ys (suc i) less = get-append_left xs ys i (omega arith)

pub get-append_here : {X : Type 0} (xs : List X) (y : X) → slice_get (xs ++ y ∷ []) (length xs) ≡ Some y
get-append_here [] y = refl
get-append_here (x ∷ xs) y = get-append_here xs y

pub get-set_same : {X : Type 0} (xs : List X) (i : ℕ) (y : X) → i < length xs → slice_get (set xs i y) i ≡ Some y
get-set_same [] i y less = absurd (omega arith)
get-set_same (x ∷ xs) zero y less = refl
get-set_same (x ∷ xs) (suc i) y less = get-set_same xs i y (omega arith)

pub get-set_other : {X : Type 0} (xs : List X) (i j : ℕ) (y : X) → j ≢ i → slice_get (set xs i y) j ≡ slice_get xs j
get-set_other [] i j y off = refl
get-set_other (x ∷ xs) zero zero y off = absurd (off refl)
get-set_other (x ∷ xs) zero (suc j) y off = refl
get-set_other (x ∷ xs) (suc i) zero y off = refl
get-set_other (x ∷ xs) (suc i) (suc j) y off = get-set_other xs i j y (λ e. off (ap (λ (n : ℕ). suc n) e))

pub record IsGrown {R : Type 0} (es later : List (Entry R)) (at bits : ℕ) (e n : Entry R) : Type 0 where
  pub long : length later ≡ length es + 1
  pub was : slice_get es at ≡ Some e
  pub hung : slice_get later at ≡ Some (with_link e bits (length es))
  pub new : slice_get later (length es) ≡ Some n
  pub others : (i : ℕ) → i < length es → i ≢ at → slice_get later i ≡ slice_get es i
  pub even : n.even ≡ 0
  pub odd : n.odd ≡ 0

pub grown_set : {R : Type 0} (es : List (Entry R)) (at bits : ℕ) (e n : Entry R) → slice_get es at ≡ Some e → n.even ≡ 0
    → n.odd ≡ 0 → IsGrown es (set (es ++ n ∷ []) at (with_link e bits (length es))) at bits e n
grown_set es at bits e n was even odd =
    let less = slice_get_within es at e was in
    let long : length (es ++ n ∷ []) ≡ length es + 1 = length-append es (n ∷ []) in
    record {
      long = length-set (es ++ n ∷ []) at (with_link e bits (length es)) ∙ long;
      was = was;
      hung = get-set_same (es ++ n ∷ []) at (with_link e bits (length es)) (omega arith);
      new = get-set_other (es ++ n ∷ []) at (length es) (with_link e bits (length es)) (λ is. absurd (omega arith))
          ∙ get-append_here es n;
      others = λ i below off. get-set_other (es ++ n ∷ []) at i (with_link e bits (length es)) off
          ∙ get-append_left es (n ∷ []) i below;
      even = even;
      odd = odd;
    }

-- LINKS

abbrev link_by : {R : Type 0} → Bool → Entry R → ℕ
link_by p e = cond p e.even e.odd

abbrev linked_by : {R : Type 0} → Bool → Entry R → ℕ → Entry R
linked_by p e to = cond p (record e { even = to }) (record e { odd = to })

pub cases_eq : (i j : ℕ) → (i ≡ j) ⊎ (i ≢ j)
cases_eq i j = elim (key_cases i j) [ inl e ↦ inl e | inr off ↦ inr off.0 ]

none_linked : {R : Type 0} (p : Bool) (n : Entry R) → n.even ≡ 0 → n.odd ≡ 0 → cond p n.even n.odd ≡ 0
none_linked true n even odd = even
none_linked false n even odd = odd

hung_cases : {R : Type 0} (p q : Bool) (e : Entry R) (to : ℕ)
    → ((p ≡ q) × (link_by q (linked_by p e to) ≡ to)) ⊎ (link_by q (linked_by p e to) ≡ link_by q e)
hung_cases true true e to = inl (refl, refl)
hung_cases true false e to = inr refl
hung_cases false true e to = inr refl
hung_cases false false e to = inl (refl, refl)

hung_here : {R : Type 0} (p : Bool) (e : Entry R) (to : ℕ) → link_by p (linked_by p e to) ≡ to
hung_here true e to = refl
hung_here false e to = refl

name-linked : {R : Type 0} (p : Bool) (e : Entry R) (to : ℕ)
    → ((linked_by p e to).name ≡ e.name) × ((linked_by p e to).was ≡ e.was)
name-linked true e to = (refl, refl)
name-linked false e to = (refl, refl)

link_none : {R : Type 0} (es : List (Entry R)) (i bits : ℕ) → length es ≤ i → link_at es i bits ≡ 0
link_none {R = R} es i bits over = ap (λ (o : Option (Entry R)). link o bits) (slice_get_past es i over)

pair-linked : {R : Type 0} (p : Bool) (e : Entry R) (to : ℕ) → Some (pair_of (linked_by p e to)) ≡ Some (pair_of e)
pair-linked true e to = refl
pair-linked false e to = refl

-- the links of the grown tree: the new one, and the old ones
pub grown_links : {R : Type 0} (es later : List (Entry R)) (at bits : ℕ) (e n : Entry R) → IsGrown es later at bits e n
    → (i b : ℕ)
    → ((i ≡ at) × (((bits % 2) == 0) ≡ ((b % 2) == 0)) × (link_at later i b ≡ length es)) ⊎
    (link_at later i b ≡ link_at es i b)
grown_links {R = R} es later at bits e n grown i b =
    elim (cases_lt i (length es)) [
      | inl less ↦ elim (cases_eq i at) [
        | inl is ↦ here is
        | inr off ↦ inr (ap (λ (o : Option (Entry R)). link o b) (grown.others i less off))
      ]
      | inr over ↦ inr (outside over ∙ sym (link_none es i b over))
    ]
  where
    here : i ≡ at → ((i ≡ at) × (((bits % 2) == 0) ≡ ((b % 2) == 0)) × (link_at later i b ≡ length es)) ⊎
        (link_at later i b ≡ link_at es i b)
    here is =
        let later_is : slice_get later i ≡ Some (with_link e bits (length es)) = ap (slice_get later) is ∙ grown.hung in
        let es_is : slice_get es i ≡ Some e = ap (slice_get es) is ∙ grown.was in
        elim (hung_cases ((bits % 2) == 0) ((b % 2) == 0) e (length es)) [
          | inl both ↦ inl (is, both.0, ap (λ (o : Option (Entry R)). link o b) later_is ∙ both.1)
          | inr same ↦ inr (ap (λ (o : Option (Entry R)). link o b) later_is ∙ same
              ∙ sym (ap (λ (o : Option (Entry R)). link o b) es_is))
        ]

    outside : length es ≤ i → link_at later i b ≡ 0
    outside over = elim (cases_eq i (length es)) [
      | inl is ↦ ap (λ (o : Option (Entry R)). link o b) (ap (slice_get later) is ∙ grown.new)
          ∙ none_linked ((b % 2) == 0) n grown.even grown.odd
      | inr off ↦ link_none later i b (let long = grown.long in omega arith)
    ]

pub grown_keeps : {R : Type 0} (es later : List (Entry R)) (at bits : ℕ) (e n : Entry R) → IsGrown es later at bits e n
    → link_at es at bits ≡ 0 → KeepsLinks es later
grown_keeps {R = R} es later at bits e n grown free i b linked =
    elim (grown_links es later at bits e n grown i b) [
      | inl new ↦ absurd (linked (ap (λ (o : Option (Entry R)). link o b) (ap (slice_get es) new.0 ∙ grown.was)
          ∙ ap (λ (p : Bool). link_by p e) (sym new.1) ∙ sym (ap (λ (o : Option (Entry R)). link o bits) grown.was)
          ∙ free))
      | inr same ↦ same
    ]

leads_kept : {R : Type 0} (es later : List (Entry R)) → KeepsLinks es later → (d bits i j : ℕ) → Leads d es bits i j
    → Leads d later bits i j
leads_kept es later keeps zero bits i j is = is
leads_kept es later keeps (suc d) bits i j on = (
  λ e. on.0 (sym (keeps i bits on.0) ∙ e),
  subst (λ (k : ℕ). Leads d later (bits / 2) k j) (sym (keeps i bits on.0))
      (leads_kept es later keeps d (bits / 2) (link_at es i bits) j on.1),
)

-- an old entry has the name that it had
pub grown_old : {R : Type 0} (es later : List (Entry R)) (at bits : ℕ) (e n : Entry R) → IsGrown es later at bits e n
    → (j : ℕ) (f : Entry R) → j < length es → slice_get later j ≡ Some f
    → (old : Entry R) × (slice_get es j ≡ Some old) × (old.name ≡ f.name) × (old.was ≡ f.was)
grown_old {R = R} es later at bits e n grown j f less at_j = elim (cases_eq j at) [
  | inl is ↦ (let same : with_link e bits (length es) ≡ f =
      same_Some _ f (sym grown.hung ∙ ap (slice_get later) (sym is) ∙ at_j) in
      let kept = name-linked ((bits % 2) == 0) e (length es) in (
        e,
        ap (slice_get es) is ∙ grown.was,
        sym kept.0 ∙ ap (λ (x : Entry R). x.name) same,
        sym kept.1
            ∙ ap (λ (x : Entry R). x.was) same,
      ))
  | inr off ↦ (f, sym (grown.others j less off) ∙ at_j, refl, refl)
]

-- the tree with the new entry at the end of its path
pub grown_tree : {R : Type 0} (es later : List (Entry R)) (at bits : ℕ) (e n : Entry R) → IsTree es
    → IsFree es n.name at bits → IsGrown es later at bits e n → IsTree later
grown_tree {R = R} es later at bits e n tree spot grown = record { up = up; reached = reached; apart = apart }
  where
    keeps : KeepsLinks es later
    keeps = grown_keeps es later at bits e n grown spot.free

    up : (i b : ℕ) → link_at later i b ≢ 0 → (i < link_at later i b) × (link_at later i b < length later)
    up i b linked = elim (grown_links es later at bits e n grown i b) [
      | inl new ↦ (let long = grown.long in let below = spot.within in let is = new.0 in let to =
          new.2 in (omega arith, omega arith))
      | inr same ↦ (let long = grown.long in let old =
          tree.up i b (λ z. linked (same ∙ z)) in (omega (arith, same, old.0), omega (arith, same, old.1)))
    ]

    last : (j : ℕ) (f : Entry R) → length es ≤ j → slice_get later j ≡ Some f → (j ≡ length es) × (n ≡ f)
    last j f over at_j =
        let less = slice_get_within later j f at_j in let long = grown.long in
        let is : j ≡ length es = omega arith in
        (is, same_Some n f (sym grown.new ∙ ap (slice_get later) (sym is) ∙ at_j))

    hung : link_at later at bits ≡ length es
    hung = ap (λ (o : Option (Entry R)). link o bits) grown.hung ∙ hung_here ((bits % 2) == 0) e (length es)

    reached : (j : ℕ) (f : Entry R) → slice_get later j ≡ Some f → IsReached later f.name 0 j
    reached j f at_j = elim (cases_lt j (length es)) [
      | inl less ↦ (let old = grown_old es later at bits e n grown j f less at_j in
          let (d, on) = tree.reached j old.0 old.1 in
          subst (λ (k : ℕ). IsReached later k 0 j) old.2 (d, leads_kept es later keeps d (old.0).name 0 j on))
      | inr over ↦ (let it = last j f over at_j in
          let below = spot.within in
          let step : IsReached later bits at j = (1, (λ z. absurd (let h = hung in omega arith), hung ∙ sym it.0)) in
          subst (λ (x : Entry R). IsReached later x.name 0 j) it.1 (spot.path later keeps j step))
    ]

    apart : (j k : ℕ) (d f : Entry R) → slice_get later j ≡ Some d → slice_get later k ≡ Some f → d.name ≡ f.name
        → j ≡ k
    apart j k d f at_j at_k same = elim (cases_lt j (length es)) [
      | inl less ↦ (let old = grown_old es later at bits e n grown j d less at_j in
          elim (cases_lt k (length es)) [
            | inl low ↦ (let other = grown_old es later at bits e n grown k f low at_k in tree.apart j k old.0 other.0
                old.1 other.1 (old.2 ∙ same ∙ sym other.2))
            | inr over ↦ (let it = last k f over at_k in absurd
                (spot.absent j old.0 old.1 (old.2 ∙ same ∙ sym (ap (λ (x : Entry R). x.name) it.1))))
          ])
      | inr over ↦ (let it = last j d over at_j in
          elim (cases_lt k (length es)) [
            | inl low ↦ (let other = grown_old es later at bits e n grown k f low at_k in absurd
                (spot.absent k other.0 other.1 (other.2 ∙ sym same ∙ sym (ap (λ (x : Entry R). x.name) it.1))))
            | inr high ↦ it.0 ∙ sym (last k f high at_k).0
          ])
    ]

-- NAMES

pub items_same : {X : Type 0} (xs ys : List X) → ((i : ℕ) → slice_get xs i ≡ slice_get ys i) → xs ≡ ys
items_same [] [] is = refl
items_same [] (y ∷ ys) is = absurd (none-some y (is 0))
items_same (x ∷ xs) [] is = absurd (none-some x (sym (is 0)))
items_same {X = X} (x ∷ xs) (y ∷ ys) is =
    ap (λ (z : X). z ∷ xs) (same_Some x y (is 0)) ∙ ap (λ (zs : List X). y ∷ zs) (items_same xs ys (λ i. is (suc i)))

pub absent_found : {R : Type 0} (es : List (Entry R)) (name : ℕ) → IsAbsent es name
    → find nat_cmp name (pairs es) ≡ None
absent_found [] name absent = refl
absent_found (e ∷ es) name absent = find_there name e.name e.was (pairs es) (λ is. absent 0 e refl (sym is))
    ∙ absent_found es name (λ j f at_j. absent (suc j) f at_j)

pub get-absent : {R : Type 0} (es : List (Entry R)) (name : ℕ) → IsAbsent es name → get (names_of es) name ≡ None
get-absent es name absent = get-from_entries nat_cmp_total (pairs es) name ∙ absent_found es name absent

-- names are apart
abbrev pub AreApart : {R : Type 0} → List (Entry R) → Type 0
AreApart {R} es = (j k : ℕ) (d e : Entry R) → slice_get es j ≡ Some d → slice_get es k ≡ Some e → d.name ≡ e.name
    → j ≡ k

pub find_at : {R : Type 0} (es : List (Entry R)) (i : ℕ) (e : Entry R) → AreApart es → slice_get es i ≡ Some e
    → find nat_cmp e.name (pairs es) ≡ Some e.was
find_at [] i e apart at_i = absurd (none-some e at_i)
find_at {R = R} (f ∷ es) zero e apart at_i =
    ap (λ (x : Entry R). find nat_cmp e.name ((x.name, x.was) ∷ pairs es)) (same_Some f e at_i)
    ∙ find_here e.name e.was (pairs es)
find_at {R = R} (f ∷ es) (suc i) e apart at_i =
    find_there e.name f.name f.was (pairs es) (λ is. let no = apart (suc i) 0 e f at_i refl is in absurd (omega arith))
    ∙ find_at es i e (λ j k d g at_j at_k same. let no = apart (suc j) (suc k) d g at_j at_k same in omega arith) at_i

-- what a name's entry says
pub get-at : {R : Type 0} (es : List (Entry R)) (i : ℕ) (e : Entry R) (name : ℕ) → IsTree es → slice_get es i ≡ Some e
    → e.name ≡ name → get (names_of es) name ≡ Some e.was
get-at {R = R} es i e name tree at_i is =
    get-from_entries nat_cmp_total (pairs es) name ∙ ap (λ (q : ℕ). find nat_cmp q (pairs es)) (sym is)
    ∙ find_at es i e tree.apart at_i

get-pairs : {R : Type 0} (es : List (Entry R)) (i : ℕ) → slice_get (pairs es) i ≡ option_map pair_of (slice_get es i)
get-pairs es i = slice_get-map pair_of es i

pub grown_pairs : {R : Type 0} (es later : List (Entry R)) (at bits : ℕ) (e n : Entry R) → IsGrown es later at bits e n
    → pairs later ≡ pairs es ++ (n.name, n.was) ∷ []
grown_pairs {R = R} es later at bits e n grown =
    items_same (pairs later) (pairs es ++ (n.name, n.was) ∷ []) (λ i. get-pairs later i ∙ one i)
  where
    wide : length (pairs es) ≡ length es
    wide = length-map es pair_of

    one : (i : ℕ) → option_map pair_of (slice_get later i) ≡ slice_get (pairs es ++ (n.name, n.was) ∷ []) i
    one i = elim (cases_lt i (length es)) [
      | inl less ↦ inside less ∙ sym (get-append_left (pairs es) ((n.name, n.was) ∷ []) i (rw wide less)
          ∙ get-pairs es i)
      | inr over ↦ elim (cases_eq i (length es)) [
        | inl is ↦ ap (λ (o : Option (Entry R)). option_map pair_of o) (ap (slice_get later) is ∙ grown.new)
            ∙ sym (ap (slice_get (pairs es ++ (n.name, n.was) ∷ [])) (is ∙ sym wide)
            ∙ get-append_here (pairs es) (n.name, n.was))
        | inr off ↦ ap (λ (o : Option (Entry R)). option_map pair_of o)
            (slice_get_past later i (let long = grown.long in omega arith))
            ∙ sym (slice_get_past (pairs es ++ (n.name, n.was) ∷ []) i
            (rw (length-append (pairs es) ((n.name, n.was) ∷ []), wide) (omega arith)))
      ]
    ]
      where
        inside : i < length es → option_map pair_of (slice_get later i) ≡ option_map pair_of (slice_get es i)
        inside less = elim (cases_eq i at) [
          | inl is ↦ ap (λ (o : Option (Entry R)). option_map pair_of o) (ap (slice_get later) is ∙ grown.hung)
              ∙ pair-linked ((bits % 2) == 0) e (length es)
              ∙ sym (ap (λ (o : Option (Entry R)). option_map pair_of o) (ap (slice_get es) is ∙ grown.was))
          | inr off ↦ ap (λ (o : Option (Entry R)). option_map pair_of o) (grown.others i less off)
        ]

-- a name more
pub noted_absent : {R : Type 0} (es : List (Entry R)) (name : ℕ) (was : Option R) → IsAbsent es name
    → with_first_note (names_of es) name was ≡ from_entries (pairs es ++ (name, was) ∷ [])
noted_absent {R = R} es name was absent =
    ap (λ (o : Option (Option R)). cond (is_some o) (names_of es) (insert (names_of es) name was))
    (get-absent es name absent)
    ∙ sym (from_entries_push nat_cmp_total nat_cmp-IsAntisymmetric (pairs es) name was (absent_found es name absent))

pub grown_names : {R : Type 0} (es later : List (Entry R)) (at bits : ℕ) (e n : Entry R) → IsAbsent es n.name
    → IsGrown es later at bits e n → names_of later ≡ with_first_note (names_of es) n.name n.was
grown_names {R = R} es later at bits e n absent grown =
    ap (λ (ps : List (ℕ × Option R)). from_entries {R = nat_cmp} ps) (grown_pairs es later at bits e n grown)
    ∙ sym (noted_absent es n.name n.was absent)

-- a name that is there
pub noted_there : {R : Type 0} (es : List (Entry R)) (i : ℕ) (e : Entry R) (name : ℕ) (was : Option R) → IsTree es
    → slice_get es i ≡ Some e → e.name ≡ name → names_of es ≡ with_first_note (names_of es) name was
noted_there {R = R} es i e name was tree at_i is =
    sym (ap (λ (o : Option (Option R)). cond (is_some o) (names_of es) (insert (names_of es) name was))
    (get-at es i e name tree at_i is))

-- the first entry
pub first_tree : {R : Type 0} (n : Entry R) → n.even ≡ 0 → n.odd ≡ 0 → IsTree (n ∷ [])
first_tree {R = R} n even odd = record {
  up = λ i b linked. absurd (linked (none i b));
  reached = λ j e at_j. (0, sym (only j e at_j));
  apart = λ j k d e at_j at_k same. only j d at_j ∙ sym (only k e at_k);
}
  where
    only : (j : ℕ) (e : Entry R) → slice_get (n ∷ []) j ≡ Some e → j ≡ 0
    only j e at_j = let less = slice_get_within (n ∷ []) j e at_j in omega arith

    none : (i b : ℕ) → link_at (n ∷ []) i b ≡ 0
    none zero b = none_linked ((b % 2) == 0) n even odd
    none (suc i) b = refl

-- STEPS OF THE CODE

is_none : {X : Type 0} (o : Option X) → o ≡ None → IsSome o → ⊥
is_none None e some = cc
is_none (Some x) e some = none-some x (sym e)

pub absent_not : {R : Type 0} {P : Type 0} (es : List (Entry R)) (name : ℕ) → IsAbsent es name
    → IsSome (get (names_of es) name) → P
absent_not es name absent some = absurd (is_none (get (names_of es) name) (get-absent es name absent) some)

pub absent_empty : {R : Type 0} (es : List (Entry R)) (name : ℕ) → length es ≡ 0 → IsAbsent es name
absent_empty es name empty j e at_j = let less = slice_get_within es j e at_j in absurd (omega arith)

pub first_names : {R : Type 0} (es : List (Entry R)) (n : Entry R) → length es ≡ 0
    → names_of (es ++ n ∷ []) ≡ with_first_note (names_of es) n.name n.was
first_names {R = R} [] n empty = sym (noted_absent [] n.name n.was (absent_empty [] n.name empty))
first_names (e ∷ es) n empty = absurd (omega arith)

pub grown_hung : {R : Type 0} (es later : List (Entry R)) (at bits to : ℕ) (n : Entry R) → to ≡ length es
    → at < length es → n.even ≡ 0 → n.odd ≡ 0
    → IfSome (slice_get (es ++ n ∷ []) at) (λ e. later ≡ set (es ++ n ∷ []) at (with_link e bits to))
    → (e : Entry R) × IsGrown es later at bits e n
grown_hung {R = R} es later at bits to n is less even odd hung = go (slice_get es at) refl
  where
    go : (o : Option (Entry R)) → slice_get es at ≡ o → (e : Entry R) × IsGrown es later at bits e n
    go None at_e = absurd (omega (arith, none_past es at at_e))
      where
        none_past : (xs : List (Entry R)) (i : ℕ) → slice_get xs i ≡ None → length xs ≤ i
        none_past [] i h = omega arith
        none_past (x ∷ xs) zero h = absurd (none-some x (sym h))
        none_past (x ∷ xs) (suc i) h = let more = none_past xs i h in omega arith
    go (Some e) at_e =
        let there : slice_get (es ++ n ∷ []) at ≡ Some e = get-append_left es (n ∷ []) at less ∙ at_e in
        let later_is : later ≡ set (es ++ n ∷ []) at (with_link e bits to) =
        MatchOption-at_some _ (λ (x : Entry R). later ≡ set (es ++ n ∷ []) at (with_link x bits to)) e there hung in (
          e,
          subst (λ (xs : List (Entry R)). IsGrown es xs at bits e n)
              (sym (later_is ∙ ap (λ (t : ℕ). set (es ++ n ∷ []) at (with_link e bits t)) is))
              (grown_set es at bits e n at_e even odd),
        )

pub get-take : {X : Type 0} (k : ℕ) (xs : List X) (i : ℕ) → i < k → slice_get (take k xs) i ≡ slice_get xs i
get-take zero xs i less = absurd (omega arith)
get-take (suc k) [] i less = refl
get-take (suc k) (x ∷ xs) zero less = refl
get-take (suc k) (x ∷ xs) (suc i) less = get-take k xs i (omega arith)

-- an entry right behind the first few, hung at a free link of theirs
pub settled : {R : Type 0} (es later : List (Entry R)) (kept at bits to : ℕ) (n : Entry R) → kept < length es
    → at < length (take kept es) → to ≡ kept → n.even ≡ 0 → n.odd ≡ 0
    → IfSome (slice_get (set es kept n) at) (λ e. later ≡ set (set es kept n) at (with_link e bits to))
    → (e : Entry R) × IsGrown (take kept es) (take (kept + 1) later) at bits e n
settled {R = R} es later kept at bits to n less there is even odd hung = go (slice_get es at) refl
  where
    long : length (take kept es) ≡ kept
    long = length-take-le kept es (omega arith)

    below : at < kept
    below = omega (arith, long, there)

    off : at ≢ kept
    off e = let b = below in absurd (omega arith)

    go : (o : Option (Entry R)) → slice_get es at ≡ o
        → (e : Entry R) × IsGrown (take kept es) (take (kept + 1) later) at bits e n
    go None at_e = let b = below in absurd (none-some (get_or es at n)
        (sym at_e ∙ slice_get-get_or es at n (omega arith)))
    go (Some e) at_e =
        let wide : length (set es kept n) ≡ length es = length-set es kept n in
        let b = below in
        let in_set : slice_get (set es kept n) at ≡ Some e = get-set_other es kept at n off ∙ at_e in
        let later_is : later ≡ set (set es kept n) at (with_link e bits to) =
        MatchOption-at_some _ (λ (x : Entry R). later ≡ set (set es kept n) at (with_link x bits to)) e in_set hung
        in
        let whole : length later ≡ length es = ap length later_is ∙ length-set (set es kept n) at (with_link e bits to)
        ∙ wide in (
          e,
          record {
            long = length-take-le (kept + 1) later (omega (arith, whole, less)) ∙ ap (λ (k : ℕ). k + 1) (sym long);
            was = get-take kept es at below ∙ at_e;
            hung = get-take (kept + 1) later at (omega arith) ∙ ap (λ (xs : List (Entry R)). slice_get xs at) later_is
                ∙ get-set_same (set es kept n) at (with_link e bits to) (omega (arith, wide))
                ∙ ap (λ (t : ℕ). Some (with_link e bits t)) (is ∙ sym long);
            new = ap (slice_get (take (kept + 1) later)) long ∙ get-take (kept + 1) later kept (omega arith)
                ∙ ap (λ (xs : List (Entry R)). slice_get xs kept) later_is
                ∙ get-set_other (set es kept n) at kept (with_link e bits to) (λ e. off (sym e))
                ∙ get-set_same es kept n less;
            others = λ i low apart. (let close : i < kept = omega (arith, long, low) in
                get-take (kept + 1) later i (omega arith) ∙ ap (λ (xs : List (Entry R)). slice_get xs i) later_is
                ∙ get-set_other (set es kept n) at i (with_link e bits to) apart
                ∙ get-set_other es kept i n (λ z. absurd (omega arith)) ∙ sym (get-take kept es i close));
            even = even;
            odd = odd;
          },
        )

pub first_settled : {R : Type 0} (es : List (Entry R)) (n : Entry R) → 0 < length es → take 1 (set es 0 n) ≡ n ∷ []
first_settled [] n less = absurd (omega arith)
first_settled {R = R} (e ∷ es) n less = ap (λ (xs : List (Entry R)). n ∷ xs) (take_none es)
  where
    take_none : (xs : List (Entry R)) → take 0 xs ≡ []
    take_none xs = refl

-- what stands behind the settled entry stays
pub settled_rest : {R : Type 0} (es later : List (Entry R)) (kept at bits to : ℕ) (n : Entry R) → kept < length es
    → at < length (take kept es)
    → IfSome (slice_get (set es kept n) at) (λ e. later ≡ set (set es kept n) at (with_link e bits to)) → (i : ℕ)
    → kept < i → slice_get later i ≡ slice_get es i
settled_rest {R = R} es later kept at bits to n less there hung i over =
    let long : length (take kept es) ≡ kept = length-take-le kept es (omega arith) in
    let below : at < kept = omega (arith, long, there) in
    go (slice_get (set es kept n) at) refl below
  where
    go : (o : Option (Entry R)) → slice_get (set es kept n) at ≡ o → at < kept → slice_get later i ≡ slice_get es i
    go None at_e below = absurd (none-some (get_or (set es kept n) at n)
        (sym at_e ∙ slice_get-get_or (set es kept n) at n (rw (length-set es kept n) (omega arith))))
    go (Some e) at_e below =
        ap (λ (xs : List (Entry R)). slice_get xs i) (MatchOption-at_some _
        (λ (x : Entry R). later ≡ set (set es kept n) at (with_link x bits to)) e at_e hung)
        ∙ get-set_other (set es kept n) at i (with_link e bits to) (λ z. absurd (omega arith))
        ∙ get-set_other es kept i n (λ z. absurd (omega arith))
