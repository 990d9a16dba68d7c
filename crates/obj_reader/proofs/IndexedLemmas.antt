-- Lemmas on the names that an index has.
use Rattle.std.proofs.Common.{◌≡◌, ◌<◌, ◌+◌, ◌∙◌, ℕ, ℤ, true, false, Bool, cond, not, List, [], ◌∷◌, ◌++◌, length}
use Rattle.std.proofs.Common.{◌||◌, nat_lt, refl, sym, ap, ap₂, arith, Some, None, Result, Ok, Err, IsOk, IfOk}
use Rattle.std.specs.Global.{Vec}
use Rattle.std.specs.List.{list_any, position, position_or_len}
use Rattle.std.proofs.lemmas.Bool.{true≢false, false≢true, false_from_ne_true, lt-ltb}
use Rattle.std.proofs.lemmas.List.{length-map}
use Rattle.mesh_model.specs.Complex.{Complex}
use Rattle.mesh_model.specs.Incidence.{edge_joining}
use Rattle.mesh_model.specs.Making.{with_vert, edge_between, with_face_told}
use Rattle.mesh_model.specs.declared.draft.DraftCorner.{DraftCorner}
use Rattle.mesh_model.specs.declared.names.VertName.{VertName}
use Rattle.mesh_model.specs.declared.records.VertRec.{VertRec}
use Rattle.mesh_model.proofs.WithPolygons.{with_face_told-in}
use Rattle.obj_reader.specs.NameIndex.{names_in, AreIndexed}
use Rattle.obj_reader.proofs.AlongLemmas.{only_found}

-- ---- WHAT STAYS

-- a complex as it was
pub indexed_old : (c d : Complex) (ms ls : List (Vec ℕ)) → d ≡ c → AreIndexed c ms ls → AreIndexed d ms ls
indexed_old c d ms ls same h = record {
  materials = h.materials ∙ sym (ap (λ (x : Complex). x.materials) same);
  libraries = h.libraries ∙ sym (ap (λ (x : Complex). x.libraries) same);
}

-- one with a vertex more
pub indexed_vert : (c d : Complex) (r : VertRec) (ms ls : List (Vec ℕ)) → d ≡ with_vert c r → AreIndexed c ms ls
    → AreIndexed d ms ls
indexed_vert c d r ms ls same h = record {
  materials = h.materials ∙ sym (ap (λ (x : Complex). x.materials) same);
  libraries = h.libraries ∙ sym (ap (λ (x : Complex). x.libraries) same);
}

-- one with an edge between two vertices
pub indexed_edge : (c d : Complex) (v w : VertName) (ms ls : List (Vec ℕ)) → d ≡ (edge_between c v w).0
    → AreIndexed c ms ls → AreIndexed d ms ls
indexed_edge c d v w ms ls same h =
    let kept = same ∙ only_found c v w (edge_joining c.edges v w) in
    record {
      materials = h.materials ∙ sym (ap (λ (x : Complex). x.materials) kept);
      libraries = h.libraries ∙ sym (ap (λ (x : Complex). x.libraries) kept);
    }

-- one with a face more
pub indexed_face : (c d : Complex) (ks : List DraftCorner) (m g : ℤ) (ms ls : List (Vec ℕ)) → d ≡ with_face_told c ks m g
    → AreIndexed c ms ls → AreIndexed d ms ls
indexed_face c d ks m g ms ls same h =
    let made = same ∙ with_face_told-in c ks m g in
    record {
      materials = h.materials ∙ sym (ap (λ (x : Complex). x.materials) made);
      libraries = h.libraries ∙ sym (ap (λ (x : Complex). x.libraries) made);
    }

-- ---- PLACES OF NAMES

places_map : (p : List ℕ → Bool) (ks : List (Vec ℕ)) → position_or_len p (names_in ks) ≡ position_or_len (λ (v : Vec ℕ). p v.items) ks
places_map p [] = refl
places_map p (k ∷ ks) = ap (λ (n : ℕ). cond (not (p k.items)) (1 + n) 0) (places_map p ks)

length_names : (ks : List (Vec ℕ)) → length (names_in ks) ≡ length ks
length_names ks = length-map ks (λ (v : Vec ℕ). v.items)

-- the place of a name in an index
pub place_named : (p : List ℕ → Bool) (ks : List (Vec ℕ)) → position (λ (v : Vec ℕ). p v.items) ks ≡ position p (names_in ks)
place_named p ks =
    ap₂ (λ (k n : ℕ). cond (nat_lt k n) (Some k) None) (sym (places_map p ks)) (sym (length_names ks))

len_here : {X : Type 0} (p : X → Bool) (x : X) (xs : List X) (b : Bool) → p x ≡ b → (b || list_any p xs) ≡ true
    → (list_any p xs ≡ true → position_or_len p xs < length xs) → position_or_len p (x ∷ xs) < length (x ∷ xs)
len_here p x xs true is some rest =
    let here : position_or_len p (x ∷ xs) ≡ 0 = ap (λ (b : Bool). cond (not b) (1 + position_or_len p xs) 0) is in
    omega arith
len_here p x xs false is some rest =
    let later : position_or_len p (x ∷ xs) ≡ 1 + position_or_len p xs =
    ap (λ (b : Bool). cond (not b) (1 + position_or_len p xs) 0) is in
    let less = rest some in
    omega arith

-- where something passes, the first place is within
pub some_len : {X : Type 0} (p : X → Bool) (xs : List X) → list_any p xs ≡ true → position_or_len p xs < length xs
some_len p [] h = absurd (true≢false (sym h))
some_len p (x ∷ xs) h = len_here p x xs (p x) refl h (some_len p xs)

pub some_place : {X : Type 0} (p : X → Bool) (xs : List X) → list_any p xs ≡ true
    → position p xs ≡ Some (position_or_len p xs)
some_place p xs h = ap (λ (b : Bool). cond b (Some (position_or_len p xs)) None)
    (lt-ltb (position_or_len p xs) (length xs) (some_len p xs h))

-- a name that isn't there
pub none_among : (p : List ℕ → Bool) (ks : List (Vec ℕ)) → position p (names_in ks) ≡ None
    → list_any (λ (v : Vec ℕ). p v.items) ks ≡ false
none_among p ks none =
    let q : Vec ℕ → Bool = λ v. p v.items in
    false_from_ne_true (list_any q ks) (λ some. none_some (position_or_len q ks)
    (sym (some_place q ks some) ∙ place_named p ks ∙ none))
  where
    none_some : (k : ℕ) → Some k ≡ None → ⊥
    none_some k h = cc

-- ---- A NAME MORE

pub names_pushed : (ks : List (Vec ℕ)) (v : Vec ℕ) → names_in (ks ++ v ∷ []) ≡ names_in ks ++ v.items ∷ []
names_pushed [] v = refl
names_pushed (k ∷ ks) v = ap (λ (ns : List (List ℕ)). k.items ∷ ns) (names_pushed ks v)

-- what a call that succeeds has put
pub is_put : {X E : Type 0} (r : Result X E) (new old : List (Vec ℕ)) → IsOk r → IfOk r (λ _. new ≡ old)
    → names_in new ≡ names_in old
is_put (Ok x) new old ok put = ap names_in put
is_put (Err e) new old ok put = absurd (false≢true ok)
