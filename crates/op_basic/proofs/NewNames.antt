-- What is new where records were appended: the names from the old count on.
use Rattle.std.proofs.Common.{◌≡◌, ℕ, zero, suc, ◌+◌, ◌-◌, ◌<◌, ◌≤◌, Bool, true, false, not, nat_lt, ◌&&◌, List, [], ◌∷◌}
use Rattle.std.proofs.Common.{◌++◌, length, map, filter, refl, ap, ◌∙◌, arith, Option, Some, None, is_some, All}
use Rattle.std.specs.List.{range_with_len, list_all}
use Rattle.std.proofs.Math.ListN.{get_or-append}
use Rattle.std.proofs.Math.Seq.{get_or-append_right}
use Rattle.std.proofs.lemmas.List.{length-append}
use Rattle.std.proofs.lemmas.Bool.{cond-true, cond-false, and_from, lt-ltb}
use Rattle.mesh_model.specs.Table.{at}
use Rattle.mesh_model.specs.Complex.{Complex}
use Rattle.mesh_model.specs.Closure.{is_new, new_between}
use Rattle.mesh_model.specs.Naming.{is_rising, are_rising, edge_numbers}
use Rattle.mesh_model.specs.declared.names.VertName.{VertName}
use Rattle.mesh_model.specs.declared.names.EdgeName.{EdgeName}
use Rattle.mesh_model.specs.declared.names.FaceName.{FaceName}
use Rattle.mesh_model.specs.declared.records.FaceRec.{FaceRec}
use Rattle.mesh_model.proofs.Tables.{at-past}
use Rattle.op_basic.specs.Searching.{edges_and_face}
use Rattle.op_basic.proofs.SideEdges.{IsMore}

-- ---- NAMES FROM A NUMBER ON

none_of : {N : Type 0} (name : ℕ → N) (p : N → Bool) (a n : ℕ)
    → ((j : ℕ) → a ≤ j → j < a + n → p (name j) ≡ false) → filter p (map name (range_with_len a n)) ≡ []
none_of name p a zero fails = refl
none_of name p a (suc n) fails =
    cond-false (p (name a)) (name a ∷ filter p (map name (range_with_len (a + 1) n)))
    (filter p (map name (range_with_len (a + 1) n))) (fails a (omega arith) (omega arith))
    ∙ none_of name p (a + 1) n (λ j le lt. fails j (omega arith) (omega arith))

all_of : {N : Type 0} (name : ℕ → N) (p : N → Bool) (a n : ℕ)
    → ((j : ℕ) → a ≤ j → j < a + n → p (name j) ≡ true)
    → filter p (map name (range_with_len a n)) ≡ map name (range_with_len a n)
all_of name p a zero pass = refl
all_of {N = N} name p a (suc n) pass =
    cond-true (p (name a)) (name a ∷ filter p (map name (range_with_len (a + 1) n)))
    (filter p (map name (range_with_len (a + 1) n))) (pass a (omega arith) (omega arith))
    ∙ ap (λ (xs : List N). name a ∷ xs) (all_of name p (a + 1) n (λ j le lt. pass j (omega arith) (omega arith)))

from_on : {N : Type 0} (name : ℕ → N) (p : N → Bool) (a m count n : ℕ) → count ≡ m + n
    → ((j : ℕ) → a ≤ j → j < a + m → p (name j) ≡ false)
    → ((j : ℕ) → a + m ≤ j → j < a + m + n → p (name j) ≡ true)
    → filter p (map name (range_with_len a count)) ≡ map name (range_with_len (a + m) n)
from_on name p a zero count n is fails pass =
    let same : count ≡ n = omega arith in
    let start : a ≡ a + 0 = omega arith in
    all_of name p a count (λ j le lt. pass j (omega arith) (omega arith))
    ∙ ap (λ (k : ℕ). map name (range_with_len a k)) same
    ∙ ap (λ (b : ℕ). map name (range_with_len b n)) start
from_on name p a (suc m) zero n is fails pass = absurd (omega arith)
from_on name p a (suc m) (suc count) n is fails pass =
    let start : a + 1 + m ≡ a + suc m = omega arith in
    cond-false (p (name a)) (name a ∷ filter p (map name (range_with_len (a + 1) count)))
    (filter p (map name (range_with_len (a + 1) count))) (fails a (omega arith) (omega arith))
    ∙ from_on name p (a + 1) m count n (omega arith) (λ j le lt. fails j (omega arith) (omega arith))
    (λ j le lt. pass j (omega arith) (omega arith))
    ∙ ap (λ (b : ℕ). map name (range_with_len b n)) start

-- one number more
range_suc : (a n : ℕ) → range_with_len a (suc n) ≡ range_with_len a n ++ (a + n) ∷ []
range_suc a zero = let start : a ≡ a + 0 = omega arith in ap (λ (k : ℕ). k ∷ []) start
range_suc a (suc n) =
    let start : a + 1 + n ≡ a + suc n = omega arith in
    ap (λ (ks : List ℕ). a ∷ ks) (range_suc (a + 1) n
    ∙ ap (λ (k : ℕ). range_with_len (a + 1) n ++ k ∷ []) start)

pub range_more : (a n : ℕ) → range_with_len a (n + 1) ≡ range_with_len a n ++ (a + n) ∷ []
range_more a n = let next : n + 1 ≡ suc n = omega arith in ap (range_with_len a) next ∙ range_suc a n

-- ---- TABLES

not_both : (b : Bool) → (b && not b) ≡ false
not_both true = refl
not_both false = refl

none_new : {N X : Type 0} (name : ℕ → N) (number : N → ℕ) (t s : List (Option X)) → s ≡ t
    → filter (λ (x : N). is_new t s (number x)) (map name (range_with_len 0 (length s))) ≡ []
none_new name number t s is = rw is (none_of name (λ x. is_new t t (number x)) 0 (length t)
    (λ j le lt. not_both (is_some (at t (number (name j))))))

appended_new : {N X : Type 0} (name : ℕ → N) (number : N → ℕ) → ((n : ℕ) → number (name n) ≡ n)
    → (t s more : List (Option X)) → s ≡ t ++ more → All (λ (o : Option X). is_some o ≡ true) more
    → filter (λ (x : N). is_new t s (number x)) (map name (range_with_len 0 (length s)))
    ≡ map name (range_with_len (length t) (length more))
appended_new {X = X} name number numbered t s more is all =
    let start : 0 + length t ≡ length t = omega arith in
    let long : length s ≡ length t + length more = ap length is ∙ length-append t more in
    from_on name (λ x. is_new t s (number x)) 0 (length t) (length s) (length more) long
    (λ j le lt. ap (is_new t s) (numbered j) ∙ old j (omega arith))
    (λ j le lt. ap (is_new t s) (numbered j) ∙ new j (omega arith) (omega arith))
    ∙ ap (λ (b : ℕ). map name (range_with_len b (length more))) start
  where
    old : (j : ℕ) → j < length t → is_new t s j ≡ false
    old j less = ap (λ (o : Option X). is_some o && not (is_some (at t j)))
        (ap (λ (u : List (Option X)). at u j) is ∙ get_or-append t more None j less)
        ∙ not_both (is_some (at t j))

    new : (j : ℕ) → length t ≤ j → j < length t + length more → is_new t s j ≡ true
    new j past less =
        ap (λ (o : Option X). is_some (at s j) && not (is_some o)) (at-past t j past)
        ∙ ap (λ (b : Bool). b && true) (ap (λ (u : List (Option X)). is_some (at u j)) is
        ∙ ap is_some (get_or-append_right t more j None past) ∙ all (j - length t) None (omega arith))

abbrev vert : ℕ → VertName
vert n = record { 0 = n }

abbrev edge : ℕ → EdgeName
edge n = record { 0 = n }

abbrev face : ℕ → FaceName
face n = record { 0 = n }

-- some edges and one face more
pub new_face_names : (c d : Complex) (more : IsMore c.edges d.edges) (f : FaceRec) → d.verts ≡ c.verts
    → d.faces ≡ c.faces ++ Some f ∷ [] → new_between c d ≡ edges_and_face c (length more.0)
new_face_names c d more f verts faces = rw (
  none_new vert (λ (v : VertName). v.0) c.verts d.verts verts,
  appended_new edge (λ (e : EdgeName). e.0) (λ n. refl) c.edges d.edges more.0 more.1 more.2,
  appended_new face (λ (g : FaceName). g.0) (λ n. refl) c.faces d.faces (Some f ∷ []) faces one,
) refl
  where
    one : All (λ (o : Option FaceRec). is_some o ≡ true) (Some f ∷ [])
    one zero d less = refl
    one (suc i) d less = absurd (omega arith)

-- ---- THEY RISE

above_range : (m a n : ℕ) → m < a → list_all (nat_lt m) (edge_numbers (map edge (range_with_len a n))) ≡ true
above_range m a zero less = refl
above_range m a (suc n) less =
    and_from (nat_lt m a) (list_all (nat_lt m) (edge_numbers (map edge (range_with_len (a + 1) n)))) (lt-ltb m a less)
    (above_range m (a + 1) n (omega arith))

rising_range : (a n : ℕ) → is_rising (edge_numbers (map edge (range_with_len a n))) ≡ true
rising_range a zero = refl
rising_range a (suc n) =
    and_from (list_all (nat_lt a) (edge_numbers (map edge (range_with_len (a + 1) n))))
    (is_rising (edge_numbers (map edge (range_with_len (a + 1) n)))) (above_range a (a + 1) n (omega arith))
    (rising_range (a + 1) n)

pub rising_names : (c : Complex) (n : ℕ) → are_rising (edges_and_face c n) ≡ true
rising_names c n = and_from (is_rising (edge_numbers (map edge (range_with_len (length c.edges) n)))) true
    (rising_range (length c.edges) n) refl

pub rising_parts : (c : Complex) (n : ℕ) (vs : List VertName) (es : List EdgeName) (fs : List FaceName)
    → vs ≡ (edges_and_face c n).verts → es ≡ (edges_and_face c n).edges → fs ≡ (edges_and_face c n).faces
    → are_rising (record { verts = vs; edges = es; faces = fs }) ≡ true
rising_parts c n vs es fs same_v same_e same_f = rw (same_v, same_e, same_f) (rising_names c n)
