-- A face is turned over: each corner takes the edge that led to it, and the others of them follow the first backwards.
use Rattle.std.proofs.Common.{◌≡◌, ◌<◌, ◌+◌, ℕ, suc, zero, List, [], ◌∷◌, ◌++◌, Some, length, map, take, drop, reverse, slice_index_or, refl, sym, ap, ◌∙◌, inl, inr, arith}
use Rattle.std.specs.List.{zip, slice_get}
use Rattle.std.proofs.lemmas.List.{reverse-append, length-reverse, append_assoc, append-nil, map-append, take_more, take_all}
use Rattle.std.specs.Option.{option_map}
use Rattle.std.proofs.lemmas.Option.{same_Some}
use Rattle.std.proofs.Math.ListN.{drop_of_length-le}
use Rattle.raw_pool.specs.declared.pool.Slot.{Slot}
use Rattle.link_ring.specs.Members.{HasMember}
use Rattle.link_ring.proofs.Members.{member_of, member_left, member_right}
use Rattle.mesh_store.specs.Slots.{at}
use Rattle.mesh_store.specs.Stored.{Stored}
use Rattle.mesh_store.specs.declared.cells.Round.{Round}
use Rattle.mesh_cycles.specs.Cycles.{round_of}
use Rattle.mesh_cycles.specs.Edits.{EditsRound}
use Rattle.mesh_cycles.specs.Lists.{reversed as reversed_ring}
use Rattle.mesh_model.specs.Complex.{Complex}
use Rattle.mesh_model.specs.Kernel.{along, reversed, with_corners_by}
use Rattle.mesh_model.specs.declared.names.EdgeName.{EdgeName}
use Rattle.mesh_model.specs.declared.names.FaceName.{FaceName}
use Rattle.mesh_model.specs.declared.records.CornerRec.{CornerRec}
use Rattle.mesh_model.specs.declared.records.Counters.{Counters}
use Rattle.mesh_records.specs.Changes.{along_edge, shifted_once, backwards}
use Rattle.mesh_records.specs.ReadOff.{corner_rec}
use Rattle.mesh_records.specs.Rewrites.{Rewrites}
use Rattle.mesh_records.specs.Whole.{IsWhole}
use Rattle.mesh_records.proofs.Reordered.{reorders}

-- ---- lists the other way round

pub reverse_cons : {X : Type 0} (x : X) (xs : List X) → reverse (x ∷ xs) ≡ reverse xs ++ x ∷ []
reverse_cons x xs = reverse-append (x ∷ []) xs

pub map_reverse : {X Y : Type 0} (f : X → Y) (xs : List X) → map f (reverse xs) ≡ reverse (map f xs)
map_reverse f [] = refl
map_reverse {X} {Y} f (x ∷ xs) =
    ap (map f) (reverse_cons x xs) ∙ map-append f (reverse xs) (x ∷ [])
    ∙ ap (λ (ys : List Y). ys ++ f x ∷ []) (map_reverse f xs) ∙ sym (reverse_cons (f x) (map f xs))

zip_last : {X Y : Type 0} (xs : List X) (ys : List Y) (x : X) (y : Y) → length xs ≡ length ys
    → zip (xs ++ x ∷ []) (ys ++ y ∷ []) ≡ zip xs ys ++ (x, y) ∷ []
zip_last [] [] x y e = refl
zip_last [] (b ∷ ys) x y e = absurd (omega arith)
zip_last (a ∷ xs) [] x y e = absurd (omega arith)
zip_last {X} {Y} (a ∷ xs) (b ∷ ys) x y e = ap (λ (zs : List (X × Y)). (a, b) ∷ zs)
    (zip_last xs ys x y (omega arith))

zip_reverse : {X Y : Type 0} (xs : List X) (ys : List Y) → length xs ≡ length ys
    → zip (reverse xs) (reverse ys) ≡ reverse (zip xs ys)
zip_reverse [] [] e = refl
zip_reverse [] (b ∷ ys) e = absurd (omega arith)
zip_reverse (a ∷ xs) [] e = absurd (omega arith)
zip_reverse {X} {Y} (a ∷ xs) (b ∷ ys) e =
    let left = length-reverse xs in
    let right = length-reverse ys in
    (let p = reverse_cons a xs in let q = reverse_cons b ys in λ i. zip (p i) (q i))
    ∙ zip_last (reverse xs) (reverse ys) a b (omega arith)
    ∙ ap (λ (zs : List (X × Y)). zs ++ (a, b) ∷ []) (zip_reverse xs ys (omega arith))
    ∙ sym (reverse_cons (a, b) (zip xs ys))

-- ---- edges moved on

-- corners, each along the edge of the one before it, and the first one along e
abbrev pub shifted : EdgeName → List CornerRec → List CornerRec
shifted e [] = []
shifted e (c ∷ cs) = along_edge e c ∷ shifted c.edge cs

-- the edge of the last corner, and e where there is none
abbrev pub last_edge : EdgeName → List CornerRec → EdgeName
last_edge e [] = e
last_edge e (c ∷ cs) = last_edge c.edge cs

-- the edges that lead to corners
abbrev leads : EdgeName → List CornerRec → List EdgeName
leads e [] = []
leads e (c ∷ cs) = e ∷ leads c.edge cs

leads_long : (e : EdgeName) (cs : List CornerRec) → length cs ≡ length (leads e cs)
leads_long e [] = refl
leads_long e (c ∷ cs) = ap suc (leads_long c.edge cs)

leads_all : (e : EdgeName) (cs : List CornerRec) → e ∷ map (λ (k : CornerRec). k.edge) cs
    ≡ leads e cs ++ last_edge e cs ∷ []
leads_all e [] = refl
leads_all e (c ∷ cs) = ap (λ (es : List EdgeName). e ∷ es) (leads_all c.edge cs)

shifted_zip : (e : EdgeName) (cs : List CornerRec) → map along (zip cs (leads e cs)) ≡ shifted e cs
shifted_zip e [] = refl
shifted_zip e (c ∷ cs) = ap (λ (ks : List CornerRec). along_edge e c ∷ ks) (shifted_zip c.edge cs)

-- a face that is turned over
pub reversed_shifted : (e : EdgeName) (c : CornerRec) (cs : List CornerRec)
    → backwards (shifted (last_edge e (c ∷ cs)) (c ∷ cs)) ≡ reversed (c ∷ cs)
reversed_shifted e c cs =
    let last = last_edge c.edge cs in
    let own = λ (k : CornerRec). k.edge in
    let edges : reverse (map own (c ∷ cs)) ≡ last ∷ reverse (leads c.edge cs) =
    ap (λ (es : List EdgeName). reverse es) (leads_all c.edge cs) ∙ reverse-append (leads c.edge cs) (last ∷ []) in
    sym (ap (λ (es : List EdgeName). map along (zip (c ∷ reverse cs) es)) edges
    ∙ ap (λ (ks : List CornerRec). along_edge last c ∷ ks)
    (ap (map along) (zip_reverse cs (leads c.edge cs) (leads_long c.edge cs))
    ∙ map_reverse along (zip cs (leads c.edge cs))
    ∙ ap (λ (ks : List CornerRec). reverse ks) (shifted_zip c.edge cs)))

-- ---- one corner after the other

-- some corners, and then one
pub shifted_more : (e : EdgeName) (cs : List CornerRec) (c : CornerRec)
    → shifted e (cs ++ c ∷ []) ≡ shifted e cs ++ along_edge (last_edge e cs) c ∷ []
shifted_more e [] c = refl
shifted_more e (k ∷ cs) c = ap (λ (ks : List CornerRec). along_edge e k ∷ ks) (shifted_more k.edge cs c)

pub last_more : (e : EdgeName) (cs : List CornerRec) (c : CornerRec) → last_edge e (cs ++ c ∷ []) ≡ c.edge
last_more e [] c = refl
last_more e (k ∷ cs) c = last_more k.edge cs c

-- the corners from a position on, and then those before it, along the edges that led to them
abbrev pub half_shifted : EdgeName → ℕ → List CornerRec → List CornerRec
half_shifted e i cs = drop i cs ++ shifted e (take i cs)

-- what stands at a position
pub drop_at : {X : Type 0} (xs : List X) (i : ℕ) (d : X) → i < length xs
    → drop i xs ≡ slice_index_or xs i d ∷ drop (suc i) xs
drop_at [] i d h = absurd (omega arith)
drop_at (x ∷ xs) zero d h = refl
drop_at (x ∷ xs) (suc i) d h = drop_at xs i d (omega arith)

-- one corner more is moved on
pub shifted_on : (e : EdgeName) (cs : List CornerRec) (i : ℕ) (d : CornerRec) → i < length cs
    → shifted_once (last_edge e (take i cs)) (half_shifted e i cs) ≡ half_shifted e (i + 1) cs
shifted_on e cs i d h =
    let c = slice_index_or cs i d in
    let edge = last_edge e (take i cs) in
    let here : half_shifted e i cs ≡ c ∷ (drop (i + 1) cs ++ shifted e (take i cs)) =
    ap (λ (ks : List CornerRec). ks ++ shifted e (take i cs)) (drop_at cs i d h
    ∙ ap (λ (j : ℕ). c ∷ drop j cs) (let next : suc i ≡ i + 1 = omega arith in next)) in
    ap (shifted_once edge) here
    ∙ append_assoc (drop (i + 1) cs) (shifted e (take i cs)) (along_edge edge c ∷ [])
    ∙ ap (λ (ks : List CornerRec). drop (i + 1) cs ++ ks)
    (sym (ap (shifted e) (take_more cs i d h) ∙ shifted_more e (take i cs) c))

-- nothing is moved yet, and all is
pub none_shifted : (e : EdgeName) (cs : List CornerRec) → half_shifted e 0 cs ≡ cs
none_shifted e cs = append-nil cs

pub all_shifted : (e : EdgeName) (cs : List CornerRec) → half_shifted e (length cs) cs ≡ shifted e cs
all_shifted e cs =
    ap (λ (ks : List CornerRec). ks ++ shifted e (take (length cs) cs)) (drop_of_length-le cs (omega arith))
    ∙ ap (shifted e) (take_all (length cs) cs (omega arith))

-- the edge of the corner at the last position
pub last_is : (e : EdgeName) (cs : List CornerRec) (i : ℕ) (c : CornerRec) → i + 1 ≡ length cs
    → slice_get cs i ≡ Some c → last_edge e cs ≡ c.edge
last_is e [] i c h q = absurd (omega arith)
last_is e (x ∷ []) zero c h q = ap (λ (k : CornerRec). k.edge) (same_Some x c q)
last_is e (x ∷ []) (suc i) c h q = absurd (omega arith)
last_is e (x ∷ y ∷ cs) zero c h q = absurd (omega arith)
last_is e (x ∷ y ∷ cs) (suc i) c h q = last_is x.edge (y ∷ cs) i c (omega arith) q

-- all corners moved on, and read backwards
pub backwards_all : (e : EdgeName) (cs : List CornerRec) → last_edge e cs ≡ e
    → backwards (half_shifted e (length cs) cs) ≡ reversed cs
backwards_all e [] h = refl
backwards_all e (c ∷ cs) h =
    ap backwards (all_shifted e (c ∷ cs)) ∙ ap (λ (x : EdgeName). backwards (shifted x (c ∷ cs))) (sym h)
    ∙ reversed_shifted e c cs

-- the first of the corners from a position on
pub first_left : (e : EdgeName) (cs : List CornerRec) (i : ℕ) (d : CornerRec) (own : EdgeName) → i < length cs
    → option_map (λ (c : CornerRec). c.edge) (slice_get (half_shifted e i cs) 0) ≡ Some own
    → own ≡ last_edge e (take (i + 1) cs)
first_left e cs i d own h is =
    let c = slice_index_or cs i d in
    let here = ap (λ (ks : List CornerRec). ks ++ shifted e (take i cs)) (drop_at cs i d h) in
    let edge : Some c.edge ≡ Some own =
    sym (ap (λ (ks : List CornerRec). option_map (λ (k : CornerRec). k.edge) (slice_get ks 0)) here) ∙ is in
    sym (same_Some _ _ edge) ∙ sym (ap (last_edge e) (take_more cs i d h) ∙ last_more e (take i cs) c)

-- ---- members

pub member_reverse : {X : Type 0} (xs : List X) (x : X) → HasMember xs x → HasMember (reverse xs) x
member_reverse [] x m = absurd m
member_reverse (y ∷ xs) x m = member_of x (elim m [
  | inl e ↦ member_right (reverse xs) (y ∷ []) x (inl e)
  | inr k ↦ member_left (reverse xs) (y ∷ []) x (member_reverse xs x k)
]) (sym (reverse_cons y xs))

-- ---- the loops of a face

-- the loops the other way round
module _ (old new : Stored) (n : Counters) (w : IsWhole old n) (k : FaceName) (f : Slot)
    (named : at old.faces.names k.0 ≡ Some f)
    (a : EditsRound old new f.0 (round_of old f.0) (reversed_ring (round_of old f.0))) where
  pub turns_over : Rewrites old new n (λ (c : Complex). with_corners_by c k backwards)
  turns_over = reorders old new n w k f named (round_of old f.0) (reversed_ring (round_of old f.0)) a
      (all (round_of old f.0)) (many (round_of old f.0)) backwards long (ordered (round_of old f.0))
    where
      all : (rs : List Round) (r : Round) → HasMember rs r → HasMember (reversed_ring rs) r
      all [] r m = m
      all (x ∷ rs) r m = elim m [ inl e ↦ inl e | inr j ↦ inr (member_reverse rs r j) ]

      many : (rs : List Round) → length (reversed_ring rs) ≡ length rs
      many [] = refl
      many (x ∷ rs) = ap suc (length-reverse rs)

      long : (cs : List CornerRec) → length (backwards cs) ≡ length cs
      long [] = refl
      long (c ∷ cs) = ap suc (length-reverse cs)

      ordered : (rs : List Round) → map (corner_rec old) (map (λ (r : Round). r.0) (reversed_ring rs))
          ≡ backwards (map (corner_rec old) (map (λ (r : Round). r.0) rs))
      ordered [] = refl
      ordered (x ∷ rs) = ap (λ (cs : List CornerRec). corner_rec old x.0 ∷ cs)
          (ap (map (corner_rec old)) (map_reverse (λ (r : Round). r.0) rs)
          ∙ map_reverse (corner_rec old) (map (λ (r : Round). r.0) rs))
