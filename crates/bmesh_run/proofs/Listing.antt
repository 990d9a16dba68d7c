-- Numbers listed one after another, and the lines of layers.
use Rattle.std.proofs.Common.{◌≡◌, ◌∙◌, ◌<◌, ◌≤◌, ◌+◌, ℕ, zero, suc, ℤ, pos, List, [], ◌∷◌, ◌++◌, length, get_or, take, refl, sym, ap, arith}
use Rattle.std.proofs.Common.{true}
use Rattle.std.specs.List.{flat_map, list_any}
use Rattle.std.specs.Fmt.{signed_decimal}
use Rattle.std.proofs.lemmas.Grind.{flat_map-append}
use Rattle.std.proofs.lemmas.List.{append-nil, append_assoc, take_more}
use Rattle.std.proofs.lemmas.List.Folds.{list_any_at}
use Rattle.layer_sums.specs.Sums.{names_of, row_sums}
use Rattle.layer_sums.specs.Totals.{same_kind, is_of}
use Rattle.layer_sums.proofs.Summing.{sums_below, sums_all, sums_long}
use Rattle.mesh_model.specs.Complex.{Complex, width}
use Rattle.mesh_model.specs.Valid.{IsValid}
use Rattle.mesh_model.specs.declared.layer_decl.LayerDecl.{LayerDecl}
use Rattle.mesh_model.specs.declared.names.Kind.{Kind}
use Rattle.mesh_model.specs.declared.names.Kind.TheVariants.{Verts, Edges, Corners, Faces}
use Rattle.bmesh_run.specs.Report.{listed}

-- a number behind a comma
abbrev behind_comma : ℤ → List ℕ
behind_comma x = 44 ∷ signed_decimal x

pub listed_first : (xs : List ℤ) (x : ℤ) → 0 < length xs → x ≡ get_or xs 0 (pos 0)
    → listed (take 1 xs) ≡ signed_decimal x
listed_first [] x less is = absurd (omega arith)
listed_first (y ∷ ys) x less is = append-nil (signed_decimal y) ∙ ap signed_decimal (sym is)

pub listed_next : (xs : List ℤ) (k : ℕ) (x : ℤ) → 0 < k → k < length xs → x ≡ get_or xs k (pos 0)
    → listed (take (k + 1) xs) ≡ listed (take k xs) ++ (44 ∷ signed_decimal x)
listed_next [] k x some less is = absurd (omega arith)
listed_next (y ∷ ys) zero x some less is = absurd (omega arith)
listed_next (y ∷ ys) (suc j) x some less is =
    let next : suc j + 1 ≡ suc (j + 1) = omega arith in
    let rest : List ℕ = flat_map behind_comma (take j ys) in
    ap (λ (n : ℕ). listed (take n (y ∷ ys))) next
    ∙ ap (λ (zs : List ℤ). signed_decimal y ++ flat_map behind_comma zs) (take_more ys j (pos 0) (omega arith))
    ∙ ap (λ (t : List ℕ). signed_decimal y ++ t) (flat_map-append behind_comma (take j ys) (get_or ys j (pos 0) ∷ [])
    ∙ ap (λ (t : List ℕ). rest ++ t) (append-nil (behind_comma (get_or ys j (pos 0)))
    ∙ ap behind_comma (sym is)))
    ∙ sym (append_assoc (signed_decimal y) rest (behind_comma x))

-- a number more of a list, behind a text
pub first_listed : (xs : List ℤ) (k : ℕ) (old now new : List ℕ) → k < length xs → k ≤ 0
    → now ≡ old ++ listed (take k xs) → new ≡ now ++ signed_decimal (get_or xs k (pos 0))
    → new ≡ old ++ listed (take (k + 1) xs)
first_listed xs zero old now new less none before made =
    made ∙ ap (λ (t : List ℕ). t ++ signed_decimal (get_or xs 0 (pos 0))) (before ∙ append-nil old)
    ∙ ap (λ (t : List ℕ). old ++ t) (sym (listed_first xs (get_or xs 0 (pos 0)) less refl))
first_listed xs (suc k) old now new less none before made = absurd (omega arith)

pub next_listed : (xs : List ℤ) (k : ℕ) (old now comma new : List ℕ) → k < length xs → 0 < k
    → now ≡ old ++ listed (take k xs) → comma ≡ now ++ 44 ∷ [] → new ≡ comma ++ signed_decimal (get_or xs k (pos 0))
    → new ≡ old ++ listed (take (k + 1) xs)
next_listed xs k old now comma new less some before then made =
    let text : List ℕ = signed_decimal (get_or xs k (pos 0)) in
    made ∙ ap (λ (t : List ℕ). t ++ text) (then ∙ ap (λ (t : List ℕ). t ++ 44 ∷ []) before)
    ∙ append_assoc (old ++ listed (take k xs)) (44 ∷ []) text
    ∙ append_assoc old (listed (take k xs)) (44 ∷ text)
    ∙ ap (λ (t : List ℕ). old ++ t) (sym (listed_next xs k (get_or xs k (pos 0)) some less refl))

-- ---- KINDS THAT LAYERS ARE OF

same_itself : (kind : Kind) → same_kind kind kind ≡ true
same_itself Verts = refl
same_itself Edges = refl
same_itself Corners = refl
same_itself Faces = refl

-- the kind of a layer is one that the layers are of
pub kind_among : (ds : List LayerDecl) (i : ℕ) (d : LayerDecl) → i < length ds → d ≡ get_or ds i d
    → list_any (is_of d.kind) ds ≡ true
kind_among ds i d less is =
    list_any_at (is_of d.kind) ds i d less (ap (is_of d.kind) (sym is) ∙ same_itself d.kind)

-- ---- PIECES OF A TEXT

-- a piece more of a list's lines
pub lines_more : {X : Type 0} (f : X → List ℕ) (xs : List X) (i : ℕ) (x : X) (old now new : List ℕ) → i < length xs
    → x ≡ get_or xs i x → now ≡ old ++ flat_map f (take i xs) → new ≡ now ++ f x
    → new ≡ old ++ flat_map f (take (i + 1) xs)
lines_more f xs i x old now new less is before made =
    made ∙ ap (λ (t : List ℕ). t ++ f x) before
    ∙ append_assoc old (flat_map f (take i xs)) (f x)
    ∙ ap (λ (t : List ℕ). old ++ t) (sym (ap (flat_map f) (take_more xs i x less)
    ∙ flat_map-append f (take i xs) (get_or xs i x ∷ [])
    ∙ ap (λ (t : List ℕ). flat_map f (take i xs) ++ t) (append-nil (f (get_or xs i x)) ∙ ap f (sym is))))

-- ---- ROWS OF SUMS

-- the sums of a kind's rows are a row of the kind
pub row_long : (c : Complex) → IsValid c → (kind : Kind) → length (row_sums c kind) ≡ width c kind
row_long c h kind =
    sums_long c h kind (names_of c kind) (row_sums c kind) (omega arith)
    (sym (sums_all c kind (names_of c kind) (sums_below c kind (names_of c kind)) (omega arith) refl))
