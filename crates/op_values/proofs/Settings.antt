-- What set is made of: the layer of a name, the numbers that it can have, and rows with them.
use Rattle.std.proofs.Common.{◌≡◌, ℕ, zero, suc, ◌+◌, ◌<◌, ◌≤◌, ℤ, pos, Bool, true, false, not, ◌&&◌, ◌||◌, eqb, ltb, List, [], ◌∷◌}
use Rattle.std.proofs.Common.{length, get_or, map, take, refl, sym, ap, ◌∙◌, arith, Option, Some, None, is_some, Result, Ok, Err, inl, inr}
use Rattle.std.specs.Prelude.{slice_get, IfOk, OnOk}
use Rattle.std.specs.List.{find, position, position_or_len, list_all}
use Rattle.std.specs.Option.{option_map, option_map_or}
use Rattle.std.proofs.lemmas.Bool.{and_parts, cond-true, cond-false, eqb-true, lt-ltb}
use Rattle.std.proofs.lemmas.Option.{slice_get-get_or, slice_get_cases}
use Rattle.std.proofs.lemmas.List.Folds.{find_at}
use Rattle.std.proofs.lemmas.List.Sums.{sum_by-cons}
use Rattle.std.proofs.lemmas.List.Quantifiers.{position-Some}
use Rattle.cust_data.specs.Layers.{Layer, total, same_name, find_layer, AreLayers}
use Rattle.cust_data.proofs.Widths.{width_bounds}
use Rattle.mesh_model.specs.Table.{passes, changed_names}
use Rattle.mesh_model.specs.Complex.{Complex, layers_of, width, material_layer, smooth_layer}
use Rattle.mesh_model.specs.Elements.{Elements, is_among}
use Rattle.mesh_model.specs.Closure.{is_edge_among, is_face_among}
use Rattle.mesh_model.specs.Refusals.{unless}
use Rattle.mesh_model.specs.Values.{offset, same_layer, with_numbers}
use Rattle.mesh_model.specs.Valid.{is_in_range, is_material, is_smooth, IsSound, IsLinked}
use Rattle.mesh_model.specs.declared.names.Kind.{Kind}
use Rattle.mesh_model.specs.declared.names.Kind.TheVariants.{Verts, Edges, Corners, Faces}
use Rattle.mesh_model.specs.declared.refusal.Why.TheVariants.{NoLayer, BadValue}
use Rattle.mesh_model.specs.declared.records.VertRec.{VertRec}
use Rattle.mesh_model.specs.declared.records.EdgeRec.{EdgeRec}
use Rattle.mesh_model.specs.declared.records.CornerRec.{CornerRec}
use Rattle.mesh_model.specs.declared.records.FaceRec.{FaceRec}
use Rattle.mesh_model.proofs.Lists.{list_all-All}
use Rattle.mesh_passes.proofs.Conditions.{none_refused, unless_holds, last_of}
use Rattle.op_values.specs.Putting.{KeepRows, AreAllowed, no_layer, layer_at, put_from, rows_put}
use Rattle.op_values.specs.Putting.{verts_put, edges_put, faces_put, all_corners_put}
use Rattle.op_values.specs.Setting.{layer_named, is_allowed, are_values, with_layer_set, set_refusal}
use Rattle.op_values.specs.Setting.{with_vert_numbers, with_edge_numbers, with_corner_numbers, with_face_numbers}
use Rattle.op_values.proofs.Puttings.{put_from-long}
use Rattle.op_values.proofs.LayerNumbers.{AreFor, put-fits, put_from-all, allows-put}

-- ---- THE LAYER OF A NAME

-- what was read of a layer
pub layer_read : {X : Type 0} (f : Layer → X) (layers : List Layer) (k : ℕ) (d : Layer) (r : X) → k < length layers
    → option_map f (slice_get layers k) ≡ Some r → r ≡ f (get_or layers k d)
layer_read f layers k d r less is =
    let here : Some (f (get_or layers k d)) ≡ Some r =
    sym (ap (option_map f) (slice_get-get_or layers k d less)) ∙ is in
    cc

find_first : {X : Type 0} (p : X → Bool) (xs : List X) (k : ℕ) (d : X) → k < length xs → p (get_or xs k d) ≡ true
    → ((j : ℕ) → j < k → p (get_or xs j d) ≡ false) → find p xs ≡ Some (get_or xs k d)
find_first p [] k d less here before = absurd (omega arith)
find_first p (x ∷ xs) zero d less here before = cond-true (p x) (Some x) (find p xs) here
find_first p (x ∷ xs) (suc k) d less here before =
    cond-false (p x) (Some x) (find p xs) (before 0 (omega arith))
    ∙ find_first p xs k d (omega arith) here (λ j under. before (suc j) (omega arith))

pub find_at_position : {X : Type 0} (p : X → Bool) (xs : List X) (k : ℕ) (d : X) → position p xs ≡ Some k
    → find p xs ≡ Some (get_or xs k d)
find_at_position p xs k d is =
    let found = position-Some p xs k d is in find_first p xs k d found.0 found.1 found.2

-- none has the name
pub find_none : {X : Type 0} (p : X → Bool) (xs : List X) → position p xs ≡ None → find p xs ≡ None
find_none p xs is = elim ((slice_get_cases xs (position_or_len p xs)).1) [
  | inl found ↦ absurd (let some = sym is ∙ cond-true (ltb (position_or_len p xs) (length xs))
      (Some (position_or_len p xs)) None (lt-ltb (position_or_len p xs) (length xs) found.1) in cc)
  | inr past ↦ find_at p xs ∙ past.1
]

-- ---- NUMBERS THAT A LAYER CAN HAVE

not_or : (b x : Bool) → b ≡ true → (not b || x) ≡ true → x ≡ true
not_or true x is h = h
not_or false x is h = absurd (cc)

pub kind_layers : (c : Complex) (kind : Kind) → IsLinked c → AreLayers (layers_of c.layers kind)
kind_layers c Verts h = h.layers.verts
kind_layers c Edges h = h.layers.edges
kind_layers c Corners h = h.layers.corners
kind_layers c Faces h = h.layers.faces

numbers_for : (c : Complex) (kind : Kind) (k : ℕ) (values : List ℤ) → IsSound c
    → k < length (layers_of c.layers kind) → are_values c kind values (layer_at c kind k) ≡ true
    → AreFor (layers_of c.layers kind) k no_layer values
numbers_for c kind k values h less can =
    let l = layer_at c kind k in
    let parts = and_parts (eqb l.width (length values))
    (list_all is_in_range values && list_all (is_allowed c kind l) values) can in
    let layers = kind_layers c kind h.valid.linked in record {
      within = less;
      wide = sym (eqb-true l.width (length values) parts.0);
      some = λ j d under.
          let bounds = width_bounds (get_or (layers_of c.layers kind) j d).width (layers.widths j d under) in
          omega (arith, bounds.0);
    }

ranges_of : (c : Complex) (kind : Kind) (k : ℕ) (values : List ℤ) → are_values c kind values (layer_at c kind k) ≡ true
    → (list_all is_in_range values ≡ true) × (list_all (is_allowed c kind (layer_at c kind k)) values ≡ true)
ranges_of c kind k values can =
    let l = layer_at c kind k in
    and_parts (list_all is_in_range values) (list_all (is_allowed c kind l) values)
    (and_parts (eqb l.width (length values))
    (list_all is_in_range values && list_all (is_allowed c kind l) values) can).1

keep_rows : (layers : List Layer) (k : ℕ) (values : List ℤ) → AreFor layers k no_layer values
    → list_all is_in_range values ≡ true → KeepRows (put_from (offset layers k) values) (total layers)
keep_rows layers k values are new = record {
  long = λ row long.
      let fits : offset layers k + length values ≤ length row = omega (arith, put-fits layers k no_layer values are) in
      put_from-long (offset layers k) values row fits ∙ long;
  range = λ row long old. put_from-all is_in_range (offset layers k) values row new old;
}

-- the first number of a fixed layer of faces is allowed
first_allowed : (c : Complex) (k : ℕ) (values : List ℤ) → AreFor c.layers.faces k no_layer values
    → list_all (is_allowed c Faces (layer_at c Faces k)) values ≡ true
    → (same_layer material_layer (layer_at c Faces k) ≡ true → is_material c (get_or values 0 (pos 0)) ≡ true)
    × (same_layer smooth_layer (layer_at c Faces k) ≡ true → is_smooth (get_or values 0 (pos 0)) ≡ true)
first_allowed c k values are all =
    let l = layer_at c Faces k in
    let n = get_or values 0 (pos 0) in
    let wide = are.wide in
    let one = are.some k no_layer are.within in
    let some : 0 < length values = omega arith in
    let both = and_parts (not (same_layer material_layer l) || is_material c n)
    (not (same_layer smooth_layer l) || is_smooth n)
    (list_all-All (is_allowed c Faces l) values all 0 (pos 0) some) in (
      λ same. not_or (same_layer material_layer l) (is_material c n) same both.0,
      λ same. not_or (same_layer smooth_layer l) (is_smooth n) same both.1,
    )

pub allowed : (c : Complex) (kind : Kind) (k : ℕ) (values : List ℤ) → IsSound c
    → k < length (layers_of c.layers kind) → are_values c kind values (layer_at c kind k) ≡ true
    → AreAllowed (put_from (offset (layers_of c.layers kind) k) values) kind c
allowed c Verts k values h less can =
    keep_rows c.layers.verts k values (numbers_for c Verts k values h less can) (ranges_of c Verts k values can).0
allowed c Edges k values h less can =
    keep_rows c.layers.edges k values (numbers_for c Edges k values h less can) (ranges_of c Edges k values can).0
allowed c Corners k values h less can =
    keep_rows c.layers.corners k values (numbers_for c Corners k values h less can) (ranges_of c Corners k values can).0
allowed c Faces k values h less can =
    let are = numbers_for c Faces k values h less can in
    let can_be = ranges_of c Faces k values can in
    let first = first_allowed c k values are can_be.1 in record {
      rows = keep_rows c.layers.faces k values are can_be.0;
      material = λ row long old. allows-put (is_material c) c.layers.faces material_layer k no_layer values row are long
          first.0 old;
      smooth = λ row long old. allows-put is_smooth c.layers.faces smooth_layer k no_layer values row are long first.1
          old;
    }

pub fits : (c : Complex) (kind : Kind) (k : ℕ) (values : List ℤ) → IsSound c
    → k < length (layers_of c.layers kind) → are_values c kind values (layer_at c kind k) ≡ true
    → offset (layers_of c.layers kind) k + length values ≤ width c kind
fits c kind k values h less can =
    put-fits (layers_of c.layers kind) k no_layer values (numbers_for c kind k values h less can)

-- ---- THE ROW OF THE OPERATOR

pub set_may : (kind : Kind) (x : Elements) (name : List ℕ) (values : List ℤ) (c : Complex) (k : ℕ)
    → set_refusal kind x name values c ≡ None → find_layer (layers_of c.layers kind) name ≡ Some k
    → are_values c kind values (layer_at c kind k) ≡ true
set_may kind x name values c k none is =
    let both = none_refused (unless (is_some (layer_named c kind name)) NoLayer)
    (unless (passes (are_values c kind values) (layer_named c kind name)) BadValue ∷ []) none in
    let second = last_of (unless (passes (are_values c kind values) (layer_named c kind name)) BadValue) ∙ both.1 in
    let named = find_at_position (λ (l : Layer). same_name l.name name) (layers_of c.layers kind) k no_layer is in
    sym (ap (passes (are_values c kind values)) named)
    ∙ unless_holds (passes (are_values c kind values) (layer_named c kind name)) BadValue second

pub set_named : (kind : Kind) (x : Elements) (name : List ℕ) (values : List ℤ) (c : Complex)
    → set_refusal kind x name values c ≡ None → find_layer (layers_of c.layers kind) name ≡ None → ⊥
set_named kind x name values c none is =
    let both = none_refused (unless (is_some (layer_named c kind name)) NoLayer)
    (unless (passes (are_values c kind values) (layer_named c kind name)) BadValue ∷ []) none in
    let some = unless_holds (is_some (layer_named c kind name)) NoLayer both.0 in
    let nowhere = ap is_some (find_none (λ (l : Layer). same_name l.name name) (layers_of c.layers kind) is) in
    absurd (let e : false ≡ true = sym nowhere ∙ some in cc)

-- the numbers of the layer of the name
row_for : List Layer → List ℤ → List ℤ → Option ℕ → List ℤ
row_for layers values row o = option_map_or (λ (k : ℕ). with_numbers layers k values row) o row

pub set_is : (kind : Kind) (x : Elements) (name : List ℕ) (values : List ℤ) (c : Complex) (k : ℕ)
    → find_layer (layers_of c.layers kind) name ≡ Some k
    → rows_put (with_numbers (layers_of c.layers kind) k values) kind c x ≡ with_layer_set c kind x name values
unfolding with_vert_numbers with_edge_numbers with_corner_numbers with_face_numbers verts_put edges_put faces_put
    all_corners_put
set_is Verts x name values c k is = ap (λ (o : Option ℕ). record c {
  verts = changed_names (λ n. is_among x.verts (record { 0 = n }))
      (λ (r : VertRec). record r {
        vals = option_map_or (λ (j : ℕ). with_numbers c.layers.verts j values r.vals) o r.vals;
      }) c.verts;
}) (sym is)
set_is Edges x name values c k is = ap (λ (o : Option ℕ). record c {
  edges = changed_names (λ n. is_edge_among x.edges (record { 0 = n }))
      (λ (r : EdgeRec). record r {
        vals = option_map_or (λ (j : ℕ). with_numbers c.layers.edges j values r.vals) o r.vals;
      }) c.edges;
}) (sym is)
set_is Corners x name values c k is = ap (λ (o : Option ℕ). record c {
  faces = changed_names (λ n. is_face_among x.faces (record { 0 = n }))
      (λ (r : FaceRec). record r {
        corners = map (λ (y : CornerRec). record y {
          vals = option_map_or (λ (j : ℕ). with_numbers c.layers.corners j values y.vals) o y.vals;
        }) r.corners;
      }) c.faces;
}) (sym is)
set_is Faces x name values c k is = ap (λ (o : Option ℕ). record c {
  faces = changed_names (λ n. is_face_among x.faces (record { 0 = n }))
      (λ (r : FaceRec). record r {
        vals = option_map_or (λ (j : ℕ). with_numbers c.layers.faces j values r.vals) o r.vals;
      }) c.faces;
}) (sym is)

-- what two clauses say of a result together
pub both_ok : {T E : Type 0} (r : Result T E) (P R : T → Type 0) (Q : Type 0) → IfOk r P → OnOk r Q
    → ((x : T) → P x → Q → R x) → IfOk r R
both_ok (Ok x) P R Q p q h = h x p q
both_ok (Err e) P R Q p q h = tt

-- ---- NUMBERS OF FIXED LAYERS

all_true : {X : Type 0} (xs : List X) → true ≡ list_all (λ (x : X). true) xs
all_true [] = refl
all_true (x ∷ xs) = all_true xs

pub or_then : (b m x : Bool) → b ≡ m → b ≡ false → not b ≡ (not m || x)
or_then b m x same is = ap not is ∙ sym (ap (λ (t : Bool). not t || x) (sym same ∙ is))

pub or_else : (b m r x : Bool) → b ≡ m → b ≡ true → r ≡ x → r ≡ (not m || x)
or_else b m r x same is rest = rest ∙ sym (ap (λ (t : Bool). not t || x) (sym same ∙ is))

pub and_then : (a x b y : Bool) → a ≡ x → a ≡ true → b ≡ y → b ≡ (x && y)
and_then a x b y same is rest = rest ∙ sym (ap (λ (t : Bool). t && y) (sym same ∙ is))

pub and_else : (a x y : Bool) → a ≡ x → a ≡ false → a ≡ (x && y)
and_else a x y same is = is ∙ sym (ap (λ (t : Bool). t && y) (sym same ∙ is))

pub others_allowed : (c : Complex) (kind : Kind) (l : Layer) (values : List ℤ) → (kind ≡ Faces → ⊥)
    → true ≡ list_all (is_allowed c kind l) values
others_allowed c Verts l values other = all_true values
others_allowed c Edges l values other = all_true values
others_allowed c Corners l values other = all_true values
others_allowed c Faces l values other = absurd (other refl)

regroup : (a b p q r t : Bool)
    → (((a || p) && (b || q)) && ((a || r) && (b || t))) ≡ ((a || (p && r)) && (b || (q && t)))
regroup true true p q r t = refl
regroup true false p q r t = refl
regroup false true true q true t = refl
regroup false true true q false t = refl
regroup false true false q r t = refl
regroup false false true true true t = refl
regroup false false true true false t = refl
regroup false false true false true t = refl
regroup false false true false false t = refl
regroup false false false q r t = refl

pub all_of_both : {X : Type 0} (a b : Bool) (p q : X → Bool) (xs : List X)
    → ((a || list_all p xs) && (b || list_all q xs)) ≡ list_all (λ (x : X). (a || p x) && (b || q x)) xs
all_of_both true true p q [] = refl
all_of_both true false p q [] = refl
all_of_both false true p q [] = refl
all_of_both false false p q [] = refl
all_of_both a b p q (x ∷ xs) =
    sym (regroup a b (p x) (q x) (list_all p xs) (list_all q xs))
    ∙ ap (λ (t : Bool). ((a || p x) && (b || q x)) && t) (all_of_both a b p q xs)

-- ---- WHERE A LAYER BEGINS

pub total_next : (ls : List Layer) (j : ℕ) (w : ℕ) → j < length ls
    → option_map (λ (l : Layer). l.width) (slice_get ls j) ≡ Some w → total (take j ls) + w ≡ total (take (j + 1) ls)
total_next ls j w less is =
    let here = layer_read (λ (l : Layer). l.width) ls j no_layer w less is in
    let next : suc j ≡ j + 1 = omega arith in
    omega (arith, here, upto ls j less) ∙ ap (λ (n : ℕ). total (take n ls)) next
  where
    upto : (xs : List Layer) (i : ℕ) → i < length xs
        → total (take i xs) + (get_or xs i no_layer).width ≡ total (take (suc i) xs)
    upto [] i under = absurd (omega arith)
    upto (x ∷ xs) zero under = omega (arith, sum_by-cons (λ (l : Layer). l.width) x [])
    upto (x ∷ xs) (suc i) under = omega (
      arith,
      upto xs i (omega arith),
      sum_by-cons (λ (l : Layer). l.width) x (take i xs),
      sum_by-cons (λ (l : Layer). l.width) x (take (suc i) xs),
    )
