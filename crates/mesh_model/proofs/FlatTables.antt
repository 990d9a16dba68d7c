-- Tables whose records lie in flat columns: what stands at a name, and how a push, a skip and more places change them.
use Rattle.std.proofs.Common.{◌≡◌, ◌≢◌, ℕ, zero, suc, ◌+◌, ◌-◌, ◌<◌, ◌≤◌, ℤ, Bool, true, false, eqb, ◌||◌, List, []}
use Rattle.std.proofs.Common.{◌∷◌, ◌++◌, length, get_or, set, map, take, replicate, refl, sym, ap, ◌∙◌, arith, Option}
use Rattle.std.proofs.Common.{Some, None, is_some, inl, inr}
use Rattle.std.specs.List.{slice_get}
use Rattle.std.specs.Option.{option_map}
use Rattle.std.proofs.lemmas.Option.{slice_get-get_or, get_or_from_slice_get}
use Rattle.std.proofs.lemmas.List.{get_or-set_same, get_or-set_other, length-set, get_or_append_left, get_or_past}
use Rattle.std.proofs.lemmas.List.{get_or-take, get_or-map, length-map, length-take, take_more_set, map-append, map-set}
use Rattle.std.proofs.lemmas.List.{length-append, length-replicate}
use Rattle.std.proofs.Math.Seq.{take-set-lt}
use Rattle.std.proofs.lemmas.Bool.{cases_eq, eq-eqb, ne_eqb}
use Rattle.std.proofs.Math.Bool.{or-false, or-true}
use Rattle.mesh_model.specs.Table.{at, IsThere, table_of}
use Rattle.cust_data.specs.Layers.{Layer}
use Rattle.mesh_model.specs.Columns.{VertTable, EdgeTable, if_set, row_at, vert_at, AreVertColumns, stands, is_used}
use Rattle.mesh_model.specs.Columns.{edge_at, AreEdgeColumns}
use Rattle.mesh_model.proofs.Tables.{length-table_of, at-table_of, past-table_of, table_of-same, table_of-more}
use Rattle.mesh_model.proofs.Tables.{there-below}
use Rattle.mesh_model.specs.declared.edge_columns.EdgeState.{EdgeState}
use Rattle.mesh_model.specs.declared.edge_columns.EdgeState.TheVariants.{Absent, Loose, Used}
use Rattle.mesh_model.specs.declared.edge_columns.Ends.{Ends}
use Rattle.mesh_model.specs.declared.records.Point.{Point}
use Rattle.mesh_model.specs.declared.records.VertRec.{VertRec}
use Rattle.mesh_model.specs.declared.records.EdgeRec.{EdgeRec}

-- ---- LISTS

pub slice_get-set_same : {X : Type 0} (xs : List X) (i : ℕ) (x : X) → i < length xs → slice_get (set xs i x) i ≡ Some x
slice_get-set_same [] i x less = absurd (omega arith)
slice_get-set_same (y ∷ ys) zero x less = refl
slice_get-set_same (y ∷ ys) (suc i) x less = slice_get-set_same ys i x (omega arith)

pub slice_get-set_other : {X : Type 0} (xs : List X) (i j : ℕ) (x : X) → j ≢ i
    → slice_get (set xs i x) j ≡ slice_get xs j
slice_get-set_other [] i j x other = refl
slice_get-set_other (y ∷ ys) zero zero x other = absurd (other refl)
slice_get-set_other (y ∷ ys) zero (suc j) x other = refl
slice_get-set_other (y ∷ ys) (suc i) zero x other = refl
slice_get-set_other (y ∷ ys) (suc i) (suc j) x other =
    slice_get-set_other ys i j x (λ e. other (ap (λ (k : ℕ). suc k) e))

-- lists that agree at a place that both have
pub slice_get-same : {X : Type 0} (xs ys : List X) (k : ℕ) (d : X) → k < length xs → k < length ys
    → get_or xs k d ≡ get_or ys k d → slice_get xs k ≡ slice_get ys k
slice_get-same {X = X} xs ys k d less less' same = slice_get-get_or xs k d less ∙ ap (λ (x : X). Some x) same
    ∙ sym (slice_get-get_or ys k d less')

-- what stands at one name more, where the others keep theirs
pub table_of-push : {X : Type 0} (f g : ℕ → Option X) (n : ℕ) (x : Option X) → ((k : ℕ) → k < n → g k ≡ f k) → g n ≡ x
    → table_of g (n + 1) ≡ table_of f n ++ x ∷ []
table_of-push {X = X} f g n x same here =
    table_of-more g n ∙ ap (λ (t : List (Option X)). t ++ g n ∷ []) (table_of-same g f n same)
    ∙ ap (λ (y : Option X). table_of f n ++ y ∷ []) here

apart : (k n : ℕ) → k < n → k ≢ n
apart k n less same = absurd (omega arith)

-- ---- VERTICES

-- columns that agree at a name have the same vertex there
pub vert_at-same : (there there' : List Bool) (points points' : List Point) (rows rows' : List (List ℤ)) (k : ℕ)
    → get_or there' k false ≡ get_or there k false → slice_get points' k ≡ slice_get points k
    → row_at rows' k ≡ row_at rows k
    → vert_at there' points' rows' k ≡ vert_at there points rows k
vert_at-same there there' points points' rows rows' k t p r = rw (t, p, r) refl

table_of-vert_push : (there : List Bool) (points : List Point) (rows : List (List ℤ)) (n : ℕ) (p : Point) (row : List ℤ)
    → AreVertColumns there points rows n → n < length there
    → table_of (vert_at (set there n true) (set points n p) (set rows n row)) (n + 1)
    ≡ table_of (vert_at there points rows) n ++ Some (record { point = p; vals = row }) ∷ []
table_of-vert_push there points rows n p row are less =
    let f = vert_at there points rows in
    let g = vert_at (set there n true) (set points n p) (set rows n row) in
    let point : slice_get (set points n p) n ≡ Some p =
    slice_get-set_same points n p (let long = are.placed in omega arith) in
    let flag : get_or (set there n true) n false ≡ true = get_or-set_same there n true false less in
    let vals : row_at (set rows n row) n ≡ row = get_or-set_same rows n row [] (let long = are.valued in omega arith) in
    table_of-push f g n (Some (record { point = p; vals = row }))
    (λ k under. let other = apart k n under in
    vert_at-same there (set there n true) points (set points n p) rows (set rows n row) k
    (get_or-set_other there n k true false other) (slice_get-set_other points n k p other)
    (get_or-set_other rows n k row [] other))
    (rw (flag, point, vals) refl)

table_of-vert_skip : (there : List Bool) (points : List Point) (rows : List (List ℤ)) (n : ℕ) → n < length there
    → table_of (vert_at (set there n false) points rows) (n + 1) ≡ table_of (vert_at there points rows) n ++ None ∷ []
table_of-vert_skip there points rows n less =
    let flag : get_or (set there n false) n false ≡ false = get_or-set_same there n false false less in
    table_of-push (vert_at there points rows) (vert_at (set there n false) points rows) n None
    (λ k under. vert_at-same there (set there n false) points points rows rows k
    (get_or-set_other there n k false false (apart k n under)) refl refl)
    (rw flag refl)

is_some-if_set : {X Y : Type 0} (b : Bool) (f : X → Y) (o : Option X) (x : X) → o ≡ Some x
    → is_some (if_set b (option_map f o)) ≡ b
is_some-if_set true f o x h = rw h refl
is_some-if_set false f o x h = refl

-- the place of a list that has it
placed : {X : Type 0} (xs : List X) (k : ℕ) → k < length xs → (x : X) × (slice_get xs k ≡ Some x)
placed [] k less = absurd (omega arith)
placed (x ∷ xs) zero less = (x, refl)
placed (x ∷ xs) (suc k) less = placed xs k (omega arith)

pub is_there-vert : (there : List Bool) (points : List Point) (rows : List (List ℤ)) (n k : ℕ)
    → AreVertColumns there points rows n → k < n
    → is_some (at (table_of (vert_at there points rows) n) k) ≡ get_or there k false
is_there-vert there points rows n k are less =
    let point = placed points k (let a = are.few in let b = are.placed in omega arith) in
    ap is_some (at-table_of (vert_at there points rows) n k less)
    ∙ is_some-if_set (get_or there k false) (λ (p : Point). record { point = p; vals = row_at rows k })
    (slice_get points k) point.0 point.1

pub is_there-past : {X : Type 0} (f : ℕ → Option X) (n k : ℕ) → n ≤ k → is_some (at (table_of f n) k) ≡ false
is_there-past f n k over = ap is_some (past-table_of f n k over)

pub there-within : {X : Type 0} (f : ℕ → Option X) (n k : ℕ) → IsThere (table_of f n) k → k < n
there-within f n k there = let less = there-below (table_of f n) k there in let long = length-table_of f n in
    omega arith

room-push : {X : Type 0} (xs : List X) (n : ℕ) (x : X) → length (set xs n x) - (n + 1) ≡ length xs - n - 1
room-push xs n x = omega (arith, length-set xs n x)

-- the view of the columns of vertices
abbrev pub vert_table : List Bool → List Point → List (List ℤ) → List Layer → ℕ → VertTable
vert_table there points rows layers n = record {
  table = table_of (vert_at there points rows) n;
  layers = layers;
  room =
      length there - n;
}

pub vert_table-push : (there : List Bool) (points : List Point) (rows : List (List ℤ)) (layers : List Layer) (n : ℕ)
    (p : Point) (row : List ℤ) → AreVertColumns there points rows n → 0 < length there - n
    → vert_table (set there n true) (set points n p) (set rows n row) layers (n + 1)
    ≡ record {
      table = table_of (vert_at there points rows) n ++ Some (record { point = p; vals = row }) ∷ [];
      layers =
          layers;
      room = length there - n - 1;
    }
vert_table-push there points rows layers n p row are room =
    rw (table_of-vert_push there points rows n p row are (omega arith), room-push there n true) refl

pub vert_table-skip : (there : List Bool) (points : List Point) (rows : List (List ℤ)) (layers : List Layer) (n : ℕ)
    → 0 < length there - n
    → vert_table (set there n false) points rows layers (n + 1)
    ≡ record {
      table = table_of (vert_at there points rows) n ++ None ∷ [];
      layers = layers;
      room =
          length there - n - 1;
    }
vert_table-skip there points rows layers n room =
    rw (table_of-vert_skip there points rows n (omega arith), room-push there n false) refl

-- columns with more places, that keep what they had
pub table_of-vert_grown : (there there' : List Bool) (points points' : List Point) (rows rows' : List (List ℤ)) (n : ℕ)
    → AreVertColumns there points rows n → n ≤ length points'
    → ((k : ℕ) (d : Bool) → k < n → get_or there' k d ≡ get_or there k d)
    → ((k : ℕ) (d : Point) → k < n → get_or points' k d ≡ get_or points k d)
    → ((k : ℕ) (d : List ℤ) → k < n → get_or rows' k d ≡ get_or rows k d)
    → table_of (vert_at there' points' rows') n ≡ table_of (vert_at there points rows) n
table_of-vert_grown there there' points points' rows rows' n are long t p r =
    table_of-same (vert_at there' points' rows') (vert_at there points rows) n (λ k less.
    let within : k < length points = let a = are.few in let b = are.placed in omega arith in
    let d = (placed points k within).0 in
    vert_at-same there there' points points' rows rows' k (t k false less)
    (slice_get-same points' points k d (omega arith) within (p k d less)) (r k [] less))

-- a vertex that stands has its point and its row
pub stands-vert : (there : List Bool) (points : List Point) (rows : List (List ℤ)) (n k : ℕ) (p : Point)
    → AreVertColumns there points rows n → IsThere (table_of (vert_at there points rows) n) k
    → p ≡ get_or points k p
    → at (table_of (vert_at there points rows) n) k ≡ Some (record { point = p; vals = row_at rows k })
stands-vert there points rows n k p are stood read =
    let f = vert_at there points rows in
    let less = there-within f n k stood in
    let within : k < length points = let a = are.few in let b = are.placed in omega arith in
    let flag : get_or there k false ≡ true = sym (is_there-vert there points rows n k are less) ∙ stood in
    let point : slice_get points k ≡ Some p = slice_get-get_or points k p within
    ∙ ap (λ (q : Point). Some q) (sym read) in
    at-table_of f n k less ∙ rw (flag, point) refl

-- a number of its row
pub number-vert : (there : List Bool) (points : List Point) (rows : List (List ℤ)) (n k i : ℕ) (v : ℤ)
    → AreVertColumns there points rows n → IsThere (table_of (vert_at there points rows) n) k
    → slice_get (row_at rows k) i ≡ Some v
    → option_map (λ (r : VertRec). slice_get r.vals i) (at (table_of (vert_at there points rows) n) k) ≡ Some (Some v)
number-vert there points rows n k i v are stood read =
    let less = there-within (vert_at there points rows) n k stood in
    let within : k < length points = let a = are.few in let b = are.placed in omega arith in
    let point = placed points k within in
    ap (option_map (λ (r : VertRec). slice_get r.vals i))
    (stands-vert there points rows n k point.0 are stood
    (sym (get_or_from_slice_get points k point.0 point.0 point.1)))
    ∙ ap (λ (o : Option ℤ). Some o) read

-- how many places there are when more are made
pub enough-places : {X : Type 0} (xs : List X) (n : ℕ) (z : X) → n ≤ length (xs ++ replicate (n - length xs) z)
enough-places xs n z = omega (arith, length-append xs (replicate (n - length xs) z), length-replicate (n - length xs) z)

pub more-places : {X : Type 0} (a : ℕ) (xs ys : List X) → a ≤ length xs → a ≤ length (xs ++ ys)
more-places a xs ys few = omega (arith, length-append xs ys)

-- what a list of places keeps when more places are made
pub kept-more : {X : Type 0} (xs ys : List X) (n k : ℕ) (d : X) → n ≤ length xs → k < n
    → get_or (xs ++ ys) k d ≡ get_or xs k d
kept-more xs ys n k d long less = get_or_append_left xs ys d k (omega arith)

-- ---- EDGES

pub edge_at-same : (states states' : List EdgeState) (ends ends' : List Ends) (rows rows' : List (List ℤ)) (k : ℕ)
    → stands (get_or states' k Absent) ≡ stands (get_or states k Absent) → slice_get ends' k ≡ slice_get ends k
    → row_at rows' k ≡ row_at rows k
    → edge_at states' ends' rows' k ≡ edge_at states ends rows k
edge_at-same states states' ends ends' rows rows' k t p r = rw (t, p, r) refl

-- the view of the columns of edges
abbrev pub edge_table : List EdgeState → List Ends → List (List ℤ) → List Layer → ℕ → EdgeTable
edge_table states ends rows layers n =
    record {
      table = table_of (edge_at states ends rows) n;
      used = map is_used (take n states);
      layers = layers;
      room =
          length states - n;
    }

used-push : (states : List EdgeState) (n : ℕ) (s : EdgeState) → n < length states
    → map is_used (take (n + 1) (set states n s)) ≡ map is_used (take n states) ++ is_used s ∷ []
used-push states n s less = ap (map is_used) (take_more_set states n s less)
    ∙ map-append is_used (take n states) (s ∷ [])

pub edge_table-push : (states : List EdgeState) (ends : List Ends) (rows : List (List ℤ)) (layers : List Layer) (n : ℕ)
    (e : Ends) (row : List ℤ) → AreEdgeColumns states ends rows n → 0 < length states - n
    → edge_table (set states n Loose) (set ends n e) (set rows n row) layers (n + 1)
    ≡ record {
      table = table_of (edge_at states ends rows) n ++ Some (record { a = e.a; b = e.b; vals = row }) ∷ [];
      used = map is_used (take n states) ++ false ∷ [];
      layers = layers;
      room = length states - n - 1;
    }
edge_table-push states ends rows layers n e row are room =
    let less : n < length states = omega arith in
    let f = edge_at states ends rows in
    let g = edge_at (set states n Loose) (set ends n e) (set rows n row) in
    let there : slice_get (set ends n e) n ≡ Some e =
    slice_get-set_same ends n e (let long = are.placed in omega arith) in
    let flag : get_or (set states n Loose) n Absent ≡ Loose = get_or-set_same states n Loose Absent less in
    let vals : row_at (set rows n row) n ≡ row = get_or-set_same rows n row [] (let long = are.valued in omega arith) in
    let table = table_of-push f g n (Some (record { a = e.a; b = e.b; vals = row }))
    (λ k under. let other = apart k n under in
    edge_at-same states (set states n Loose) ends (set ends n e) rows (set rows n row) k
    (ap stands (get_or-set_other states n k Loose Absent other)) (slice_get-set_other ends n k e other)
    (get_or-set_other rows n k row [] other))
    (rw (flag, there, vals) refl) in
    rw (table, used-push states n Loose less, room-push states n Loose) refl

pub edge_table-skip : (states : List EdgeState) (ends : List Ends) (rows : List (List ℤ)) (layers : List Layer) (n : ℕ)
    → 0 < length states - n
    → edge_table (set states n Absent) ends rows layers (n + 1)
    ≡ record {
      table = table_of (edge_at states ends rows) n ++ None ∷ [];
      used =
          map is_used (take n states) ++ false ∷ [];
      layers = layers;
      room = length states - n - 1;
    }
edge_table-skip states ends rows layers n room =
    let less : n < length states = omega arith in
    let flag : get_or (set states n Absent) n Absent ≡ Absent = get_or-set_same states n Absent Absent less in
    let table = table_of-push (edge_at states ends rows) (edge_at (set states n Absent) ends rows) n None
    (λ k under. edge_at-same states (set states n Absent) ends ends rows rows k
    (ap stands (get_or-set_other states n k Absent Absent (apart k n under))) refl refl)
    (rw flag refl) in
    rw (table, used-push states n Absent less, room-push states n Absent) refl

pub table_of-edge_grown : (states states' : List EdgeState) (ends ends' : List Ends) (rows rows' : List (List ℤ))
    (n : ℕ) → AreEdgeColumns states ends rows n → n ≤ length ends'
    → ((k : ℕ) (d : EdgeState) → k < n → get_or states' k d ≡ get_or states k d)
    → ((k : ℕ) (d : Ends) → k < n → get_or ends' k d ≡ get_or ends k d)
    → ((k : ℕ) (d : List ℤ) → k < n → get_or rows' k d ≡ get_or rows k d)
    → table_of (edge_at states' ends' rows') n ≡ table_of (edge_at states ends rows) n
table_of-edge_grown states states' ends ends' rows rows' n are long t p r =
    table_of-same (edge_at states' ends' rows') (edge_at states ends rows) n (λ k less.
    let within : k < length ends = let a = are.few in let b = are.placed in omega arith in
    let d = (placed ends k within).0 in
    edge_at-same states states' ends ends' rows rows' k (ap stands (t k Absent less))
    (slice_get-same ends' ends k d (omega arith) within (p k d less)) (r k [] less))

pub is_there-edge : (states : List EdgeState) (ends : List Ends) (rows : List (List ℤ)) (n k : ℕ)
    → AreEdgeColumns states ends rows n → k < n
    → is_some (at (table_of (edge_at states ends rows) n) k) ≡ stands (get_or states k Absent)
is_there-edge states ends rows n k are less =
    let e = placed ends k (let a = are.few in let b = are.placed in omega arith) in
    ap is_some (at-table_of (edge_at states ends rows) n k less)
    ∙ is_some-if_set (stands (get_or states k Absent)) (λ (e : Ends). record { a = e.a; b = e.b; vals = row_at rows k })
    (slice_get ends k) e.0 e.1

pub stands-edge : (states : List EdgeState) (ends : List Ends) (rows : List (List ℤ)) (n k : ℕ) (e : Ends)
    → AreEdgeColumns states ends rows n → IsThere (table_of (edge_at states ends rows) n) k
    → e ≡ get_or ends k e
    → at (table_of (edge_at states ends rows) n) k ≡ Some (record { a = e.a; b = e.b; vals = row_at rows k })
stands-edge states ends rows n k e are stood read =
    let f = edge_at states ends rows in
    let less = there-within f n k stood in
    let within : k < length ends = let a = are.few in let b = are.placed in omega arith in
    let flag : stands (get_or states k Absent) ≡ true = sym (is_there-edge states ends rows n k are less) ∙ stood in
    let it : slice_get ends k ≡ Some e = slice_get-get_or ends k e within ∙ ap (λ (q : Ends). Some q) (sym read) in
    at-table_of f n k less ∙ rw (flag, it) refl

pub number-edge : (states : List EdgeState) (ends : List Ends) (rows : List (List ℤ)) (n k i : ℕ) (v : ℤ)
    → AreEdgeColumns states ends rows n → IsThere (table_of (edge_at states ends rows) n) k
    → slice_get (row_at rows k) i ≡ Some v
    → option_map (λ (r : EdgeRec). slice_get r.vals i) (at (table_of (edge_at states ends rows) n) k) ≡ Some (Some v)
number-edge states ends rows n k i v are stood read =
    let less = there-within (edge_at states ends rows) n k stood in
    let within : k < length ends = let a = are.few in let b = are.placed in omega arith in
    let e = placed ends k within in
    ap (option_map (λ (r : EdgeRec). slice_get r.vals i))
    (stands-edge states ends rows n k e.0 are stood (sym (get_or_from_slice_get ends k e.0 e.0 e.1)))
    ∙ ap (λ (o : Option ℤ). Some o) read

-- an edge that stands is marked as used
pub edge_table-mark : (states : List EdgeState) (ends : List Ends) (rows : List (List ℤ)) (layers : List Layer)
    (n m : ℕ) → AreEdgeColumns states ends rows n → IsThere (table_of (edge_at states ends rows) n) m
    → edge_table (set states m Used) ends rows layers n
    ≡ record {
      table = table_of (edge_at states ends rows) n;
      used = map is_used (take n (set states m Used));
      layers =
          layers;
      room = length states - n;
    }
edge_table-mark states ends rows layers n m are stood =
    let less = there-within (edge_at states ends rows) n m stood in
    let flag : stands (get_or states m Absent) ≡ true = sym (is_there-edge states ends rows n m are less) ∙ stood in
    let long : m < length states = let few = are.few in omega arith in
    let same : (k : ℕ) → stands (get_or (set states m Used) k Absent) ≡ stands (get_or states k Absent) =
    λ k. elim (cases_eq k m) [
      | inl here ↦ rw here (ap stands (get_or-set_same states m Used Absent long) ∙ sym flag)
      | inr other ↦ ap stands (get_or-set_other states m k Used Absent other)
    ] in
    let table = table_of-same (edge_at (set states m Used) ends rows) (edge_at states ends rows) n
    (λ k under. edge_at-same states (set states m Used) ends ends rows rows k (same k) refl refl) in
    rw (table, length-set states m Used) refl

pub length-used : (states : List EdgeState) (n : ℕ) → n ≤ length states → length (map is_used (take n states)) ≡ n
length-used states n few = omega (arith, length-map (take n states) is_used, length-take n states)

-- and it is used then, and no other more
pub used-mark : (states : List EdgeState) (n m : ℕ) → n ≤ length states → m < n
    → (e : ℕ) → get_or (map is_used (take n (set states m Used))) e false
    ≡ (get_or (map is_used (take n states)) e false || eqb m e)
used-mark states n m few less e =
    let flags = map is_used (take n states) in
    let long : m < length flags = omega (arith, length-used states n few) in
    ap (λ (xs : List Bool). get_or xs e false) (ap (map is_used) (take-set-lt n states m Used less)
    ∙ map-set is_used (take n states) m Used)
    ∙ elim (cases_eq m e) [
      | inl here ↦ rw (← here, eq-eqb m m refl) (get_or-set_same flags m true false long
          ∙ sym (or-true (get_or flags m false)))
      | inr other ↦ rw (ne_eqb m e other) (get_or-set_other flags m e true false (λ same. other (sym same))
          ∙ sym (or-false (get_or flags e false)))
    ]

pub used-within : (states : List EdgeState) (n k : ℕ) → n ≤ length states → k < n
    → get_or (map is_used (take n states)) k false ≡ is_used (get_or states k Absent)
used-within states n k few less =
    get_or-map is_used (take n states) k Absent false (omega (arith, length-take n states))
    ∙ ap is_used (get_or-take n states k Absent less)

pub used-past : (states : List EdgeState) (n k : ℕ) → n ≤ k → get_or (map is_used (take n states)) k false ≡ false
used-past states n k over =
    get_or_past (map is_used (take n states)) k false (omega (
      arith,
      length-map (take n states) is_used,
      length-take n states,
    ))
