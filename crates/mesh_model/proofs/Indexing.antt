-- What an index of edges knows as it gets to know one edge more.
use Rattle.std.proofs.Common.{◌≡◌, ℕ, suc, ◌+◌, ◌<◌, Bool, true, false, cond, eqb, ◌&&◌, ◌||◌, min, max, List, [], ◌∷◌}
use Rattle.std.proofs.Common.{◌++◌, length, take, refl, sym, ap, ◌∙◌, arith, Option, Some, None, is_some}
use Rattle.std.specs.List.{position, position_from}
use Rattle.std.specs.Option.{option_map, option_or}
use Rattle.std.specs.HashMap.{get}
use Rattle.std.proofs.lemmas.List.{take_more, length-take, take-append-le, length-append}
use Rattle.std.proofs.lemmas.Bool.Decides.{nat_tests}
use Rattle.std.proofs.lemmas.Iterator.Adapters.{position_from-zero}
use Rattle.mesh_model.specs.Table.{at, passes}
use Rattle.mesh_model.specs.Incidence.{joins, edge_joining}
use Rattle.mesh_model.specs.EdgeIndexes.{key_of, same_key, Knows}
use Rattle.mesh_model.specs.declared.names.VertName.{VertName}
use Rattle.mesh_model.specs.declared.names.EdgeName.{EdgeName}
use Rattle.mesh_model.specs.declared.records.EdgeRec.{EdgeRec}
use Rattle.mesh_model.specs.declared.edge_index.EdgeIndex.{EdgeIndex}
use Rattle.mesh_model.specs.declared.edge_columns.Ends.{Ends}

-- ---- THE FIRST PLACE, WITH ONE MORE

first-more : (b : Bool) (i : ℕ) (o p : Option ℕ) → cond b (Some i) (option_or o p) ≡ option_or (cond b (Some i) o) p
first-more true i o p = refl
first-more false i o p = refl

position_from-push : {X : Type 0} (p : X → Bool) (i : ℕ) (xs : List X) (x : X)
    → position_from p i (xs ++ x ∷ []) ≡ option_or (position_from p i xs) (cond (p x) (Some (i + length xs)) None)
position_from-push p i [] x = ap (λ (k : ℕ). cond (p x) (Some k) None) (omega arith)
position_from-push {X = X} p i (y ∷ ys) x =
    let next : i + 1 + length ys ≡ i + suc (length ys) = omega arith in
    ap (λ (o : Option ℕ). cond (p y) (Some i) o) (position_from-push p (i + 1) ys x
    ∙ ap (λ (k : ℕ). option_or (position_from p (i + 1) ys) (cond (p x) (Some k) None)) next)
    ∙ first-more (p y) i (position_from p (i + 1) ys) (cond (p x) (Some (i + suc (length ys))) None)

named-more : (o : Option ℕ) (b : Bool) (n : ℕ)
    → option_map (λ (k : ℕ). let e : EdgeName = record { 0 = k } in e) (option_or o (cond b (Some n) None))
    ≡ option_or (option_map (λ (k : ℕ). let e : EdgeName = record { 0 = k } in e) o) (cond b (let e : EdgeName =
    record { 0 = n } in Some e) None)
named-more (Some k) b n = refl
named-more None true n = refl
named-more None false n = refl

pub edge_joining-push : (es : List (Option EdgeRec)) (o : Option EdgeRec) (v w : VertName)
    → edge_joining (es ++ o ∷ []) v w
    ≡ option_or (edge_joining es v w) (cond (passes (joins v w) o) (let e : EdgeName = record { 0 = length es } in
    Some e) None)
edge_joining-push es o v w =
    let p = passes (joins v w) in
    let zero_on : 0 + length es ≡ length es = omega arith in
    let name : ℕ → EdgeName = λ k. record { 0 = k } in
    ap (option_map name) (position_from-zero p (es ++ o ∷ []) ∙ position_from-push p 0 es o
    ∙ ap (λ (k : ℕ). option_or (position_from p 0 es) (cond (p o) (Some k) None)) zero_on
    ∙ ap (λ (q : Option ℕ). option_or q (cond (p o) (Some (length es)) None)) (sym (position_from-zero p es)))
    ∙ named-more (position p es) (p o) (length es)

-- ---- KEYS

meet : (a b v w : ℕ)
    → (eqb (min a b) (min v w) && eqb (max a b) (max v w)) ≡ ((eqb a v && eqb b w) || (eqb a w && eqb b v))
meet a b v w = grind (arith, nat_tests)

-- two keys are the same where the edge joins the two vertices
pub same_key-joins : (e : EdgeRec) (v w : VertName) → same_key (key_of e.a e.b) (key_of v w) ≡ joins v w e
same_key-joins e v w = meet e.a.0 e.b.0 v.0 w.0

-- ---- ONE EDGE MORE

one_more : (es : List (Option EdgeRec)) (n : ℕ) (v w : VertName) → n < length es
    → edge_joining (take (n + 1) es) v w
    ≡ option_or (edge_joining (take n es) v w) (cond (passes (joins v w) (at es n)) (let e : EdgeName =
    record { 0 = n } in Some e) None)
one_more es n v w less =
    let long : length (take n es) ≡ n = omega (arith, length-take n es) in
    ap (λ (t : List (Option EdgeRec)). edge_joining t v w) (take_more es n None less)
    ∙ edge_joining-push (take n es) (at es n) v w
    ∙ ap (λ (k : ℕ). option_or (edge_joining (take n es) v w) (cond (passes (joins v w) (at es n)) (let e : EdgeName =
    record { 0 = k } in Some e) None)) long

-- an edge is noted
pub Knows-noted : (index index' : EdgeIndex) (es : List (Option EdgeRec)) (e : EdgeRec) → Knows index es
    → index.known < length es → at es index.known ≡ Some e → index'.known ≡ index.known + 1
    → ((v w : VertName)
    → get same_key index'.least (key_of v w)
    ≡ option_or (get same_key index.least (key_of v w))
    (cond (same_key (key_of e.a e.b) (key_of v w)) (let n : EdgeName = record { 0 = index.known } in Some n) None))
    → Knows index' es
Knows-noted index index' es e knows less here next put = record {
  known = omega arith;
  least = λ v w.
      let name : Option EdgeName = let n : EdgeName = record { 0 = index.known } in Some n in
      put v w ∙ ap (λ (o : Option EdgeName). option_or o (cond (same_key (key_of e.a e.b) (key_of v w)) name None))
      (knows.least v w)
      ∙ ap (λ (b : Bool). option_or (edge_joining (take index.known es) v w) (cond b name None)) (same_key-joins e v w
      ∙ sym (ap (passes (joins v w)) here))
      ∙ sym (one_more es index.known v w less) ∙ ap (λ (n : ℕ). edge_joining (take n es) v w) (sym next);
}

option_or-None : {X : Type 0} (o : Option X) → option_or o None ≡ o
option_or-None None = refl
option_or-None (Some x) = refl

-- a name without an edge is passed over
pub Knows-passed : (index index' : EdgeIndex) (es : List (Option EdgeRec)) → Knows index es → index.known < length es
    → at es index.known ≡ None → index'.known ≡ index.known + 1
    → ((v w : VertName) → get same_key index'.least (key_of v w) ≡ get same_key index.least (key_of v w))
    → Knows index' es
Knows-passed index index' es knows less here next same = record {
  known = omega arith;
  least = λ v w.
      let name : Option EdgeName = let n : EdgeName = record { 0 = index.known } in Some n in
      same v w ∙ knows.least v w ∙ sym (option_or-None (edge_joining (take index.known es) v w))
      ∙ ap (λ (b : Bool). option_or (edge_joining (take index.known es) v w) (cond b name None))
      (sym (ap (passes (joins v w)) here))
      ∙ sym (one_more es index.known v w less) ∙ ap (λ (n : ℕ). edge_joining (take n es) v w) (sym next);
}

-- a table that grew
pub Knows-more : (index : EdgeIndex) (es more : List (Option EdgeRec)) → Knows index es → Knows index (es ++ more)
Knows-more index es more knows = record {
  known = omega (arith, knows.known, length-append es more);
  least = λ v w. knows.least v w
      ∙ ap (λ (t : List (Option EdgeRec)). edge_joining t v w) (sym (take-append-le index.known es more knows.known));
}

-- an edge as its ends tell
pub edge-told : (o : Option EdgeRec) (ends : Ends)
    → option_map (λ (r : EdgeRec). let e : Ends = record { a = r.a; b = r.b } in e) o ≡ Some ends
    → (e : EdgeRec) × (o ≡ Some e) × (e.a ≡ ends.a) × (e.b ≡ ends.b)
edge-told None ends told = absurd (cc)
edge-told (Some e) ends told = let same : record { a = e.a; b = e.b } ≡ ends = cc in
    (e, refl, ap (λ (x : Ends). x.a) same, ap (λ (x : Ends). x.b) same)

pub nothing-stands : {X : Type 0} (o : Option X) → is_some o ≡ false → o ≡ None
nothing-stands None h = refl
nothing-stands (Some x) h = absurd (cc)
