-- What is done to polygons: a corner replaced by two, a polygon cut in two, two polygons fused, a corner taken out, a
-- polygon reversed.
use Rattle.std.proofs.Common.{◌≡◌, ◌≢◌, ℕ, ◌<◌, ◌≤◌, Bool, true, false, ◌&&◌, ◌||◌, eqb, List, [], ◌∷◌, ◌++◌, length}
use Rattle.std.proofs.Common.{refl, sym, ap, ◌∙◌, subst, inl, inr, arith, Option, Some, None, true≢false}
use Rattle.std.specs.List.{All, list_any}
use Rattle.std.proofs.lemmas.List.Elements.{All-cons, All-nil}
use Rattle.std.proofs.lemmas.Bool.{and_from, or_from, or_left, or_right, or_parts, or_cases, eqb-true, eqb-false}
use Rattle.std.proofs.lemmas.Bool.{eq-eqb, false_from_ne_true}
use Rattle.mesh_model.specs.Table.{at, passes}
use Rattle.mesh_model.specs.Complex.{verts_of}
use Rattle.mesh_model.specs.Incidence.{joins, has_end, is_along, is_at}
use Rattle.mesh_model.specs.Elements.{is_among}
use Rattle.mesh_model.specs.Valid.{are_distinct}
use Rattle.mesh_model.specs.declared.names.VertName.{VertName}
use Rattle.mesh_model.specs.declared.names.EdgeName.{EdgeName}
use Rattle.mesh_model.specs.declared.records.EdgeRec.{EdgeRec}
use Rattle.mesh_model.specs.declared.records.CornerRec.{CornerRec}
use Rattle.mesh_model.proofs.Tables.{Extends, stands, there_passes}
use Rattle.mesh_model.proofs.Edges.{has_end-joins, joins-turned, joins-cases}
use Rattle.mesh_model.proofs.Distinct.{distinct-cons, distinct-uncons, distinct-join, distinct-parts, AreApart}
use Rattle.mesh_model.proofs.Distinct.{is_among-append}
use Rattle.mesh_model.proofs.Paths.{start_of, leads_to, is_path, path-cons, path-uncons, path-append, path-parts}
use Rattle.mesh_model.proofs.Paths.{path-same, IsCircle, verts-append}

-- an edge with these ends, in one order or the other, joins them
pub joins-ahead : (v w : VertName) (x : EdgeRec) → x.a ≡ v → x.b ≡ w → joins v w x ≡ true
joins-ahead v w x a b = or_left (eqb x.a.0 v.0 && eqb x.b.0 w.0) (eqb x.a.0 w.0 && eqb x.b.0 v.0)
    (and_from (eqb x.a.0 v.0) (eqb x.b.0 w.0) (eq-eqb x.a.0 v.0 (ap (λ (u : VertName). u.0) a))
    (eq-eqb x.b.0 w.0 (ap (λ (u : VertName). u.0) b)))

pub joins-back : (v w : VertName) (x : EdgeRec) → x.a ≡ w → x.b ≡ v → joins v w x ≡ true
joins-back v w x a b = or_right (eqb x.a.0 v.0 && eqb x.b.0 w.0) (eqb x.a.0 w.0 && eqb x.b.0 v.0)
    (and_from (eqb x.a.0 w.0) (eqb x.b.0 v.0) (eq-eqb x.a.0 w.0 (ap (λ (u : VertName). u.0) a))
    (eq-eqb x.b.0 v.0 (ap (λ (u : VertName). u.0) b)))

-- ---- WHICH CORNERS RUN ALONG AN EDGE

-- the vertex of each corner of a path is an end of its edge
pub path-has_ends : (edges : List (Option EdgeRec)) (ks : List CornerRec) (end : VertName) → is_path edges ks end ≡ true
    → All (λ (k : CornerRec). passes (has_end k.vert) (at edges k.edge.0) ≡ true) ks
path-has_ends edges [] end h = All-nil (λ (k : CornerRec). passes (has_end k.vert) (at edges k.edge.0) ≡ true)
path-has_ends edges (k ∷ ks) end h =
    let both = path-uncons edges k ks end h in
    All-cons (λ (x : CornerRec). passes (has_end x.vert) (at edges x.edge.0) ≡ true) k ks
    (has (at edges k.edge.0) both.0) (path-has_ends edges ks end both.1)
  where
    has : (o : Option EdgeRec) → passes (joins k.vert (start_of ks end)) o ≡ true → passes (has_end k.vert) o ≡ true
    has None is = absurd (cc)
    has (Some r) is = has_end-joins k.vert (start_of ks end) r is

neither_end : (v : VertName) (r : EdgeRec) → has_end v r ≡ true → eqb v.0 r.a.0 ≡ false → eqb v.0 r.b.0 ≡ false → ⊥
neither_end v r h no_a no_b = elim (or_cases (eqb r.a.0 v.0) (eqb r.b.0 v.0) h) [
  | inl is_a ↦ true≢false (sym (eq-eqb v.0 r.a.0 (sym (eqb-true r.a.0 v.0 is_a))) ∙ no_a)
  | inr is_b ↦ true≢false (sym (eq-eqb v.0 r.b.0 (sym (eqb-true r.b.0 v.0 is_b))) ∙ no_b)
]

-- an edge that joins two vertices outside a list has both its ends outside
outside : (v w : VertName) (r : EdgeRec) (vs : List VertName) → joins v w r ≡ true → is_among vs v ≡ false
    → is_among vs w ≡ false → (is_among vs r.a ≡ false) × (is_among vs r.b ≡ false)
outside v w r vs h no_v no_w = elim (joins-cases v w r h) [
  | inl ahead ↦ (ap (is_among vs) ahead.0 ∙ no_v, ap (is_among vs) ahead.1 ∙ no_w)
  | inr back ↦ (ap (is_among vs) back.0 ∙ no_w, ap (is_among vs) back.1 ∙ no_v)
]

-- what a corner's edge joins, where its record is known
pub leads-joins : (edges : List (Option EdgeRec)) (k : CornerRec) (v : VertName) (e : EdgeName) (r : EdgeRec)
    → is_along e k ≡ true → at edges e.0 ≡ Some r → leads_to edges k v ≡ true → joins k.vert v r ≡ true
leads-joins edges k v e r along is h =
    sym (ap (passes (joins k.vert v)) (ap (at edges) (eqb-true k.edge.0 e.0 along) ∙ is)) ∙ h

-- a path past neither end of an edge has no corner along it
pub none_along : (edges : List (Option EdgeRec)) (e : EdgeName) (r : EdgeRec) (ks : List CornerRec) (end : VertName)
    → at edges e.0 ≡ Some r → is_among (verts_of ks) r.a ≡ false → is_among (verts_of ks) r.b ≡ false
    → is_path edges ks end ≡ true
    → list_any (is_along e) ks ≡ false
none_along edges e r [] end is no_a no_b h = refl
none_along edges e r (k ∷ ks) end is no_a no_b h =
    let out_a = or_parts (eqb k.vert.0 r.a.0) (is_among (verts_of ks) r.a) no_a in
    let out_b = or_parts (eqb k.vert.0 r.b.0) (is_among (verts_of ks) r.b) no_b in
    let both = path-uncons edges k ks end h in
    or_from (is_along e k) (list_any (is_along e) ks)
    (false_from_ne_true (is_along e k)
    (λ along. neither_end k.vert r
    (has_end-joins k.vert (start_of ks end) r (leads-joins edges k (start_of ks end) e r along is both.0))
    out_a.0 out_b.0))
    (none_along edges e r ks end is out_a.1 out_b.1 both.1)

-- in a circle of three corners or more, one corner alone runs along an edge
pub alone_along : (edges : List (Option EdgeRec)) (k : CornerRec) (rest : List CornerRec) (r : EdgeRec)
    → 2 ≤ length rest → at edges k.edge.0 ≡ Some r → IsCircle edges (k ∷ rest) → list_any (is_along k.edge) rest ≡ false
alone_along edges k [] r long is h = absurd (omega arith)
alone_along edges k (l ∷ []) r long is h = absurd (omega arith)
alone_along edges k (l ∷ m ∷ ks) r long is h =
    let first = path-uncons edges k (l ∷ m ∷ ks) k.vert h.closed in
    let second = path-uncons edges l (m ∷ ks) k.vert first.1 in
    let apart = distinct-uncons k.vert (verts_of (l ∷ m ∷ ks)) h.distinct in
    let later = distinct-uncons l.vert (verts_of (m ∷ ks)) apart.1 in
    let joined : joins k.vert l.vert r ≡ true =
    leads-joins edges k l.vert k.edge r (eq-eqb k.edge.0 k.edge.0 refl) is first.0 in
    let out = outside k.vert l.vert r (verts_of (m ∷ ks)) joined
    (or_parts (eqb l.vert.0 k.vert.0) (is_among (verts_of (m ∷ ks)) k.vert) apart.0).1 later.0 in
    or_from (is_along k.edge l) (list_any (is_along k.edge) (m ∷ ks))
    (false_from_ne_true (is_along k.edge l) (λ along.
    let back = leads-joins edges l m.vert k.edge r along is second.0 in
    neither_end m.vert r (has_end-joins m.vert l.vert r (sym (joins-turned l.vert m.vert r) ∙ back))
    (or_parts (eqb m.vert.0 r.a.0) (is_among (verts_of ks) r.a) out.0).0
    (or_parts (eqb m.vert.0 r.b.0) (is_among (verts_of ks) r.b) out.1).0))
    (none_along edges k.edge r (m ∷ ks) k.vert is out.0 out.1 second.1)

-- where all edges but one stay, those of a path without a corner along that one stay
pub stay_along : (old new : List (Option EdgeRec)) (e : EdgeName)
    → ((n : ℕ) (x : EdgeRec) → at old n ≡ Some x → n ≢ e.0 → at new n ≡ Some x) → (ks : List CornerRec) (end : VertName)
    → is_path old ks end ≡ true → list_any (is_along e) ks ≡ false
    → All (λ (l : CornerRec). at new l.edge.0 ≡ at old l.edge.0) ks
stay_along old new e stay [] end h none = All-nil (λ (l : CornerRec). at new l.edge.0 ≡ at old l.edge.0)
stay_along old new e stay (k ∷ ks) end h none =
    let both = path-uncons old k ks end h in
    let out = or_parts (is_along e k) (list_any (is_along e) ks) none in
    let it = stands (at old k.edge.0) (there_passes (joins k.vert (start_of ks end)) (at old k.edge.0) both.0) in
    All-cons (λ (l : CornerRec). at new l.edge.0 ≡ at old l.edge.0) k ks
    (stay k.edge.0 it.0 it.1 (eqb-false k.edge.0 e.0 out.0)
    ∙ sym it.1) (stay_along old new e stay ks end both.1 out.1)

-- where all edges stay, those of a path do
pub stay_all : (old new : List (Option EdgeRec)) → Extends old new → (ks : List CornerRec) (end : VertName)
    → is_path old ks end ≡ true → All (λ (l : CornerRec). at new l.edge.0 ≡ at old l.edge.0) ks
stay_all old new more [] end h = All-nil (λ (l : CornerRec). at new l.edge.0 ≡ at old l.edge.0)
stay_all old new more (k ∷ ks) end h =
    let both = path-uncons old k ks end h in
    let it = stands (at old k.edge.0) (there_passes (joins k.vert (start_of ks end)) (at old k.edge.0) both.0) in
    All-cons (λ (l : CornerRec). at new l.edge.0 ≡ at old l.edge.0) k ks (more k.edge.0 it.0 it.1
    ∙ sym it.1) (stay_all old new more ks end both.1)

-- a corner's edge leads to a vertex where its record joins the two
pub leads-from : (edges : List (Option EdgeRec)) (k : CornerRec) (v : VertName) (r : EdgeRec)
    → at edges k.edge.0 ≡ Some r → joins k.vert v r ≡ true → leads_to edges k v ≡ true
leads-from edges k v r is joined = ap (passes (joins k.vert v)) is ∙ joined

-- an edge between two other vertices hasn't this end
pub no_end : (v u w : VertName) (x : EdgeRec) → u.0 ≢ v.0 → w.0 ≢ v.0 → joins u w x ≡ true → has_end v x ≡ false
no_end v u w x not_u not_w joined =
    false_from_ne_true (has_end v x) (λ has_v. elim (or_cases (eqb x.a.0 v.0) (eqb x.b.0 v.0) has_v) [
      | inl is_a ↦ elim (joins-cases u w x joined) [
        | inl ahead ↦ not_u (ap (λ (y : VertName). y.0) (sym ahead.0) ∙ eqb-true x.a.0 v.0 is_a)
        | inr back ↦ not_w (ap (λ (y : VertName). y.0) (sym back.0) ∙ eqb-true x.a.0 v.0 is_a)
      ]
      | inr is_b ↦ elim (joins-cases u w x joined) [
        | inl ahead ↦ not_w (ap (λ (y : VertName). y.0) (sym ahead.1) ∙ eqb-true x.b.0 v.0 is_b)
        | inr back ↦ not_u (ap (λ (y : VertName). y.0) (sym back.1) ∙ eqb-true x.b.0 v.0 is_b)
      ]
    ])

-- where all edges past a vertex stay, those of a path past it do
pub stay_past : (old new : List (Option EdgeRec)) (v : VertName)
    → ((n : ℕ) (x : EdgeRec) → at old n ≡ Some x → has_end v x ≡ false → at new n ≡ Some x)
    → (ks : List CornerRec) (end : VertName)
    → is_path old ks end ≡ true → list_any (is_at v) ks ≡ false → end.0 ≢ v.0
    → All (λ (l : CornerRec). at new l.edge.0 ≡ at old l.edge.0) ks
stay_past old new v stay [] end h none off = All-nil (λ (l : CornerRec). at new l.edge.0 ≡ at old l.edge.0)
stay_past old new v stay (k ∷ ks) end h none off =
    let both = path-uncons old k ks end h in
    let clear = or_parts (is_at v k) (list_any (is_at v) ks) none in
    let it = stands (at old k.edge.0) (there_passes (joins k.vert (start_of ks end)) (at old k.edge.0) both.0) in
    let joined : joins k.vert (start_of ks end) it.0 ≡ true = sym (ap (passes (joins k.vert (start_of ks end))) it.1)
    ∙ both.0 in
    let out : has_end v it.0 ≡ false =
    no_end v k.vert (start_of ks end) it.0 (eqb-false k.vert.0 v.0 clear.0) (next_off ks clear.1) joined in
    All-cons (λ (l : CornerRec). at new l.edge.0 ≡ at old l.edge.0) k ks (stay k.edge.0 it.0 it.1 out
    ∙ sym it.1) (stay_past old new v stay ks end both.1 clear.1 off)
  where
    next_off : (ls : List CornerRec) → list_any (is_at v) ls ≡ false → (start_of ls end).0 ≢ v.0
    next_off [] clear = off
    next_off (l ∷ ls) clear = eqb-false l.vert.0 v.0 (or_parts (is_at v l) (list_any (is_at v) ls) clear).0

pub at-among : (v : VertName) (ks : List CornerRec) → list_any (is_at v) ks ≡ is_among (verts_of ks) v
at-among v [] = refl
at-among v (k ∷ ks) = ap (λ (b : Bool). is_at v k || b) (at-among v ks)

-- ---- A CORNER REPLACED BY TWO

-- the first of them at the corner's vertex, and the second at a new one
pub IsCircle-split : (old new : List (Option EdgeRec)) (k j n : CornerRec) (rest : List CornerRec)
    → IsCircle old (k ∷ rest) → j.vert ≡ k.vert → is_among (verts_of (k ∷ rest)) n.vert ≡ false
    → leads_to new j n.vert ≡ true → leads_to new n (start_of rest k.vert) ≡ true
    → All (λ (l : CornerRec). at new l.edge.0 ≡ at old l.edge.0) rest → IsCircle new (j ∷ n ∷ rest)
IsCircle-split old new k j n rest h same out first second stay =
    let old_path = path-uncons old k rest k.vert h.closed in
    let apart = distinct-uncons k.vert (verts_of rest) h.distinct in
    let outs = or_parts (eqb k.vert.0 n.vert.0) (is_among (verts_of rest) n.vert) out in
    let back : is_path new (n ∷ rest) k.vert ≡ true =
    path-cons new n rest k.vert second (path-same old new rest k.vert stay old_path.1) in
    record {
      distinct = distinct-cons j.vert (n.vert ∷ verts_of rest)
          (ap (is_among (n.vert ∷ verts_of rest)) same
          ∙ or_from (eqb n.vert.0 k.vert.0) (is_among (verts_of rest) k.vert) (turned_false k.vert.0 n.vert.0 outs.0)
          apart.0)
          (distinct-cons n.vert (verts_of rest) outs.1 apart.1);
      closed = path-cons new j (n ∷ rest) j.vert first
          (subst (λ (v : VertName). is_path new (n ∷ rest) v ≡ true) (sym same) back);
    }
  where
    turned_false : (m i : ℕ) → eqb m i ≡ false → eqb i m ≡ false
    turned_false m i other =
        false_from_ne_true (eqb i m) (λ is. true≢false (sym (eq-eqb m i (sym (eqb-true i m is))) ∙ other))

-- ---- A RING CUT IN TWO, at its first corner and a later one

-- the first corner leads straight to the later one
pub IsCircle-outer : (old new : List (Option EdgeRec)) (k j l : CornerRec) (between rest : List CornerRec)
    → IsCircle old (k ∷ between ++ l ∷ rest) → j.vert ≡ k.vert → leads_to new j l.vert ≡ true
    → All (λ (x : CornerRec). at new x.edge.0 ≡ at old x.edge.0) (l ∷ rest) → IsCircle new (j ∷ l ∷ rest)
IsCircle-outer old new k j l between rest h same first stay =
    let whole = path-uncons old k (between ++ l ∷ rest) k.vert h.closed in
    let parts = path-parts old between (l ∷ rest) k.vert whole.1 in
    let apart = distinct-uncons k.vert (verts_of (between ++ l ∷ rest)) h.distinct in
    let split = verts-append between (l ∷ rest) in
    let halves = distinct-parts (verts_of between) (verts_of (l ∷ rest)) (sym (ap are_distinct split) ∙ apart.1) in
    let outs = or_parts (is_among (verts_of between) k.vert) (is_among (verts_of (l ∷ rest)) k.vert)
    (sym (is_among-append (verts_of between) (verts_of (l ∷ rest)) k.vert)
    ∙ ap (λ (vs : List VertName). is_among vs k.vert) (sym split) ∙ apart.0) in
    record {
      distinct = distinct-cons j.vert (verts_of (l ∷ rest)) (ap (is_among (verts_of (l ∷ rest))) same
          ∙ outs.1) halves.second;
      closed = path-cons new j (l ∷ rest) j.vert first
          (subst (λ (v : VertName). is_path new (l ∷ rest) v ≡ true) (sym same)
          (path-same old new (l ∷ rest) k.vert stay parts.1));
    }

-- and the later one leads straight back
pub IsCircle-inner : (old new : List (Option EdgeRec)) (k l m : CornerRec) (between rest : List CornerRec)
    → IsCircle old (k ∷ between ++ l ∷ rest) → m.vert ≡ l.vert → leads_to new m k.vert ≡ true
    → All (λ (x : CornerRec). at new x.edge.0 ≡ at old x.edge.0) (k ∷ between) → IsCircle new (k ∷ between ++ m ∷ [])
IsCircle-inner old new k l m between rest h same last stay =
    let parts = path-parts old (k ∷ between) (l ∷ rest) k.vert h.closed in
    let front = path-same old new (k ∷ between) l.vert stay parts.0 in
    let halves = distinct-parts (verts_of (k ∷ between)) (verts_of (l ∷ rest))
    (sym (ap are_distinct (verts-append (k ∷ between) (l ∷ rest))) ∙ h.distinct) in
    record {
      distinct = ap are_distinct (verts-append (k ∷ between) (m ∷ []))
          ∙ (distinct-join (verts_of (k ∷ between)) (m.vert ∷ []) halves.first refl
          (λ u in_front in_last. halves.apart u in_front
          (or_left (eqb l.vert.0 u.0) (is_among (verts_of rest) u)
          (elim (or_cases (eqb m.vert.0 u.0) false in_last) [
            | inl here ↦ ap (λ (v : VertName). eqb v.0 u.0) (sym same)
                ∙ here
            | inr none ↦ absurd (true≢false (sym none))
          ]))));
      closed = path-append new (k ∷ between) (m ∷ []) k.vert
          (subst (λ (v : VertName). is_path new (k ∷ between) v ≡ true) (sym same) front)
          (path-cons new m [] k.vert last refl);
    }

-- ---- TWO RINGS FUSED, whose first corners run opposite ways along one edge

pub IsCircle-fused : (old new : List (Option EdgeRec)) (k l : CornerRec) (ks ls : List CornerRec)
    → IsCircle old (k ∷ ks) → IsCircle old (l ∷ ls) → start_of ks k.vert ≡ l.vert → start_of ls l.vert ≡ k.vert
    → AreApart (verts_of ls) (verts_of ks) → 0 < length ls
    → All (λ (x : CornerRec). at new x.edge.0 ≡ at old x.edge.0) ks
    → All (λ (x : CornerRec). at new x.edge.0 ≡ at old x.edge.0) ls → IsCircle new (ls ++ ks)
IsCircle-fused old new k l ks [] h g to from apart some stay_k stay_l = absurd (omega arith)
IsCircle-fused old new k l ks (m ∷ ms) h g to from apart some stay_k stay_l =
    let one = path-uncons old k ks k.vert h.closed in
    let two = path-uncons old l (m ∷ ms) l.vert g.closed in
    let there : is_path new (m ∷ ms) l.vert ≡ true = path-same old new (m ∷ ms) l.vert stay_l two.1 in
    let back : is_path new ks k.vert ≡ true = path-same old new ks k.vert stay_k one.1 in
    let turn : is_path new ks m.vert ≡ true = subst (λ (v : VertName). is_path new ks v ≡ true) (sym from) back in
    let meet : start_of ks m.vert ≡ l.vert = ap (start_of ks) from ∙ to in
    record {
      distinct = ap are_distinct (verts-append (m ∷ ms) ks)
          ∙ (distinct-join (verts_of (m ∷ ms)) (verts_of ks) (distinct-uncons l.vert (verts_of (m ∷ ms)) g.distinct).1
          (distinct-uncons k.vert (verts_of ks) h.distinct).1 apart);
      closed = path-append new (m ∷ ms) ks m.vert
          (subst (λ (v : VertName). is_path new (m ∷ ms) v ≡ true) (sym meet) there) turn;
    }

-- ---- A CORNER TAKEN OUT, the second one, where the first leads past it

pub IsCircle-joined : (old new : List (Option EdgeRec)) (p k q : CornerRec) (rest : List CornerRec)
    → IsCircle old (p ∷ k ∷ rest) → q.vert ≡ p.vert → leads_to new q (start_of rest p.vert) ≡ true
    → All (λ (x : CornerRec). at new x.edge.0 ≡ at old x.edge.0) rest → IsCircle new (q ∷ rest)
IsCircle-joined old new p k q rest h same first stay =
    let one = path-uncons old p (k ∷ rest) p.vert h.closed in
    let two = path-uncons old k rest p.vert one.1 in
    let apart = distinct-uncons p.vert (verts_of (k ∷ rest)) h.distinct in
    let later = distinct-uncons k.vert (verts_of rest) apart.1 in
    let path : is_path new (q ∷ rest) p.vert ≡ true =
    path-cons new q rest p.vert first (path-same old new rest p.vert stay two.1) in
    record {
      distinct = distinct-cons q.vert (verts_of rest) (ap (is_among (verts_of rest)) same
          ∙ (or_parts (eqb k.vert.0 p.vert.0) (is_among (verts_of rest) p.vert) apart.0).1) later.1;
      closed = subst (λ (v : VertName). is_path new (q ∷ rest) v ≡ true) (sym same) path;
    }
