-- An edge is made: what its conditions say, and what it gives.
use Rattle.std.proofs.Common.{◌≡◌, ◌≢◌, ◌+◌, ◌<◌, ◌≤◌, List, [], ◌∷◌, ◌++◌, ℕ, length, sym, ap, ◌∙◌, arith, refl}
use Rattle.std.proofs.Common.{None, Some, Option, All, eqb, false}
use Rattle.std.specs.Option.{option_map}
use Rattle.std.proofs.lemmas.Bool.{eqb-true}
use Rattle.std.proofs.lemmas.List.{length_push}
use Rattle.mesh_model.specs.Table.{IsThere}
use Rattle.mesh_model.specs.Complex.{Complex, counters_of}
use Rattle.mesh_model.specs.Incidence.{edge_joining}
use Rattle.mesh_model.specs.Kernel.{with_edge_like, edge_vals_like}
use Rattle.mesh_model.specs.Refusals.{first_of, unless, refused_at, unless_too_many}
use Rattle.mesh_model.specs.Valid.{IsSound}
use Rattle.mesh_model.specs.declared.limits.TheConstants.{MAX_EDGES}
use Rattle.mesh_model.specs.declared.names.VertName.{VertName}
use Rattle.mesh_model.specs.declared.names.EdgeName.{EdgeName}
use Rattle.mesh_model.specs.declared.names.Elem.TheVariants.{Vert, Edge}
use Rattle.mesh_model.specs.declared.records.Counters.{Counters}
use Rattle.mesh_model.specs.declared.records.EdgeRec.{EdgeRec}
use Rattle.mesh_model.specs.declared.refusal.Why.TheVariants.{BadValue, Repeated, Exists}
use Rattle.mesh_model.specs.declared.refusal.Place.TheVariants.{Nowhere, Elem as AtElem}
use Rattle.mesh_model.proofs.KernelMakings.{IsValid-with_edge_like, IsSimple-with_edge_like}
use Rattle.mesh_model.proofs.Makings.{JoinsNone-edge_joining}
use Rattle.mesh_model.proofs.Tables.{there-below}
use Rattle.mesh_passes.proofs.Conditions.{none_refused, unless_holds, fails_unless, last_of, within_limits}
use Rattle.op_basic.specs.Making.{make_edge_refusal, least_repeated, vert_at, with_edge_between}
use Rattle.op_basic.proofs.Pairs.{repeats, differs, two_of}

abbrev made : Complex → VertName → VertName → EdgeRec
made c a b = record { a = a; b = b; vals = edge_vals_like c None }

pub one_more : (c : Complex) (a b : VertName) (n : Counters) → n ≡ counters_of c
    → record n { edges = n.edges + 1 } ≡ counters_of (with_edge_like c a b None)
one_more c a b n is =
    ap (λ (m : Counters). let k : Counters = record m { edges = m.edges + 1 } in k) is
    ∙ ap (λ (k : ℕ). let m : Counters = record (counters_of c) { edges = k } in m)
    (sym (length_push c.edges (Some (made c a b))))

pub no_vert : (o : Option VertName) → refused_at Repeated (option_map Vert o) ≡ None → o ≡ None
no_vert None h = refl
no_vert (Some x) h = absurd (cc)

no_edge : (o : Option EdgeName) → refused_at Exists (option_map Edge o) ≡ None → o ≡ None
no_edge None h = refl
no_edge (Some x) h = absurd (cc)

-- what holds where the edge may be made
pub record MayJoin (c : Complex) (a b : VertName) : Type 0 where
  pub differ : a.0 ≢ b.0
  pub none : edge_joining c.edges a b ≡ None
  pub few : length c.edges < MAX_EDGES

pub may_join : (c : Complex) (a b : VertName) → IsThere c.verts a.0 → make_edge_refusal (a ∷ b ∷ []) c ≡ None
    → MayJoin c a b
may_join c a b there h =
    let after = with_edge_like c a b None in
    let repeated = refused_at Repeated (option_map Vert (least_repeated c (a ∷ b ∷ []))) in
    let exists = refused_at Exists (option_map Edge (edge_joining c.edges a b)) in
    let first = none_refused repeated (exists ∷ unless_too_many after ∷ []) h in
    let second = none_refused exists (unless_too_many after ∷ []) first.1 in
    let limits = within_limits after (last_of (unless_too_many after) ∙ second.1) in
    let few : length (c.edges ++ Some (made c a b) ∷ []) ≤ MAX_EDGES = limits.edges in
    record {
      differ = λ same. absurd (let some : None ≡ Some a = sym (no_vert (least_repeated c (a ∷ b ∷ [])) first.0)
          ∙ repeats c a b same (there-below c.verts a.0 there) in cc);
      none = no_edge (edge_joining c.edges a b) second.0;
      few = omega (arith, length_push c.edges (Some (made c a b)));
    }

pub IsSound-joined : (c : Complex) (a b : VertName) → IsThere c.verts a.0 → IsThere c.verts b.0 → MayJoin c a b
    → IsSound c → IsSound (with_edge_like c a b None)
IsSound-joined c a b there_a there_b may h = record {
  valid = IsValid-with_edge_like c a b None may.few there_a there_b may.differ h.valid;
  simple = IsSimple-with_edge_like c a b None (JoinsNone-edge_joining c.edges a b may.none) h.simple;
}

-- ---- THE FIRST CONDITION THAT FAILS

pub same_ends : (c : Complex) (a b : VertName) → a.0 ≡ b.0 → IsThere c.verts a.0
    → Some (record { why = Repeated; place = AtElem (Vert a) }) ≡ make_edge_refusal (a ∷ b ∷ []) c
same_ends c a b same there = sym (ap (λ (o : Option VertName). first_of (refused_at Repeated (option_map Vert o)
    ∷ refused_at Exists (option_map Edge (edge_joining c.edges a b)) ∷ unless_too_many (with_edge_like c a b None) ∷ []))
    (repeats c a b same (there-below c.verts a.0 there)))

pub other_ends : (c : Complex) (a b : VertName) → a.0 ≢ b.0
    → first_of (refused_at Exists (option_map Edge (edge_joining c.edges a b))
    ∷ unless_too_many (with_edge_like c a b None) ∷ []) ≡ make_edge_refusal (a ∷ b ∷ []) c
other_ends c a b apart = sym (ap (λ (o : Option VertName). first_of (refused_at Repeated (option_map Vert o)
    ∷ refused_at Exists (option_map Edge (edge_joining c.edges a b)) ∷ unless_too_many (with_edge_like c a b None) ∷ []))
    (differs c a b apart))

pub joined_by : (c : Complex) (a b : VertName) (e : EdgeName) → a.0 ≢ b.0 → edge_joining c.edges a b ≡ Some e
    → Some (record { why = Exists; place = AtElem (Edge e) }) ≡ make_edge_refusal (a ∷ b ∷ []) c
joined_by c a b e apart is = sym (ap (λ (o : Option EdgeName). first_of (refused_at Exists (option_map Edge o)
    ∷ unless_too_many (with_edge_like c a b None) ∷ [])) is) ∙ other_ends c a b apart

pub joined_by_none : (c : Complex) (a b : VertName) → a.0 ≢ b.0 → edge_joining c.edges a b ≡ None
    → unless_too_many (with_edge_like c a b None) ≡ make_edge_refusal (a ∷ b ∷ []) c
joined_by_none c a b apart is = last_of (unless_too_many (with_edge_like c a b None))
    ∙ sym (ap (λ (o : Option EdgeName). first_of (refused_at Exists (option_map Edge o)
    ∷ unless_too_many (with_edge_like c a b None) ∷ [])) is) ∙ other_ends c a b apart

-- ---- THE VERTICES OF A LIST

pub not_two : (c : Complex) (vs : List VertName) → eqb (length vs) 2 ≡ false
    → Some (record { why = BadValue; place = Nowhere }) ≡ make_edge_refusal vs c
not_two c vs off = fails_unless (eqb (length vs) 2) BadValue
    (refused_at Repeated (option_map Vert (least_repeated c vs))
    ∷ refused_at Exists (option_map Edge (edge_joining c.edges (vert_at vs 0) (vert_at vs 1)))
    ∷ unless_too_many (with_edge_between c vs)
    ∷ []) off

-- what holds where the edge of a list may be made
pub record MayJoinPair (c : Complex) (vs : List VertName) : Type 0 where
  pub two : length vs ≡ 2
  pub may : MayJoin c (vert_at vs 0) (vert_at vs 1)

pub pair_may : (c : Complex) (vs : List VertName) → All (λ (v : VertName). IsThere c.verts v.0) vs
    → make_edge_refusal vs c ≡ None → MayJoinPair c vs
pair_may c vs live h =
    let repeated = refused_at Repeated (option_map Vert (least_repeated c vs)) in
    let exists = refused_at Exists (option_map Edge (edge_joining c.edges (vert_at vs 0) (vert_at vs 1))) in
    let many = unless_too_many (with_edge_between c vs) in
    let first = none_refused (unless (eqb (length vs) 2) BadValue) (repeated ∷ exists ∷ many ∷ []) h in
    let two = eqb-true (length vs) 2 (unless_holds (eqb (length vs) 2) BadValue first.0) in
    let none : VertName = record { 0 = 0 } in
    let pair = two_of vs none two in
    record {
      two = two;
      may = may_join c (vert_at vs 0) (vert_at vs 1) (live 0 none (omega arith))
          (sym (ap (λ (ws : List VertName). make_edge_refusal ws c) pair) ∙ h);
    }

pub IsSound-pair : (c : Complex) (vs : List VertName) → All (λ (v : VertName). IsThere c.verts v.0) vs
    → make_edge_refusal vs c ≡ None → IsSound c → IsSound (with_edge_between c vs)
IsSound-pair c vs live h sound =
    let it = pair_may c vs live h in
    let two = it.two in
    let none : VertName = record { 0 = 0 } in
    IsSound-joined c (vert_at vs 0) (vert_at vs 1) (live 0 none (omega arith)) (live 1 none (omega arith)) it.may sound
