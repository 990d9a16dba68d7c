-- What arguments stand for is there.
use Rattle.std.proofs.Common.{◌≡◌, ℕ, Bool, true, false, cond, ◌&&◌, List, [], ◌∷◌, map, refl, sym, ap, ◌∙◌, subst, Option, Some, None}
use Rattle.std.proofs.Common.{Result, Ok, Err}
use Rattle.std.specs.List.{All, list_any, range_with_len}
use Rattle.std.proofs.lemmas.Bool.{and_parts}
use Rattle.std.proofs.lemmas.List.Elements.{All-map, All-nil, All-cons, filter_passes}
use Rattle.mesh_model.specs.Table.{at, IsThere}
use Rattle.mesh_model.specs.Complex.{Complex, has}
use Rattle.mesh_model.specs.Elements.{Elements}
use Rattle.mesh_model.specs.Closure.{AreLive}
use Rattle.mesh_model.specs.Refusals.{first_of, unless_there}
use Rattle.mesh_model.specs.Valid.{IsSound}
use Rattle.mesh_model.specs.declared.names.Kind.{Kind}
use Rattle.mesh_model.specs.declared.names.Kind.TheVariants as kind
use Rattle.mesh_model.specs.declared.names.Elem.TheVariants.{Vert}
use Rattle.mesh_model.specs.declared.names.VertName.{VertName}
use Rattle.mesh_model.specs.declared.names.EdgeName.{EdgeName}
use Rattle.mesh_model.specs.declared.names.FaceName.{FaceName}
use Rattle.mesh_model.specs.declared.refusal.Refusal.{Refusal}
use Rattle.mesh_model.specs.declared.refusal.Why.TheVariants.{Empty, NoSuch}
use Rattle.mesh_model.specs.declared.refusal.Place.TheVariants.{Nowhere, Elem}
use Rattle.op_slots.specs.Values.{is_live, next_of, stands_for, term_refusal, chosen, union, is_empty, filled}
use Rattle.op_slots.specs.Values.{unless_refused, resolved, list_refusal}
use Rattle.op_slots.specs.declared.bindings.Binding.{Binding}
use Rattle.op_slots.specs.declared.term.Term.{Term}
use Rattle.op_slots.specs.declared.resolving.want.Want.{Want}

-- ---- EXPRESSIONS

chosen_live : (c : Complex) (bs : List Binding) (want : Want) (terms : List Term) (k : Kind)
    → All (λ (n : ℕ). is_live c k n ≡ true) (chosen c bs want terms k)
chosen_live c bs want terms k =
    let test : ℕ → Bool = λ n. is_live c k n && list_any (stands_for bs want k n) terms in
    λ i d less. (and_parts (is_live c k _) (list_any (stands_for bs want k _) terms)
    (filter_passes test (range_with_len 0 (next_of c k)) i d less)).0

union_live : (c : Complex) (bs : List Binding) (want : Want) (terms : List Term) → AreLive c (union c bs want terms)
union_live c bs want terms = record {
  verts = All-map (λ (v : VertName). IsThere c.verts v.0) (λ n. record { 0 = n }) (chosen c bs want terms kind.Verts)
      (chosen_live c bs want terms kind.Verts);
  edges = All-map (λ (e : EdgeName). IsThere c.edges e.0) (λ n. record { 0 = n }) (chosen c bs want terms kind.Edges)
      (chosen_live c bs want terms kind.Edges);
  faces = All-map (λ (f : FaceName). IsThere c.faces f.0) (λ n. record { 0 = n }) (chosen c bs want terms kind.Faces)
      (chosen_live c bs want terms kind.Faces);
}

by_emptiness : (c : Complex) (u x : Elements) (r : Refusal) (b : Bool) → AreLive c u
    → cond b (Err r) (Ok u) ≡ Ok x → AreLive c x
by_emptiness c u x r true live is = absurd (cc)
by_emptiness c u x r false live is = let same : u ≡ x = cc in rw (← same) live

filled_live : (c : Complex) (u x : Elements) → AreLive c u → filled u ≡ Ok x → AreLive c x
filled_live c u x live is = by_emptiness c u x (record { why = Empty; place = Nowhere }) (is_empty u) live is

unless_live : (c : Complex) (o : Option Refusal) (u x : Elements) → AreLive c u
    → unless_refused o (filled u) ≡ Ok x → AreLive c x
unless_live c None u x live is = filled_live c u x live is
unless_live c (Some r) u x live is = absurd (cc)

-- what an argument stands for is there
pub resolved_live : (c : Complex) (bs : List Binding) (want : Want) (terms : List Term) (x : Elements)
    → resolved c bs want terms ≡ Ok x → AreLive c x
resolved_live c bs want terms x is =
    unless_live c (first_of (map (term_refusal c bs want) terms)) (union c bs want terms) x
    (union_live c bs want terms) is

-- ---- LISTS

-- a list that isn't refused begins with a vertex that is there
by_first : (c : Complex) (v : VertName) (rest : List (Option Refusal)) (b : Bool)
    → first_of (cond b None (Some (record { why = NoSuch; place = Elem (Vert v) })) ∷ rest) ≡ None
    → (b ≡ true) × (first_of rest ≡ None)
by_first c v rest true is = (refl, is)
by_first c v rest false is = absurd (cc)

-- all vertices of a list that isn't refused are there
pub list_live : (c : Complex) (vs : List VertName) → list_refusal c vs ≡ None
    → All (λ (v : VertName). IsThere c.verts v.0) vs
list_live c [] is = All-nil (λ (v : VertName). IsThere c.verts v.0)
list_live c (v ∷ vs) is =
    let parts = by_first c v (map (λ w. unless_there c (Vert w)) vs) (has c (Vert v)) is in
    All-cons (λ (w : VertName). IsThere c.verts w.0) v vs parts.0 (list_live c vs parts.1)
