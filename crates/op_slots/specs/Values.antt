-- What an argument stands for, over a complex and the slots that are bound, or the first refusal of its terms.
use Rattle.std.specs.Prelude.{◌≡◌, ℕ, ◌==◌, ◌&&◌, Bool, true, false, nat_le, is_some, if◌then◌else◌, List, [], ◌∷◌}
use Rattle.std.specs.Prelude.{length, map, filter, Result, Ok, Err}
use Rattle.std.specs.List.{list_any, range_with_len}
use Rattle.std.specs.declared.option.Option.{Option}
use Rattle.std.specs.declared.option.Option.TheVariants.{None, Some}
use Rattle.mesh_model.specs.Table.{at}
use Rattle.mesh_model.specs.Complex.{Complex, has}
use Rattle.mesh_model.specs.Elements.{Elements}
use Rattle.mesh_model.specs.Naming.{vert_numbers, edge_numbers, face_numbers}
use Rattle.mesh_model.specs.Refusals.{first_of, unless, unless_at, unless_there}
use Rattle.mesh_model.specs.declared.names.VertName.{VertName}
use Rattle.mesh_model.specs.declared.names.Elem.{Elem}
use Rattle.mesh_model.specs.declared.names.Elem.TheVariants.{Vert, Edge, Face}
use Rattle.mesh_model.specs.declared.names.Kind.{Kind}
use Rattle.mesh_model.specs.declared.names.Kind.TheVariants as kind
use Rattle.mesh_model.specs.declared.refusal.Refusal.{Refusal}
use Rattle.mesh_model.specs.declared.refusal.Why.TheVariants.{NoSlot, WrongKind, Empty}
use Rattle.mesh_model.specs.declared.refusal.Place.TheVariants.{Nowhere}
use Rattle.op_slots.specs.Bindings.{slots_of, is_bound}
use Rattle.op_slots.specs.declared.bindings.Binding.{Binding}
use Rattle.op_slots.specs.declared.slots.Slots.{Slots}
use Rattle.op_slots.specs.declared.mapping.Pair.{Pair}
use Rattle.op_slots.specs.declared.term.Term.{Term}
use Rattle.op_slots.specs.declared.term.Term.TheVariants.{One, Range, All, Slot}
use Rattle.op_slots.specs.declared.term.MapArg.{MapArg}
use Rattle.op_slots.specs.declared.term.MapArg.TheVariants as map_arg
use Rattle.op_slots.specs.declared.fault.Fault.{Fault}
use Rattle.op_slots.specs.declared.fault.Fault.TheVariants.{Refused, NoMemory}
use Rattle.op_slots.specs.declared.resolving.want.Want.{Want}
use Rattle.op_slots.specs.declared.resolving.want.Want.TheVariants.{Verts, Edges, Faces, Any}

-- ---- KINDS AND NUMBERS

-- the kind and the number of an element
abbrev pub kind_of : Elem → Kind
kind_of (Vert v) = kind.Verts
kind_of (Edge e) = kind.Edges
kind_of (Face f) = kind.Faces

abbrev pub number_of : Elem → ℕ
number_of (Vert v) = v.0
number_of (Edge e) = e.0
number_of (Face f) = f.0

-- two kinds are one
abbrev pub is_kind : Kind → Kind → Bool
is_kind kind.Verts kind.Verts = true
is_kind kind.Edges kind.Edges = true
is_kind kind.Corners kind.Corners = true
is_kind kind.Faces kind.Faces = true
is_kind _ _ = false

-- an argument takes vertices, edges or faces, or all of these
abbrev pub takes : Want → Kind → Bool
takes Verts k = is_kind kind.Verts k
takes Edges k = is_kind kind.Edges k
takes Faces k = is_kind kind.Faces k
takes Any kind.Corners = false
takes Any _ = true

-- an argument takes what a suffix names, and a term without suffix
abbrev pub takes_suffix : Want → Option Kind → Bool
takes_suffix want None = true
takes_suffix want (Some k) = takes want k

-- a suffix stands for its kind, and no suffix for the kinds that the argument takes
abbrev pub covers : Want → Option Kind → Kind → Bool
covers want None k = takes want k
covers want (Some suffix) k = is_kind suffix k

-- an element of a kind is there at a number
abbrev pub is_live : Complex → Kind → ℕ → Bool
is_live c kind.Verts n = is_some (at c.verts n)
is_live c kind.Edges n = is_some (at c.edges n)
is_live c kind.Corners n = false
is_live c kind.Faces n = is_some (at c.faces n)

-- the next number of a kind
abbrev pub next_of : Complex → Kind → ℕ
next_of c kind.Verts = length c.verts
next_of c kind.Edges = length c.edges
next_of c kind.Corners = 0
next_of c kind.Faces = length c.faces

-- the numbers of a slot's elements of a kind
abbrev pub numbers_of : Slots → Kind → List ℕ
numbers_of s kind.Verts = vert_numbers s.geom.verts
numbers_of s kind.Edges = edge_numbers s.geom.edges
numbers_of s kind.Corners = []
numbers_of s kind.Faces = face_numbers s.geom.faces

-- ---- TERMS

-- a bound slot has an element of a kind at a number
abbrev pub is_in_slot : Option Slots → Kind → ℕ → Bool
is_in_slot None k n = false
is_in_slot (Some s) k n = list_any (λ m. m == n) (numbers_of s k)

-- a term stands for the element of a kind at a number, where one is there
abbrev pub stands_for : List Binding → Want → Kind → ℕ → Term → Bool
stands_for bs want k n (One x) = is_kind (kind_of x) k && (number_of x == n)
stands_for bs want k n (Range r first last) = is_kind r k && (nat_le first n && nat_le n last)
stands_for bs want k n (All suffix) = covers want suffix k
stands_for bs want k n (Slot name suffix) = covers want suffix k && is_in_slot (slots_of bs name) k n

-- why a term is refused, if it is: its kind is tried first, then its slot, then its element
abbrev pub term_refusal : Complex → List Binding → Want → Term → Option Refusal
term_refusal c bs want (One x) = first_of (unless_at (takes want (kind_of x)) WrongKind x ∷ unless_there c x ∷ [])
term_refusal c bs want (Range r first last) = unless (takes want r) WrongKind
term_refusal c bs want (All suffix) = unless (takes_suffix want suffix) WrongKind
term_refusal c bs want (Slot name suffix) =
    first_of (unless (takes_suffix want suffix) WrongKind ∷ unless (is_bound bs name) NoSlot ∷ [])

-- ---- EXPRESSIONS

-- the numbers of the elements of a kind that are there and for which some term stands
abbrev pub chosen : Complex → List Binding → Want → List Term → Kind → List ℕ
chosen c bs want terms k =
    filter (λ n. is_live c k n && list_any (stands_for bs want k n) terms) (range_with_len 0 (next_of c k))

-- the elements for which the terms stand: a union, by rising name
abbrev pub union : Complex → List Binding → Want → List Term → Elements
union c bs want terms = record {
  verts = map (λ n. record { 0 = n }) (chosen c bs want terms kind.Verts);
  edges = map (λ n. record { 0 = n }) (chosen c bs want terms kind.Edges);
  faces = map (λ n. record { 0 = n }) (chosen c bs want terms kind.Faces);
}

-- no element of any kind
abbrev pub is_empty : Elements → Bool
is_empty x = (length x.verts == 0) && ((length x.edges == 0) && (length x.faces == 0))

-- the refusal if there is one, else what follows
abbrev pub unless_refused : {X : Type 0} → Option Refusal → Result X Refusal → Result X Refusal
unless_refused None rest = rest
unless_refused (Some r) rest = Err r

-- no element at all is refused
abbrev pub filled : Elements → Result Elements Refusal
filled x = if is_empty x then Err (record { why = Empty; place = Nowhere }) else Ok x

-- the value of an expression, or the refusal of the first term that has one, or Empty
abbrev pub resolved : Complex → List Binding → Want → List Term → Result Elements Refusal
resolved c bs want terms =
    unless_refused (first_of (map (term_refusal c bs want) terms)) (filled (union c bs want terms))

-- ---- LISTS AND MAPPINGS

-- why a list of vertices is refused, if it is: one isn't there, the first in the order written
abbrev pub list_refusal : Complex → List VertName → Option Refusal
list_refusal c vs = first_of (map (λ v. unless_there c (Vert v)) vs)

-- why a pair is refused, if it is: its source is tried first
abbrev pub pair_refusal : Complex → Pair → Option Refusal
pair_refusal c p = first_of (unless_there c (Vert p.source) ∷ unless_there c (Vert p.target) ∷ [])

-- both vertices of a pair are there
abbrev pub is_live_pair : Complex → Pair → Bool
is_live_pair c p = has c (Vert p.source) && has c (Vert p.target)

-- the pairs whose vertices are both there
abbrev pub live_pairs : Complex → List Pair → List Pair
live_pairs c ps = filter (is_live_pair c) ps

-- none at all are refused
abbrev pub some_pairs : List Pair → Result (List Pair) Refusal
some_pairs [] = Err (record { why = Empty; place = Nowhere })
some_pairs (p ∷ ps) = Ok (p ∷ ps)

-- those of a slot that is bound
abbrev pub slot_pairs : Complex → Option Slots → Result (List Pair) Refusal
slot_pairs c None = Err (record { why = NoSlot; place = Nowhere })
slot_pairs c (Some s) = some_pairs (live_pairs c s.map)

-- the value of a mapping, or why it is refused
abbrev pub resolved_map : Complex → List Binding → MapArg → Result (List Pair) Refusal
resolved_map c bs (map_arg.Pairs ps) = unless_refused (first_of (map (pair_refusal c) ps)) (Ok ps)
resolved_map c bs (map_arg.Slot name) = slot_pairs c (slots_of bs name)

-- ---- ANSWERS

-- a refusal is the definition's; want of memory says nothing of it
abbrev pub FailsAs : {X : Type 0} → Fault → Result X Refusal → Type 0
FailsAs NoMemory want = Unit {0}
FailsAs (Refused r) want = want ≡ Err r

-- a value is the definition's, and so is a refusal
abbrev pub Answers : {X : Type 0} → Result X Fault → Result X Refusal → Type 0
Answers (Ok x) want = want ≡ Ok x
Answers (Err e) want = FailsAs e want
