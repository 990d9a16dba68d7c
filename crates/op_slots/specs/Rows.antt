-- What arguments stand for over a small complex.
use Rattle.std.specs.Prelude.{◌≡◌, List, [], ◌∷◌, codes, Result, Ok, Err}
use Rattle.std.specs.declared.option.Option.TheVariants.{None, Some}
use Rattle.mesh_model.specs.Complex.{Complex, no_complex}
use Rattle.mesh_model.specs.Elements.{no_elements}
use Rattle.mesh_model.specs.Lookups.{no_vert}
use Rattle.mesh_model.specs.declared.names.Elem.TheVariants.{Vert, Edge}
use Rattle.mesh_model.specs.declared.names.Kind.TheVariants as kind
use Rattle.mesh_model.specs.declared.refusal.Refusal.{Refusal}
use Rattle.mesh_model.specs.declared.refusal.Why.{Why}
use Rattle.mesh_model.specs.declared.refusal.Why.TheVariants.{NoSlot, NoSuch, WrongKind, Empty}
use Rattle.mesh_model.specs.declared.refusal.Place.TheVariants.{Nowhere, Elem}
use Rattle.op_slots.specs.Values.{resolved, resolved_map}
use Rattle.op_slots.specs.declared.bindings.Binding.{Binding}
use Rattle.op_slots.specs.declared.term.Term.TheVariants.{One, Range, All, Slot}
use Rattle.op_slots.specs.declared.term.MapArg.TheVariants as map_arg
use Rattle.op_slots.specs.declared.resolving.want.Want.TheVariants.{Verts, Edges, Any}

-- the vertices 0 and 2 are there, and 1 is gone
abbrev pub two_verts : Complex
two_verts = record no_complex { verts = Some no_vert ∷ None ∷ Some no_vert ∷ [] }

-- `a` is bound to the vertices 1 and 2, and its mapping takes 1 to 0 and 2 to 0
abbrev pub bound_a : List Binding
bound_a = record {
  name = codes "a";
  slots = record {
    geom = record no_elements { verts = record { 0 = 1 } ∷ record { 0 = 2 } ∷ [] };
    map = record { source = record { 0 = 1 }; target = record { 0 = 0 } }
        ∷ record { source = record { 0 = 2 }; target = record { 0 = 0 } } ∷ [];
  };
} ∷ []

abbrev refused : {X : Type 0} → Why → Result X Refusal
refused why = Err (record { why = why; place = Nowhere })

-- a union by rising name: a range with a gap, an element that stands in it too
abbrev pub Unions : Type 0
Unions =
    (resolved two_verts [] Verts (One (Vert (record { 0 = 2 })) ∷ Range kind.Verts 0 5 ∷ [])
    ≡ Ok (record no_elements { verts = record { 0 = 0 } ∷ record { 0 = 2 } ∷ [] }))
    × (resolved two_verts bound_a Any (Slot (codes "a") None ∷ [])
    ≡ Ok (record no_elements { verts = record { 0 = 2 } ∷ [] }))

-- an element that is gone, one of another kind, a slot that isn't bound, a kind before a slot, nothing left
abbrev pub Refusals : Type 0
Refusals =
    (resolved two_verts [] Verts (One (Vert (record { 0 = 1 })) ∷ [])
    ≡ Err (record { why = NoSuch; place = Elem (Vert (record { 0 = 1 })) }))
    × (resolved two_verts [] Verts (One (Edge (record { 0 = 1 })) ∷ [])
    ≡ Err (record { why = WrongKind; place = Elem (Edge (record { 0 = 1 })) }))
    × (resolved two_verts [] Verts (Slot (codes "a") None ∷ []) ≡ refused NoSlot)
    × (resolved two_verts [] Verts (Slot (codes "a") (Some kind.Edges) ∷ []) ≡ refused WrongKind)
    × (resolved two_verts [] Verts (Range kind.Verts 1 1 ∷ []) ≡ refused Empty)
    × (resolved two_verts [] Edges (All None ∷ []) ≡ refused Empty)

-- the pairs of a slot whose vertices are both there
abbrev pub Mappings : Type 0
Mappings =
    (resolved_map two_verts bound_a (map_arg.Slot (codes "a"))
    ≡ Ok (record { source = record { 0 = 2 }; target = record { 0 = 0 } } ∷ []))
    × (resolved_map two_verts [] (map_arg.Slot (codes "a")) ≡ refused NoSlot)
