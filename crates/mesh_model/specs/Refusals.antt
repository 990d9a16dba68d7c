-- Conditions in order: a call is refused by the first one that fails, by name and with an element or a kind.
use Rattle.std.specs.Prelude.{nat_le, Bool, List, [], ◌∷◌, if◌then◌else◌}
use Rattle.std.specs.declared.option.Option.{Option}
use Rattle.std.specs.declared.option.Option.TheVariants.{None, Some}
use Rattle.mesh_model.specs.Complex.{Complex, has, counters_of}
use Rattle.mesh_model.specs.declared.limits.TheConstants.{MAX_VERTS, MAX_EDGES, MAX_FACES, MAX_CORNERS}
use Rattle.mesh_model.specs.declared.names.Elem.{Elem}
use Rattle.mesh_model.specs.declared.names.Kind.{Kind}
use Rattle.mesh_model.specs.declared.names.Kind.TheVariants.{Verts, Edges, Corners, Faces}
use Rattle.mesh_model.specs.declared.records.Counters.{Counters}
use Rattle.mesh_model.specs.declared.refusal.Refusal.{Refusal}
use Rattle.mesh_model.specs.declared.refusal.Why.{Why}
use Rattle.mesh_model.specs.declared.refusal.Why.TheVariants.{NoSuch, TooMany}
use Rattle.mesh_model.specs.declared.refusal.Place.TheVariants.{Nowhere, Elem as AtElem, Kind as OfKind}

-- the first refusal among those of conditions in order
abbrev pub first_of : List (Option Refusal) → Option Refusal
first_of [] = None
first_of (None ∷ rest) = first_of rest
first_of (Some r ∷ rest) = Some r

-- refused unless a condition holds
abbrev pub unless : Bool → Why → Option Refusal
unless holds why = if holds then None else Some (record { why = why; place = Nowhere })

-- refused at an element unless a condition holds
abbrev pub unless_at : Bool → Why → Elem → Option Refusal
unless_at holds why x = if holds then None else Some (record { why = why; place = AtElem x })

-- refused at an element that was found, if one was
abbrev pub refused_at : Why → Option Elem → Option Refusal
refused_at why None = None
refused_at why (Some x) = Some (record { why = why; place = AtElem x })

-- refused of a kind that was found, if one was
abbrev pub refused_of : Why → Option Kind → Option Refusal
refused_of why None = None
refused_of why (Some kind) = Some (record { why = why; place = OfKind kind })

-- refused unless an element is there
abbrev pub unless_there : Complex → Elem → Option Refusal
unless_there c x = unless_at (has c x) NoSuch x

-- the first limit that is passed
abbrev pub limit_passed : Counters → Option Kind
limit_passed n = if nat_le n.verts MAX_VERTS
    then if nat_le n.edges MAX_EDGES
    then if nat_le n.faces MAX_FACES
    then if nat_le n.corners MAX_CORNERS then None else Some Corners
    else Some Faces
    else Some Edges
    else Some Verts

-- refused where a complex would pass a limit
abbrev pub unless_too_many : Complex → Option Refusal
unless_too_many after = refused_of TooMany (limit_passed (counters_of after))
