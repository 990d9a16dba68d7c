-- How new elements are named, and when names rise.
use Rattle.std.specs.Prelude.{ℕ, ◌+◌, nat_lt, Bool, true, ◌&&◌, List, [], ◌∷◌, map, is_some}
use Rattle.std.specs.List.{count_by, list_all, filter, enumerate_from}
use Rattle.std.specs.declared.option.Option.{Option}
use Rattle.mesh_model.specs.Elements.{Elements}
use Rattle.mesh_model.specs.declared.names.VertName.{VertName}
use Rattle.mesh_model.specs.declared.names.EdgeName.{EdgeName}
use Rattle.mesh_model.specs.declared.names.FaceName.{FaceName}

-- the number of members of a set with a lesser name
abbrev pub rank : List ℕ → ℕ → ℕ
rank members x = count_by (λ y. nat_lt y x) members

-- the name of the new element that stands for a member: the next name, plus an offset past the new elements of earlier
-- groups, plus the member's rank
abbrev pub fresh : ℕ → ℕ → List ℕ → ℕ → ℕ
fresh next offset members x = next + offset + rank members x

-- the numbers of names
abbrev pub vert_numbers : List VertName → List ℕ
vert_numbers vs = map (λ (v : VertName). v.0) vs

abbrev pub edge_numbers : List EdgeName → List ℕ
edge_numbers es = map (λ (e : EdgeName). e.0) es

abbrev pub face_numbers : List FaceName → List ℕ
face_numbers fs = map (λ (f : FaceName). f.0) fs

-- the new vertex, edge or face that stands for a member of a set
abbrev pub fresh_vert : ℕ → ℕ → List VertName → VertName → VertName
fresh_vert next offset vs v = record { 0 = fresh next offset (vert_numbers vs) v.0 }

abbrev pub fresh_edge : ℕ → ℕ → List EdgeName → EdgeName → EdgeName
fresh_edge next offset es e = record { 0 = fresh next offset (edge_numbers es) e.0 }

abbrev pub fresh_face : ℕ → ℕ → List FaceName → FaceName → FaceName
fresh_face next offset fs f = record { 0 = fresh next offset (face_numbers fs) f.0 }

-- the numbers of the names at which something stands
abbrev pub numbers_in : {X : Type 0} → List (Option X) → List ℕ
numbers_in table = map (λ e. e.0) (filter (λ e. is_some e.1) (enumerate_from 0 table))

-- each number is below all those after it
abbrev pub is_rising : List ℕ → Bool
is_rising [] = true
is_rising (n ∷ ns) = list_all (nat_lt n) ns && is_rising ns

-- the names of each kind rise
abbrev pub are_rising : Elements → Bool
are_rising x = is_rising (vert_numbers x.verts)
    && (is_rising (edge_numbers x.edges) && is_rising (face_numbers x.faces))
