-- What the conditions of making a face look for, and what is new then.
use Rattle.std.specs.Prelude.{ℕ, ◌+◌, ◌==◌, nat_lt, Bool, not, ◌&&◌, is_some, List, [], ◌∷◌, map, length, slice_index_or}
use Rattle.std.specs.Prelude.{if◌then◌else◌}
use Rattle.std.specs.declared.option.Option.{Option}
use Rattle.std.specs.declared.option.Option.TheVariants.{None, Some}
use Rattle.std.specs.List.{count_by, range_with_len}
use Rattle.mesh_model.specs.Complex.{Complex}
use Rattle.mesh_model.specs.Elements.{Elements}
use Rattle.mesh_model.specs.Incidence.{edge_joining, sides}
use Rattle.mesh_model.specs.Lookups.{next_face}
use Rattle.mesh_model.specs.declared.names.VertName.{VertName}
use Rattle.mesh_model.specs.declared.names.FaceName.{FaceName}

-- a number is equal to the one after it
abbrev pub is_doubled : List ℕ → ℕ → Bool
is_doubled ns k = nat_lt (k + 1) (length ns) && (slice_index_or ns k 0 == slice_index_or ns (k + 1) 0)

-- the first of some numbers that is equal to the one after it
abbrev pub first_double : List ℕ → Option ℕ
first_double [] = None
first_double (m ∷ []) = None
first_double (m ∷ n ∷ ns) = if m == n then Some m else first_double (n ∷ ns)

-- the position after one, round a polygon of so many corners
abbrev pub next_place : ℕ → ℕ → ℕ
next_place n i = if nat_lt (i + 1) n then i + 1 else 0

-- the side of a polygon at a position
abbrev pub side_at : List VertName → ℕ → VertName × VertName
side_at vs i = slice_index_or (sides vs) i (record { 0 = 0 }, record { 0 = 0 })

-- no edge joins the two vertices of a side
abbrev pub is_missing : Complex → VertName × VertName → Bool
is_missing c s = not (is_some (edge_joining c.edges s.0 s.1))

-- how many edges some sides lack
unfoldable pub missing : Complex → List (VertName × VertName) → ℕ
missing c ss = count_by (is_missing c) ss

-- the lesser of a face that may have been found and another one
abbrev pub lesser : Option FaceName → FaceName → Option FaceName
lesser None f = Some f
lesser (Some g) f = Some (if nat_lt f.0 g.0 then f else g)

-- the same where the other one passes
abbrev pub lesser_if : Bool → Option FaceName → FaceName → Option FaceName
lesser_if pass least f = if pass then lesser least f else least

-- the names of so many new edges and of a new face
abbrev pub edges_and_face : Complex → ℕ → Elements
edges_and_face c n = record {
  verts = [];
  edges = map (λ k. record { 0 = k }) (range_with_len (length c.edges) n);
  faces = next_face c ∷ [];
}
