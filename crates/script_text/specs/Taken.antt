-- Whether a layer may be declared, as it is tried: by the declarations alone.
use Rattle.std.specs.Prelude.{ℕ, ◌+◌, ◌==◌, ◌&&◌, ◌||◌, Bool, not, nat_le, count_by, List, length}
use Rattle.std.specs.List.{list_any}
use Rattle.cust_data.specs.Layers.{Layer, same_name, is_layer_name, is_width}
use Rattle.mesh_model.specs.Complex.{fixed_layers, layers_of}
use Rattle.mesh_model.specs.declared.names.Kind.{Kind}
use Rattle.mesh_model.specs.declared.names.Kind.TheVariants.{Verts, Edges, Corners, Faces}
use Rattle.mesh_model.specs.declared.layer_decl.LayerDecl.{LayerDecl}

-- a kind's number, in the order of kinds
abbrev pub kind_number : Kind → ℕ
kind_number Verts = 0
kind_number Edges = 1
kind_number Corners = 2
kind_number Faces = 3

-- a declaration is of a kind
abbrev pub has_kind : Kind → LayerDecl → Bool
has_kind kind d = kind_number kind == kind_number d.kind

-- a declaration is of a kind and a name
abbrev pub is_declared : Kind → List ℕ → LayerDecl → Bool
is_declared kind name d = has_kind kind d && same_name d.name name

-- a fixed layer of a kind has a name
abbrev pub is_fixed : Kind → List ℕ → Bool
is_fixed kind name = list_any (λ (l : Layer). same_name l.name name) (layers_of fixed_layers kind)

-- the number of a kind's fixed layers
abbrev pub fixed_count : Kind → ℕ
fixed_count kind = length (layers_of fixed_layers kind)

-- a kind has as many layers as it may
abbrev pub is_full : Kind → List LayerDecl → Bool
is_full kind ds = nat_le 16 (fixed_count kind + count_by (has_kind kind) ds)

-- a declaration has a name or a width that isn't allowed, or a name that its kind has, or its kind is full
abbrev pub is_unfit : LayerDecl → List LayerDecl → Bool
is_unfit d ds =
    not (is_layer_name d.name)
    || (not (is_width d.width)
    || ((is_fixed d.kind d.name || list_any (is_declared d.kind d.name) ds) || is_full d.kind ds))
