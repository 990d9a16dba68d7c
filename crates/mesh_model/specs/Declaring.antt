-- Layers that are declared for a complex, one after another. Each element has zeros in them.
use Rattle.std.specs.Prelude.{ℕ, List, [], ◌∷◌, ◌++◌, map}
use Rattle.std.specs.declared.option.Option.{Option}
use Rattle.std.specs.declared.option.Option.TheVariants.{None}
use Rattle.std.specs.Option.{option_or}
use Rattle.std.specs.List.{fold}
use Rattle.cust_data.specs.Layers.{Layer, zeros}
use Rattle.cust_data.specs.Faults.{refusal_of}
use Rattle.cust_data.specs.declared.fault.LayerFault.{LayerFault}
use Rattle.mesh_model.specs.Table.{changed}
use Rattle.mesh_model.specs.Complex.{KindLayers, Complex, layers_of}
use Rattle.mesh_model.specs.declared.layer_decl.LayerDecl.{LayerDecl}
use Rattle.mesh_model.specs.declared.names.Kind.{Kind}
use Rattle.mesh_model.specs.declared.names.Kind.TheVariants.{Verts, Edges, Corners, Faces}
use Rattle.mesh_model.specs.declared.records.VertRec.{VertRec}
use Rattle.mesh_model.specs.declared.records.EdgeRec.{EdgeRec}
use Rattle.mesh_model.specs.declared.records.CornerRec.{CornerRec}
use Rattle.mesh_model.specs.declared.records.FaceRec.{FaceRec}

-- the layer that a declaration makes
abbrev pub layer_of : LayerDecl → Layer
layer_of d = record { name = d.name; width = d.width; rule = d.rule }

-- other layers of one kind
abbrev pub with_layers_of : KindLayers → Kind → List Layer → KindLayers
with_layers_of layers Verts new = record layers { verts = new }
with_layers_of layers Edges new = record layers { edges = new }
with_layers_of layers Corners new = record layers { corners = new }
with_layers_of layers Faces new = record layers { faces = new }

-- the declared layer behind the others of its kind
abbrev pub with_layer_declared : KindLayers → LayerDecl → KindLayers
with_layer_declared layers d = with_layers_of layers d.kind (layers_of layers d.kind ++ layer_of d ∷ [])

-- why a layer can't be declared beside these, if it can't
abbrev pub declaration_fault : KindLayers → LayerDecl → Option LayerFault
declaration_fault layers d = refusal_of (layers_of layers d.kind) d.name d.width

-- the first fault of some declarations, each beside the layers before it
abbrev pub first_declaration_fault : KindLayers → List LayerDecl → Option LayerFault
first_declaration_fault layers [] = None
first_declaration_fault layers (d ∷ ds) =
    option_or (declaration_fault layers d) (first_declaration_fault (with_layer_declared layers d) ds)

-- so many zeros behind the values of each corner of a face
abbrev pub with_corner_zeros : ℕ → FaceRec → FaceRec
with_corner_zeros n f = record f { corners = map (λ (k : CornerRec). record k { vals = k.vals ++ zeros n }) f.corners }

-- so many zeros behind the values of each element of a kind
abbrev pub with_zeros : Complex → Kind → ℕ → Complex
with_zeros c Verts n = record c { verts = changed (λ (r : VertRec). record r { vals = r.vals ++ zeros n }) c.verts }
with_zeros c Edges n = record c { edges = changed (λ (e : EdgeRec). record e { vals = e.vals ++ zeros n }) c.edges }
with_zeros c Corners n = record c { faces = changed (with_corner_zeros n) c.faces }
with_zeros c Faces n = record c { faces = changed (λ (f : FaceRec). record f { vals = f.vals ++ zeros n }) c.faces }

-- a layer more, in which each element has zeros
abbrev pub with_declared : Complex → LayerDecl → Complex
with_declared c d = record (with_zeros c d.kind d.width) { layers = with_layer_declared c.layers d }

-- some layers more, one after another
abbrev pub with_all_declared : Complex → List LayerDecl → Complex
with_all_declared c ds = fold with_declared c ds
