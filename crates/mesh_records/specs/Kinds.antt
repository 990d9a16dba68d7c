-- Kinds of elements, and the parts of a store.
use Rattle.mesh_store.specs.declared.layers.Part.{Part}
use Rattle.mesh_store.specs.declared.layers.Part.TheVariants.{Vert, Edge, Loop, Face}
use Rattle.mesh_model.specs.declared.names.Kind.{Kind}
use Rattle.mesh_model.specs.declared.names.Kind.TheVariants.{Verts, Edges, Corners, Faces}

-- the part that has the values of a kind
abbrev pub part_of : Kind → Part
part_of Verts = Vert
part_of Edges = Edge
part_of Corners = Loop
part_of Faces = Face
