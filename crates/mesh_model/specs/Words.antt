-- The words that reports have for reasons, elements and kinds.
use Rattle.std.specs.Prelude.{ℕ, List, ◌++◌, codes}
use Rattle.std.specs.Fmt.{decimal}
use Rattle.mesh_model.specs.declared.names.Elem.{Elem}
use Rattle.mesh_model.specs.declared.names.Elem.TheVariants.{Vert, Edge, Face}
use Rattle.mesh_model.specs.declared.names.Kind.{Kind}
use Rattle.mesh_model.specs.declared.names.Kind.TheVariants.{Verts, Edges, Corners, Faces}
use Rattle.mesh_model.specs.declared.refusal.Why.{Why}
use Rattle.mesh_model.specs.declared.refusal.Why.TheVariants.{NoSuch, NoSlot, WrongKind, Empty, Exists, Repeated}
use Rattle.mesh_model.specs.declared.refusal.Why.TheVariants.{TooShort, TooLong, TooMany, OutOfGrid, Adjacent}
use Rattle.mesh_model.specs.declared.refusal.Why.TheVariants.{NotInFace, Valence, NonManifold, Winding, NoRing, Uneven}
use Rattle.mesh_model.specs.declared.refusal.Why.TheVariants.{Pinched, Chain, NothingToUndo, NothingToRedo, NoLayer}
use Rattle.mesh_model.specs.declared.refusal.Why.TheVariants.{BadValue, Apart}

-- an element is its kind's letter and its number
abbrev pub elem_text : Elem → List ℕ
elem_text (Vert v) = codes "v" ++ decimal v.0
elem_text (Edge e) = codes "e" ++ decimal e.0
elem_text (Face f) = codes "f" ++ decimal f.0

-- a kind is its word
abbrev pub kind_text : Kind → List ℕ
kind_text Verts = codes "verts"
kind_text Edges = codes "edges"
kind_text Corners = codes "corners"
kind_text Faces = codes "faces"

-- a reason is its name
abbrev pub why_text : Why → List ℕ
why_text NoSuch = codes "NoSuch"
why_text NoSlot = codes "NoSlot"
why_text WrongKind = codes "WrongKind"
why_text Empty = codes "Empty"
why_text Exists = codes "Exists"
why_text Repeated = codes "Repeated"
why_text TooShort = codes "TooShort"
why_text TooLong = codes "TooLong"
why_text TooMany = codes "TooMany"
why_text OutOfGrid = codes "OutOfGrid"
why_text Adjacent = codes "Adjacent"
why_text NotInFace = codes "NotInFace"
why_text Valence = codes "Valence"
why_text NonManifold = codes "NonManifold"
why_text Winding = codes "Winding"
why_text NoRing = codes "NoRing"
why_text Uneven = codes "Uneven"
why_text Pinched = codes "Pinched"
why_text Chain = codes "Chain"
why_text NothingToUndo = codes "NothingToUndo"
why_text NothingToRedo = codes "NothingToRedo"
why_text NoLayer = codes "NoLayer"
why_text BadValue = codes "BadValue"
why_text Apart = codes "Apart"

-- a reason's number
abbrev pub why_code : Why → ℕ
why_code NoSuch = 1
why_code NoSlot = 2
why_code WrongKind = 3
why_code Empty = 4
why_code Exists = 5
why_code Repeated = 6
why_code TooShort = 7
why_code TooLong = 8
why_code TooMany = 9
why_code OutOfGrid = 10
why_code Adjacent = 11
why_code NotInFace = 12
why_code Valence = 13
why_code NonManifold = 14
why_code Winding = 15
why_code NoRing = 16
why_code Uneven = 17
why_code Pinched = 18
why_code Chain = 19
why_code NothingToUndo = 20
why_code NothingToRedo = 21
why_code NoLayer = 22
why_code BadValue = 23
why_code Apart = 24
