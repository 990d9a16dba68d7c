-- Layers are declared, one after another.
use Rattle.std.proofs.Common.{◌≡◌, ◌<◌, ◌+◌, ◌++◌, ℕ, zero, suc, List, [], ◌∷◌, Option, Some, None, length, drop, get_or, refl, sym, ap, ◌∙◌, subst, arith}
use Rattle.std.specs.Option.{option_or}
use Rattle.cust_data.specs.Layers.{Layer, AreLayers}
use Rattle.mesh_model.specs.Valid.{AreKindLayers}
use Rattle.mesh_model.specs.Complex.{KindLayers, Complex, layers_of, no_layers, no_complex}
use Rattle.mesh_model.specs.Declaring.{with_layers_of, with_layer_declared, declaration_fault, first_declaration_fault, with_declared}
use Rattle.mesh_model.specs.declared.layer_decl.LayerDecl.{LayerDecl}
use Rattle.mesh_model.specs.declared.names.Kind.{Kind}
use Rattle.mesh_model.specs.declared.names.Kind.TheVariants.{Verts, Edges, Corners, Faces}
use Rattle.mesh_records.specs.Loading.{only_layers}

-- a kind without layers gets none
pub layers_kept : (layers : KindLayers) (kind : Kind) → layers_of layers kind ≡ [] → with_layers_of layers kind [] ≡ layers
layers_kept layers Verts h = λ i. record layers { verts = sym h i }
layers_kept layers Edges h = λ i. record layers { edges = sym h i }
layers_kept layers Corners h = λ i. record layers { corners = sym h i }
layers_kept layers Faces h = λ i. record layers { faces = sym h i }

-- the layers that a kind is given are its layers
pub layers_given : (layers : KindLayers) (kind : Kind) (new : List Layer)
    → layers_of (with_layers_of layers kind new) kind ≡ new
layers_given layers Verts new = refl
layers_given layers Edges new = refl
layers_given layers Corners new = refl
layers_given layers Faces new = refl

-- where there is no element, a layer is declared and nothing else changes
pub declared_only : (layers : KindLayers) (kind : Kind) (new : List Layer) (l : Layer)
    → with_declared (only_layers (with_layers_of layers kind new))
    (record { kind = kind; name = l.name; width = l.width; rule = l.rule })
    ≡ only_layers (with_layers_of layers kind (new ++ l ∷ []))
declared_only layers Verts new l = refl
declared_only layers Edges new l = refl
declared_only layers Corners new l = refl
declared_only layers Faces new l = refl

-- the first of two is none where neither is there
none_of_two : {X : Type 0} (a b : Option X) → option_or a b ≡ None → (a ≡ None) × (b ≡ None)
none_of_two None b h = (refl, h)
none_of_two {X} (Some x) b h = absurd (let q : ◌≡◌ {A = Option X} (Some x) None = h in cc)

-- the first of some declarations that stand beside one another, and the others beside it
pub first_declared : (layers : KindLayers) (ds : List LayerDecl) (i : ℕ) (d : LayerDecl) → i < length ds
    → first_declaration_fault layers (drop i ds) ≡ None
    → (declaration_fault layers (get_or ds i d) ≡ None)
    × (first_declaration_fault (with_layer_declared layers (get_or ds i d)) (drop (i + 1) ds) ≡ None)
first_declared layers [] i d low free = absurd (omega arith)
first_declared layers (e ∷ ds) zero d low free =
    none_of_two (declaration_fault layers e) (first_declaration_fault (with_layer_declared layers e) ds) free
first_declared layers (e ∷ ds) (suc i) d low free =
    let rest = first_declared layers ds i d (omega arith) free in
    let more : suc (i + 1) ≡ suc i + 1 = omega arith in
    let P = λ (j : ℕ). first_declaration_fault (with_layer_declared layers (get_or ds i d)) (drop j (e ∷ ds)) ≡ None in
    (rest.0, subst P more rest.1)

-- a declaration changes the layers so
pub layers_declared : (c : Complex) (d : LayerDecl) → (with_declared c d).layers ≡ with_layer_declared c.layers d
layers_declared c d = refl

-- the layers of a kind can be held
pub kind_layers : (layers : KindLayers) (kind : Kind) → AreKindLayers layers → AreLayers (layers_of layers kind)
kind_layers layers Verts h = h.verts
kind_layers layers Edges h = h.edges
kind_layers layers Corners h = h.corners
kind_layers layers Faces h = h.faces

-- layers and nothing else
pub only_its_layers : (c : Complex) (layers : KindLayers) → c ≡ only_layers layers → c ≡ only_layers c.layers
only_its_layers c layers e = e ∙ ap only_layers (sym (ap (λ (x : Complex). x.layers) e))

-- ---- the layers of the four kinds, one kind after another

pub with_verts : (m n : Complex) (vs : List Layer) → m ≡ no_complex → n ≡ only_layers (with_layers_of m.layers Verts vs)
    → n ≡ only_layers (record no_layers { verts = vs })
with_verts m n vs e f = f ∙ ap (λ (x : Complex). only_layers (with_layers_of x.layers Verts vs)) e

pub with_edges : (m n : Complex) (vs es : List Layer) → m ≡ only_layers (record no_layers { verts = vs })
    → n ≡ only_layers (with_layers_of m.layers Edges es) → n ≡ only_layers (record no_layers { verts = vs; edges = es })
with_edges m n vs es e f = f ∙ ap (λ (x : Complex). only_layers (with_layers_of x.layers Edges es)) e

pub with_corners : (m n : Complex) (vs es cs : List Layer) → m ≡ only_layers (record no_layers { verts = vs; edges = es })
    → n ≡ only_layers (with_layers_of m.layers Corners cs)
    → n ≡ only_layers (record no_layers { verts = vs; edges = es; corners = cs })
with_corners m n vs es cs e f = f ∙ ap (λ (x : Complex). only_layers (with_layers_of x.layers Corners cs)) e

pub with_faces : (m n : Complex) (layers : KindLayers)
    → m ≡ only_layers (record no_layers { verts = layers.verts; edges = layers.edges; corners = layers.corners })
    → n ≡ only_layers (with_layers_of m.layers Faces layers.faces) → n ≡ only_layers layers
with_faces m n layers e f = f ∙ ap (λ (x : Complex). only_layers (with_layers_of x.layers Faces layers.faces)) e
