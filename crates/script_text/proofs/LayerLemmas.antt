-- The layers that are there after some declarations.
use Rattle.std.proofs.Common.{◌≡◌, ℕ, ◌+◌, Bool, true, false, cond, not, ◌&&◌, ◌||◌, ◌==◌, leb, List, [], ◌∷◌, ◌++◌}
use Rattle.std.proofs.Common.{length, map, filter, fold, position, refl, sym, ap, ◌∙◌, append_assoc, append-nil}
use Rattle.std.proofs.Common.{length-append, Option, Some, None, is_some}
use Rattle.std.specs.List.{list_any}
use Rattle.std.proofs.lemmas.List.{length-map}
use Rattle.std.proofs.lemmas.List.Sums.{length-filter}
use Rattle.std.proofs.lemmas.List.Folds.{list_any-append, list_any_none, list_any_at}
use Rattle.std.proofs.lemmas.List.Quantifiers.{position-Some}
use Rattle.mesh_model.proofs.Refusing.{position-none}
use Rattle.cust_data.specs.Layers.{Layer, same_name, find_layer, is_layer_name, is_width}
use Rattle.cust_data.specs.declared.fault.LayerFault.TheVariants.{LayerExists, TooManyLayers, BadName, BadWidth}
use Rattle.mesh_model.specs.Complex.{KindLayers, fixed_layers, layers_of}
use Rattle.mesh_model.specs.Declaring.{layer_of, with_layers_of, with_layer_declared}
use Rattle.mesh_model.specs.declared.names.Kind.{Kind}
use Rattle.mesh_model.specs.declared.names.Kind.TheVariants.{Verts, Edges, Corners, Faces}
use Rattle.mesh_model.specs.declared.layer_decl.LayerDecl.{LayerDecl}
use Rattle.script_text.specs.Taken.{kind_number, has_kind, is_declared, is_fixed, fixed_count, is_full, is_unfit}
use Rattle.script_text.specs.Layers.{layers_with, is_refused}

-- other layers of one kind, behind those of each kind
more_of : (base : KindLayers) (l : Layer) (kind other : Kind)
    → layers_of (with_layers_of base other (layers_of base other ++ l ∷ [])) kind
    ≡ layers_of base kind ++ cond (kind_number kind == kind_number other) (l ∷ []) []
more_of base l Verts Verts = refl
more_of base l Verts _ = sym (append-nil base.verts)
more_of base l Edges Edges = refl
more_of base l Edges _ = sym (append-nil base.edges)
more_of base l Corners Corners = refl
more_of base l Corners _ = sym (append-nil base.corners)
more_of base l Faces Faces = refl
more_of base l Faces _ = sym (append-nil base.faces)

-- the declarations of a kind, as layers
abbrev of_kind : Kind → List LayerDecl → List Layer
of_kind kind ds = map layer_of (filter (has_kind kind) ds)

chosen : (b : Bool) (d : LayerDecl) (ds : List LayerDecl)
    → cond b (layer_of d ∷ []) [] ++ map layer_of ds ≡ map layer_of (cond b (d ∷ ds) ds)
chosen true d ds = refl
chosen false d ds = refl

-- the layers of a kind after some declarations
after : (base : KindLayers) (ds : List LayerDecl) (kind : Kind)
    → layers_of (fold with_layer_declared base ds) kind ≡ layers_of base kind ++ of_kind kind ds
after base [] kind = sym (append-nil (layers_of base kind))
after base (d ∷ ds) kind =
    after (with_layer_declared base d) ds kind
    ∙ ap (λ (ls : List Layer). ls ++ of_kind kind ds) (more_of base (layer_of d) kind d.kind)
    ∙ append_assoc (layers_of base kind) (cond (has_kind kind d) (layer_of d ∷ []) []) (of_kind kind ds)
    ∙ ap (λ (ls : List Layer). layers_of base kind ++ ls) (chosen (has_kind kind d) d (filter (has_kind kind) ds))

either : (b here : Bool) (has : Layer → Bool) (d : LayerDecl) (ds : List LayerDecl) → has (layer_of d) ≡ here
    → list_any has (map layer_of (cond b (d ∷ ds) ds)) ≡ ((b && here) || list_any has (map layer_of ds))
either true here has d ds same = ap (λ c. c || list_any has (map layer_of ds)) same
either false here has d ds same = refl

-- a name among the declarations of a kind
named : (kind : Kind) (name : List ℕ) (ds : List LayerDecl)
    → list_any (λ (l : Layer). same_name l.name name) (of_kind kind ds) ≡ list_any (is_declared kind name) ds
named kind name [] = refl
named kind name (d ∷ ds) =
    either (has_kind kind d) (same_name d.name name) (λ (l : Layer). same_name l.name name) d
    (filter (has_kind kind) ds) refl
    ∙ ap (λ b. is_declared kind name d || b) (named kind name ds)

placed : {X : Type 0} (p : X → Bool) (xs : List X) (d : X) (o : Option ℕ) → position p xs ≡ o
    → is_some o ≡ list_any p xs
placed p xs d None none = sym (list_any_none p xs (λ k e less. position-none p xs k e none less))
placed p xs d (Some i) some =
    sym (list_any_at p xs i d (position-Some p xs i d some).0 (position-Some p xs i d some).1)

-- the layers of a kind after the fixed ones and some declarations
found : (kind : Kind) (name : List ℕ) (ds : List LayerDecl) (d : Layer)
    → is_some (find_layer (layers_of (layers_with ds) kind) name)
    ≡ (is_fixed kind name || list_any (is_declared kind name) ds)
found kind name ds d =
    ap (λ (ls : List Layer). is_some (find_layer ls name)) (after fixed_layers ds kind)
    ∙ placed (λ (l : Layer). same_name l.name name) (layers_of fixed_layers kind ++ of_kind kind ds) d _ refl
    ∙ list_any-append (λ (l : Layer). same_name l.name name) (layers_of fixed_layers kind) (of_kind kind ds)
    ∙ ap (λ b. is_fixed kind name || b) (named kind name ds)

counted : (kind : Kind) (ds : List LayerDecl)
    → length (layers_of (layers_with ds) kind) ≡ fixed_count kind + length (filter (has_kind kind) ds)
counted kind ds =
    ap (λ (ls : List Layer). length ls) (after fixed_layers ds kind)
    ∙ length-append (layers_of fixed_layers kind) (of_kind kind ds)
    ∙ ap (λ n. fixed_count kind + n) (length-map (filter (has_kind kind) ds) layer_of)

full : (kind : Kind) (ds : List LayerDecl) → leb 16 (length (layers_of (layers_with ds) kind)) ≡ is_full kind ds
full kind ds =
    ap (λ n. leb 16 n) (counted kind ds ∙ ap (λ n. fixed_count kind + n) (length-filter (has_kind kind) ds))

some_fault : (a b c e : Bool)
    → is_some (cond (not a) (Some BadName) (cond (not b) (Some BadWidth)
    (cond c (Some LayerExists) (cond e (Some TooManyLayers) None))))
    ≡ (not a || (not b || (c || e)))
some_fault true true true e = refl
some_fault true true false true = refl
some_fault true true false false = refl
some_fault true false c e = refl
some_fault false b c e = refl

-- a declaration is refused by its name, its width, the names before it and their number
pub unfit : (d : LayerDecl) (ds : List LayerDecl) → is_unfit d ds ≡ is_refused d ds
unfit d ds =
    sym (some_fault (is_layer_name d.name) (is_width d.width)
    (is_some (find_layer (layers_of (layers_with ds) d.kind) d.name))
    (leb 16 (length (layers_of (layers_with ds) d.kind)))
    ∙ ap (λ b. not (is_layer_name d.name) || (not (is_width d.width)
    || (b || leb 16 (length (layers_of (layers_with ds) d.kind))))) (found d.kind d.name ds (layer_of d))
    ∙ ap (λ b. not (is_layer_name d.name) || (not (is_width d.width)
    || ((is_fixed d.kind d.name || list_any (is_declared d.kind d.name) ds) || b))) (full d.kind ds))
