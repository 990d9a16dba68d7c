-- Where the numbers of a layer stand in a row.
use Rattle.std.proofs.Common.{◌≡◌, ◌∙◌, ◌<◌, ◌≤◌, ◌+◌, ◌-◌, ℕ, zero, suc, ℤ, List, [], ◌∷◌, length, get_or, take, drop, refl, sym, ap, arith}
use Rattle.std.proofs.Common.{Option, Some, None}
use Rattle.std.specs.Prelude.{slice_get}
use Rattle.std.specs.Option.{option_map, option_map_or}
use Rattle.std.proofs.lemmas.List.Sums.{sum_by-cons}
use Rattle.std.proofs.lemmas.Option.{slice_get-get_or}
use Rattle.cust_data.specs.Layers.{Layer, AreLayers, total}
use Rattle.cust_data.specs.declared.rule.Rule.TheVariants.{Copy}
use Rattle.mesh_model.specs.Complex.{Complex, layers_of}
use Rattle.mesh_model.specs.Valid.{IsLinked}
use Rattle.mesh_model.specs.Values.{offset, numbers_at}
use Rattle.mesh_model.specs.declared.names.Kind.{Kind}
use Rattle.mesh_model.specs.declared.names.Kind.TheVariants.{Verts, Edges, Corners, Faces}

-- a layer that stands in where there is none
abbrev pub no_layer : Layer
no_layer = record { name = []; width = 0; rule = Copy }

-- what is read of a layer is that of the layer there
pub layer_read : {X : Type 0} (f : Layer → X) (layers : List Layer) (k : ℕ) (d : Layer) (r : X) → k < length layers
    → option_map f (slice_get layers k) ≡ Some r → r ≡ f (get_or layers k d)
layer_read f layers k d r less is =
    let here : Some (f (get_or layers k d)) ≡ Some r =
    sym (ap (option_map f) (slice_get-get_or layers k d less)) ∙ is in
    cc

-- the layers of a kind can be held
pub kind_layers : (c : Complex) (kind : Kind) → IsLinked c → AreLayers (layers_of c.layers kind)
kind_layers c Verts h = h.layers.verts
kind_layers c Edges h = h.layers.edges
kind_layers c Corners h = h.layers.corners
kind_layers c Faces h = h.layers.faces

-- the widths of the layers up to one
upto : (ls : List Layer) (j : ℕ) (d : Layer) → j < length ls
    → total (take j ls) + (get_or ls j d).width ≡ total (take (suc j) ls)
upto [] j d less = absurd (omega arith)
upto (l ∷ ls) zero d less = omega (arith, sum_by-cons (λ (x : Layer). x.width) l [])
upto (l ∷ ls) (suc j) d less =
    omega (
      arith,
      upto ls j d (omega arith),
      sum_by-cons (λ (x : Layer). x.width) l (take j ls),
      sum_by-cons (λ (x : Layer). x.width) l (take (suc j) ls),
    )

pub total_next : (ls : List Layer) (j w : ℕ) → j < length ls
    → option_map (λ (l : Layer). l.width) (slice_get ls j) ≡ Some w → total (take j ls) + w ≡ total (take (j + 1) ls)
total_next ls j w less is =
    let here = layer_read (λ (l : Layer). l.width) ls j no_layer w less is in
    let next : suc j ≡ j + 1 = omega arith in
    omega (arith, here, upto ls j no_layer less) ∙ ap (λ (n : ℕ). total (take n ls)) next

-- a layer ends within the row
pub ends_within : (ls : List Layer) (k : ℕ) (d : Layer) → k < length ls
    → offset ls k + (get_or ls k d).width ≤ total ls
ends_within [] k d less = absurd (omega arith)
ends_within (l ∷ ls) zero d less = omega (arith, sum_by-cons (λ (x : Layer). x.width) l ls)
ends_within (l ∷ ls) (suc k) d less =
    omega (
      arith,
      ends_within ls k d (omega arith),
      sum_by-cons (λ (x : Layer). x.width) l ls,
      sum_by-cons (λ (x : Layer). x.width) l (take k ls),
    )

-- the numbers of a layer that is there
pub numbers_there : (ls : List Layer) (k w : ℕ) (row : List ℤ) → k < length ls
    → option_map (λ (l : Layer). l.width) (slice_get ls k) ≡ Some w
    → take w (drop (offset ls k) row) ≡ numbers_at ls k row
numbers_there ls k w row less is =
    ap (λ (n : ℕ). take n (drop (offset ls k) row)) (layer_read (λ (l : Layer). l.width) ls k no_layer w less is)
    ∙ sym (ap (λ (o : Option Layer). option_map_or (λ (l : Layer). take l.width (drop (offset ls k) row)) o [])
    (slice_get-get_or ls k no_layer less))
