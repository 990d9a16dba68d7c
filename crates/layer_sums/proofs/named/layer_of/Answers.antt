use Rattle.std.proofs.Common.{◌≡◌, ℕ, ◌<◌, Bool, false, length, get_or, sym, subst, ◌∙◌, inl, inr, arith}
use Rattle.std.proofs.lemmas.Bool.{cases_eq}
use Rattle.cust_data.specs.Layers.{Layer, same_name}
use Rattle.cust_data.proofs.Finding.{position_at, position_none}
use Rattle.mesh_model.specs.Complex.{layers_of}
use Rattle.layer_sums.proofs.Offsets.{no_layer, layer_read}
use Rattle.layer_sums.proofs.named.layer_of.Goals as goal

pub returns-then-is_named : goal.returns-then-is_named
returns-then-is_named g c =
    let layers = layers_of (g.S.Shape.complex c.args.shape.now).layers c.args.kind in
    let test : Layer → Bool = λ l. same_name l.name c.args.name.now in
    let less : c.loop-k.k < length layers = omega (arith, c.layers-k-end.ensures) in
    sym (position_at test layers c.loop-k.k no_layer less (λ j low. c.loop-k.invariant j no_layer low)
    (sym (layer_read test layers c.loop-k.k no_layer c.is_named.result less c.is_named.ensures) ∙ c.if-is_named.true))

pub loop-k-preserved : goal.loop-k-preserved
loop-k-preserved g c =
    let layers = layers_of (g.S.Shape.complex c.args.shape.now).layers c.args.kind in
    let test : Layer → Bool = λ l. same_name l.name c.args.name.now in
    let less : c.loop-k.k < length layers = omega (arith, c.layers-k-end.ensures) in
    λ j d low. elim (cases_eq j c.loop-k.k) [
      | inl same ↦ subst (λ (i : ℕ). test (get_or layers i d) ≡ false) (sym same)
          (sym (layer_read test layers c.loop-k.k d c.is_named.result less c.is_named.ensures) ∙ c.if-is_named.false)
      | inr apart ↦ c.loop-k.invariant j d (omega arith)
    ]

pub returns : goal.returns
returns g c =
    let layers = layers_of (g.S.Shape.complex c.args.shape.now).layers c.args.kind in
    sym (position_none (λ (l : Layer). same_name l.name c.args.name.now) layers
    (λ j d low. c.loop-k.invariant j d (omega (arith, c.layers-k-end.ensures))))
