use Rattle.std.proofs.Common.{◌≡◌, ◌∙◌, ◌++◌, ◌∷◌, [], ℕ, List, Some, ap, sym, arith}
use Rattle.std.specs.List.{slice_get}
use Rattle.std.proofs.lemmas.Option.{slice_get_within}
use Rattle.mesh_model.proofs.Reading.{take_more_get}
use Rattle.mesh_model.proofs.copying.libraries_of.Goals as goal

pub loop-k-preserved : goal.loop-k-preserved
loop-k-preserved g c =
    let names : List (List ℕ) = (g.S.Shape.complex c.args.shape.now).libraries in
    let here : slice_get names c.loop-k.k ≡ Some c.in-Some.name.now = sym c.in-Some.ensures in
    let less = slice_get_within names c.loop-k.k c.in-Some.name.now here in
    record {
      names = c.in_ok-push-in-Some.ensures.ok
          ∙ ap (λ (name : List ℕ). c.loop-k.names ++ name ∷ []) (c.in_ok-of-in-Some.ensures.1 (λ x y same. same))
          ∙ ap (λ (all : List (List ℕ)). all ++ c.in-Some.name.now ∷ []) c.loop-k.invariant.names
          ∙ sym (take_more_get names c.loop-k.k c.in-Some.name.now here);
      within = omega arith;
    }
