use Rattle.std.proofs.Common.{◌≡◌, None, sym, ap, ◌∙◌, subst}
use Rattle.mesh_model.specs.Complex.{Complex}
use Rattle.mesh_model.specs.Declaring.{first_declaration_fault, with_all_declared}
use Rattle.mesh_core.proofs.mesh.Mesh.loaded.Goals as goal

pub declare-requires : goal.declare-requires
declare-requires c = let P =
    λ (x : Complex). first_declaration_fault x.layers c.args.layers.now ≡ None in
    subst P (sym c.in_ok-made.ensures) c.requires.layers

pub returns-clause-now : goal.returns-clause-now
returns-clause-now c = c.mark.ensures.now ∙ c.in_ok-declare.ensures
    ∙ ap (λ (x : Complex). with_all_declared x c.args.layers.now) c.in_ok-made.ensures

pub returns-clause-base : goal.returns-clause-base
returns-clause-base c = c.in_ok-mark.ensures.base ∙ sym c.mark.ensures.now
