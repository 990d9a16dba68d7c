use Rattle.std.proofs.Common.{ℤ, List, ap, sym, ◌∙◌}
use Rattle.std.specs.Ordering.{int_eq}
use lib.Pointwise.{pointwise}
use Rattle.mesh_model.proofs.ChangeSets.{tells_list, tells_int}
use Rattle.mesh_trail.proofs.corners.same_numbers.Goals as goal

pub returns : goal.returns
returns c =
    let tells = tells_list int_eq tells_int in (
      λ e. tells.sound c.args.a.now c.args.b.now (sym c.eq.ensures ∙ e),
      λ is. c.eq.ensures
          ∙ ap (λ (xs : List ℤ). pointwise int_eq c.args.a.now xs) (sym is) ∙ tells.itself c.args.a.now,
    )
