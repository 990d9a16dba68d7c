use Rattle.std.proofs.Common.{Bool, List, refl, ap, sym, ◌∙◌, ◌&&◌}
use Rattle.std.specs.Prelude.{◌==◌}
use lib.Pointwise.{pointwise}
use Rattle.std.proofs.lemmas.Bool.{and_parts, and_from, eq-eqb, eqb-true}
use Rattle.mesh_model.specs.declared.names.VertName.{VertName}
use Rattle.mesh_model.specs.declared.names.EdgeName.{EdgeName}
use Rattle.mesh_model.proofs.Leads.{Tells}
use Rattle.mesh_model.proofs.ChangeSets.{tells_list}
use Rattle.mesh_trail.proofs.corners.same_pairs.Goals as goal

abbrev same_pair : VertName × EdgeName → VertName × EdgeName → Bool
same_pair x y = (x.0.0 == y.0.0) && (x.1.0 == y.1.0)

tells_pair : Tells same_pair
tells_pair = record {
  sound = λ x y e. let both = and_parts (x.0.0 == y.0.0) (x.1.0 == y.1.0) e in λ i.
      (record { 0 = eqb-true x.0.0 y.0.0 both.0 i }, record { 0 = eqb-true x.1.0 y.1.0 both.1 i });
  itself = λ x. and_from (x.0.0 == x.0.0) (x.1.0 == x.1.0) (eq-eqb x.0.0 x.0.0 refl) (eq-eqb x.1.0 x.1.0 refl);
}

pub returns : goal.returns
returns c =
    let tells = tells_list same_pair tells_pair in (
      λ e. tells.sound c.args.a.now c.args.b.now (sym c.eq.ensures ∙ e),
      λ is. c.eq.ensures
          ∙ ap (λ (xs : List (VertName × EdgeName)). pointwise same_pair c.args.a.now xs) (sym is)
          ∙ tells.itself c.args.a.now,
    )
