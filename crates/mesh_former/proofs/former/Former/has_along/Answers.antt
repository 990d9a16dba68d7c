use Rattle.std.proofs.Common.{◌≡◌, ◌==◌, ℕ, true, false, Some, sym, ◌∙◌, arith}
use Rattle.std.specs.Prelude.{slice_get}
use Rattle.std.specs.Option.{option_map}
use Rattle.std.proofs.lemmas.Bool.{eqb-true, eq-eqb, false_from_ne_true}
use Rattle.mesh_model.specs.Table.{at}
use Rattle.mesh_model.specs.Complex.{corners_of}
use Rattle.mesh_model.specs.Incidence.{is_along}
use Rattle.mesh_model.proofs.Copies.{uses-corners}
use Rattle.mesh_former.proofs.Loose.{none_passes, one_passes, along_read, passed_more}
use Rattle.mesh_former.proofs.former.Former.has_along.Goals as goal

pub returns-then-edge-e : goal.returns-then-edge-e
returns-then-edge-e g c =
    let o = at c.args.self.now.faces c.args.f.0 in
    sym (uses-corners c.args.e o ∙ one_passes (is_along c.args.e) (corners_of o) c.loop-i.i
    (along_read c.args.e (slice_get (corners_of o) c.loop-i.i) c.corner.result true c.corner.ensures
    (eq-eqb c.corner.result.1.0 c.args.e.0 c.if-edge-e.true)))

pub loop-i-preserved : goal.loop-i-preserved
loop-i-preserved g c =
    let ks = corners_of (at c.args.self.now.faces c.args.f.0) in
    passed_more (λ (n : ℕ). option_map (is_along c.args.e) (slice_get ks n) ≡ Some false) c.loop-i.i c.loop-i.invariant
    (along_read c.args.e (slice_get ks c.loop-i.i) c.corner.result false c.corner.ensures
    (false_from_ne_true (c.corner.result.1.0 == c.args.e.0)
    (λ q. c.if-edge-e.false (eqb-true c.corner.result.1.0 c.args.e.0 q))))

pub returns : goal.returns
returns g c =
    let o = at c.args.self.now.faces c.args.f.0 in
    sym (uses-corners c.args.e o ∙ none_passes (is_along c.args.e) (corners_of o)
    (λ n less. c.loop-i.invariant n (omega (arith, c.corners_at-i-end.ensures))))
