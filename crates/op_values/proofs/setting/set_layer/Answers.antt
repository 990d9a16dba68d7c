use Rattle.std.proofs.Common.{◌+◌, ◌≤◌, ℕ, length, sym, ap, subst, ◌∙◌}
use Rattle.mesh_model.specs.Complex.{width}
use Rattle.mesh_core.specs.Seen.{now}
use Rattle.op_values.specs.Putting.{AreAllowed, put_from, rows_put}
use Rattle.op_values.proofs.Settings.{allowed, fits}
use Rattle.op_values.proofs.setting.set_layer.Goals as goal

pub put_numbers-requires-clause-fits : goal.put_numbers-requires-clause-fits
put_numbers-requires-clause-fits c =
    let whole = now c.args.mesh.now in
    subst (λ (n : ℕ). n + length c.args.values.now ≤ width whole c.args.kind) (sym c.offset-from.ensures)
    (fits whole c.args.kind c.args.k c.args.values.now c.requires.sound c.requires.within c.requires.values)

pub put_numbers-requires-clause-allowed : goal.put_numbers-requires-clause-allowed
put_numbers-requires-clause-allowed c =
    let whole = now c.args.mesh.now in
    subst (λ (n : ℕ). AreAllowed (put_from n c.args.values.now) c.args.kind whole) (sym c.offset-from.ensures)
    (allowed whole c.args.kind c.args.k c.args.values.now c.requires.sound c.requires.within c.requires.values)

pub returns-clause-now : goal.returns-clause-now
returns-clause-now c =
    let whole = now c.args.mesh.now in
    c.in_ok-put_numbers.ensures.now
    ∙ ap (λ (n : ℕ). rows_put (put_from n c.args.values.now) c.args.kind whole c.args.geom.now) c.offset-from.ensures
