use Rattle.std.proofs.Common.{◌∙◌, ap}
use Rattle.worlds.specs.Told.{Told}
use Rattle.worlds.specs.declared.start.Purpose.TheVariants.{Writing}
use Rattle.bmesh_run.proofs.Writing.{gains_start, finished_started}
use Rattle.bmesh_run.proofs.write.whole_file.write_file.Goals as goal

pub returns-in_err-finish-clause-started : goal.returns-in_err-finish-clause-started
returns-in_err-finish-clause-started g c =
    let told = g.W.World.told in
    let before = told c.begin_file.new.world in
    let after = told c.finish.new.self in
    gains_start c.from_residual-in_err-finish.result (told c.args.world.now) after c.args.name.now Writing
    (finished_started c.finish.result before after c.finish.ensures
    ∙ ap (λ (t : Told). t.started) c.in_ok-begin_file.ensures.ok)
