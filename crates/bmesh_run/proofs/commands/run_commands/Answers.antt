use Rattle.std.proofs.Common.{◌+◌, sym, refl}
use Rattle.std.proofs.lemmas.List.{length_push}
use Rattle.bmesh_run.proofs.Stepping.{steps-more, way-more}
use Rattle.bmesh_run.proofs.commands.run_commands.Goals as goal

pub loop-command-preserved : goal.loop-command-preserved
loop-command-preserved c =
    let at = sym c.command-item.is in
    record {
      told = rw c.in_ok-push.ensures.ok
          (steps-more c.loop-command.session.state c.step.new.self.state c.loop-command.replies _ c.args.commands.now
          c.loop-command.command-index c.command-item.result _ c.loop-command-test.true at c.in_ok-reply.ensures.ok
          c.loop-command.invariant.told);
      way = way-more c.args.session.now.state c.loop-command.session.state c.step.new.self.state _ c.args.commands.now
          c.loop-command.command-index c.command-item.result c.loop-command-test.true at c.in_ok-reply.ensures.ok
          c.loop-command.invariant.way;
      long = rw (c.in_ok-push.ensures.ok, length_push, c.loop-command.invariant.long) refl;
      sound = c.in_ok-reply.ensures.sound;
    }

pub returns-in_err-push-clause-way : goal.returns-in_err-push-clause-way
returns-in_err-push-clause-way c =
    let at = sym c.command-item.is in (
      c.loop-command.command-index + 1,
      way-more c.args.session.now.state c.loop-command.session.state c.step.new.self.state _ c.args.commands.now
          c.loop-command.command-index c.command-item.result c.loop-command-test.true at c.in_ok-reply.ensures.ok
          c.loop-command.invariant.way,
    )
