use Rattle.std.proofs.Common.{◌≡◌, ◌++◌, length, take, drop}
use Rattle.mesh_session.specs.State.{IsSoundState}
use Rattle.mesh_session.specs.Steps.{steps}
use Rattle.bmesh_run.proofs.commands.run_commands.Given as goal

-- the replies so far and those to the commands that are left are those to all
abbrev pub invariant-loop-command : goal.invariant-loop-command
invariant-loop-command l =
    let rest = steps l.session.state (drop l.command-index l.commands) in
    record {
      told : (l.replies ++ rest.0, rest.1) ≡ steps l.fn.session.state l.commands;
      way : l.session.state ≡ (steps l.fn.session.state (take l.command-index l.commands)).1;
      long : length l.replies ≡ l.command-index;
      sound : IsSoundState l.session.state;
    }
