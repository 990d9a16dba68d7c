use Rattle.std.proofs.Common.{◌≡◌, ◌∙◌, List, ap}
use Rattle.mesh_model.specs.Declaring.{with_all_declared}
use Rattle.mesh_model.specs.declared.layer_decl.LayerDecl.{LayerDecl}
use Rattle.mesh_session.specs.State.{first_state}
use Rattle.bmesh_run.proofs.Fixed.{fixed_after, fixed_all}
use Rattle.bmesh_run.proofs.Running.{ends_delivered}
use Rattle.bmesh_run.proofs.whole_run.deliver.Goals as goal

pub load-requires-clause-layers : goal.load-requires-clause-layers
load-requires-clause-layers g c = rw (c.as_slice-layers.ensures, c.requires.fixed) c.requires.layers

pub conclude-requires-clause-fixed : goal.conclude-requires-clause-fixed
conclude-requires-clause-fixed g c =
    let layers = c.as_slice-layers.result.now in
    fixed_after (with_all_declared c.args.draft.now layers) c.load.new.self.state c.as_slice-commands.result.now
    c.in-Ok-run_commands.replies c.run_commands.new.session.state c.in-Ok.ensures.ok c.in-Ok-run_commands.ensures.ok
    (fixed_all c.args.draft.now layers c.requires.fixed)

pub returns-in-Ok-run_commands-clause-ends : goal.returns-in-Ok-run_commands-clause-ends
returns-in-Ok-run_commands-clause-ends g c =
    ends_delivered c.args.scale c.args.draft.now c.args.script.now c.load.new.self.state c.as_slice-commands.result.now
    c.in-Ok-run_commands.replies c.args.out.now c.conclude.result c.run_commands.new.session.state _ _
    (c.in-Ok.ensures.ok
    ∙ ap (λ (ds : List LayerDecl). first_state (with_all_declared c.args.draft.now ds)) c.as_slice-layers.ensures)
    c.as_slice-commands.ensures c.in-Ok-run_commands.ensures.ok (rw c.as_slice-replies.ensures at c.conclude.ensures.ends)
