use Rattle.std.proofs.Common.{◌≡◌, ◌∙◌}
use Rattle.mesh_session.proofs.Undoing.{undo_gives_back}
use Rattle.mesh_session.proofs.laws.undo_gives_back.Goals as goal

pub returns : goal.returns
returns c = undo_gives_back
