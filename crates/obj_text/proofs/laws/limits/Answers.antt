use Rattle.std.proofs.Common.{refl}
use Rattle.obj_text.proofs.LimitLemmas.{large_refused, verts_refused, textures_refused, faces_refused, corners_refused}
use Rattle.obj_text.proofs.LimitLemmas.{edges_refused}
use Rattle.obj_text.proofs.laws.limits.Goals as goal

pub returns-clause-large : goal.returns-clause-large
returns-clause-large c = large_refused

pub returns-clause-long : goal.returns-clause-long
returns-clause-long c = refl

pub returns-clause-verts : goal.returns-clause-verts
returns-clause-verts c = verts_refused

pub returns-clause-textures : goal.returns-clause-textures
returns-clause-textures c = textures_refused

pub returns-clause-faces : goal.returns-clause-faces
returns-clause-faces c = faces_refused

pub returns-clause-corners : goal.returns-clause-corners
returns-clause-corners c = corners_refused

pub returns-clause-edges : goal.returns-clause-edges
returns-clause-edges c = edges_refused
