use Rattle.std.proofs.Common.{arith}
use Rattle.obj_reader.specs.Holding.{IsPlace}
use Rattle.obj_reader.proofs.HoldingLemmas.{parts_with_texture}
use Rattle.obj_reader.proofs.items.add_texture.Goals as goal

pub returns-clause-keeps : goal.returns-clause-keeps
returns-clause-keeps c = λ n h.
    let place : IsPlace c.in_ok-uv.uv = rw c.in_ok-uv.ensures at c.texture_of.ensures.grid in
    rw c.in_ok-push.ensures.ok (parts_with_texture n c.args.parts.now c.in_ok-uv.uv
    (omega (arith, c.if-len.false, c.len.ensures)) place h)
