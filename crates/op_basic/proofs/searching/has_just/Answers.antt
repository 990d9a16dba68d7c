use Rattle.std.proofs.Common.{ap, ◌∙◌}
use Rattle.std.specs.Prelude.{nat_eq}
use Rattle.std.specs.Cmp.Lexicographic.{pointwise}
use Rattle.mesh_model.specs.Table.{at}
use Rattle.mesh_core.specs.Seen.{now}
use Rattle.op_basic.proofs.Searched.{just_there}
use Rattle.op_basic.proofs.searching.has_just.Goals as goal

pub returns : goal.returns
returns c = c.eq.ensures
    ∙ ap (pointwise nat_eq c.args.numbers.now) c.as_slice.ensures.value
    ∙ just_there (at (now c.args.mesh.now).faces c.args.f.0) c.args.numbers.now c.in_ok-own.own.items
    c.risen-own.result.items c.requires.there c.requires.rising c.risen-own.ensures.rising c.in_ok-own.ensures
    c.risen-own.ensures.members
