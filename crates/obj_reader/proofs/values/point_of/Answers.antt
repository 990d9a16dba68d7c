use Rattle.std.proofs.Common.{map, sym}
use Rattle.std.proofs.lemmas.List.{length-map}
use Rattle.obj_reader.proofs.WordLemmas.{point_few}
use Rattle.obj_reader.proofs.values.point_of.Goals as goal

pub returns-in_default-clause-same : goal.returns-in_default-clause-same
returns-in_default-clause-same c = sym (point_few c.args.scale (map (λ w. w.now) c.args.words.now)
    (rw length-map c.in_default.len_below))
