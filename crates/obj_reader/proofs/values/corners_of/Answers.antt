use Rattle.std.proofs.Common.{◌∙◌, ap, sym}
use Rattle.text_words.specs.Outcome.{ok_or}
use Rattle.text_words.proofs.EachLemmas.{each_map}
use Rattle.obj_format.specs.declared.obj_fault.ObjWhy.TheVariants.{BadIndex}
use Rattle.obj_format.specs.Indices.{corner}
use Rattle.obj_reader.proofs.values.corners_of.Goals as goal

pub returns-in-Some-clause-same : goal.returns-in-Some-clause-same
returns-in-Some-clause-same c = ap (λ o.
    ok_or o BadIndex) (each_map (corner c.args.counts) (λ w. w.now) c.args.words.now ∙ sym c.in_ok-corners.ensures.same
    ∙ c.in-Some.is)

pub returns-in-None-clause-same : goal.returns-in-None-clause-same
returns-in-None-clause-same c = ap (λ o.
    ok_or o BadIndex) (each_map (corner c.args.counts) (λ w. w.now) c.args.words.now ∙ sym c.in_ok-corners.ensures.same
    ∙ c.in-None.is)
