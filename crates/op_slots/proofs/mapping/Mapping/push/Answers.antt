use Rattle.std.proofs.Common.{◌≡◌, ◌∙◌, ◌++◌, ◌∷◌, [], false, ap}
use Rattle.mesh_model.specs.Elements.{is_among}
use Rattle.mesh_model.specs.Valid.{are_distinct}
use Rattle.op_slots.specs.Mapping.{sources, pairs_of}
use Rattle.std.specs.Prelude.{List}
use Rattle.op_slots.specs.declared.mapping.Pair.{Pair}
use Rattle.op_slots.proofs.Mappings.{distinct_more}
use Rattle.op_slots.proofs.Pairing.{inserted}
use Rattle.op_slots.proofs.mapping.Mapping.push.Goals as goal

-- the pairs before
abbrev before : goal.In_ok-insert → List Pair
before c = pairs_of c.self.inside.targets.entries

-- the source isn't among them
apart : (c : goal.In_ok-insert) → is_among (sources (before c)) c.args.pair.source ≡ false
apart c = rw (← c.self.view_is) at c.requires

-- the pair stands behind them
grown : (c : goal.In_ok-insert) → pairs_of c.insert.new.self.entries ≡ before c ++ c.args.pair ∷ []
grown c = ap pairs_of c.in_ok-insert.ensures.entries ∙ inserted c.self.inside.targets.entries c.args.pair (apart c)

pub invariant_of-self-2 : goal.invariant_of-self-2
invariant_of-self-2 c = ap (λ ps. are_distinct (sources ps)) (grown c)
    ∙ distinct_more (before c) c.args.pair c.self.invariant (apart c)

pub returns-clause-ok : goal.returns-clause-ok
returns-clause-ok c = rw (← c.self.view_is) (grown c)
