use Rattle.std.proofs.Common.{◌∙◌, ◌++◌, ◌∷◌, [], Bool, cond, ap}
use Rattle.cust_data.specs.Layers.{same_name}
use Rattle.obj_reader.specs.NameIndex.{names_in}
use Rattle.obj_reader.proofs.IndexedLemmas.{none_among, names_pushed, is_put}
use Rattle.obj_reader.proofs.named_draft.put_name.Goals as goal

pub returns : goal.returns
returns c =
    let keys = c.args.names.now.keys in
    let v = c.args.name in
    let none = none_among (same_name v.items) keys c.requires.new in
    is_put c.insert.result _ _ (c.insert.ensures.succeeds c.requires.room) c.insert.ensures.keys
    ∙ ap (λ (b : Bool). names_in (cond b keys (keys ++ v ∷ []))) none ∙ names_pushed keys v
