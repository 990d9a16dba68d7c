use Rattle.std.proofs.Common.{◌∙◌}
use Rattle.cust_data.specs.Layers.{same_name}
use Rattle.obj_reader.proofs.IndexedLemmas.{place_named}
use Rattle.obj_reader.proofs.named_draft.find_name.Goals as goal

pub returns : goal.returns
returns c = c.get_index_of.ensures.index ∙ place_named (same_name c.args.name.now) c.args.names.now.keys
