-- Lemmas that stand together in a proof.
use Rattle.text_words.proofs.OutcomeLemmas.{stops_on}
use Rattle.obj_reader.proofs.AlongLemmas.{edge_full, edge_there}
use Rattle.obj_reader.proofs.FitLemmas.{vert_fits, vert_full}
use Rattle.obj_reader.proofs.HoldingLemmas.{parts_with_draft, live_push, sound_of}

-- a vertex more
pub ruleset points = (stops_on, vert_fits, vert_full, parts_with_draft, live_push)

-- an edge more
pub ruleset sides = (edge_full, edge_there, sound_of)
