use Rattle.std.proofs.Common.{Some, ap, ◌∙◌, ◌++◌}
use Rattle.std.specs.Prelude.{option_to_list}
use Rattle.std.proofs.lemmas.List.Elements.{All-pop}
use Rattle.mesh_model.specs.Valid.{IsSound}
use Rattle.mesh_session.specs.declared.entry.Entry.{Entry}
use Rattle.mesh_session.proofs.going.go.Goals as goal

pub go_to-requires-clause-valid : goal.go_to-requires-clause-valid
go_to-requires-clause-valid c =
    (All-pop (λ (e : Entry). IsSound e.complex) c.args.from.now.items c.pop.new.self.items (Some c.in-Some.entry)
    c.in-Some.ensures.items c.requires.sound).1.valid
