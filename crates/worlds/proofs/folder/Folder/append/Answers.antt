use Rattle.std.proofs.Common.{sym, ap, ◌∙◌}
use Rattle.std.specs.List.{position}
use Rattle.worlds.specs.Files.{is_named}
use Rattle.worlds.proofs.FileLemmas.{append_at, append_nowhere}
use Rattle.worlds.proofs.folder.Folder.append.Goals as goal

pub returns-in_ok-append-in-Some-clause-ok : goal.returns-in_ok-append-in-Some-clause-ok
returns-in_ok-append-in-Some-clause-ok c =
    let name = c.args.name.now in
    let place = ap (position (is_named name)) (sym c.deref.ensures.value) ∙ sym c.in-Some.ensures.place in
    rw (← c.self.view_is) (append_at name c.args.bytes.now c.self.inside.entries.items c.in-Some.i
    c.index_mut-entry.result.now c.append.new.self place c.index_mut-entry.ensures.value
    c.in_ok-append-in-Some.ensures.ok)

pub returns-in-None-clause-ok : goal.returns-in-None-clause-ok
returns-in-None-clause-ok c =
    let name = c.args.name.now in
    let place = ap (position (is_named name)) (sym (c.deref.ensures.value ∙ c.self.view_is))
    ∙ sym c.in-None.ensures.place in
    append_nowhere name c.args.bytes.now c.args.self.now place
