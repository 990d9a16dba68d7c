use Rattle.std.proofs.Common.{ap, sym, ◌∙◌, arith, Some}
use Rattle.std.proofs.lemmas.Option.{slice_get_within, get_or_from_slice_get}
use Rattle.mesh_trail.specs.declared.note_map.Entry.{Entry}
use Rattle.mesh_trail.proofs.Growth.{get-absent, absent_empty, get-at}
use Rattle.mesh_trail.proofs.note_map.look_up.Goals as goal

pub returns-then-entries-eq0 : goal.returns-then-entries-eq0
returns-then-entries-eq0 g c = sym (get-absent c.args.entries.now c.args.name
    (absent_empty c.args.entries.now c.args.name (omega arith)))

pub bounds-entries-i : goal.bounds-entries-i
bounds-entries-i g c = let less = slice_get_within c.args.entries.now c.in-Here.i c.in-Here.ensures.0
    c.in-Here.ensures.1 in omega arith

pub returns-in-Here : goal.returns-in-Here
returns-in-Here g c =
    let it = c.in-Here.ensures in
    ap (λ (x : Entry g.row.R.Denot). Some x.was) (get_or_from_slice_get c.args.entries.now c.in-Here.i it.0
    c.index-entries-i.result it.1)
    ∙ sym (get-at c.args.entries.now c.in-Here.i it.0 c.args.name c.requires it.1 it.2)

pub returns-in-Free : goal.returns-in-Free
returns-in-Free g c = sym (get-absent c.args.entries.now c.args.name c.in-Free.ensures.absent)
