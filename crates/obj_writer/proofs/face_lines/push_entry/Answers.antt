use Rattle.std.proofs.Common.{◌∙◌, ◌++◌, [], sym, ap, refl}
use Rattle.std.proofs.lemmas.List.{append-nil}
use Rattle.mesh_model.specs.Table.{at}
use Rattle.obj_writer.proofs.FaceTextLemmas.{entry_told, entry_numbers_told, entry_gone, numbers_gone}
use Rattle.std.specs.Option.{option_map_or}
use Rattle.obj_writer.specs.Whole.{face_line}
use Rattle.obj_writer.proofs.WritingLemmas.{then}
use Rattle.obj_writer.proofs.face_lines.push_entry.Goals as goal

pub returns-then-not-has-clause-lines : goal.returns-then-not-has-clause-lines
returns-then-not-has-clause-lines g c =
    let whole = g.S.Shape.complex c.args.shape.now in
    sym (append-nil c.args.out.now.items)
    ∙ ap (λ t. c.args.out.now.items ++ t) (entry_gone whole (at whole.faces c.args.f.0) c.args.before
    (sym c.has.ensures ∙ c.if-not-has.true))

pub returns-then-not-has-clause-numbers : goal.returns-then-not-has-clause-numbers
returns-then-not-has-clause-numbers g c =
    let whole = g.S.Shape.complex c.args.shape.now in
    numbers_gone whole (at whole.faces c.args.f.0) c.args.before (sym c.has.ensures ∙ c.if-not-has.true)

pub returns-clause-lines : goal.returns-clause-lines
returns-clause-lines g c =
    let whole = g.S.Shape.complex c.args.shape.now in
    let line = option_map_or (face_line whole) (at whole.faces c.args.f.0) [] in
    then c.args.out.now.items c.extend_from_slice.new.self.items c.push_face.new.out.items c.in_ok-set.set.items line
    (c.in_ok-extend_from_slice.ensures.items ∙ ap (λ t. c.args.out.now.items ++ t) c.deref.ensures.value)
    c.in_ok-push_face.ensures
    ∙ ap (λ t. c.args.out.now.items ++ t) (entry_told whole (at whole.faces c.args.f.0) c.args.before
    c.face_numbers-now.result c.in_ok-set.set.items line c.face_numbers-now.ensures refl c.in_ok-set.ensures)

pub returns-clause-numbers : goal.returns-clause-numbers
returns-clause-numbers g c =
    let whole = g.S.Shape.complex c.args.shape.now in
    entry_numbers_told whole (at whole.faces c.args.f.0) c.args.before c.face_numbers-now.result
    c.face_numbers-now.ensures
