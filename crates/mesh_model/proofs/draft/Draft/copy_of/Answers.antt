use Rattle.std.proofs.Common.{◌≡◌, IfOk, sym, subst}
use Rattle.mesh_model.specs.Complex.{Complex}
use Rattle.mesh_model.specs.Valid.{IsLinked}
use Rattle.mesh_model.proofs.Parted.{without-none}
use Rattle.mesh_model.proofs.draft.Draft.copy_of.Goals as goal

pub part_of-requires-clause-left : goal.part_of-requires-clause-left
part_of-requires-clause-left g c = λ h. subst IsLinked (sym (without-none (g.S.Shape.complex c.args.shape.now))) h

pub returns : goal.returns
returns g c =
    let P : Complex → Type 0 = λ whole. IfOk c.part_of.result (λ d. d ≡ whole) in
    subst P (without-none (g.S.Shape.complex c.args.shape.now)) c.part_of.ensures
