use Rattle.std.proofs.Common.{◌≡◌, sym, subst}
use Rattle.std.proofs.lemmas.Result.{IfOk-weaker}
use Rattle.mesh_model.specs.Complex.{Complex}
use Rattle.mesh_model.specs.Deleting.{without_verts}
use Rattle.mesh_model.specs.Valid.{IsValid, IsSimple}
use Rattle.mesh_model.proofs.Deletings.{AreClosed-valid, IsLinked-without_verts, IsValid-without_verts}
use Rattle.mesh_model.proofs.Deletings.{IsSimple-without_verts}
use Rattle.mesh_model.proofs.draft.Draft.without_verts.Goals as goal

pub part_of-requires-clause-left : goal.part_of-requires-clause-left
part_of-requires-clause-left c =
    λ h. IsLinked-without_verts c.args.self.now c.args.verts.now (AreClosed-valid c.args.self.now c.requires.valid) h

pub returns-clause-valid : goal.returns-clause-valid
returns-clause-valid c =
    let rest : Complex = without_verts c.args.self.now c.args.verts.now in
    IfOk-weaker c.part_of.result (λ (d : Complex). d ≡ rest) (λ (d : Complex). IsValid d)
    (λ d is. subst IsValid (sym is) (IsValid-without_verts c.args.self.now c.args.verts.now c.requires.valid))
    c.part_of.ensures

pub returns-clause-simple : goal.returns-clause-simple
returns-clause-simple c = λ h.
    let rest : Complex = without_verts c.args.self.now c.args.verts.now in
    IfOk-weaker c.part_of.result (λ (d : Complex). d ≡ rest) (λ (d : Complex). IsSimple d)
    (λ d is. subst IsSimple (sym is) (IsSimple-without_verts c.args.self.now c.args.verts.now h)) c.part_of.ensures
