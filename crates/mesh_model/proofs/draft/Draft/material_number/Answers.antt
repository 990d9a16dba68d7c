use Rattle.mesh_model.specs.Complex.{Complex}
use Rattle.mesh_model.specs.Draft.{complex_of, with_name}
use Rattle.mesh_model.proofs.Drafts.{IsDraft-renamed, IsValid-renamed, few-with_name}
use Rattle.mesh_model.proofs.draft.Draft.material_number.Goals as goal

pub returns-in_err-number-clause-simple : goal.returns-in_err-number-clause-simple
returns-in_err-number-clause-simple c = rw (← c.self.view_is) (λ h. h)

pub invariant_of-self-2 : goal.invariant_of-self-2
invariant_of-self-2 c =
    let old = c.self.inside in
    let before : Complex = complex_of old.verts old.edges old.faces old.materials old.libraries in
    rw c.in_ok-number.ensures.ok
    (IsDraft-renamed before old.edges.used old.faces.open old.index
    (with_name old.materials c.args.name.now).0 old.libraries (few-with_name old.materials c.args.name.now)
    c.self.invariant)

pub returns-clause-valid : goal.returns-clause-valid
returns-clause-valid c =
    let old = c.self.inside in
    let before : Complex = complex_of old.verts old.edges old.faces old.materials old.libraries in
    rw (← c.self.view_is, c.in_ok-number.ensures.ok)
    (λ h. IsValid-renamed before (with_name old.materials c.args.name.now).0 old.libraries
    (few-with_name old.materials c.args.name.now) h)

pub returns-clause-simple : goal.returns-clause-simple
returns-clause-simple c = rw (← c.self.view_is) (λ h. h)
