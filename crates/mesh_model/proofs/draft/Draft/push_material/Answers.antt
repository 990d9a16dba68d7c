use Rattle.std.proofs.Common.{[], ◌∷◌, ◌++◌, arith}
use Rattle.std.proofs.lemmas.List.{length-append}
use Rattle.mesh_model.specs.Complex.{Complex}
use Rattle.mesh_model.specs.Draft.{complex_of}
use Rattle.mesh_model.proofs.Drafts.{IsDraft-renamed, IsValid-renamed}
use Rattle.mesh_model.proofs.draft.Draft.push_material.Goals as goal

pub returns-in_err-place-clause-simple : goal.returns-in_err-place-clause-simple
returns-in_err-place-clause-simple c = rw (← c.self.view_is) (λ h. h)

pub invariant_of-self-2 : goal.invariant_of-self-2
invariant_of-self-2 c =
    let old = c.self.inside in
    let before : Complex = complex_of old.verts old.edges old.faces old.materials old.libraries in
    rw c.in_ok-place.ensures.ok
    (IsDraft-renamed before old.edges.used old.faces.open old.index (old.materials ++ c.args.name.now ∷ []) old.libraries
    (let long = length-append old.materials (c.args.name.now ∷ []) in omega arith) c.self.invariant)

pub returns-clause-valid : goal.returns-clause-valid
returns-clause-valid c =
    let old = c.self.inside in
    let before : Complex = complex_of old.verts old.edges old.faces old.materials old.libraries in
    rw (← c.self.view_is, c.in_ok-place.ensures.ok)
    (λ h. IsValid-renamed before (old.materials ++ c.args.name.now ∷ []) old.libraries (let long = length-append old.materials (c.args.name.now ∷ []) in omega arith) h)

pub returns-clause-simple : goal.returns-clause-simple
returns-clause-simple c = rw (← c.self.view_is) (λ h. h)
