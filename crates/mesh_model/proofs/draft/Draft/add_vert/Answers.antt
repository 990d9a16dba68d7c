use Rattle.std.proofs.Common.{◌≡◌, ◌++◌, ◌∷◌, [], Some, refl}
use Rattle.mesh_model.specs.Complex.{Complex}
use Rattle.mesh_model.specs.Draft.{complex_of}
use Rattle.mesh_model.specs.Making.{vert_at_point}
use Rattle.mesh_model.proofs.GivenRows.{total-few}
use Rattle.mesh_model.proofs.Drafts.{IsDraft-with_vert, IsValid-vert}
use Rattle.mesh_model.proofs.draft.Draft.add_vert.Goals as goal

pub returns-in_err-reserve-clause-simple : goal.returns-in_err-reserve-clause-simple
returns-in_err-reserve-clause-simple c = rw (← c.self.view_is) (λ h. h)

pub zero_row-row-requires : goal.zero_row-row-requires
zero_row-row-requires c =
    rw (c.values.ensures, c.reserve.ensures.layers)
    (total-few c.self.inside.verts.layers c.self.invariant.linked.layers.verts)

pub invariant_of-self-2 : goal.invariant_of-self-2
invariant_of-self-2 c =
    let old = c.self.inside in
    let before : Complex = complex_of old.verts old.edges old.faces old.materials old.libraries in
    let pushed : c.push.new.self.table ≡ old.verts.table ++ Some (vert_at_point before c.args.p) ∷ [] =
    rw (
      c.push.ensures,
      c.as_slice.ensures,
      c.zero_row-row.ensures,
      c.values.ensures,
      c.reserve.ensures.table,
      c.reserve.ensures.layers,
    ) refl in
    let layers : c.push.new.self.layers ≡ old.verts.layers = rw (c.push.ensures, c.reserve.ensures.layers) refl in
    rw (pushed, layers) (IsDraft-with_vert before old.edges.used old.faces.open old.index c.args.p c.self.invariant)

pub returns-clause-valid : goal.returns-clause-valid
returns-clause-valid c =
    let old = c.self.inside in
    let before : Complex = complex_of old.verts old.edges old.faces old.materials old.libraries in
    let pushed : c.push.new.self.table ≡ old.verts.table ++ Some (vert_at_point before c.args.p) ∷ [] =
    rw (
      c.push.ensures,
      c.as_slice.ensures,
      c.zero_row-row.ensures,
      c.values.ensures,
      c.reserve.ensures.table,
      c.reserve.ensures.layers,
    ) refl in
    let layers : c.push.new.self.layers ≡ old.verts.layers = rw (c.push.ensures, c.reserve.ensures.layers) refl in
    rw (
      ← c.self.view_is,
      pushed,
      layers,
    ) (λ h. IsValid-vert before c.args.p (rw (← c.self.view_is) at c.requires.room) c.requires.on_grid h)

pub returns-clause-simple : goal.returns-clause-simple
returns-clause-simple c = rw (← c.self.view_is) (λ h. h)
