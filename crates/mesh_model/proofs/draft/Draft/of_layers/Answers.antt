use Rattle.std.proofs.Common.{refl}
use Rattle.mesh_model.proofs.Drafts.{IsLinked-due, IsValid-due}
use Rattle.mesh_model.proofs.draft.Draft.of_layers.Goals as goal

pub invariant_of-result : goal.invariant_of-result
invariant_of-result c =
    rw (
      c.new-2.ensures,
      c.new-4.ensures,
      c.new-7.ensures,
      c.new-8.ensures,
      c.new-9.ensures,
      c.new.ensures,
      c.new-3.ensures,
      c.new-5.ensures,
      c.new-6.ensures,
    )
    (record {
      linked = IsLinked-due c.args.corner_layers c.args.face_layers;
      used = λ e. refl;
      closed = refl;
      knows =
          c.new-10.ensures;
    })

pub returns-clause-valid : goal.returns-clause-valid
returns-clause-valid c =
    rw (
      c.new-2.ensures,
      c.new-4.ensures,
      c.new-7.ensures,
      c.new-8.ensures,
      c.new-9.ensures,
      c.new.ensures,
      c.new-3.ensures,
      c.new-5.ensures,
      c.new-6.ensures,
    ) (IsValid-due c.args.corner_layers c.args.face_layers)
