use Rattle.std.proofs.Common.{◌≡◌, List, Option, None, refl, ap, sym, subst, rules, ◌∙◌}
use Rattle.std.specs.List.{All}
use Rattle.mesh_model.specs.Complex.{Complex}
use Rattle.mesh_model.specs.Table.{IsThere}
use Rattle.mesh_model.specs.declared.names.VertName.{VertName}
use Rattle.mesh_model.specs.declared.refusal.Refusal.{Refusal}
use Rattle.mesh_core.specs.Seen.{now}
use Rattle.op_basic.specs.Making.{make_face_row}
use Rattle.op_slots.specs.Values.{list_refusal}
use Rattle.mesh_session.proofs.Arguments.{list_live}
use Rattle.mesh_session.proofs.Performances.{listed}
use Rattle.mesh_session.proofs.on_lists.make_face_on.Goals as goal

-- nothing is refused of a list that is read as a slice
free : (c : Complex) (slice verts : List VertName) (refusal : Option Refusal) → slice ≡ verts
    → refusal ≡ list_refusal c slice → refusal ≡ None → list_refusal c verts ≡ None
free c slice verts refusal same is none = ap (list_refusal c) (sym same) ∙ sym is ∙ none

pub make_face-requires-clause-live : goal.make_face-requires-clause-live
make_face-requires-clause-live c =
    let none = free (now c.args.mesh.now) c.as_slice.result.now c.args.verts.now None c.as_slice.ensures
    c.in-None.ensures refl in
    let same : c.in_ok-verts-in-None.verts ≡ c.args.verts.now =
    search rules in
    subst (λ (vs : List VertName). All (λ (v : VertName). IsThere (now c.args.mesh.now).verts v.0) vs)
    (sym same) (list_live (now c.args.mesh.now) c.args.verts.now none)

pub returns-in_ok-verts-in-None : goal.returns-in_ok-verts-in-None
returns-in_ok-verts-in-None c =
    let none = free (now c.args.mesh.now) c.as_slice.result.now c.args.verts.now None c.as_slice.ensures
    c.in-None.ensures refl in
    let same : c.in_ok-verts-in-None.verts ≡ c.args.verts.now =
    search rules in
    listed (λ (vs : List VertName). make_face_row vs (now c.args.mesh.now)) _ c.args.verts.now
    c.in_ok-verts-in-None.verts _ _ _ none same c.make_face.ensures
