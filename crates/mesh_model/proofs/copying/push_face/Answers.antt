use Rattle.std.proofs.Common.{◌∙◌, ◌∷◌, [], ◌++◌, ◌||◌, Bool, List, Option, length, ap, sym, subst, refl, arith}
use Rattle.std.specs.List.{All, list_any}
use Rattle.std.proofs.Math.Bool.{or-false}
use Rattle.mesh_model.specs.Table.{at, IsThere, passes}
use Rattle.mesh_model.specs.NameSet.{is_in}
use Rattle.mesh_model.specs.Columns.{FaceTable}
use Rattle.mesh_model.specs.Complex.{Complex, corners_of}
use Rattle.mesh_model.specs.Incidence.{uses_edge}
use Rattle.mesh_model.specs.declared.names.VertName.{VertName}
use Rattle.mesh_model.specs.declared.names.EdgeName.{EdgeName}
use Rattle.mesh_model.specs.declared.records.CornerRec.{CornerRec}
use Rattle.mesh_model.specs.declared.records.FaceRec.{FaceRec}
use Rattle.mesh_model.proofs.Tables.{stands}
use Rattle.mesh_model.proofs.Copies.{left-none, left-same, face-again, uses-corners}
use Rattle.mesh_model.proofs.copying.push_face.Goals as goal

pub returns-then-has_end_in-clause-table : goal.returns-then-has_end_in-clause-table
returns-then-has_end_in-clause-table g c =
    let whole : Complex = g.S.Shape.complex c.args.shape.now in
    let gone : List Bool = c.args.gone.now in
    let sides = c.deref.ensures.value ∙ c.in_ok-read_corners.ensures.sides in
    let none = left-none gone (at whole.faces c.args.f.0)
    (ap (list_any (λ (s : VertName × EdgeName). is_in gone s.0.0)) (sym sides) ∙ sym c.has_end_in.ensures
    ∙ c.if-has_end_in.true) in
    ap (λ (t : FaceTable). t.table) c.skip-then-has_end_in.ensures
    ∙ ap (λ (o : Option FaceRec). c.args.faces.now.table ++ o ∷ []) (sym none)

pub returns-then-has_end_in-clause-used : goal.returns-then-has_end_in-clause-used
returns-then-has_end_in-clause-used g c =
    let whole : Complex = g.S.Shape.complex c.args.shape.now in
    let gone : List Bool = c.args.gone.now in
    let sides = c.deref.ensures.value ∙ c.in_ok-read_corners.ensures.sides in
    let none = left-none gone (at whole.faces c.args.f.0)
    (ap (list_any (λ (s : VertName × EdgeName). is_in gone s.0.0)) (sym sides) ∙ sym c.has_end_in.ensures
    ∙ c.if-has_end_in.true) in
    λ e. sym (ap (λ (o : Option FaceRec). is_in c.args.edges.now.used e.0 || passes (uses_edge e) o) none
    ∙ or-false (is_in c.args.edges.now.used e.0))

pub push_corners-requires-clause-along : goal.push_corners-requires-clause-along
push_corners-requires-clause-along g c =
    let whole : Complex = g.S.Shape.complex c.args.shape.now in
    let gone : List Bool = c.args.gone.now in
    let sides = c.deref.ensures.value ∙ c.in_ok-read_corners.ensures.sides in
    let left = left-same gone (at whole.faces c.args.f.0)
    (ap (list_any (λ (s : VertName × EdgeName). is_in gone s.0.0)) (sym sides) ∙ sym c.has_end_in.ensures
    ∙ c.if-has_end_in.false) in
    let it = stands (at whole.faces c.args.f.0) (sym c.has.ensures ∙ c.if-not-has.false) in
    let P : Option FaceRec
    → Type 0 = λ o. All (λ (k : CornerRec). IsThere c.args.edges.now.table k.edge.0) (corners_of o) in
    subst P (sym it.1) (c.requires.along it.0 (left ∙ it.1))

pub push_corners-requires-clause-corner_room : goal.push_corners-requires-clause-corner_room
push_corners-requires-clause-corner_room g c =
    let whole : Complex = g.S.Shape.complex c.args.shape.now in
    let gone : List Bool = c.args.gone.now in
    let sides = c.deref.ensures.value ∙ c.in_ok-read_corners.ensures.sides in
    let left = left-same gone (at whole.faces c.args.f.0)
    (ap (list_any (λ (s : VertName × EdgeName). is_in gone s.0.0)) (sym sides) ∙ sym c.has_end_in.ensures
    ∙ c.if-has_end_in.false) in
    let same = ap (λ (o : Option FaceRec). length (corners_of o)) left in
    omega (arith, same, c.requires.corner_room)

pub push_corners-requires-clause-corners_fit : goal.push_corners-requires-clause-corners_fit
push_corners-requires-clause-corners_fit g c =
    let whole : Complex = g.S.Shape.complex c.args.shape.now in
    let gone : List Bool = c.args.gone.now in
    let sides = c.deref.ensures.value ∙ c.in_ok-read_corners.ensures.sides in
    let left = left-same gone (at whole.faces c.args.f.0)
    (ap (list_any (λ (s : VertName × EdgeName). is_in gone s.0.0)) (sym sides) ∙ sym c.has_end_in.ensures
    ∙ c.if-has_end_in.false) in
    let same = ap (λ (o : Option FaceRec). length (corners_of o)) left in
    omega (arith, same, c.requires.corners_fit)

pub returns-clause-table : goal.returns-clause-table
returns-clause-table g c =
    let whole : Complex = g.S.Shape.complex c.args.shape.now in
    let gone : List Bool = c.args.gone.now in
    let sides = c.deref.ensures.value ∙ c.in_ok-read_corners.ensures.sides in
    let left = left-same gone (at whole.faces c.args.f.0)
    (ap (list_any (λ (s : VertName × EdgeName). is_in gone s.0.0)) (sym sides) ∙ sym c.has_end_in.ensures
    ∙ c.if-has_end_in.false) in
    let again = face-again (at whole.faces c.args.f.0) c.face_row-row.result
    (λ r is. (c.requires.linked.faces c.args.f.0 r is).some) c.face_row-row.ensures in
    ap (λ (t : FaceTable). t.table) c.close.ensures
    ∙ rw (
      c.as_slice.ensures,
      ap (λ (t : FaceTable). t.open) c.push_corners.ensures.faces,
      ap (λ (t : FaceTable). t.table) c.push_corners.ensures.faces,
      again,
      left,
    ) refl

pub returns-clause-corner_room : goal.returns-clause-corner_room
returns-clause-corner_room g c =
    let whole : Complex = g.S.Shape.complex c.args.shape.now in
    let gone : List Bool = c.args.gone.now in
    let sides = c.deref.ensures.value ∙ c.in_ok-read_corners.ensures.sides in
    let left = left-same gone (at whole.faces c.args.f.0)
    (ap (list_any (λ (s : VertName × EdgeName). is_in gone s.0.0)) (sym sides) ∙ sym c.has_end_in.ensures
    ∙ c.if-has_end_in.false) in
    let same = ap (λ (o : Option FaceRec). length (corners_of o)) left in
    omega (
      arith,
      same,
      ap (λ (t : FaceTable). t.corner_room) c.close.ensures,
      ap (λ (t : FaceTable). t.corner_room) c.push_corners.ensures.faces,
    )

pub returns-clause-used : goal.returns-clause-used
returns-clause-used g c =
    let whole : Complex = g.S.Shape.complex c.args.shape.now in
    let gone : List Bool = c.args.gone.now in
    let sides = c.deref.ensures.value ∙ c.in_ok-read_corners.ensures.sides in
    let left = left-same gone (at whole.faces c.args.f.0)
    (ap (list_any (λ (s : VertName × EdgeName). is_in gone s.0.0)) (sym sides) ∙ sym c.has_end_in.ensures
    ∙ c.if-has_end_in.false) in
    λ e. c.push_corners.ensures.used e
    ∙ ap (λ (b : Bool). is_in c.args.edges.now.used e.0 || b) (sym (uses-corners e (at whole.faces c.args.f.0))
    ∙ ap (passes (uses_edge e)) (sym left))
