use Rattle.std.proofs.Common.{◌≡◌, ◌<◌, ◌∙◌, ◌∷◌, [], ◌++◌, ◌||◌, Bool, List, Option, length, ap, sym, arith}
use Rattle.std.specs.List.{list_any}
use Rattle.mesh_model.specs.Table.{passes, table_of}
use Rattle.mesh_model.specs.NameSet.{is_in}
use Rattle.mesh_model.specs.Columns.{EdgeTable}
use Rattle.mesh_model.specs.Complex.{Complex, corner_sum}
use Rattle.mesh_model.specs.Incidence.{uses_edge}
use Rattle.mesh_model.specs.Copying.{face_left}
use Rattle.mesh_model.specs.declared.records.Counters.{Counters}
use Rattle.mesh_model.specs.declared.records.FaceRec.{FaceRec}
use Rattle.mesh_model.proofs.Tables.{length-table_of, table_of-more}
use Rattle.mesh_model.proofs.CornerSums.{corner_sum-append}
use Rattle.mesh_model.proofs.Copies.{left-sum, used-twice, any-more}
use Rattle.mesh_model.proofs.copying.faces_of.Goals as goal

pub push_face-requires-clause-along : goal.push_face-requires-clause-along
push_face-requires-clause-along g c =
    rw (ap (λ (t : EdgeTable). t.table) c.loop-n.invariant.edges) (c.requires.along c.loop-n.n)

pub push_face-requires-clause-fits : goal.push_face-requires-clause-fits
push_face-requires-clause-fits g c =
    let long : length c.loop-n.faces.table ≡ c.loop-n.n = ap length c.loop-n.invariant.table
    ∙ length-table_of _ c.loop-n.n in
    omega arith

pub push_face-requires-clause-corner_room : goal.push_face-requires-clause-corner_room
push_face-requires-clause-corner_room g c =
    let whole : Complex = g.S.Shape.complex c.args.shape.now in
    let less : c.loop-n.n < length whole.faces =
    omega (arith, ap (λ (k : Counters). k.faces) c.counters-counters.ensures.counters) in
    omega (
      arith,
      left-sum c.args.gone.now whole c.loop-n.n less,
      ap corner_sum c.loop-n.invariant.table,
      c.loop-n.invariant.corner_room,
    )

pub push_face-requires-clause-corners_fit : goal.push_face-requires-clause-corners_fit
push_face-requires-clause-corners_fit g c =
    let whole : Complex = g.S.Shape.complex c.args.shape.now in
    let less : c.loop-n.n < length whole.faces =
    omega (arith, ap (λ (k : Counters). k.faces) c.counters-counters.ensures.counters) in
    let all : c.counters-counters.result.corners ≡ corner_sum whole.faces =
    ap (λ (k : Counters). k.corners) c.counters-counters.ensures.counters in
    let few : c.counters-counters.result.corners < 4294967296 = c.counters-counters.type_inv.1.1.1.1.1.0.1 in
    omega (arith, left-sum c.args.gone.now whole c.loop-n.n less, ap corner_sum c.loop-n.invariant.table)

pub loop-n-preserved : goal.loop-n-preserved
loop-n-preserved g c =
    let whole : Complex = g.S.Shape.complex c.args.shape.now in
    let f = face_left c.args.gone.now whole in
    let known = c.loop-n.invariant in
    let pushed = c.in_ok-push_face.ensures in
    let left = f c.loop-n.n in
    record {
      table = pushed.table ∙ ap (λ (t : List (Option FaceRec)). t ++ left ∷ []) known.table
          ∙ sym (table_of-more f c.loop-n.n);
      closed = pushed.closed;
      layers = pushed.layers ∙ known.layers;
      corner_layers = pushed.corner_layers ∙ known.corner_layers;
      room = omega (arith, pushed.room, known.room);
      corner_room = omega (
        arith,
        pushed.corner_room,
        known.corner_room,
        ap corner_sum pushed.table,
        corner_sum-append c.loop-n.faces.table (left ∷ []),
      );
      edges = used-twice c.push_face.new.edges c.loop-n.edges c.args.edges.now pushed.edges known.edges;
      used = λ e. pushed.used e ∙ ap (λ (b : Bool). b || passes (uses_edge e) left) (known.used e)
          ∙ any-more (passes (uses_edge e)) (is_in c.args.edges.now.used e.0) c.loop-n.faces.table left
          ∙ ap (λ (t : List (Option FaceRec)). is_in c.args.edges.now.used e.0 || list_any (passes (uses_edge e)) t)
          (sym pushed.table);
    }

pub returns-clause-table : goal.returns-clause-table
returns-clause-table g c =
    let whole : Complex = g.S.Shape.complex c.args.shape.now in
    let all : c.loop-n.n ≡ length whole.faces =
    omega (arith, ap (λ (k : Counters). k.faces) c.counters-counters.ensures.counters) in
    c.loop-n.invariant.table ∙ ap (λ n. table_of (face_left c.args.gone.now whole) n) all
