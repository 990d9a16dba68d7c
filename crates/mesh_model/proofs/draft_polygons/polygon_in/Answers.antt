use Rattle.std.proofs.Common.{◌≡◌, ◌∙◌, ◌<◌, ◌||◌, ◌++◌, ◌∷◌, [], Bool, List, length, get_or, ap, eqb, arith}
use Rattle.std.proofs.lemmas.List.{length-append}
use Rattle.std.proofs.lemmas.Grind.{common_steps}
use Rattle.std.proofs.lemmas.List.Elements.{All-push}
use Rattle.cust_data.specs.Layers.{total}
use Rattle.mesh_model.specs.Complex.{uv_layer}
use Rattle.mesh_model.specs.Values.{row_given}
use Rattle.mesh_model.specs.Columns.{FaceTable}
use Rattle.mesh_model.specs.Draft.{edge_in, turned}
use Rattle.mesh_model.specs.declared.draft.DraftCorner.{DraftCorner}
use Rattle.mesh_model.specs.declared.records.CornerRec.{CornerRec}
use Rattle.mesh_model.proofs.Polygons.{after}
use Rattle.mesh_model.proofs.MadePolygons.{few-edge_in, length-turned_corners, turned-at, corners_in-more}
use Rattle.mesh_model.proofs.MadePolygons.{corners_in-all, used-more, open-twice}
use Rattle.mesh_model.proofs.draft_polygons.polygon_in.Goals as goal
use Rattle.mesh_model.proofs.draft_polygons.polygon_in.Goals.{then-i-corners, else-i-corners}

pub loop-i-preserved : goal.loop-i-preserved
loop-i-preserved c =
    let known = c.loop-i.invariant in
    let d : DraftCorner = record { vert = record { 0 = 0 }; uv = [] } in
    let corners : List DraftCorner = c.args.corners.now in
    let i = c.loop-i.i in
    let within : i < length corners = c.loop-i-test.true in
    let next : after (length corners) i ≡ c.if-i-corners.next =
    elim c.if-i-corners.branch [
      | then-i-corners w ↦ grind (arith, common_steps)
      | else-i-corners w ↦ grind (
        arith,
        common_steps,
      )
    ] in
    let less : c.if-i-corners.next < length corners =
    elim c.if-i-corners.branch [ then-i-corners w ↦ omega arith | else-i-corners w ↦ omega arith ] in
    let k : DraftCorner = get_or corners i d in
    let beside = turned-at corners i c.if-i-corners.next d within next less in
    let layers = c.args.edges.now.layers in
    let corner_layers = c.args.faces.now.corner_layers in
    let same : c.loop-i.faces.corner_layers ≡ corner_layers = ap (λ (f : FaceTable). f.corner_layers) known.faces in
    let side = edge_in layers c.loop-i.edges.table k.vert (get_or corners c.if-i-corners.next d).vert in
    let corner : CornerRec =
    record { vert = k.vert; edge = side.1; vals = row_given ((uv_layer, k.uv) ∷ []) corner_layers } in
    let made : c.side_in.new.edges.table ≡ side.0 = rw known.layers at c.side_in.ensures.edges in
    let opened : c.side_in.new.faces.open ≡ c.loop-i.faces.open ++ corner ∷ [] =
    ap (λ (f : FaceTable). f.open) (rw (known.layers, same) at c.side_in.ensures.faces) in
    record {
      told = rw opened (corners_in-more layers corner_layers c.loop-i.edges.table c.side_in.new.edges.table
          c.loop-i.faces.open (turned corners) i k d _ _ (omega (arith, length-turned_corners corners))
          beside made known.told);
      layers = c.side_in.ensures.layers ∙ known.layers;
      used = λ e. (rw known.layers at (c.side_in.ensures.used e))
          ∙ ap (λ (b : Bool). b || eqb side.1.0 e.0) (known.used e)
          ∙ rw opened (used-more _ c.loop-i.faces.open corner e);
      faces = open-twice c.side_in.new.faces c.loop-i.faces c.args.faces.now _ _ c.side_in.ensures.faces known.faces;
      wide = rw opened (All-push (λ (x : CornerRec). length x.vals ≡ total corner_layers)
          c.loop-i.faces.open corner known.wide (rw same at c.side_in.ensures.wide));
      long = omega (arith, ap length opened, length-append c.loop-i.faces.open (corner ∷ []), known.long);
      few = omega (
        arith,
        ap length made,
        few-edge_in layers c.loop-i.edges.table k.vert (get_or corners c.if-i-corners.next d).vert,
        known.few,
      );
      room = omega (arith, c.side_in.ensures.room, known.room);
      index_room = omega (arith, c.side_in.ensures.index_room, known.index_room);
      corner_room = omega (arith, ap (λ (f : FaceTable). f.corner_room) c.side_in.ensures.faces, known.corner_room);
      knows = c.side_in.ensures.knows;
      known = c.side_in.ensures.known;
    }

pub returns-clause-told : goal.returns-clause-told
returns-clause-told c =
    corners_in-all c.args.edges.now.layers c.args.faces.now.corner_layers c.loop-i.edges.table c.loop-i.faces.open
    (turned c.args.corners.now) c.loop-i.i _ (omega (arith, length-turned_corners c.args.corners.now))
    c.loop-i.invariant.told
