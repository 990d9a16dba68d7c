use Rattle.std.proofs.Common.{◌≡◌, ◌≤◌, ◌<◌, ◌+◌, ◌-◌, ◌∙◌, ◌∷◌, [], ◌||◌, ℤ, Bool, List, length, get_or, take, drop}
use Rattle.std.proofs.Common.{eqb, ap, sym, subst, arith, rules}
use Rattle.std.specs.List.{flat_map}
use Rattle.std.specs.Option.{option_map}
use Rattle.std.proofs.lemmas.Option.{get_or_from_slice_get}
use Rattle.std.proofs.lemmas.List.{length-map, length-append}
use Rattle.mesh_model.specs.Table.{at, IsThere}
use Rattle.mesh_model.specs.Columns.{EdgeTable}
use Rattle.mesh_model.specs.Complex.{Complex, corners_of}
use Rattle.mesh_model.specs.declared.names.VertName.{VertName}
use Rattle.mesh_model.specs.declared.names.EdgeName.{EdgeName}
use Rattle.mesh_model.specs.declared.records.CornerRec.{CornerRec}
use Rattle.mesh_model.proofs.Reading.{wide-linked, take_more_get, pieces-more, pieces-within}
use Rattle.mesh_model.proofs.Copies.{pair, wide-found, corner-piece, corner-at, side-at, used-next, open-further}
use Rattle.mesh_model.proofs.Copies.{used-twice}
use Rattle.mesh_model.proofs.copying.push_corners.Goals as goal

pub overflow_add-from : goal.overflow_add-from
overflow_add-from g c =
    let whole : Complex = g.S.Shape.complex c.args.shape.now in
    let corners = corners_of (at whole.faces c.args.f.0) in
    let i = c.loop-side.side-index in
    let less : i < length corners = omega (arith, ap length c.requires.sides, length-map corners pair) in
    let k = corner-at corners i less in
    let wide : length (k.0).vals ≡ c.width-width.result =
    wide-found _ corners i k.0 (wide-linked whole c.args.f.0 c.requires.linked c.requires.there) k.1
    ∙ sym c.width-width.ensures in
    let within = pieces-within (λ (x : CornerRec). x.vals) corners i (k.0).vals
    (ap (option_map (λ (x : CornerRec). x.vals)) k.1) in
    let fits : c.loop-side.from + c.width-width.result ≤ length c.args.numbers.now =
    omega (arith, c.loop-side.invariant.from, ap length c.requires.numbers) in
    omega arith

pub slice_bounds-push_corner-end : goal.slice_bounds-push_corner-end
slice_bounds-push_corner-end g c =
    let whole : Complex = g.S.Shape.complex c.args.shape.now in
    let corners = corners_of (at whole.faces c.args.f.0) in
    let i = c.loop-side.side-index in
    let less : i < length corners = omega (arith, ap length c.requires.sides, length-map corners pair) in
    let k = corner-at corners i less in
    let wide : length (k.0).vals ≡ c.width-width.result =
    wide-found _ corners i k.0 (wide-linked whole c.args.f.0 c.requires.linked c.requires.there) k.1
    ∙ sym c.width-width.ensures in
    let within = pieces-within (λ (x : CornerRec). x.vals) corners i (k.0).vals
    (ap (option_map (λ (x : CornerRec). x.vals)) k.1) in
    let fits : c.loop-side.from + c.width-width.result ≤ length c.args.numbers.now =
    omega (arith, c.loop-side.invariant.from, ap length c.requires.numbers) in
    search rules

pub offset_bounds-numbers-from : goal.offset_bounds-numbers-from
offset_bounds-numbers-from g c =
    let whole : Complex = g.S.Shape.complex c.args.shape.now in
    let corners = corners_of (at whole.faces c.args.f.0) in
    let i = c.loop-side.side-index in
    let less : i < length corners = omega (arith, ap length c.requires.sides, length-map corners pair) in
    let k = corner-at corners i less in
    let wide : length (k.0).vals ≡ c.width-width.result =
    wide-found _ corners i k.0 (wide-linked whole c.args.f.0 c.requires.linked c.requires.there) k.1
    ∙ sym c.width-width.ensures in
    let within = pieces-within (λ (x : CornerRec). x.vals) corners i (k.0).vals
    (ap (option_map (λ (x : CornerRec). x.vals)) k.1) in
    let fits : c.loop-side.from + c.width-width.result ≤ length c.args.numbers.now =
    omega (arith, c.loop-side.invariant.from, ap length c.requires.numbers) in
    search rules

pub mark_used-requires : goal.mark_used-requires
mark_used-requires g c =
    let whole : Complex = g.S.Shape.complex c.args.shape.now in
    let corners = corners_of (at whole.faces c.args.f.0) in
    let i = c.loop-side.side-index in
    let less : i < length corners = omega (arith, ap length c.requires.sides, length-map corners pair) in
    let k = corner-at corners i less in
    let d : VertName × EdgeName = (record { 0 = 0 }, record { 0 = 0 }) in
    let side : get_or c.args.sides.now i d ≡ pair k.0 =
    ap (λ (xs : List (VertName × EdgeName)). get_or xs i d) c.requires.sides ∙ side-at corners i k.0 d k.1 in
    let there : IsThere c.args.edges.now.table (k.0).edge.0 =
    subst (λ (x : CornerRec). IsThere c.args.edges.now.table x.edge.0) (get_or_from_slice_get corners i k.0 k.0 k.1)
    (c.requires.along i k.0 less) in
    rw (ap (λ (t : EdgeTable). t.table) c.loop-side.invariant.edges, side) there

pub loop-side-preserved : goal.loop-side-preserved
loop-side-preserved g c =
    let whole : Complex = g.S.Shape.complex c.args.shape.now in
    let corners = corners_of (at whole.faces c.args.f.0) in
    let vals : CornerRec → List ℤ = λ x. x.vals in
    let known = c.loop-side.invariant in
    let i = c.loop-side.side-index in
    let less : i < length corners = omega (arith, ap length c.requires.sides, length-map corners pair) in
    let k = corner-at corners i less in
    let wide : length (k.0).vals ≡ c.width-width.result =
    wide-found _ corners i k.0 (wide-linked whole c.args.f.0 c.requires.linked c.requires.there) k.1
    ∙ sym c.width-width.ensures in
    let d : VertName × EdgeName = (record { 0 = 0 }, record { 0 = 0 }) in
    let side : get_or c.args.sides.now i d ≡ pair k.0 =
    ap (λ (xs : List (VertName × EdgeName)). get_or xs i d) c.requires.sides ∙ side-at corners i k.0 d k.1 in
    let gap : c.loop-side.from + c.width-width.result - c.loop-side.from ≡ c.width-width.result = omega arith in
    let piece : take c.width-width.result (drop c.loop-side.from c.args.numbers.now) ≡ (k.0).vals =
    ap (λ (xs : List ℤ). take c.width-width.result (drop c.loop-side.from xs)) c.requires.numbers
    ∙ corner-piece corners i c.loop-side.from c.width-width.result k.0 k.1 wide known.from in
    let pushed = rw (side, gap, piece) at c.push_corner.ensures in
    let more = pieces-more vals corners i (k.0).vals (ap (option_map vals) k.1) in
    let marked = rw side at c.mark_used.ensures.used in
    record {
      faces = open-further c.push_corner.new.self c.loop-side.faces c.args.faces.now (k.0 ∷ []) (take i corners)
          c.args.faces.now.corner_room i pushed known.faces
          ∙ ap (λ (ks : List CornerRec). record c.args.faces.now {
            «open» = ks;
            corner_room =
                c.args.faces.now.corner_room - (i + 1);
          }) (sym (take_more_get corners i k.0 k.1));
      from = omega (arith, known.from, ap length more, length-append (flat_map vals (take i corners)) (k.0).vals, wide);
      edges = used-twice c.mark_used.new.self c.loop-side.edges c.args.edges.now c.mark_used.ensures.same known.edges;
      used = λ e. marked e.0 ∙ ap (λ (b : Bool). b || eqb (k.0).edge.0 e.0) (known.used e)
          ∙ used-next _ corners i k.0 e k.1;
    }
