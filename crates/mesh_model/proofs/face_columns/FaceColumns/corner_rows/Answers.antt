use Rattle.std.proofs.Common.{◌≡◌, ◌<◌, ◌≤◌, ◌+◌, ◌-◌, ◌∙◌, ◌++◌, ℤ, List, Option, Some, length, take, ap, sym, arith}
use Rattle.std.proofs.Common.{rules}
use Rattle.std.specs.List.{flat_map, slice_get}
use Rattle.std.specs.Option.{option_map}
use Rattle.std.proofs.lemmas.List.{length-append}
use Rattle.mesh_model.specs.Table.{at}
use Rattle.mesh_model.specs.Complex.{corners_of}
use Rattle.mesh_model.specs.Columns.{row_at, start_of}
use Rattle.mesh_model.specs.declared.records.CornerRec.{CornerRec}
use Rattle.mesh_model.proofs.FlatFaces.{vals-corner, wide-corner}
use Rattle.mesh_model.proofs.Reading.{pieces-more, pieces-within, take-put}
use Rattle.mesh_model.proofs.face_columns.FaceColumns.corner_rows.Goals as goal

some_same : {x y : List ℤ} → ◌≡◌ {A = Option (List ℤ)} (Some x) (Some y) → x ≡ y
some_same h = cc

-- the next row fits
room : (c : goal.In-loop-i) → c.loop-i.from + c.total-width.result ≤ length c.loop-i.into
room c =
    let old = c.self.inside in
    let corners : List CornerRec = corners_of (at c.args.self.now.table c.args.name) in
    let inside : c.loop-i.i < length corners = omega (arith, c.corner_count-i-end.ensures) in
    let row : List ℤ = row_at old.corner_values.rows (start_of old.ends.items c.args.name + c.loop-i.i) in
    let read : option_map (λ (k : CornerRec). k.vals) (slice_get corners c.loop-i.i) ≡ Some row =
    rw (← c.self.view_is)
    (vals-corner old.ends.items old.sides.items old.corner_values.rows old.values.rows old.count old.corner_count
    c.args.name c.loop-i.i c.self.invariant (rw (← c.self.view_is) at inside)) in
    let wide : length row ≡ c.total-width.result =
    wide-corner old.ends.items old.sides.items old.corner_values.rows old.values.rows old.count old.corner_count
    c.args.name c.loop-i.i _ c.self.invariant c.total-width.ensures.fitted (rw (← c.self.view_is) at inside)
    ∙ sym c.total-width.ensures.total in
    let within = pieces-within (λ (k : CornerRec). k.vals) corners c.loop-i.i row read in
    omega (arith, c.loop-i.invariant.from, c.requires.room, c.loop-i.auto.into)

pub overflow_add-from : goal.overflow_add-from
overflow_add-from c = let fits = room c in omega arith

pub slice_bounds-corner_row-end : goal.slice_bounds-corner_row-end
slice_bounds-corner_row-end c = let fits = room c in search rules

pub loop-i-preserved : goal.loop-i-preserved
loop-i-preserved c =
    let old = c.self.inside in
    let corners : List CornerRec = corners_of (at c.args.self.now.table c.args.name) in
    let vals : CornerRec → List ℤ = λ k. k.vals in
    let inside : c.loop-i.i < length corners = omega (arith, c.corner_count-i-end.ensures) in
    let row : List ℤ = row_at old.corner_values.rows (start_of old.ends.items c.args.name + c.loop-i.i) in
    let read : option_map vals (slice_get corners c.loop-i.i) ≡ Some row =
    rw (← c.self.view_is)
    (vals-corner old.ends.items old.sides.items old.corner_values.rows old.values.rows old.count old.corner_count
    c.args.name c.loop-i.i c.self.invariant (rw (← c.self.view_is) at inside)) in
    let same : c.corner_row.new.into ≡ row = some_same (sym c.corner_row.ensures ∙ read) in
    let wide : length row ≡ c.total-width.result =
    wide-corner old.ends.items old.sides.items old.corner_values.rows old.values.rows old.count old.corner_count
    c.args.name c.loop-i.i _ c.self.invariant c.total-width.ensures.fitted (rw (← c.self.view_is) at inside)
    ∙ sym c.total-width.ensures.total in
    let long : length c.corner_row.new.into ≡ c.total-width.result = ap length same ∙ wide in
    let within = pieces-within vals corners c.loop-i.i row read in
    let more = pieces-more vals corners c.loop-i.i c.corner_row.new.into c.corner_row.ensures in
    let fits : c.loop-i.from + c.total-width.result ≤ length c.loop-i.into =
    omega (arith, c.loop-i.invariant.from, c.requires.room, c.loop-i.auto.into) in
    let gap : c.loop-i.from + c.total-width.result - c.loop-i.from ≡ c.total-width.result = omega arith in
    record {
      from = omega (
        arith,
        ap length more,
        length-append (flat_map vals (take c.loop-i.i corners)) c.corner_row.new.into,
        c.loop-i.invariant.from,
        long,
      );
      rows = rw gap (take-put c.loop-i.from c.total-width.result c.loop-i.into c.corner_row.new.into long fits)
          ∙ ap (λ (r : List ℤ). r ++ c.corner_row.new.into) c.loop-i.invariant.rows ∙ sym more;
    }
