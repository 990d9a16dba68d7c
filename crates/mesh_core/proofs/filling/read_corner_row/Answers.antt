use Rattle.std.proofs.Common.{◌+◌, ℤ, List, Some, length, set, take, refl, sym, ap, ◌∙◌, arith, w64, rules, FitsSigned}
use Rattle.std.specs.List.{slice_get}
use Rattle.std.specs.Option.{option_map}
use Rattle.std.proofs.lemmas.Int.{to_z-of_z}
use Rattle.std.proofs.lemmas.List.{length-set, take_all, take_more_set}
use Rattle.mesh_model.specs.Table.{at}
use Rattle.mesh_model.specs.Complex.{corners_of, width}
use Rattle.mesh_model.specs.declared.names.Kind.TheVariants.{Corners}
use Rattle.mesh_model.specs.declared.records.CornerRec.{CornerRec}
use Rattle.mesh_model.proofs.Copies.{corner-at, told-more, told-all}
use Rattle.mesh_core.proofs.Loaded.{corner_within}
use Rattle.mesh_core.proofs.filling.read_corner_row.Goals as goal

pub loop-k-init : goal.loop-k-init
loop-k-init c =
    let corner = corner-at (corners_of (at c.args.draft.now.faces c.args.f.0)) c.args.i c.requires.within in
    record { long = refl; told = ap (option_map (λ (r : CornerRec). take 0 r.vals)) corner.1 }

pub loop-k-preserved : goal.loop-k-preserved
loop-k-preserved c =
    let inv = c.loop-k.invariant in
    let long = inv.long in
    let corners = corners_of (at c.args.draft.now.faces c.args.f.0) in
    let more = told-more (λ (r : CornerRec). r.vals) (slice_get corners c.args.i) c.loop-k.k
    (take c.loop-k.k c.loop-k.into) c.corner_value.result c.corner_value.ensures inv.told in
    let fits : FitsSigned w64 c.corner_value.result = search rules in
    let same = to_z-of_z w64 c.corner_value.result fits in
    record {
      long = ap (λ (x : ℤ). length (set c.loop-k.into c.loop-k.k x)) same
          ∙ length-set c.loop-k.into c.loop-k.k c.corner_value.result ∙ long;
      told = more ∙ ap (λ (xs : List ℤ). Some xs)
          (sym (take_more_set c.loop-k.into c.loop-k.k c.corner_value.result (omega arith)))
          ∙ ap (λ (x : ℤ). Some (take (c.loop-k.k + 1) (set c.loop-k.into c.loop-k.k x))) (sym same);
    }

pub returns : goal.returns
returns c =
    let inv = c.loop-k.invariant in
    let long = inv.long in
    let d = c.args.draft.now in
    let corners = corners_of (at d.faces c.args.f.0) in
    let wide = c.requires.wide in
    told-all (λ (r : CornerRec). r.vals) (slice_get corners c.args.i) c.loop-k.k (width d Corners)
    (take c.loop-k.k c.loop-k.into)
    (λ r is. (corner_within d c.args.f.0 c.requires.linked c.args.i r is).vals) (omega arith) inv.told
    ∙ ap (λ (xs : List ℤ). Some xs) (take_all c.loop-k.k c.loop-k.into (omega arith))
