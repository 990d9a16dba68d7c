use Rattle.std.proofs.Common.{◌∙◌, sym, ap, map}
use Rattle.indexmap.specs.IndexSet.{insert_all}
use Rattle.mesh_model.specs.Table.{at}
use Rattle.obj_writer.specs.Whole.{same_uv, uv_of}
use Rattle.obj_writer.proofs.PlaceLemmas.{none_there}
use Rattle.obj_writer.proofs.places.add_entry.Goals as goal

pub returns-then-not-has : goal.returns-then-not-has
returns-then-not-has g c =
    let whole = g.S.Shape.complex c.args.shape.now in
    ap (λ ks. insert_all same_uv c.args.found.now.keys (map (uv_of whole) ks))
    (sym (none_there (at whole.faces c.args.f.0) (sym c.has.ensures ∙ c.if-not-has.true)))
