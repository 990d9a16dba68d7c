use Rattle.std.proofs.Common.{◌≡◌, ◌∙◌, ◌++◌, codes, sym, ap, Some, slice_get}
use Rattle.std.specs.Option.{option_map}
use Rattle.obj_writer.specs.Whole.{name_line}
use Rattle.obj_writer.proofs.WritingLemmas.{flat_map_more}
use Rattle.obj_writer.proofs.NameLemmas.{names_all}
use Rattle.obj_writer.proofs.names.library_lines.Goals as goal

pub loop-k-preserved : goal.loop-k-preserved
loop-k-preserved g c =
    let names = (g.S.Shape.complex c.args.shape.now).libraries in
    let here : slice_get names c.loop-k.k ≡ Some c.in-Some.name.now =
    sym c.library.ensures ∙ ap (option_map (λ n. n.now)) c.in-Some.is in
    flat_map_more (name_line (codes "mtllib")) names c.loop-k.k c.in-Some.name.now _ _ here c.loop-k.invariant
    (c.in_ok-extend_from_slice-in-Some.ensures.items
    ∙ ap (λ t. c.loop-k.out.items ++ t) (c.deref.ensures.value ∙ c.in_ok-line-in-Some.ensures))

pub returns-in-None : goal.returns-in-None
returns-in-None g c =
    let names = (g.S.Shape.complex c.args.shape.now).libraries in
    names_all (name_line (codes "mtllib")) names c.loop-k.k _
    (sym c.library.ensures ∙ ap (option_map (λ n. n.now)) c.in-None.is) c.loop-k.invariant
