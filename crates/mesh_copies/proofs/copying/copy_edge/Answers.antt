use Rattle.std.proofs.Common.{◌≡◌, List, get_or, ap, sym, ◌∙◌, subst, Some}
use Rattle.mesh_model.specs.Table.{at, IsThere}
use Rattle.mesh_model.specs.Kernel.{with_edge_like}
use Rattle.mesh_model.specs.declared.names.VertName.{VertName}
use Rattle.mesh_core.specs.Seen.{now}
use Rattle.mesh_copies.specs.CopyingSteps.{vert_after}
use Rattle.mesh_copies.proofs.Copied.{no_vert}
use Rattle.mesh_copies.proofs.Copyings.{edge_told, edge_made}
use Rattle.mesh_copies.proofs.copying.copy_edge.Goals as goal

pub make_edge-requires-clause-a : goal.make_edge-requires-clause-a
make_edge-requires-clause-a c =
    let it = edge_told (at (now c.args.mesh.now).edges c.args.e.0) c.ends.result c.ends.ensures in
    let a : c.vert_after-from.result ≡ vert_after c.args.next c.args.set.now it.0.a =
    c.vert_after-from.ensures ∙ ap (λ (es : List VertName). vert_after c.args.next c.args.set.now (get_or es 0 no_vert)) it.2 in
    subst (λ (v : VertName). IsThere (now c.args.mesh.now).verts v.0) (sym a) (c.requires.linked it.0 it.1).a

pub make_edge-requires-clause-b : goal.make_edge-requires-clause-b
make_edge-requires-clause-b c =
    let it = edge_told (at (now c.args.mesh.now).edges c.args.e.0) c.ends.result c.ends.ensures in
    let b : c.vert_after-to.result ≡ vert_after c.args.next c.args.set.now it.0.b =
    c.vert_after-to.ensures ∙ ap (λ (es : List VertName). vert_after c.args.next c.args.set.now (get_or es 1 no_vert)) it.2 in
    subst (λ (v : VertName). IsThere (now c.args.mesh.now).verts v.0) (sym b) (c.requires.linked it.0 it.1).b

pub make_edge-requires-clause-differ : goal.make_edge-requires-clause-differ
make_edge-requires-clause-differ c =
    let it = edge_told (at (now c.args.mesh.now).edges c.args.e.0) c.ends.result c.ends.ensures in
    let a : c.vert_after-from.result ≡ vert_after c.args.next c.args.set.now it.0.a =
    c.vert_after-from.ensures ∙ ap (λ (es : List VertName). vert_after c.args.next c.args.set.now (get_or es 0 no_vert)) it.2 in
    let b : c.vert_after-to.result ≡ vert_after c.args.next c.args.set.now it.0.b =
    c.vert_after-to.ensures ∙ ap (λ (es : List VertName). vert_after c.args.next c.args.set.now (get_or es 1 no_vert)) it.2 in
    λ same. (c.requires.linked it.0 it.1).differ
    (ap (λ (v : VertName). v.0) (sym a) ∙ same ∙ ap (λ (v : VertName). v.0) b)

pub returns-clause-now : goal.returns-clause-now
returns-clause-now c =
    let it = edge_told (at (now c.args.mesh.now).edges c.args.e.0) c.ends.result c.ends.ensures in
    let copy = vert_after c.args.next c.args.set.now in
    let a : c.vert_after-from.result ≡ copy it.0.a = c.vert_after-from.ensures ∙ ap (λ (es : List VertName). vert_after c.args.next c.args.set.now (get_or es 0 no_vert)) it.2 in
    let b : c.vert_after-to.result ≡ copy it.0.b = c.vert_after-to.ensures ∙ ap (λ (es : List VertName). vert_after c.args.next c.args.set.now (get_or es 1 no_vert)) it.2 in
    c.in_ok-make_edge.ensures.now
    ∙ ap (λ (v : VertName). with_edge_like (now c.args.mesh.now) v c.vert_after-to.result (Some c.args.e)) a
    ∙ ap (λ (v : VertName). with_edge_like (now c.args.mesh.now) (copy it.0.a) v (Some c.args.e)) b
    ∙ edge_made copy (now c.args.mesh.now) c.args.e it.0 it.1
