use Rattle.std.proofs.Common.{ap}
use Rattle.mesh_model.specs.Complex.{Complex}
use Rattle.mesh_core.proofs.Layers.{only_its_layers, with_verts, with_edges, with_corners, with_faces}
use Rattle.mesh_core.proofs.mesh.Mesh.layered_of.Goals as goal

pub load_layers-requires-clause-none : goal.load_layers-requires-clause-none
load_layers-requires-clause-none c = ap (λ (x : Complex). x.layers.verts) c.new-made.ensures.empty

pub load_layers-requires-clause-bare : goal.load_layers-requires-clause-bare
load_layers-requires-clause-bare c = only_its_layers _ _ c.new-made.ensures.empty

pub load_layers-requires-2-clause-none : goal.load_layers-requires-2-clause-none
load_layers-requires-2-clause-none c =
    let ls = c.args.draft.now.layers in
    let one = with_verts _ _ ls.verts c.new-made.ensures.empty c.in_ok-load_layers.ensures in
    ap (λ (x : Complex). x.layers.edges) one

pub load_layers-requires-2-clause-bare : goal.load_layers-requires-2-clause-bare
load_layers-requires-2-clause-bare c =
    let ls = c.args.draft.now.layers in
    let one = with_verts _ _ ls.verts c.new-made.ensures.empty c.in_ok-load_layers.ensures in
    only_its_layers _ _ one

pub load_layers-requires-3-clause-none : goal.load_layers-requires-3-clause-none
load_layers-requires-3-clause-none c =
    let ls = c.args.draft.now.layers in
    let one = with_verts _ _ ls.verts c.new-made.ensures.empty c.in_ok-load_layers.ensures in
    let two = with_edges _ _ ls.verts ls.edges one c.in_ok-load_layers-2.ensures in
    ap (λ (x : Complex). x.layers.corners) two

pub load_layers-requires-3-clause-bare : goal.load_layers-requires-3-clause-bare
load_layers-requires-3-clause-bare c =
    let ls = c.args.draft.now.layers in
    let one = with_verts _ _ ls.verts c.new-made.ensures.empty c.in_ok-load_layers.ensures in
    let two = with_edges _ _ ls.verts ls.edges one c.in_ok-load_layers-2.ensures in
    only_its_layers _ _ two

pub load_layers-requires-4-clause-none : goal.load_layers-requires-4-clause-none
load_layers-requires-4-clause-none c =
    let ls = c.args.draft.now.layers in
    let one = with_verts _ _ ls.verts c.new-made.ensures.empty c.in_ok-load_layers.ensures in
    let two = with_edges _ _ ls.verts ls.edges one c.in_ok-load_layers-2.ensures in
    let three = with_corners _ _ ls.verts ls.edges ls.corners two c.in_ok-load_layers-3.ensures in
    ap (λ (x : Complex). x.layers.faces) three

pub load_layers-requires-4-clause-bare : goal.load_layers-requires-4-clause-bare
load_layers-requires-4-clause-bare c =
    let ls = c.args.draft.now.layers in
    let one = with_verts _ _ ls.verts c.new-made.ensures.empty c.in_ok-load_layers.ensures in
    let two = with_edges _ _ ls.verts ls.edges one c.in_ok-load_layers-2.ensures in
    let three = with_corners _ _ ls.verts ls.edges ls.corners two c.in_ok-load_layers-3.ensures in
    only_its_layers _ _ three

pub returns : goal.returns
returns c =
    let ls = c.args.draft.now.layers in
    let one = with_verts _ _ ls.verts c.new-made.ensures.empty c.in_ok-load_layers.ensures in
    let two = with_edges _ _ ls.verts ls.edges one c.in_ok-load_layers-2.ensures in
    let three = with_corners _ _ ls.verts ls.edges ls.corners two c.in_ok-load_layers-3.ensures in
    with_faces _ _ ls three c.in_ok-load_layers-4.ensures
