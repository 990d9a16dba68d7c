use Rattle.std.proofs.Common.{◌≡◌, ◌+◌, [], ◌∷◌, length, take, get_or, ap, ◌∙◌, arith, length-take}
use Rattle.mesh_model.specs.Complex.{Complex}
use Rattle.mesh_model.specs.declared.names.VertName.{VertName}
use Rattle.mesh_core.specs.Seen.{now}
use Rattle.mesh_passes.proofs.Steps.{vert_in, stepped}
use Rattle.mesh_copies.specs.CopyingSteps.{with_vert_copies}
use Rattle.mesh_copies.proofs.Copied.{no_vert}
use Rattle.mesh_copies.proofs.Copyings.{verts_more, verts_live, verts_long}
use Rattle.mesh_copies.proofs.copying.copy_verts.Goals as goal

pub copy_vert-requires-clause-live : goal.copy_vert-requires-clause-live
copy_vert-requires-clause-live c =
    let vs = c.args.verts.now in
    let i = c.loop-v.v-index in
    vert_in (now c.loop-v.mesh) (with_vert_copies (now c.args.mesh.now) (take i vs)) (get_or vs i no_vert).0
    c.loop-v.invariant.now
    (verts_live (now c.args.mesh.now) vs (take i vs) (get_or vs i no_vert)
    (c.requires.live i no_vert c.loop-v-test.true))

pub copy_vert-requires-clause-limit : goal.copy_vert-requires-clause-limit
copy_vert-requires-clause-limit c =
    let vs = c.args.verts.now in
    let i = c.loop-v.v-index in
    let long : length (now c.loop-v.mesh).verts ≡ length (now c.args.mesh.now).verts + length (take i vs) =
    ap (λ (x : Complex). length x.verts) c.loop-v.invariant.now ∙ verts_long (now c.args.mesh.now) (take i vs) in
    omega (arith, long, length-take i vs, c.requires.limit, c.loop-v-test.true)

pub loop-v-preserved : goal.loop-v-preserved
loop-v-preserved c =
    let vs = c.args.verts.now in
    let i = c.loop-v.v-index in record {
      now = stepped (λ (x : Complex) (v : VertName). with_vert_copies x (v ∷ [])) (get_or vs i no_vert)
          (now c.loop-v.mesh) _ (with_vert_copies (now c.args.mesh.now) (take i vs)) _ c.in_ok-copy_vert.ensures.now
          c.loop-v.invariant.now
          (verts_more (now c.args.mesh.now) vs i no_vert c.loop-v-test.true
          (c.requires.live i no_vert c.loop-v-test.true));
      base = c.copy_vert.ensures.base ∙ c.loop-v.invariant.base;
    }
