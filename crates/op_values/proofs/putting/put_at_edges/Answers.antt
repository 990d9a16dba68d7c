use Rattle.std.proofs.Common.{◌+◌, ◌≤◌, ℕ, length, take, get_or, refl, ap, sym, subst, ◌∙◌}
use Rattle.mesh_model.specs.Complex.{Complex, width}
use Rattle.mesh_model.specs.declared.names.Kind.TheVariants.{Edges}
use Rattle.mesh_model.specs.declared.names.EdgeName.{EdgeName}
use Rattle.mesh_core.specs.Seen.{now}
use Rattle.mesh_passes.proofs.Steps.{edge_in, stepped}
use Rattle.op_values.specs.Putting.{put_from, edge_put, edges_put}
use Rattle.op_values.proofs.Puttings.{edges_put-none, edges_put-more, edges_put-live, edges_put-width}
use Rattle.op_values.proofs.putting.put_at_edges.Goals as goal

abbrev none : EdgeName
none = record { 0 = 0 }

pub loop-e-init : goal.loop-e-init
loop-e-init c = record {
  now = sym (edges_put-none (put_from c.args.from c.args.numbers.now) (now c.args.mesh.now));
  base = refl;
}

pub put_at_edge-requires-clause-there : goal.put_at_edge-requires-clause-there
put_at_edge-requires-clause-there c =
    let f = put_from c.args.from c.args.numbers.now in
    edge_in (now c.loop-e.mesh) (edges_put f (now c.args.mesh.now) (take c.loop-e.e-index c.args.edges.now))
    (get_or c.args.edges.now c.loop-e.e-index none).0 c.loop-e.invariant.now
    (edges_put-live f (now c.args.mesh.now) c.args.edges.now c.loop-e.e-index none c.requires.rising c.loop-e-test.true
    (c.requires.live c.loop-e.e-index none c.loop-e-test.true))

pub put_at_edge-requires-clause-fits : goal.put_at_edge-requires-clause-fits
put_at_edge-requires-clause-fits c =
    let f = put_from c.args.from c.args.numbers.now in
    subst (λ (w : ℕ). c.args.from + length c.args.numbers.now ≤ w)
    (sym (ap (λ (x : Complex). width x Edges) c.loop-e.invariant.now
    ∙ edges_put-width f (now c.args.mesh.now) (take c.loop-e.e-index c.args.edges.now))) c.requires.fits

pub loop-e-preserved : goal.loop-e-preserved
loop-e-preserved c =
    let f = put_from c.args.from c.args.numbers.now in record {
      now = stepped (edge_put f) (get_or c.args.edges.now c.loop-e.e-index none) (now c.loop-e.mesh) _
          (edges_put f (now c.args.mesh.now) (take c.loop-e.e-index c.args.edges.now)) _ c.in_ok-put_at_edge.ensures.now
          c.loop-e.invariant.now
          (edges_put-more f (now c.args.mesh.now) c.args.edges.now c.loop-e.e-index none c.requires.rising
          c.loop-e-test.true);
      base = c.put_at_edge.ensures.base ∙ c.loop-e.invariant.base;
    }
