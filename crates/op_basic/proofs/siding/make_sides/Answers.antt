use Rattle.std.proofs.Common.{List, take, get_or, ap, ◌∙◌}
use Rattle.std.specs.List.{zip}
use Rattle.std.proofs.lemmas.List.{take_all}
use Rattle.mesh_model.specs.Complex.{Complex}
use Rattle.mesh_model.specs.Incidence.{sides}
use Rattle.mesh_model.specs.Making.{edges_along}
use Rattle.mesh_model.specs.declared.limits.TheConstants.{MAX_EDGES}
use Rattle.mesh_model.specs.declared.names.VertName.{VertName}
use Rattle.mesh_model.specs.declared.names.EdgeName.{EdgeName}
use Rattle.mesh_core.specs.Seen.{now}
use Rattle.op_basic.proofs.SideLoops.{there_along, side_differs, few_more, now_more, corners_more, sides_all}
use Rattle.op_basic.proofs.siding.make_sides.Goals as goal

abbrev none : VertName
none = record { 0 = 0 }

pub edge_between-requires-clause-a : goal.edge_between-requires-clause-a
edge_between-requires-clause-a c =
    there_along (now c.args.mesh.now) (now c.loop-i.mesh) (take c.loop-i.i (sides c.args.verts.now))
    (get_or c.args.verts.now c.loop-i.i none).0 c.loop-i.invariant.made
    (c.requires.live c.loop-i.i none c.loop-i-test.true)

pub edge_between-requires-clause-b : goal.edge_between-requires-clause-b
edge_between-requires-clause-b c =
    there_along (now c.args.mesh.now) (now c.loop-i.mesh) (take c.loop-i.i (sides c.args.verts.now))
    (get_or c.args.verts.now c.next_place-next.result none).0 c.loop-i.invariant.made
    (c.requires.live c.next_place-next.result none c.next_place-next.ensures.within)

pub edge_between-requires-clause-differ : goal.edge_between-requires-clause-differ
edge_between-requires-clause-differ c =
    side_differs c.args.verts.now c.loop-i.i c.next_place-next.result c.requires.least c.requires.distinct
    c.loop-i-test.true c.next_place-next.ensures.next

pub edge_between-requires-clause-limit : goal.edge_between-requires-clause-limit
edge_between-requires-clause-limit c =
    few_more (now c.args.mesh.now) (now c.loop-i.mesh) c.args.verts.now c.loop-i.i c.next_place-next.result
    c.loop-i-test.true c.next_place-next.ensures.next c.loop-i.invariant.made MAX_EDGES c.requires.limit

pub loop-i-preserved : goal.loop-i-preserved
loop-i-preserved c = record {
  made = now_more (now c.args.mesh.now) (now c.loop-i.mesh) c.args.verts.now c.loop-i.i c.next_place-next.result
      c.loop-i-test.true c.next_place-next.ensures.next c.loop-i.invariant.made _ c.in_ok-edge.ensures.now;
  corners = corners_more (now c.args.mesh.now) (now c.loop-i.mesh) c.args.verts.now c.loop-i.i c.next_place-next.result
      c.loop-i-test.true c.next_place-next.ensures.next c.loop-i.invariant.made c.loop-i.corners.items _ _
      c.loop-i.invariant.corners c.in_ok-edge.ensures.name c.in_ok-push.ensures.items;
  base = c.edge_between.ensures.base ∙ c.loop-i.invariant.base;
}

pub returns-clause-now : goal.returns-clause-now
returns-clause-now c = c.loop-i.invariant.made
    ∙ ap (λ (p : Complex × List EdgeName). p.0)
    (sides_all (now c.args.mesh.now) c.args.verts.now c.loop-i.i c.loop-i-test.false)

pub returns-clause-corners : goal.returns-clause-corners
returns-clause-corners c = c.loop-i.invariant.corners
    ∙ ap (λ (ws : List VertName).
    zip ws (edges_along (now c.args.mesh.now) (take c.loop-i.i (sides c.args.verts.now))).1)
    (take_all c.loop-i.i c.args.verts.now c.loop-i-test.false)
    ∙ ap (λ (p : Complex × List EdgeName). zip c.args.verts.now p.1)
    (sides_all (now c.args.mesh.now) c.args.verts.now c.loop-i.i c.loop-i-test.false)
