use Rattle.std.proofs.Common.{sym, ap, ◌∙◌, inr}
use Rattle.std.specs.List.{filter}
use Rattle.raw_pool.specs.declared.pool.Slot.{Slot}
use Rattle.link_ring.proofs.Members.{member_of}
use Rattle.mesh_cycles.specs.Found.{stands_at, loops_along}
use Rattle.mesh_cycles.specs.Left.{edges_around_left}
use Rattle.mesh_cycles.specs.Around.{standing_left}
use Rattle.mesh_cycles.proofs.Mapped.{next_joined}
use Rattle.mesh_cycles.proofs.Around.{along_live}
use Rattle.mesh_cycles.proofs.around_vert.LoopsOfVertIterator.next.Goals as goal

-- the walk goes on to the loops of the next edge
pub edges-preserved : goal.edges-preserved
edges-preserved c =
    let st = c.edges.self.st.now in
    let ready = c.edges.invariant.ready in
    let test = stands_at st c.edges.self.vert.0 in
    record {
      ready = record {
        cycles = ready.cycles;
        edges = c.in_ok-e.ensures.goes.keeps;
        live_edges = λ e h. ready.live_edges e (member_of e (inr h) (sym c.in_ok-e.ensures.steps));
        loops = c.loops_of_edge-self.ensures.ready;
        live_loops = λ l h. along_live st ready.cycles c.in_ok-e.e.0 l
            (member_of l h c.loops_of_edge-self.ensures.items);
      };
      same =
          next_joined (λ (e : Slot). filter test (loops_along st e.0)) c.in_ok-e.e
          (standing_left st c.edges.self.vert.0 c.edges.self.loops)
          (standing_left st c.edges.self.vert.0 c.loops_of_edge-self.result) (edges_around_left c.edges.self.edges)
          (edges_around_left c.next.new.self)
          c.in_default.ensures.gives.0 c.in_ok-e.ensures.steps (ap (filter test) c.loops_of_edge-self.ensures.items)
          ∙ c.edges.invariant.same;
    }
