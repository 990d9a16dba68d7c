use Rattle.mesh_cycles.proofs.Around.{edge_live, loops_once, around_live}
use Rattle.link_ring.proofs.Members.{member_of}
use Rattle.mesh_cycles.proofs.Faces.{all_corners}
use Rattle.mesh_cycles.proofs.around_vert.loops_of_vert.Goals as goal

pub returns-clause-once : goal.returns-clause-once
returns-clause-once c = loops_once c.args.st.now c.requires.cycles c.args.v.0

pub returns-clause-all : goal.returns-clause-all
returns-clause-all c = all_corners c.args.st.now c.requires.cycles c.args.v.0

pub returns-clause-ready : goal.returns-clause-ready
returns-clause-ready c = record {
  cycles = c.requires.cycles;
  edges = c.edges_of_vert.ensures.ready;
  live_edges = λ e h. edge_live c.args.st.now c.requires.cycles c.args.v.0 e
      (member_of e h c.edges_of_vert.ensures.items);
  loops = c.no_loops.ensures.ready;
  live_loops = λ l h. absurd (member_of l h c.no_loops.ensures.none);
}

pub returns-clause-live : goal.returns-clause-live
returns-clause-live c = around_live c.args.st.now c.requires.cycles c.args.v.0
