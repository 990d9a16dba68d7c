use Rattle.link_ring.proofs.Members.{member_of}
use Rattle.mesh_cycles.specs.Found.{loops_along, goes_along}
use Rattle.mesh_cycles.proofs.Around.{along_once}
use Rattle.mesh_cycles.proofs.Faces.{faces_once, faces_all}
use Rattle.mesh_cycles.proofs.along_edge.faces_of_edge.Goals as goal

pub returns-clause-once : goal.returns-clause-once
returns-clause-once c =
    let st = c.args.st.now in faces_once st (goes_along st c.args.e.0) (loops_along st c.args.e.0)
    (along_once st c.requires.cycles c.args.e.0)

pub returns-clause-all : goal.returns-clause-all
returns-clause-all c = let st = c.args.st.now in faces_all st c.requires.cycles (goes_along st c.args.e.0)
    (loops_along st c.args.e.0)

pub returns-clause-ready : goal.returns-clause-ready
returns-clause-ready c = record {
  cycles = c.requires.cycles;
  edge = c.requires.live;
  loops = c.loops_of_edge.ensures.ready;
  among = λ l h. member_of l h c.loops_of_edge.ensures.items;
}
