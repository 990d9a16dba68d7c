use Rattle.link_ring.proofs.Members.{member_of}
use Rattle.mesh_cycles.specs.Found.{loops_around, is_corner_at}
use Rattle.mesh_cycles.proofs.Around.{loops_once}
use Rattle.mesh_cycles.proofs.Faces.{faces_once, faces_all}
use Rattle.mesh_cycles.proofs.around_vert.faces_of_vert.Goals as goal

pub returns-clause-once : goal.returns-clause-once
returns-clause-once c =
    let st = c.args.st.now in faces_once st (is_corner_at st c.args.v.0) (loops_around st c.args.v.0)
    (loops_once st c.requires.cycles c.args.v.0)

pub returns-clause-all : goal.returns-clause-all
returns-clause-all c = let st = c.args.st.now in faces_all st c.requires.cycles (is_corner_at st c.args.v.0)
    (loops_around st c.args.v.0)

pub returns-clause-ready : goal.returns-clause-ready
returns-clause-ready c = record {
  cycles = c.requires.cycles;
  vert = c.requires.live;
  loops = c.loops_of_vert.ensures.ready;
  among = λ l h. member_of l h c.loops_of_vert.ensures.items;
}
