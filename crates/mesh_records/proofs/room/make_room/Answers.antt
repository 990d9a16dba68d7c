use Rattle.mesh_records.proofs.Frames.{widened, has_room}
use Rattle.mesh_records.proofs.Places.{keeps_widened}
use Rattle.mesh_records.proofs.room.make_room.Goals as goal

pub returns-clause-stays : goal.returns-clause-stays
returns-clause-stays c =
    let a = c.args in
    widened a.st.now c.reserve-made.new.self a.next a.verts a.edges a.corners a.faces _ c.requires.whole
    c.reserve-made.ensures.widens
    (record {
      verts = c.requires.verts;
      edges = c.requires.edges;
      corners = c.requires.corners;
      faces = c.requires.faces;
    }) c.places.ensures.rows

pub returns-clause-enough : goal.returns-clause-enough
returns-clause-enough c = λ h. (c.reserve-made.ensures.enough
    (has_room c.args.st.now c.args.next _ c.requires.whole.sizes h)).0

pub returns-clause-places : goal.returns-clause-places
returns-clause-places c = keeps_widened _ _ _ _ _ _ _ _ c.reserve-made.ensures.widens
