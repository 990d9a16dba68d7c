use Rattle.std.proofs.Common.{◌<◌, ◌^◌, ◌+◌, length, subst, sym}
use Rattle.std.specs.Prelude.{slice_index}
use Rattle.mesh_store.specs.Stored.{Stored}
use Rattle.mesh_store.specs.Room.{WidensStore}
use Rattle.mesh_store.proofs.Growth.{cells_same, pool_same, rows_same, grown_length}
use Rattle.mesh_store.proofs.store.Store.reserve.Goals as goal

-- vertices have room, or some of it
pub returns-in_err-widen_named-clause-widens : goal.returns-in_err-widen_named-clause-widens
returns-in_err-widen_named-clause-widens c =
    let st : Stored = record {
      verts = c.self.inside.verts;
      edges = c.self.inside.edges;
      loops = c.self.inside.loops;
      faces = c.self.inside.faces;
      values = c.self.inside.values;
    } in
    let new : Stored = record {
      verts = c.widen_named.new.pool;
      edges = c.self.inside.edges;
      loops = c.self.inside.loops;
      faces = c.self.inside.faces;
      values = record {
        verts = c.widen_named.new.values;
        edges = c.self.inside.values.edges;
        loops = c.self.inside.values.loops;
        faces = c.self.inside.values.faces;
      };
    } in
    subst (λ (t : Stored). WidensStore t new c.args.verts c.args.edges c.args.corners c.args.faces 1024 c.args.reach)
    c.self.view_is (record {
      verts = c.widen_named.ensures.widens;
      edges = pool_same st.edges c.args.edges 1024 (slice_index c.args.reach 1);
      loops = cells_same st.loops c.args.corners 1024;
      faces = pool_same st.faces c.args.faces 1024 (slice_index c.args.reach 2);
      vert_rows = c.widen_named.ensures.new_rows;
      edge_rows = rows_same st.values.edges _;
      loop_rows = rows_same st.values.loops _;
      face_rows = rows_same st.values.faces _;
    })

-- edges too
pub returns-in_err-widen_named-2-clause-widens : goal.returns-in_err-widen_named-2-clause-widens
returns-in_err-widen_named-2-clause-widens c =
    let st : Stored = record {
      verts = c.self.inside.verts;
      edges = c.self.inside.edges;
      loops = c.self.inside.loops;
      faces = c.self.inside.faces;
      values = c.self.inside.values;
    } in
    let new : Stored = record {
      verts = c.widen_named.new.pool;
      edges = c.widen_named-2.new.pool;
      loops = c.self.inside.loops;
      faces = c.self.inside.faces;
      values = record {
        verts = c.widen_named.new.values;
        edges = c.widen_named-2.new.values;
        loops = c.self.inside.values.loops;
        faces = c.self.inside.values.faces;
      };
    } in
    subst (λ (t : Stored). WidensStore t new c.args.verts c.args.edges c.args.corners c.args.faces 1024 c.args.reach)
    c.self.view_is (record {
      verts = c.widen_named.ensures.widens;
      edges = c.widen_named-2.ensures.widens;
      loops = cells_same st.loops c.args.corners 1024;
      faces = pool_same st.faces c.args.faces 1024 (slice_index c.args.reach 2);
      vert_rows = c.widen_named.ensures.new_rows;
      edge_rows = c.widen_named-2.ensures.new_rows;
      loop_rows = rows_same st.values.loops _;
      face_rows = rows_same st.values.faces _;
    })

-- and loops
pub returns-in_err-widen-clause-widens : goal.returns-in_err-widen-clause-widens
returns-in_err-widen-clause-widens c =
    let st : Stored = record {
      verts = c.self.inside.verts;
      edges = c.self.inside.edges;
      loops = c.self.inside.loops;
      faces = c.self.inside.faces;
      values = c.self.inside.values;
    } in
    let new : Stored = record {
      verts = c.widen_named.new.pool;
      edges = c.widen_named-2.new.pool;
      loops = c.widen.new.pool;
      faces = c.self.inside.faces;
      values = record {
        verts = c.widen_named.new.values;
        edges = c.widen_named-2.new.values;
        loops = c.widen.new.values;
        faces = c.self.inside.values.faces;
      };
    } in
    subst (λ (t : Stored). WidensStore t new c.args.verts c.args.edges c.args.corners c.args.faces 1024 c.args.reach)
    c.self.view_is (record {
      verts = c.widen_named.ensures.widens;
      edges = c.widen_named-2.ensures.widens;
      loops = c.widen.ensures.widens;
      faces = pool_same st.faces c.args.faces 1024 (slice_index c.args.reach 2);
      vert_rows = c.widen_named.ensures.new_rows;
      edge_rows = c.widen_named-2.ensures.new_rows;
      loop_rows = c.widen.ensures.new_rows;
      face_rows = rows_same st.values.faces _;
    })

-- all have room
pub invariant_of-self-2 : goal.invariant_of-self-2
invariant_of-self-2 c =
    let room : length c.self.inside.loops + c.args.corners + 1024 < 2 ^ 32 =
    subst (λ (t : Stored). length t.loops + c.args.corners + 1024 < 2 ^ 32) (sym c.self.view_is) c.requires.corners
    in
    record {
      verts = c.widen_named.ensures.rows;
      edges = c.widen_named-2.ensures.rows;
      loops = c.widen.ensures.rows;
      faces = c.widen_named-3.ensures.rows;
      few = grown_length c.self.inside.loops c.widen.new.pool c.args.corners 1024 c.widen.ensures.widens.grows
          c.widen.ensures.widens.enough room;
    }
