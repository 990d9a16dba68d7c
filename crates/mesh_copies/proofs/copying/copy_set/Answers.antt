use Rattle.std.proofs.Common.{ap, sym, subst, ◌∙◌}
use Rattle.mesh_model.specs.Valid.{IsSound, IsWithinLimits}
use Rattle.mesh_model.specs.declared.limits.TheConstants.{MAX_EDGES, MAX_FACES}
use Rattle.mesh_model.specs.declared.records.Counters.{Counters}
use Rattle.mesh_core.specs.Seen.{now}
use Rattle.mesh_copies.specs.CopyingSteps.{slots_after}
use Rattle.mesh_copies.proofs.Copied.{IsSound-copies}
use Rattle.mesh_copies.proofs.Wholes.{after_verts, after_edges, after_faces, edges_live_then, edges_linked_then}
use Rattle.mesh_copies.proofs.Wholes.{edges_limit_then, faces_live_then, faces_linked_then, faces_limit_then, corners_then}
use Rattle.mesh_copies.proofs.copying.copy_set.Goals as goal

pub copy_edges-requires-clause-live : goal.copy_edges-requires-clause-live
copy_edges-requires-clause-live c = edges_live_then (now c.args.mesh.now) (now c.copy_verts.new.mesh) c.args.set.now c.edges.result.now
    (after_verts (now c.args.mesh.now) (now c.copy_verts.new.mesh) c.args.set.now c.verts.result.now c.in_ok-copy_verts.ensures.now c.verts.ensures.names)
    c.edges.ensures.names c.requires.live

pub copy_edges-requires-clause-linked : goal.copy_edges-requires-clause-linked
copy_edges-requires-clause-linked c = edges_linked_then (now c.args.mesh.now) (now c.copy_verts.new.mesh) c.args.set.now c.counters-next.result c.edges.result.now
    (after_verts (now c.args.mesh.now) (now c.copy_verts.new.mesh) c.args.set.now c.verts.result.now c.in_ok-copy_verts.ensures.now c.verts.ensures.names)
    c.counters-next.ensures.counters c.edges.ensures.names c.requires.valid c.requires.closed

pub copy_edges-requires-clause-limit : goal.copy_edges-requires-clause-limit
copy_edges-requires-clause-limit c = edges_limit_then (now c.args.mesh.now) (now c.copy_verts.new.mesh) c.args.set.now c.edges.result.now MAX_EDGES
    (after_verts (now c.args.mesh.now) (now c.copy_verts.new.mesh) c.args.set.now c.verts.result.now c.in_ok-copy_verts.ensures.now c.verts.ensures.names)
    c.edges.ensures.names c.requires.names.edges

pub copy_faces-requires-clause-live : goal.copy_faces-requires-clause-live
copy_faces-requires-clause-live c = faces_live_then (now c.args.mesh.now) (now c.copy_edges.new.mesh) c.args.set.now c.faces.result.now
    (after_edges (now c.args.mesh.now) (now c.copy_verts.new.mesh) (now c.copy_edges.new.mesh) c.args.set.now c.counters-next.result c.edges.result.now c.in_ok-copy_edges.ensures.now
    (after_verts (now c.args.mesh.now) (now c.copy_verts.new.mesh) c.args.set.now c.verts.result.now c.in_ok-copy_verts.ensures.now c.verts.ensures.names) c.counters-next.ensures.counters c.edges.ensures.names)
    c.faces.ensures.names c.requires.live

pub copy_faces-requires-clause-linked : goal.copy_faces-requires-clause-linked
copy_faces-requires-clause-linked c = faces_linked_then (now c.args.mesh.now) (now c.copy_edges.new.mesh) c.args.set.now c.counters-next.result c.faces.result.now
    (after_edges (now c.args.mesh.now) (now c.copy_verts.new.mesh) (now c.copy_edges.new.mesh) c.args.set.now c.counters-next.result c.edges.result.now c.in_ok-copy_edges.ensures.now
    (after_verts (now c.args.mesh.now) (now c.copy_verts.new.mesh) c.args.set.now c.verts.result.now c.in_ok-copy_verts.ensures.now c.verts.ensures.names) c.counters-next.ensures.counters c.edges.ensures.names)
    c.counters-next.ensures.counters c.faces.ensures.names c.requires.valid c.requires.closed

pub copy_faces-requires-clause-limit : goal.copy_faces-requires-clause-limit
copy_faces-requires-clause-limit c = faces_limit_then (now c.args.mesh.now) (now c.copy_edges.new.mesh) c.args.set.now c.faces.result.now MAX_FACES
    (after_edges (now c.args.mesh.now) (now c.copy_verts.new.mesh) (now c.copy_edges.new.mesh) c.args.set.now c.counters-next.result c.edges.result.now c.in_ok-copy_edges.ensures.now
    (after_verts (now c.args.mesh.now) (now c.copy_verts.new.mesh) c.args.set.now c.verts.result.now c.in_ok-copy_verts.ensures.now c.verts.ensures.names) c.counters-next.ensures.counters c.edges.ensures.names)
    c.faces.ensures.names c.requires.names.faces

pub copy_faces-requires-clause-few : goal.copy_faces-requires-clause-few
copy_faces-requires-clause-few c = corners_then (now c.args.mesh.now) (now c.copy_edges.new.mesh) c.args.set.now c.faces.result.now _
    (after_edges (now c.args.mesh.now) (now c.copy_verts.new.mesh) (now c.copy_edges.new.mesh) c.args.set.now c.counters-next.result c.edges.result.now c.in_ok-copy_edges.ensures.now
    (after_verts (now c.args.mesh.now) (now c.copy_verts.new.mesh) c.args.set.now c.verts.result.now c.in_ok-copy_verts.ensures.now c.verts.ensures.names) c.counters-next.ensures.counters c.edges.ensures.names)
    c.faces.ensures.names c.requires.few

pub returns-clause-now : goal.returns-clause-now
returns-clause-now c = after_faces (now c.args.mesh.now) (now c.copy_edges.new.mesh) (now c.copy_faces.new.mesh) c.args.set.now c.counters-next.result c.faces.result.now c.in_ok-copy_faces.ensures.now
    (after_edges (now c.args.mesh.now) (now c.copy_verts.new.mesh) (now c.copy_edges.new.mesh) c.args.set.now c.counters-next.result c.edges.result.now c.in_ok-copy_edges.ensures.now
    (after_verts (now c.args.mesh.now) (now c.copy_verts.new.mesh) c.args.set.now c.verts.result.now c.in_ok-copy_verts.ensures.now c.verts.ensures.names) c.counters-next.ensures.counters c.edges.ensures.names) c.counters-next.ensures.counters c.faces.ensures.names

pub returns-clause-slots : goal.returns-clause-slots
returns-clause-slots c = c.in_ok-slots.ensures ∙ ap (λ (k : Counters). slots_after k c.args.set.now) c.counters-next.ensures.counters

pub returns-clause-sound : goal.returns-clause-sound
returns-clause-sound c = λ sound limits. let is = after_faces (now c.args.mesh.now) (now c.copy_edges.new.mesh) (now c.copy_faces.new.mesh) c.args.set.now c.counters-next.result c.faces.result.now c.in_ok-copy_faces.ensures.now
    (after_edges (now c.args.mesh.now) (now c.copy_verts.new.mesh) (now c.copy_edges.new.mesh) c.args.set.now c.counters-next.result c.edges.result.now c.in_ok-copy_edges.ensures.now
    (after_verts (now c.args.mesh.now) (now c.copy_verts.new.mesh) c.args.set.now c.verts.result.now c.in_ok-copy_verts.ensures.now c.verts.ensures.names) c.counters-next.ensures.counters c.edges.ensures.names) c.counters-next.ensures.counters c.faces.ensures.names in
    subst IsSound (sym is) (IsSound-copies (now c.args.mesh.now) c.args.set.now sound c.requires.closed (subst IsWithinLimits is limits))

pub returns-clause-base : goal.returns-clause-base
returns-clause-base c = c.copy_faces.ensures.base ∙ c.copy_edges.ensures.base ∙ c.copy_verts.ensures.base
