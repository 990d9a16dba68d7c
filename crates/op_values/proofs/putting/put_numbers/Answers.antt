use Rattle.std.proofs.Common.{◌≡◌, sym, ap, subst, ◌∙◌}
use Rattle.mesh_model.specs.Valid.{IsSound}
use Rattle.mesh_model.specs.declared.names.Kind.{Kind}
use Rattle.mesh_core.specs.Seen.{now}
use Rattle.mesh_passes.proofs.Steps.{on_ok}
use Rattle.op_values.specs.Putting.{AreAllowed, put_from, verts_put, edges_put, faces_put, all_corners_put}
use Rattle.op_values.proofs.SoundRows.{IsSound-verts_put, IsSound-edges_put, IsSound-faces_put, IsSound-all_corners_put}
use Rattle.op_values.proofs.putting.put_numbers.Goals as goal

pub returns-in-Verts-clause-sound : goal.returns-in-Verts-clause-sound
returns-in-Verts-clause-sound c =
    let f = put_from c.args.from c.args.numbers.now in
    let whole = now c.args.mesh.now in
    on_ok c.put_at_verts.result (now c.put_at_verts.new.mesh ≡ verts_put f whole c.verts.result.now) _
    (λ e. subst IsSound (sym (e ∙ ap (verts_put f whole) c.verts.ensures.names))
    (IsSound-verts_put f whole c.args.geom.now.verts c.verts.ensures.rising c.requires.live.verts
    (subst (λ (k : Kind). AreAllowed f k whole) c.in-Verts.is c.requires.allowed) c.requires.sound))
    c.put_at_verts.ensures.now

pub returns-in-Edges-clause-sound : goal.returns-in-Edges-clause-sound
returns-in-Edges-clause-sound c =
    let f = put_from c.args.from c.args.numbers.now in
    let whole = now c.args.mesh.now in
    on_ok c.put_at_edges.result (now c.put_at_edges.new.mesh ≡ edges_put f whole c.edges.result.now) _
    (λ e. subst IsSound (sym (e ∙ ap (edges_put f whole) c.edges.ensures.names))
    (IsSound-edges_put f whole c.args.geom.now.edges c.edges.ensures.rising c.requires.live.edges
    (subst (λ (k : Kind). AreAllowed f k whole) c.in-Edges.is c.requires.allowed) c.requires.sound))
    c.put_at_edges.ensures.now

pub returns-in-Corners-clause-sound : goal.returns-in-Corners-clause-sound
returns-in-Corners-clause-sound c =
    let f = put_from c.args.from c.args.numbers.now in
    let whole = now c.args.mesh.now in
    on_ok c.put_at_corners.result (now c.put_at_corners.new.mesh ≡ all_corners_put f whole c.faces.result.now) _
    (λ e. subst IsSound (sym (e ∙ ap (all_corners_put f whole) c.faces.ensures.names))
    (IsSound-all_corners_put f whole c.args.geom.now.faces c.faces.ensures.rising c.requires.live.faces
    (subst (λ (k : Kind). AreAllowed f k whole) c.in-Corners.is c.requires.allowed) c.requires.sound))
    c.put_at_corners.ensures.now

pub returns-in-Faces-clause-sound : goal.returns-in-Faces-clause-sound
returns-in-Faces-clause-sound c =
    let f = put_from c.args.from c.args.numbers.now in
    let whole = now c.args.mesh.now in
    on_ok c.put_at_faces.result (now c.put_at_faces.new.mesh ≡ faces_put f whole c.faces-in-Faces.result.now) _
    (λ e. subst IsSound (sym (e ∙ ap (faces_put f whole) c.faces-in-Faces.ensures.names))
    (IsSound-faces_put f whole c.args.geom.now.faces c.faces-in-Faces.ensures.rising c.requires.live.faces
    (subst (λ (k : Kind). AreAllowed f k whole) c.in-Faces.is c.requires.allowed) c.requires.sound))
    c.put_at_faces.ensures.now
