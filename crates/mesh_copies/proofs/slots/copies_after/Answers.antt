use Rattle.std.proofs.Common.{ℕ, map, refl, ◌∙◌}
use Rattle.mesh_model.specs.declared.names.VertName.{VertName}
use Rattle.mesh_model.specs.declared.names.EdgeName.{EdgeName}
use Rattle.mesh_model.specs.declared.names.FaceName.{FaceName}
use Rattle.mesh_passes.proofs.SetParts.{rising_all}
use Rattle.mesh_copies.specs.CopyingSteps.{vert_after, edge_after, face_after}
use Rattle.mesh_copies.proofs.Cuts.{fresh-all, rising-fresh}
use Rattle.mesh_copies.proofs.slots.copies_after.Goals as goal

abbrev vert : ℕ → VertName
vert n = record { 0 = n }

abbrev edge : ℕ → EdgeName
edge n = record { 0 = n }

abbrev face : ℕ → FaceName
face n = record { 0 = n }

pub of-requires : goal.of-requires
of-requires c =
    let s = c.args.set.now in
    let n = c.args.next in
    rw (
      c.from.ensures,
      c.from-2.ensures,
      c.from-3.ensures,
      c.in_ok-verts.ensures,
      c.in_ok-edges.ensures,
      c.in_ok-faces.ensures,
      c.verts.ensures.names,
      c.edges.ensures.names,
      c.faces.ensures.names,
      fresh-all (λ (v : VertName). v.0) vert n.verts s.verts c.verts.ensures.rising,
      fresh-all (λ (e : EdgeName). e.0) edge n.edges s.edges c.edges.ensures.rising,
      fresh-all (λ (f : FaceName). f.0) face n.faces s.faces c.faces.ensures.rising,
    ) (rising_all (map (vert_after n s) s.verts) (map (edge_after n s) s.edges) (map (face_after n s) s.faces)
    (rising-fresh (λ (v : VertName). v.0) vert (λ k. refl) n.verts s.verts c.verts.ensures.rising)
    (rising-fresh (λ (e : EdgeName). e.0) edge (λ k. refl) n.edges s.edges c.edges.ensures.rising)
    (rising-fresh (λ (f : FaceName). f.0) face (λ k. refl) n.faces s.faces c.faces.ensures.rising))

pub returns : goal.returns
returns c =
    let s = c.args.set.now in
    let n = c.args.next in
    c.of.ensures ∙ rw (
      c.from.ensures,
      c.from-2.ensures,
      c.from-3.ensures,
      c.in_ok-verts.ensures,
      c.in_ok-edges.ensures,
      c.in_ok-faces.ensures,
      c.verts.ensures.names,
      c.edges.ensures.names,
      c.faces.ensures.names,
      fresh-all (λ (v : VertName). v.0) vert n.verts s.verts c.verts.ensures.rising,
      fresh-all (λ (e : EdgeName). e.0) edge n.edges s.edges c.edges.ensures.rising,
      fresh-all (λ (f : FaceName). f.0) face n.faces s.faces c.faces.ensures.rising,
    ) refl
