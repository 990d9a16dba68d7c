use Rattle.std.proofs.Common.{◌≡◌, ℕ, Option, Some, None, is_some, ap, ◌∙◌, sym, [], ◌∷◌}
use Rattle.std.specs.Option.{option_map}
use Rattle.std.proofs.lemmas.Bool.{false≢true}
use Rattle.mesh_store.specs.Limits.{is_dart}
use Rattle.mesh_store.specs.Slots.{at}
use Rattle.mesh_store.specs.Stored.{Stored}
use Rattle.mesh_store.specs.declared.cells.EdgeCell.{EdgeCell}
use Rattle.mesh_store.specs.declared.cells.FaceCell.{FaceCell}
use Rattle.mesh_cycles.proofs.Elements.{empty_cycles, at_grown, room_made}
use Rattle.kernel_tests.proofs.cycles.sample.empty.Goals as goal

pub returns : goal.returns
returns c =
    let old = c.new-st.result in
    let new = c.reserve.new.self in
    let n = c.args.count in
    let is = c.new-st.ensures in
    let w = c.in_ok-reserve.ensures.widens in
    let no_edge : (e : ℕ) → at new.edges.cells e ≡ None =
    λ e. at_grown w.edges.cells.grows e ∙ ap (λ (t : Stored). at t.edges.cells e) is in
    let no_face : (f : ℕ) → at new.faces.cells f ≡ None =
    λ f. at_grown w.faces.cells.grows f ∙ ap (λ (t : Stored). at t.faces.cells f) is in (
      record {
        cycles = (room_made old new n n n n 1024 (n ∷ n ∷ n ∷ []) (empty_cycles old is) w).cycles;
        counted = λ f m e. absurd (let q : None ≡ Some m =
            sym (ap (option_map (λ (x : FaceCell). x.len)) (no_face f)) ∙ e in cc);
      },
      λ v d live ends. absurd (false≢true (sym (ap (λ (o : Option EdgeCell). is_some o) (no_edge d.edge.0))
          ∙ (is_dart new d live).0)),
    )
