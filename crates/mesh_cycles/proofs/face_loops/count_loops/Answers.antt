use Rattle.std.proofs.Common.{◌≡◌, ℕ, length, ap, ◌∙◌}
use Rattle.std.proofs.lemmas.List.{length-map}
use Rattle.std.proofs.lemmas.Iterator.Consumers.{count_from_yields_List, YieldsList-from_first}
use Rattle.mesh_store.specs.Stored.{with_face_len, change_face}
use Rattle.mesh_store.specs.declared.cells.Round.{Round}
use Rattle.mesh_cycles.specs.Cycles.{round_of}
use Rattle.mesh_cycles.specs.Found.{loops_in}
use Rattle.mesh_cycles.specs.Left.{loops_in_left}
use Rattle.mesh_cycles.proofs.face_loops.count_loops.Goals as goal

pub returns : goal.returns
returns c =
    let st = c.args.st.now in
    let f = c.args.f.0 in
    let counted : c.count-count.result ≡ length (loops_in st f) =
    count_from_yields_List c.corners_of_face.result _ c.count-count.ensures.ran
    (YieldsList-from_first (λ l. l) loops_in_left (loops_in st f) c.corners_of_face.ensures.items) in
    let same : length (loops_in st f) ≡ length (round_of st f) = length-map (round_of st f) (λ (l : Round). l.0) in
    c.set_face_len.ensures ∙ ap (λ (n : ℕ). change_face (with_face_len n) st f) (counted ∙ same)
