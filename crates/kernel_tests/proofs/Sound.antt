-- Cycles hold, and lengths are right: through each edit, and as elements come.
use Rattle.std.proofs.Common.{◌≡◌, ◌≢◌, ◌<◌, ℕ, ℤ, List, [], Option, Some, None, length, ap, ◌∙◌, sym}
use Rattle.std.specs.Prelude.{slice_set}
use Rattle.std.specs.Option.{option_map}
use Rattle.raw_pool.specs.declared.pool.Slot.{Slot}
use Rattle.mesh_store.specs.Slots.{at}
use Rattle.mesh_store.specs.Stored.{Stored, new_vert, new_edge, new_loop, new_face, with_face_len, change_face}
use Rattle.mesh_store.specs.declared.cells.Dart.{Dart}
use Rattle.mesh_store.specs.declared.cells.Radial.{Radial}
use Rattle.mesh_store.specs.declared.cells.Round.{Round}
use Rattle.mesh_store.specs.declared.cells.FaceCell.{FaceCell}
use Rattle.mesh_store.proofs.Places.{unwritten}
use Rattle.mesh_cycles.specs.Owners.{end_on, len_of}
use Rattle.mesh_cycles.specs.Adds.{AddsVert, AddsEdge, AddsLoop, AddsFace, SameCycles}
use Rattle.mesh_cycles.specs.Edits.{EditsDisk, EditsRadial, EditsRound}
use Rattle.mesh_cycles.specs.Cycles.{AreCycles}
use Rattle.mesh_cycles.proofs.Besides.{disk_lens, radial_lens, round_lens}
use Rattle.mesh_cycles.proofs.Completeness.{AreCountedBut, counted_same, counted_but}
use Rattle.mesh_cycles.proofs.Counts.{len_beside}
use Rattle.mesh_cycles.proofs.Elements.{face_len_written}
use Rattle.kernel_tests.specs.Sound.{IsSound}

-- ---- a cycle changes

pub sound_disk : {old new : Stored} {v : ℕ} {touched now : List Dart} → EditsDisk old new v touched now → IsSound old
    → IsSound new
sound_disk {old} {new} {v} e s = record {
  cycles = e.cycles;
  counted = counted_same old new (disk_lens old new v e.rest) e.rounds s.counted;
}

pub sound_radial : {old new : Stored} {e : ℕ} {touched now : List Radial} → EditsRadial old new e touched now
    → IsSound old → IsSound new
sound_radial {old} {new} {e} d s = record {
  cycles = d.cycles;
  counted = counted_same old new (radial_lens old new e d.rest) d.rounds s.counted;
}

-- where only the face's own length was wrong, all are right then
pub sound_mended : {old new : Stored} {f : ℕ} {touched now : List Round} → EditsRound old new f touched now
    → AreCountedBut f old → IsSound new
sound_mended {old} {new} {f} e c = record {
  cycles = e.cycles;
  counted = counted_but old new f (round_lens old new f e.rest) e.others e.len c;
}

pub sound_round : {old new : Stored} {f : ℕ} {touched now : List Round} → EditsRound old new f touched now → IsSound old
    → IsSound new
sound_round e s = sound_mended e (λ g n ne is. s.counted g n is)

-- any length is written
pub misstated : (old new : Stored) (f : Slot) (to : ℕ) → new ≡ change_face (with_face_len to) old f.0 → IsSound old
    → AreCountedBut f.0 new
misstated old new f to is s g n ne e =
    let same = face_len_written old new f s.cycles to is in
    s.counted g n (sym (round_lens old new f.0 (len_beside old new f.0 to is) g ne) ∙ e)
    ∙ ap length (sym (same.rounds g))

-- ---- an element comes

-- where no face changes
pub sound_same : (old new : Stored) → new.faces ≡ old.faces → SameCycles old new → IsSound old → IsSound new
sound_same old new faces same s = record {
  cycles = same.cycles;
  counted = counted_same old new (λ f. ap (λ t. option_map (λ (c : FaceCell). c.len) (at t.cells f)) faces) same.rounds
      s.counted;
}

-- a face with no loop comes
pub sound_face : (old new : Stored) (s : Slot) (name : ℕ) → AddsFace old new s (new_face name)
    → new.faces.cells ≡ slice_set old.faces.cells s.0 (Some (new_face name)) → IsSound old → IsSound new
sound_face old new s name a adds h =
    let len = λ (o : Option FaceCell). option_map (λ (c : FaceCell). c.len) o in
    record {
      cycles = a.same.cycles;
      counted = counted_but old new s.0
          (λ g ne. ap len (ap (λ (xs : List (Option FaceCell)). at xs g) adds
          ∙ unwritten old.faces.cells s.0 g (Some (new_face name)) ne))
          (λ g ne. a.same.rounds g) (ap len a.there ∙ ap (λ (ls : List Round). Some (length ls)) (sym a.empty))
          (λ g n ne e. h.counted g n e);
    }
