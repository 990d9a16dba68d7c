-- A face's loops are counted, before a call that asks for the right length.
use Rattle.std.proofs.Common.{◌≡◌, ℕ, List, Option, Some, length, refl, sym, ap, ◌∙◌, subst}
use Rattle.std.specs.Option.{option_map}
use Rattle.raw_pool.specs.declared.pool.Slot.{Slot}
use Rattle.raw_pool.specs.Slots.{holds, IsLive}
use Rattle.link_ring.specs.Ring.{LinkMap}
use Rattle.link_ring.specs.Changes.{SameOutside}
use Rattle.mesh_store.specs.Slots.{at}
use Rattle.mesh_store.specs.Stored.{Stored, round_links, with_face_len, change_face, beside_rounds}
use Rattle.mesh_store.specs.declared.cells.Round.{Round}
use Rattle.mesh_store.specs.declared.cells.FaceCell.{FaceCell}
use Rattle.mesh_cycles.specs.Owners.{face_of}
use Rattle.mesh_cycles.specs.Cycles.{AreCycles, round_of, IsCounted}
use Rattle.mesh_cycles.specs.Edits.{EditsRound, bare_face, beside_round}
use Rattle.mesh_cycles.proofs.Besides.{round_bare}
use Rattle.mesh_cycles.proofs.Cells.{live_cell, changed_here, changed_over}
use Rattle.mesh_cycles.proofs.Elements.{face_len_written}
use Rattle.mesh_cycles.specs.Adds.{SameCycles}

-- a face's length is now the number of its loops, and all else stays
pub record IsRecounted (old new : Stored) (f : ℕ) : Type 0 where
  pub same : SameCycles old new
  pub faces : (l : Slot) → face_of new l ≡ face_of old l
  pub links : round_links new ≡ round_links old
  pub live : IsLive new.faces.cells f
  pub counted : IsCounted new f
  pub rest : beside_round new f ≡ beside_round old f

-- a length is not beside its face's cycle
pub len_beside : (old new : Stored) (f n : ℕ) → new ≡ change_face (with_face_len n) old f
    → beside_round new f ≡ beside_round old f
len_beside old new f n is =
    ap (λ (t : Stored). beside_round t f) is
    ∙ ap (λ (cs : List (Option FaceCell)). beside_rounds (record old
    { faces = record { cells = cs; names = old.faces.names } }))
    (changed_over (with_face_len n) bare_face (λ c. refl) old.faces.cells f)

pub recounted : (old new : Stored) (f : Slot) → AreCycles old → IsLive old.faces.cells f.0
    → new ≡ change_face (with_face_len (length (round_of old f.0))) old f.0 → IsRecounted old new f.0
recounted old new f h live is =
    let n = length (round_of old f.0) in
    let cells = old.faces.cells in
    let same = face_len_written old new f h n is in
    let here : at new.faces.cells f.0 ≡ option_map (with_face_len n) (at cells f.0) =
    ap (λ (t : Stored). at t.faces.cells f.0) is ∙ changed_here (with_face_len n) cells f.0 in
    let cell = live_cell cells f.0 live in
    let there : at new.faces.cells f.0 ≡ Some (with_face_len n cell.0) =
    here ∙ ap (option_map (with_face_len n)) cell.1 in
    record {
      same = same;
      faces = λ l. ap (λ (t : Stored). face_of t l) is;
      links = ap round_links is;
      live = ap (λ (o : Option FaceCell). holds o) there;
      counted = ap (option_map (λ (c : FaceCell). c.len)) there
          ∙ ap (λ (ls : List Round). Some (length ls)) (sym (same.rounds f.0));
      rest = len_beside old new f.0 n is;
    }

-- links that stay after the count stay all through
pub same_through : {old mid : Stored} {f : ℕ} (new : Stored) (ls : List Round → List Round) → IsRecounted old mid f
    → SameOutside (round_links mid) (round_links new) (ls (round_of mid f))
    → SameOutside (round_links old) (round_links new) (ls (round_of old f))
same_through {old} {mid} {f} new ls c o =
    let P = λ (m : LinkMap Round). SameOutside m (round_links new) (ls (round_of old f)) in
    let Q = λ (rs : List Round). SameOutside (round_links mid) (round_links new) (ls rs) in
    subst P c.links (subst Q (c.same.rounds f) o)

-- an edit after the count is one of the store before it
pub edited_through : {old mid : Stored} {f : ℕ} (new : Stored) (touched now : List Round → List Round)
    → IsRecounted old mid f
    → EditsRound mid new f (touched (round_of mid f)) (now (round_of mid f))
    → EditsRound old new f (touched (round_of old f)) (now (round_of old f))
edited_through {old} {mid} {f} new touched now c e = record {
  own = e.own ∙ ap now (c.same.rounds f);
  len = e.len;
  links = same_through new touched c e.links;
  disks = λ v. e.disks v ∙ c.same.disks v;
  radials = λ d. e.radials d ∙ c.same.radials d;
  others = λ g ne. e.others g ne ∙ c.same.rounds g;
  rest = e.rest ∙ c.rest;
  stays = e.stays ∙ round_bare old mid f c.rest;
  cycles = e.cycles;
}
