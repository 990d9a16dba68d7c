-- A face's loops are turned round.
use Rattle.std.proofs.Common.{◌≡◌, ℕ, zero, suc, List, [], ◌∷◌, Option, Some, None, length, refl, sym, ap, ◌∙◌, subst, inl, inr, reverse}
use Rattle.std.specs.Option.{option_map}
use Rattle.std.proofs.lemmas.List.{length-reverse}
use Rattle.link_ring.specs.Members.{HasMember}
use Rattle.link_ring.specs.Ring.{IsRing}
use Rattle.link_ring.specs.Changes.{SameOutside}
use Rattle.link_ring.proofs.Members.{member_of, member_reverse}
use Rattle.link_ring.proofs.Reading.{first_begins, reads_at}
use Rattle.link_ring.proofs.Rings.{ring_along}
use Rattle.mesh_store.specs.Slots.{at, changed}
use Rattle.mesh_store.specs.Stored.{Stored, round_links, beside_rounds}
use Rattle.mesh_store.specs.declared.cells.Round.{Round}
use Rattle.mesh_store.specs.declared.cells.FaceCell.{FaceCell}
use Rattle.mesh_cycles.specs.Owners.{face_of, len_of, first_round}
use Rattle.mesh_cycles.specs.Lists.{reversed}
use Rattle.mesh_cycles.specs.Cycles.{AreCycles, round_of, IsCounted}
use Rattle.mesh_cycles.specs.Edits.{EditsRound}
use Rattle.mesh_cycles.proofs.Rounds.{WritesRound, face_loop_in, round_changes, round_kept}

-- a cell that is written as it is
unwritten_cell : (cells : List (Option FaceCell)) (s : ℕ) → changed (λ c. c) cells s ≡ cells
unwritten_cell [] s = refl
unwritten_cell (None ∷ cells) zero = refl
unwritten_cell (Some c ∷ cells) zero = refl
unwritten_cell (c ∷ cells) (suc s) = ap (λ (cs : List (Option FaceCell)). c ∷ cs) (unwritten_cell cells s)

-- the first loop of a cell that is written as it is
same_first : (o : Option FaceCell) → face_loop_in (option_map (λ c. c) o) ≡ face_loop_in o
same_first None = refl
same_first (Some c) = refl

-- the loops are turned round from the first on
pub round_reversed : (old new : Stored) (f : ℕ) (first : Round) → AreCycles old → IsCounted old f
    → Some first ≡ first_round old f
    → (ring : (xs : List Round) → IsRing (round_links old) (first ∷ xs) → IsRing (round_links new) (first ∷ reverse xs))
    → (others : (xs : List Round) → IsRing (round_links old) (first ∷ xs)
    → SameOutside (round_links old) (round_links new) (first ∷ xs))
    → beside_rounds new ≡ beside_rounds old → EditsRound old new f (round_of old f) (reversed (round_of old f))
round_reversed old new f first h counted is ring others rest =
    let r = reads_at (h.rounds f) (sym is) in
    let s = first_begins r in
    let owned : (j : Round) → HasMember (first ∷ s.0) j
    → face_of old j.0 ≡ Some f = λ j m. h.round_faces f j (member_of j m (sym s.1)) in
    let before = ring_along (round_links old) (round_of old f) (first ∷ s.0) s.1 r.ring in
    let w : WritesRound old new new f (λ c. c) = record {
      rest = rest;
      write = ap (λ (cs : List (Option FaceCell)). record new
          { faces = record { cells = cs; names = new.faces.names } }) (sym (unwritten_cell new.faces.cells f));
      covered = λ c. refl;
    } in
    let c = round_changes w (Some first) (first ∷ s.0) (first ∷ reverse s.0)
    (same_first (at old.faces.cells f) ∙ sym is) (record { ring = ring s.0 before; start = refl })
    (others s.0 before)
    owned (λ j m. owned j (elim m [ inl e ↦ inl e | inr n ↦ inr (member_reverse s.0 j n) ])) in
    let len : len_of new f ≡ Some (length (first ∷ reverse s.0)) =
    ap (λ (t : Stored). len_of t f) rest ∙ counted ∙ ap (λ (ls : List Round). Some (length ls)) s.1
    ∙ ap (λ (n : ℕ). Some (suc n)) (sym (length-reverse s.0)) in
    let P = λ (ls : List Round). EditsRound old new f ls (reversed ls) in
    subst P (sym s.1) (round_kept w h c len)
