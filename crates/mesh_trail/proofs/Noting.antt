-- All names are noted.
use Rattle.std.proofs.Common.{◌≡◌, ◌≤◌, ◌+◌, ℕ, Bool, true, false, is_some, List, Option, Some, None, length, refl, sym, ap, ◌∙◌, subst, inl, inr, arith}
use Rattle.std.specs.Prelude.{IsSome, cond}
use Rattle.std.specs.Cmp.{nat_cmp_total}
use Rattle.std.specs.Ordering.{nat_cmp, eq_by_cmp}
use Rattle.std.specs.FinMap.{get, get-insert}
use Rattle.std.proofs.lemmas.Bool.{cases_Bool, cases_lt}
use Rattle.mesh_model.specs.Table.{at}
use Rattle.mesh_model.specs.Complex.{Complex}
use Rattle.mesh_model.specs.ChangeSet.{ChangeSet, leads, change_set, trim}
use Rattle.mesh_model.specs.ChangeSetNotes.{Notes, with_first_note}
use Rattle.mesh_model.specs.declared.names.VertName.{VertName}
use Rattle.mesh_model.specs.declared.names.EdgeName.{EdgeName}
use Rattle.mesh_model.specs.declared.names.FaceName.{FaceName}
use Rattle.mesh_model.specs.declared.names.Elem.TheVariants.{Vert, Edge, Face}
use Rattle.mesh_model.specs.declared.records.VertRec.{VertRec}
use Rattle.mesh_model.specs.declared.records.EdgeRec.{EdgeRec}
use Rattle.mesh_model.specs.declared.records.FaceRec.{FaceRec}
use Rattle.mesh_model.proofs.ChangeSets.{trim_is_change_set}
use Rattle.mesh_model.proofs.NoteMaps.{tied, key_cases}
use Rattle.mesh_model.proofs.Tables.{at-past}
use Rattle.mesh_trail.specs.Between.{AreNoted, StaysAt, NotesVerts, NotesEdges, NotesFaces}
use Rattle.mesh_trail.specs.PastLaws.{DifferAtNotes}
use Rattle.mesh_trail.proofs.Leading.{note_leads, note_stays_whole, change_leads, change_stays_whole}
use Rattle.mesh_trail.proofs.MapNotes.{is_none, first_at_none, first_at_some}

-- ---- of one kind

some_is : {X : Type 0} (o : Option X) → is_some o ≡ true → IsSome o
some_is o h = h

-- the note of the name is there
noted_here : {R : Type 0} (notes : Notes R) (k : ℕ) (w : Option R) → IsSome (get (with_first_note notes k w) k)
noted_here {R} notes k w = elim (cases_Bool (is_some (get notes k))) [
  | inl some ↦
      let P = λ (m : Notes R). IsSome (get m k) in
      subst P (sym (first_at_some notes k w some)) some
  | inr none ↦
      let P = λ (m : Notes R). IsSome (get m k) in
      subst P (sym (first_at_none notes k w (is_none (get notes k) none)))
      (ap (λ (o : Option (Option R)). is_some o) (get-insert nat_cmp_total notes k w k
      ∙ ap (λ (b : Bool). cond b (Some w) (get notes k)) (tied k)))
]

same_key_here : (q k : ℕ) → q ≡ k → eq_by_cmp nat_cmp q k ≡ true
same_key_here q k e = let P = λ (j : ℕ). eq_by_cmp nat_cmp q j ≡ true in subst P e (tied q)

-- and what was noted is noted still
noted_still : {R : Type 0} (notes : Notes R) (k : ℕ) (w : Option R) (q : ℕ) → IsSome (get notes q)
    → IsSome (get (with_first_note notes k w) q)
noted_still {R} notes k w q h = elim (cases_Bool (is_some (get notes k))) [
  | inl some ↦
      let P = λ (m : Notes R). IsSome (get m q) in
      subst P (sym (first_at_some notes k w some)) h
  | inr none ↦
      let P = λ (m : Notes R). IsSome (get m q) in
      subst P (sym (first_at_none notes k w (is_none (get notes k) none))) (elim (key_cases q k) [
        | inl e ↦ ap (λ (o : Option (Option R)). is_some o) (get-insert nat_cmp_total notes k w q
            ∙ ap (λ (b : Bool). cond b (Some w) (get notes q)) (same_key_here q k e))
        | inr n ↦ ap (λ (o : Option (Option R)). is_some o) (get-insert nat_cmp_total notes k w q
            ∙ ap (λ (b : Bool). cond b (Some w) (get notes q)) n.1) ∙ h
      ])
]

noted_more : {R : Type 0} (notes : Notes R) (k : ℕ) (w : Option R) → AreNoted notes k
    → AreNoted (with_first_note notes k w) (k + 1)
noted_more {R} notes k w h q lt = elim (cases_lt q k) [
  | inl less ↦ noted_still notes k w q (h q less)
  | inr over ↦
      let same : k ≡ q = omega arith in
      let P = λ (j : ℕ). IsSome (get (with_first_note notes k w) j) in
      subst P same (noted_here notes k w)
]

-- a name without a note is past both tables
past_both : {R : Type 0} (notes : Notes R) (b a : List (Option R)) (bound q : ℕ) → AreNoted notes bound
    → length b ≤ bound → length a ≤ bound → get notes q ≡ None → at a q ≡ at b q
past_both {R} notes b a bound q noted lb la none = elim (cases_lt q bound) [
  | inl less ↦ absurd (let h = noted q less in
      let f : is_some (get notes q) ≡ false = ap (λ (o : Option (Option R)). is_some o) none in cc)
  | inr over ↦ at-past a q (omega arith) ∙ sym (at-past b q (omega arith))
]

-- ---- vertices, edges and faces

pub begins_verts : (p : ChangeSet) (c : Complex) → StaysAt p c → NotesVerts p p c 0
begins_verts p c h = record { stays = h; noted = λ n lt. absurd (omega arith); rest = refl }

pub begins_edges : (p : ChangeSet) (c : Complex) → StaysAt p c → NotesEdges p p c 0
begins_edges p c h = record { stays = h; noted = λ n lt. absurd (omega arith); rest = refl }

pub begins_faces : (p : ChangeSet) (c : Complex) → StaysAt p c → NotesFaces p p c 0
begins_faces p c h = record { stays = h; noted = λ n lt. absurd (omega arith); rest = refl }

pub notes_one_vert : (old mid new : ChangeSet) (c : Complex) (n : ℕ) → NotesVerts old mid c n
    → new ≡ record mid { verts = with_first_note mid.verts n (at c.verts n) } → NotesVerts old new c (n + 1)
notes_one_vert old mid new c n h e =
    let x : VertName = record { 0 = n } in
    let S = λ (p : ChangeSet). StaysAt p c in
    let N = λ (m : Notes VertRec). AreNoted m (n + 1) in
    let own : new.verts ≡ with_first_note mid.verts n (at c.verts n) = ap (λ (p : ChangeSet). p.verts) e in
    let with = λ (m : Notes VertRec) (p : ChangeSet). let r : ChangeSet = record p { verts = m } in r in
    record {
      stays = subst S (sym e) (record {
        leads = note_leads mid c (Vert x) ∙ h.stays.leads;
        whole = note_stays_whole mid c (Vert x) h.stays.whole;
      });
      noted = subst N (sym own) (noted_more mid.verts n (at c.verts n) h.noted);
      rest = e ∙ ap (with (with_first_note mid.verts n (at c.verts n))) h.rest
          ∙ ap (λ (m : Notes VertRec). with m old) (sym own);
    }

pub notes_one_edge : (old mid new : ChangeSet) (c : Complex) (n : ℕ) → NotesEdges old mid c n
    → new ≡ record mid { edges = with_first_note mid.edges n (at c.edges n) } → NotesEdges old new c (n + 1)
notes_one_edge old mid new c n h e =
    let x : EdgeName = record { 0 = n } in
    let S = λ (p : ChangeSet). StaysAt p c in
    let N = λ (m : Notes EdgeRec). AreNoted m (n + 1) in
    let own : new.edges ≡ with_first_note mid.edges n (at c.edges n) = ap (λ (p : ChangeSet). p.edges) e in
    let with = λ (m : Notes EdgeRec) (p : ChangeSet). let r : ChangeSet = record p { edges = m } in r in
    record {
      stays = subst S (sym e) (record {
        leads = note_leads mid c (Edge x) ∙ h.stays.leads;
        whole = note_stays_whole mid c (Edge x) h.stays.whole;
      });
      noted = subst N (sym own) (noted_more mid.edges n (at c.edges n) h.noted);
      rest = e ∙ ap (with (with_first_note mid.edges n (at c.edges n))) h.rest
          ∙ ap (λ (m : Notes EdgeRec). with m old) (sym own);
    }

pub notes_one_face : (old mid new : ChangeSet) (c : Complex) (n : ℕ) → NotesFaces old mid c n
    → new ≡ record mid { faces = with_first_note mid.faces n (at c.faces n) } → NotesFaces old new c (n + 1)
notes_one_face old mid new c n h e =
    let x : FaceName = record { 0 = n } in
    let S = λ (p : ChangeSet). StaysAt p c in
    let N = λ (m : Notes FaceRec). AreNoted m (n + 1) in
    let own : new.faces ≡ with_first_note mid.faces n (at c.faces n) = ap (λ (p : ChangeSet). p.faces) e in
    let with = λ (m : Notes FaceRec) (p : ChangeSet). let r : ChangeSet = record p { faces = m } in r in
    record {
      stays = subst S (sym e) (record {
        leads = note_leads mid c (Face x) ∙ h.stays.leads;
        whole = note_stays_whole mid c (Face x) h.stays.whole;
      });
      noted = subst N (sym own) (noted_more mid.faces n (at c.faces n) h.noted);
      rest = e ∙ ap (with (with_first_note mid.faces n (at c.faces n))) h.rest
          ∙ ap (λ (m : Notes FaceRec). with m old) (sym own);
    }

-- ---- all kinds

-- where all names of both are noted, what is trimmed is the change set
pub trims_to : (p : ChangeSet) (b a : Complex) (v e f : ℕ) → StaysAt p b → AreNoted p.verts v → AreNoted p.edges e
    → AreNoted p.faces f → length b.verts ≤ v → length a.verts ≤ v → length b.edges ≤ e → length a.edges ≤ e
    → length b.faces ≤ f → length a.faces ≤ f → trim p a ≡ change_set b a
trims_to p b a v e f stays nv ne nf bv av be ae bf af =
    let alike : Complex = record a { layers = b.layers; materials = b.materials; libraries = b.libraries } in
    let differ : DifferAtNotes p b alike = record {
      verts = λ q none. past_both p.verts b.verts a.verts v q nv bv av none;
      edges = λ q none. past_both p.edges b.edges a.edges e q ne be ae none;
      faces = λ q none. past_both p.faces b.faces a.faces f q nf bf af none;
      alike = record { layers = refl; materials = refl; libraries = refl };
    } in
    let led : leads p alike ≡ b = change_leads p b alike differ ∙ stays.leads in
    trim_is_change_set p alike (change_stays_whole p b alike differ stays.whole)
    ∙ ap (λ (x : Complex). change_set x alike) led
