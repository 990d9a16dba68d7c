-- The laws of pasts.
use Rattle.std.proofs.Common.{◌≡◌, ℕ, List, length, inl, inr, sym, ap, ◌∙◌, Option, is_some}
use Rattle.std.specs.Ordering.{nat_cmp}
use Rattle.std.specs.FinMap.{get, empty, get-empty}
use Rattle.std.proofs.lemmas.Bool.{cases_Bool}
use Rattle.mesh_model.specs.Table.{at}
use Rattle.mesh_model.specs.ChangeSet.{leads}
use Rattle.mesh_model.specs.ChangeSetNotes.{Notes, put_back, led_back, with_first_note, IsWhole}
use Rattle.mesh_model.specs.declared.names.Elem.TheVariants.{Vert, Edge, Face}
use Rattle.mesh_model.proofs.Tables.{at-past}
use Rattle.mesh_model.proofs.Leads.{led_back_to, first_note, same_base, whole_note, whole_changed}
use Rattle.mesh_trail.specs.PastLaws.{BeginsAtNow, NoteLeads, NoteStaysWhole, ChangeLeads, ChangeStaysWhole}
use Rattle.mesh_trail.proofs.MapNotes.{is_none, first_at_none, first_at_some}

-- ---- OF ONE KIND

no_note : {R : Type 0} (now : List (Option R)) (q : ℕ)
    → put_back (get (empty {K = ℕ} {X = Option R} {R = nat_cmp}) q) (at now q) ≡ at now q
no_note {R = R} now q = ap (λ (o : Option (Option R)). put_back o (at now q)) (get-empty nat_cmp q)

led_back-empty : {R : Type 0} (now : List (Option R)) → led_back (length now) empty now ≡ now
led_back-empty now = led_back_to now empty now (λ q less. sym (no_note now q))

whole-empty : {R : Type 0} (now : List (Option R)) → IsWhole (length now) empty now
whole-empty now q over = no_note now q ∙ at-past now q over

led_back-note : {R : Type 0} (next : ℕ) (notes : Notes R) (now : List (Option R)) (k : ℕ)
    → led_back next (with_first_note notes k (at now k)) now ≡ led_back next notes now
led_back-note {R = R} next notes now k = elim (cases_Bool (is_some (get notes k))) [
  | inl some ↦ ap (λ (m : Notes R). led_back next m now) (first_at_some notes k (at now k) some)
  | inr none ↦ ap (λ (m : Notes R). led_back next m now) (first_at_none notes k (at now k) (is_none (get notes k) none))
      ∙ first_note next notes now k (is_none (get notes k) none)
]

whole-note : {R : Type 0} (next : ℕ) (notes : Notes R) (now : List (Option R)) (k : ℕ) → IsWhole next notes now
    → IsWhole next (with_first_note notes k (at now k)) now
whole-note {R = R} next notes now k whole = elim (cases_Bool (is_some (get notes k))) [
  | inl some ↦ rw (first_at_some notes k (at now k) some) whole
  | inr none ↦ rw (first_at_none notes k (at now k) (is_none (get notes k) none))
      (whole_note next notes now k (is_none (get notes k) none) whole)
]

-- ---- OF ALL KINDS

pub begins_at_now : BeginsAtNow
begins_at_now now = (
  λ i. record now {
    verts = led_back-empty now.verts i;
    edges = led_back-empty now.edges i;
    faces = led_back-empty now.faces i;
  },
  record { verts = whole-empty now.verts; edges = whole-empty now.edges; faces = whole-empty now.faces },
)

pub note_leads : NoteLeads
note_leads past now (Vert v) = λ i. record (leads past now)
    { verts = led_back-note past.next.verts past.verts now.verts v.0 i }
note_leads past now (Edge e) = λ i. record (leads past now)
    { edges = led_back-note past.next.edges past.edges now.edges e.0 i }
note_leads past now (Face f) = λ i. record (leads past now)
    { faces = led_back-note past.next.faces past.faces now.faces f.0 i }

pub note_stays_whole : NoteStaysWhole
note_stays_whole past now (Vert v) whole =
    record {
      verts = whole-note past.next.verts past.verts now.verts v.0 whole.verts;
      edges = whole.edges;
      faces = whole.faces;
    }
note_stays_whole past now (Edge e) whole =
    record {
      verts = whole.verts;
      edges = whole-note past.next.edges past.edges now.edges e.0 whole.edges;
      faces = whole.faces;
    }
note_stays_whole past now (Face f) whole =
    record {
      verts = whole.verts;
      edges = whole.edges;
      faces = whole-note past.next.faces past.faces now.faces f.0 whole.faces;
    }

pub change_leads : ChangeLeads
change_leads past now later same = λ i. record {
  verts = same_base past.next.verts past.verts now.verts later.verts same.verts i;
  edges = same_base past.next.edges past.edges now.edges later.edges same.edges i;
  faces = same_base past.next.faces past.faces now.faces later.faces same.faces i;
  layers = same.alike.layers i;
  materials = same.alike.materials i;
  libraries = same.alike.libraries i;
}

pub change_stays_whole : ChangeStaysWhole
change_stays_whole past now later same whole = record {
  verts = whole_changed past.next.verts past.verts now.verts later.verts same.verts whole.verts;
  edges = whole_changed past.next.edges past.edges now.edges later.edges same.edges whole.edges;
  faces = whole_changed past.next.faces past.faces now.faces later.faces same.faces whole.faces;
}
