-- Notes that are noted once more, entry by entry.
use Rattle.std.proofs.Common.{◌≡◌, ℕ, ◌+◌, List, [], ◌∷◌, ◌++◌, take, refl, sym, ap, ◌∙◌, arith, Option, Some, None}
use Rattle.std.specs.Prelude.{slice_get}
use Rattle.std.specs.Option.{option_map}
use Rattle.std.specs.Ordering.{nat_cmp}
use Rattle.std.specs.Cmp.{nat_cmp_total}
use Rattle.std.specs.FinMap.{get, insert, empty, from_entries, from_entries_push, nat_cmp-IsAntisymmetric}
use Rattle.std.proofs.lemmas.List.{take_more, length-take-le}
use Rattle.std.proofs.lemmas.Option.{slice_get_within, get_or_from_slice_get}
use Rattle.mesh_trail.specs.declared.note_map.Entry.{Entry}
use Rattle.mesh_model.specs.ChangeSetNotes.{Notes}
use Rattle.mesh_trail.specs.Noted.{map_notes}
use Rattle.mesh_trail.specs.Tree.{pairs, names_of, IsAbsent}
use Rattle.mesh_trail.proofs.Growth.{AreApart, absent_found, get-absent, get-take}
use Rattle.mesh_trail.proofs.MapNotes.{map_notes-empty, map_notes-none, map_notes-insert}
use Rattle.mesh_trail.proofs.Rising.{pairs-append}

-- no entry before one has its name
absent_before : {R : Type 0} (es : List (Entry R)) (k : ℕ) (e : Entry R) → AreApart es → slice_get es k ≡ Some e
    → IsAbsent (take k es) e.name
absent_before es k e apart at_k j f at_j same =
    let short = slice_get_within es k e at_k in
    let long = length-take-le k es (omega arith) in
    let less = slice_get_within (take k es) j f at_j in
    let one = apart j k f e (sym (get-take k es j (omega arith)) ∙ at_j) at_k same in absurd (omega arith)

-- the names of one entry more
pub names_more : {R : Type 0} (es : List (Entry R)) (k : ℕ) (e : Entry R) → AreApart es → slice_get es k ≡ Some e
    → names_of (take (k + 1) es) ≡ insert (names_of (take k es)) e.name e.was
names_more {R = R} es k e apart at_k =
    ap (λ (ps : List (ℕ × Option R)). from_entries {R = nat_cmp} ps)
    (ap (λ (xs : List (Entry R)). pairs xs) (take_more es k e (slice_get_within es k e at_k)
    ∙ ap (λ (x : Entry R). take k es ++ x ∷ []) (get_or_from_slice_get es k e e at_k)) ∙ pairs-append (take k es) e)
    ∙ from_entries_push nat_cmp_total nat_cmp-IsAntisymmetric (pairs (take k es)) e.name e.was
    (absent_found (take k es) e.name (absent_before es k e apart at_k))

-- ---- A COPY OF THE FIRST FEW

pub copy_start : {A B : Type 0} (f : A → B) (es : List (Entry A)) (copy : Notes B) → copy ≡ empty
    → copy ≡ map_notes f (names_of (take 0 es))
copy_start f es copy is = is ∙ sym (map_notes-empty f)

-- it has no note of the next one
pub copy_lacks : {A B : Type 0} (f : A → B) (es : List (Entry A)) (k : ℕ) (e : Entry A) (copy : Notes B) → AreApart es
    → slice_get es k ≡ Some e → copy ≡ map_notes f (names_of (take k es)) → get copy e.name ≡ None
copy_lacks {B = B} f es k e copy apart at_k is =
    ap (λ (m : Notes B). get m e.name) is ∙ map_notes-none f (names_of (take k es)) e.name
    (get-absent (take k es) e.name (absent_before es k e apart at_k))

-- and takes it
pub copy_more : {A B : Type 0} (f : A → B) (es : List (Entry A)) (k : ℕ) (e : Entry A) (copy later : Notes B)
    → AreApart es → slice_get es k ≡ Some e → copy ≡ map_notes f (names_of (take k es))
    → later ≡ insert copy e.name (option_map f e.was)
    → later ≡ map_notes f (names_of (take (k + 1) es))
copy_more {A = A} {B = B} f es k e copy later apart at_k is more =
    more ∙ ap (λ (m : Notes B). insert m e.name (option_map f e.was)) is
    ∙ sym (map_notes-insert f f (names_of (take k es)) e.name e.was (λ q a at_q. refl))
    ∙ sym (ap (λ (m : Notes A). map_notes f m) (names_more es k e apart at_k))
