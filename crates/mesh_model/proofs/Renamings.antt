-- Rings in records in which one name stands for another.
use Rattle.std.proofs.Common.{◌≡◌, ◌≢◌, Bool, true, false, ◌&&◌, eqb, List, [], ◌∷◌, map, refl, sym, ap, ◌∙◌, subst}
use Rattle.std.proofs.Common.{inl, inr, Option}
use Rattle.std.specs.List.{All}
use Rattle.std.proofs.lemmas.List.Elements.{All-cons, All-nil, All-head, All-tail}
use Rattle.std.proofs.lemmas.Bool.{cases_Bool, cases_eq, or_parts, or_from, cond-true, cond-false, eq-eqb, eqb-false}
use Rattle.std.proofs.lemmas.Bool.{ne_eqb}
use Rattle.mesh_model.specs.Complex.{verts_of}
use Rattle.mesh_model.specs.Incidence.{joins}
use Rattle.mesh_model.specs.Elements.{is_among}
use Rattle.mesh_model.specs.Valid.{are_distinct}
use Rattle.mesh_model.specs.Renaming.{renamed_vert, with_ends}
use Rattle.mesh_model.specs.declared.names.VertName.{VertName}
use Rattle.mesh_model.specs.declared.records.EdgeRec.{EdgeRec}
use Rattle.mesh_model.specs.declared.records.CornerRec.{CornerRec}
use Rattle.mesh_model.proofs.Edges.{joins-cases}
use Rattle.mesh_model.proofs.Circles.{joins-ahead, joins-back}
use Rattle.mesh_model.proofs.Distinct.{distinct-cons, distinct-uncons}
use Rattle.mesh_model.proofs.Paths.{start_of, leads_to, is_path, path-cons, path-uncons, IsCircle}

-- ---- PATHS

-- a corner after a renaming leads to the new name of where it led
abbrev pub LeadsOn : List (Option EdgeRec) → List (Option EdgeRec) → (VertName → VertName) → (CornerRec → CornerRec)
    → Type 0
LeadsOn old new rename change = (k : CornerRec) (v : VertName) → leads_to old k v ≡ true
    → leads_to new (change k) (rename v) ≡ true

start-mapped : (rename : VertName → VertName) (change : CornerRec → CornerRec)
    → ((k : CornerRec) → (change k).vert ≡ rename k.vert) → (ks : List CornerRec) (end : VertName)
    → start_of (map change ks) (rename end) ≡ rename (start_of ks end)
start-mapped rename change at_new [] end = refl
start-mapped rename change at_new (k ∷ ks) end = at_new k

path-mapped : (old new : List (Option EdgeRec)) (rename : VertName → VertName) (change : CornerRec → CornerRec)
    → ((k : CornerRec) → (change k).vert ≡ rename k.vert) → LeadsOn old new rename change
    → (ks : List CornerRec) (end : VertName) → is_path old ks end ≡ true
    → is_path new (map change ks) (rename end) ≡ true
path-mapped old new rename change at_new on [] end h = refl
path-mapped old new rename change at_new on (k ∷ ks) end h =
    let both = path-uncons old k ks end h in
    path-cons new (change k) (map change ks) (rename end)
    (ap (leads_to new (change k)) (start-mapped rename change at_new ks end)
    ∙ on k (start_of ks end) both.0) (path-mapped old new rename change at_new on ks end both.1)

verts-mapped : (rename : VertName → VertName) (change : CornerRec → CornerRec)
    → ((k : CornerRec) → (change k).vert ≡ rename k.vert) → (ks : List CornerRec)
    → verts_of (map change ks) ≡ map rename (verts_of ks)
verts-mapped rename change at_new [] = refl
verts-mapped rename change at_new (k ∷ ks) = ap (λ (v : VertName). v ∷ verts_of (map change ks)) (at_new k)
    ∙ ap (λ (vs : List VertName). rename k.vert ∷ vs) (verts-mapped rename change at_new ks)

-- a circle whose vertices stay distinct
pub IsCircle-mapped : (old new : List (Option EdgeRec)) (rename : VertName → VertName) (change : CornerRec → CornerRec)
    → ((k : CornerRec) → (change k).vert ≡ rename k.vert) → LeadsOn old new rename change
    → (ks : List CornerRec) → are_distinct (map rename (verts_of ks)) ≡ true → IsCircle old ks
    → IsCircle new (map change ks)
IsCircle-mapped old new rename change at_new on [] distinct h = record { distinct = refl; closed = refl }
IsCircle-mapped old new rename change at_new on (k ∷ ks) distinct h = record {
  distinct = ap are_distinct (verts-mapped rename change at_new (k ∷ ks)) ∙ distinct;
  closed = subst (λ (v : VertName). is_path new (map change (k ∷ ks)) v ≡ true) (sym (at_new k))
      (path-mapped old new rename change at_new on (k ∷ ks) k.vert h.closed);
}

-- ---- ONE VERTEX IN THE PLACE OF ANOTHER

-- an edge between two vertices joins their new names
pub joins-with_ends : (rename : VertName → VertName) (v w : VertName) (x : EdgeRec) → joins v w x ≡ true
    → joins (rename v) (rename w) (with_ends rename x) ≡ true
joins-with_ends rename v w x h = elim (joins-cases v w x h) [
  | inl ahead ↦ joins-ahead (rename v) (rename w) (with_ends rename x) (ap rename ahead.0) (ap rename ahead.1)
  | inr back ↦ joins-back (rename v) (rename w) (with_ends rename x) (ap rename back.0) (ap rename back.1)
]

-- two vertices that aren't the new one keep apart
pub renamed-apart : (from to u w : VertName) → u.0 ≢ to.0 → w.0 ≢ to.0 → eqb u.0 w.0 ≡ false
    → eqb (renamed_vert from to u).0 (renamed_vert from to w).0 ≡ false
renamed-apart from to u w not_u not_w apart =
    ne_eqb (renamed_vert from to u).0 (renamed_vert from to w).0 (λ same. elim (cases_eq u.0 from.0) [
      | inl u_from ↦ elim (cases_eq w.0 from.0) [
        | inl w_from ↦ eqb-false u.0 w.0 apart (u_from ∙ sym w_from)
        | inr w_other ↦ not_w (sym (other_name w w_other) ∙ sym same ∙ new_name u u_from)
      ]
      | inr u_other ↦ elim (cases_eq w.0 from.0) [
        | inl w_from ↦ not_u (sym (other_name u u_other) ∙ same ∙ new_name w w_from)
        | inr w_other ↦ eqb-false u.0 w.0 apart (sym (other_name u u_other) ∙ same ∙ other_name w w_other)
      ]
    ])
  where
    new_name : (x : VertName) → x.0 ≡ from.0 → (renamed_vert from to x).0 ≡ to.0
    new_name x is = ap (λ (v : VertName). v.0) (cond-true (eqb x.0 from.0) to x (eq-eqb x.0 from.0 is))

    other_name : (x : VertName) → x.0 ≢ from.0 → (renamed_vert from to x).0 ≡ x.0
    other_name x other = ap (λ (v : VertName). v.0) (cond-false (eqb x.0 from.0) to x (ne_eqb x.0 from.0 other))

pub renamed-same : (from to x : VertName) → x.0 ≡ from.0 → renamed_vert from to x ≡ to
renamed-same from to x is = cond-true (eqb x.0 from.0) to x (eq-eqb x.0 from.0 is)

pub renamed-other : (from to x : VertName) → x.0 ≢ from.0 → renamed_vert from to x ≡ x
renamed-other from to x other = cond-false (eqb x.0 from.0) to x (ne_eqb x.0 from.0 other)

among-renamed : (from to v : VertName) (vs : List VertName) → v.0 ≢ to.0 → is_among vs to ≡ false
    → is_among vs v ≡ false → is_among (map (renamed_vert from to) vs) (renamed_vert from to v) ≡ false
among-renamed from to v [] not_v not_to out = refl
among-renamed from to v (w ∷ ws) not_v not_to out =
    let here = or_parts (eqb w.0 to.0) (is_among ws to) not_to in
    let both = or_parts (eqb w.0 v.0) (is_among ws v) out in
    or_from (eqb (renamed_vert from to w).0 (renamed_vert from to v).0)
    (is_among (map (renamed_vert from to) ws) (renamed_vert from to v))
    (renamed-apart from to w v (eqb-false w.0 to.0 here.0) not_v both.0)
    (among-renamed from to v ws not_v here.1 both.1)

-- distinct vertices without the new one stay distinct
distinct-with_from : (from to : VertName) (vs : List VertName) → is_among vs to ≡ false → are_distinct vs ≡ true
    → are_distinct (map (renamed_vert from to) vs) ≡ true
distinct-with_from from to [] not_to h = refl
distinct-with_from from to (v ∷ vs) not_to h =
    let here = or_parts (eqb v.0 to.0) (is_among vs to) not_to in
    let both = distinct-uncons v vs h in
    distinct-cons (renamed_vert from to v) (map (renamed_vert from to) vs)
    (among-renamed from to v vs (eqb-false v.0 to.0 here.0) here.1 both.0)
    (distinct-with_from from to vs here.1 both.1)

pub renamed-none : (from to : VertName) (vs : List VertName) → is_among vs from ≡ false
    → map (renamed_vert from to) vs ≡ vs
renamed-none from to [] out = refl
renamed-none from to (v ∷ vs) out =
    let both = or_parts (eqb v.0 from.0) (is_among vs from) out in
    ap (λ (w : VertName). w ∷ map (renamed_vert from to) vs) (renamed-other from to v (eqb-false v.0 from.0 both.0))
    ∙ ap (λ (ws : List VertName). v ∷ ws) (renamed-none from to vs both.1)

-- distinct vertices of which not both are among them stay distinct
pub distinct-renamed : (from to : VertName) (vs : List VertName) → (is_among vs from && is_among vs to) ≡ false
    → are_distinct vs ≡ true → are_distinct (map (renamed_vert from to) vs) ≡ true
distinct-renamed from to vs apart h = elim (cases_Bool (is_among vs from)) [
  | inl has_from ↦ distinct-with_from from to vs (sym (ap (λ (b : Bool). b && is_among vs to) has_from) ∙ apart) h
  | inr without ↦ ap are_distinct (renamed-none from to vs without) ∙ h
]

-- what holds of each corner holds after
pub All-mapped : (P Q : CornerRec → Type 0) (change : CornerRec → CornerRec) → ((k : CornerRec) → P k → Q (change k))
    → (ks : List CornerRec) → All P ks → All Q (map change ks)
All-mapped P Q change on [] all = All-nil Q
All-mapped P Q change on (k ∷ ks) all =
    All-cons Q (change k) (map change ks) (on k (All-head P k ks all))
    (All-mapped P Q change on ks (All-tail P k ks all))
