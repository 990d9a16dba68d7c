-- A vertex is bare where the list of the edges around it is empty.
use Rattle.std.proofs.Common.{◌≡◌, ℕ, ◌<◌, true, false, List, [], ◌∷◌, refl, sym, ap, ◌∙◌, subst, inl, inr, arith, Option}
use Rattle.std.proofs.Common.{Some, None, slice_index_or}
use Rattle.std.specs.Iterator.{YieldsFirst}
use Rattle.std.specs.Option.{option_map_or}
use Rattle.std.proofs.lemmas.Bool.{cases_Bool}
use Rattle.std.proofs.lemmas.List.FromFn.{get_or-map-range_with_len}
use Rattle.raw_pool.specs.declared.pool.Slot.{Slot}
use Rattle.link_ring.specs.Members.{HasMember}
use Rattle.mesh_store.specs.Slots.{at}
use Rattle.mesh_model.specs.Table.{IsThere}
use Rattle.mesh_model.specs.Incidence.{edges_at, is_bare}
use Rattle.mesh_model.specs.declared.names.VertName.{VertName}
use Rattle.mesh_model.specs.declared.names.EdgeName.{EdgeName}
use Rattle.mesh_model.proofs.Tables.{stands, there-below}
use Rattle.mesh_model.proofs.IncidenceLaws.{is_bare-edges_at}
use Rattle.mesh_records.specs.ReadOff.{disk_at, names_around}
use Rattle.mesh_records.specs.StandsFor.{ListsOnce}
use Rattle.mesh_core.specs.Seen.{Seen, now, disks, CyclesHold}

-- the edges around a live vertex, as the lists of all vertices have them
abbrev pub around : Seen → VertName → List EdgeName
around m v = slice_index_or (disks m) v.0 []

-- they are the edges that end there
around_lists : (m : Seen) (v : VertName) → CyclesHold m → IsThere (now m).verts v.0
    → ListsOnce (around m v) (edges_at (now m) v)
around_lists m v h there =
    let named = stands (at m.stored.verts.names v.0) (h.verts.same v.0 ∙ there) in
    let below : v.0 < m.next.verts = let less = there-below (now m).verts v.0 there in omega (arith, h.next_verts) in
    let is : around m v ≡ names_around m.stored named.0 =
    get_or-map-range_with_len (disk_at m.stored) 0 m.next.verts v.0 v.0 [] below (omega arith)
    ∙ ap (λ (o : Option Slot). option_map_or (names_around m.stored) o []) named.1 in
    subst (λ (es : List EdgeName). ListsOnce es (edges_at (now m) v)) (sym is) (h.disks v.0 named.0 named.1)

no_member : {X : Type 0} (xs : List X) → ((x : X) → HasMember xs x → ⊥) → xs ≡ []
no_member [] h = refl
no_member (x ∷ xs) h = absurd (h x (inl refl))

not_in_none : {X : Type 0} (xs : List X) (x : X) → xs ≡ [] → HasMember xs x → ⊥
not_in_none [] x is h = h
not_in_none (y ∷ ys) x is h = absurd (cc)

pub bare_none : (m : Seen) (v : VertName) → CyclesHold m → IsThere (now m).verts v.0 → around m v ≡ []
    → is_bare (now m) v ≡ true
bare_none m v h there none =
    let l = around_lists m v h there in
    (is_bare-edges_at (now m) v).1
    (no_member (edges_at (now m) v) (λ e among. not_in_none (around m v) e none ((l.same e).1 among)))

pub bare_some : (m : Seen) (v : VertName) (e : EdgeName) (es : List EdgeName) → CyclesHold m
    → IsThere (now m).verts v.0 → around m v ≡ e ∷ es → is_bare (now m) v ≡ false
bare_some m v e es h there some =
    let l = around_lists m v h there in
    elim (cases_Bool (is_bare (now m) v)) [
      | inl bare ↦
          let among : HasMember (around m v) e = subst (λ (xs : List EdgeName). HasMember xs e) (sym some) (inl refl) in
          absurd (not_in_none (edges_at (now m) v) e ((is_bare-edges_at (now m) v).0 bare) ((l.same e).0 among))
      | inr other ↦ other
    ]

-- ---- THE FIRST THAT AN ITERATOR GIVES

pub first_none : {S X : Type 0} (left : S → List X) (s t : S) (r : Option X) → YieldsFirst left s r t → r ≡ None
    → left s ≡ []
first_none left s t None gives is = gives.0
first_none left s t (Some x) gives is = absurd (cc)

pub first_some : {S X : Type 0} (left : S → List X) (s t : S) (r : Option X) (x : X) → YieldsFirst left s r t
    → r ≡ Some x → left s ≡ x ∷ left t
first_some left s t None x gives is = absurd (cc)
first_some {X = X} left s t (Some y) x gives is = gives ∙ ap (λ (z : X). z ∷ left t) (let same : y ≡ x = cc in same)
